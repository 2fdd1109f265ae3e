use Rattle.std.proofs.Common.{◌≡◌, ◌+◌, ◌<◌, ℕ, List, true, false, take, drop, ◌-◌, length-drop, length, get_or, sym, ◌∙◌, ap, subst, arith}
use Rattle.std.specs.Prelude.{slice_range}
use Rattle.std.proofs.lemmas.List.{get_or_default, take_all}
use Rattle.quote_automaton.specs.Rows.{begins_comment}
use Rattle.byte_classes.specs.Fault.{is_line_end_byte}
use Rattle.row_fields.specs.Fields.{Field, fields}
use Rattle.row_fields.specs.Split.{row_from}
use Rattle.row_fields.proofs.FirstFields.{has_rest_all}
use Rattle.value_types.specs.declared.possible_types.PossibleTypes.{PossibleTypes}
use Rattle.value_types.specs.KeptTypes.{keeps}
use Rattle.csv_sniffer.proofs.KeptRows.{kept_before_delim, kept_before_line_end, kept_one_more, kept_with_settled, rest_behind_delim}
use Rattle.csv_sniffer.proofs.kept_rows.keeps_types.Goals as goal

abbrev none : PossibleTypes
none = record { some_value = false; boolean = false; bigint = false; date = false; time = false; timestamp = false }

pub loop-column-init : goal.loop-column-init
loop-column-init c =
    let d = c.args.rows.now.dialect in
    let sample : List ℕ = c.args.rows.now.sample.now in
    let start : ℕ = c.args.start in
    let whole : take (length sample - start) (drop start sample) ≡ drop start sample = take_all (length sample - start) (drop start sample) (omega (arith, length-drop start sample)) in
    let none_begins = ap (begins_comment d) (sym whole) ∙ sym c.begins_comment.ensures ∙ c.if-begins_comment.false in record {
      within = c.requires;
      rest = has_rest_all d sample start none_begins;
      kept = λ o k other lt. absurd (let out : ⊥ = omega (arith, lt) in out);
    }

pub loop-column-preserved : goal.loop-column-preserved
loop-column-preserved c =
    let d = c.args.rows.now.dialect in
    let sample : List ℕ = c.args.rows.now.sample.now in
    let possible : List PossibleTypes = c.args.possible.now in
    let fs : List Field = fields d (row_from d sample c.args.start) in
    let column : ℕ = c.loop-column.column in
    let from : ℕ = c.loop-column.from in
    let end : ℕ = c.in-Some.end in
    let found = c.in-Some.ensures in
    let holds = c.args.rows.now.leaves c.if-not-rows.false in
    let delim : get_or sample end 0 ≡ d.delim = c.if-sample-end.false ∙ c.delim-delim.ensures in
    let within : column < length possible = omega (arith, c.loop-column-test.true, c.unsettled-count.ensures.within) in record {
      within = omega (arith, found.within.1);
      rest = rest_behind_delim d holds sample fs column from end c.loop-column.invariant.rest found.within.0 found.within.1 found.plain delim;
      kept = kept_one_more fs possible column within c.loop-column.invariant.kept
          (λ o other. kept_before_delim d holds sample fs column from end c.loop-column.invariant.rest found.within.0 found.within.1 found.plain (get_or possible column other)
          (subst (λ p. keeps p (slice_range sample from end) ≡ true) (get_or_default possible column none other within) found.kept) delim o);
    }

pub returns-then-column-count : goal.returns-then-column-count
returns-then-column-count c ends =
    let d = c.args.rows.now.dialect in
    let sample : List ℕ = c.args.rows.now.sample.now in
    let possible : List PossibleTypes = c.args.possible.now in
    let fs : List Field = fields d (row_from d sample c.args.start) in
    let column : ℕ = c.loop-column.column in
    let from : ℕ = c.loop-column.from in
    let end : ℕ = c.in-Some.end in
    let found = c.in-Some.ensures in
    let holds = c.args.rows.now.leaves c.if-not-rows.false in
    let line_end : is_line_end_byte (get_or sample end 0) ≡ true = sym c.is_line_end.ensures ∙ ends in
    let within : column < length possible = omega (arith, c.loop-column-test.true, c.unsettled-count.ensures.within) in
    kept_with_settled fs possible (column + 1) c.unsettled-count.result (omega (arith, c.if-column-count.true)) c.unsettled-count.ensures.settled
    (kept_one_more fs possible column within c.loop-column.invariant.kept
    (λ o other. kept_before_line_end d holds sample fs column from end c.loop-column.invariant.rest found.within.0 found.within.1 found.plain (get_or possible column other)
    (subst (λ p. keeps p (slice_range sample from end) ≡ true) (get_or_default possible column none other within) found.kept) line_end o))

pub returns : goal.returns
returns c met =
    let d = c.args.rows.now.dialect in
    kept_with_settled (fields d (row_from d c.args.rows.now.sample.now c.args.start)) c.args.possible.now c.loop-column.column c.unsettled-count.result (omega (arith, c.loop-column-test.false))
    c.unsettled-count.ensures.settled c.loop-column.invariant.kept
