use Rattle.std.proofs.Common.{◌≡◌, ℕ, ◌+◌, ◌<◌, ◌≤◌, ◌∙◌, Bool, true, List, take, length, get_or, sym, ap, subst, arith}
use Rattle.std.specs.Prelude.{◌==◌, count_by, not, unwrap_or}
use Rattle.std.proofs.lemmas.List.{take_all}
use Rattle.std.proofs.lemmas.List.Sums.{count_by-le-length, prefix_len-le-length}
use Rattle.byte_classes.specs.Fault.{is_line_end_byte}
use Rattle.byte_classes.specs.Special.{is_one_of}
use Rattle.dialect_rank.specs.RowCount.{HasCount}
use Rattle.dialect_rank.proofs.BareBlocks.{all_bare, bare_on, counted_on}
use Rattle.dialect_rank.proofs.BareRows.{counts_bare}
use Rattle.dialect_rank.proofs.row_count.bare_rows.count_bare.Goals as goal

pub blocks-2-preserved : goal.blocks-2-preserved
blocks-2-preserved c =
    let bytes : List ℕ = c.args.bytes.now in
    let at = c.blocks-2.at in
    let q = c.unwrap_or-quote.result in
    let lanes : List ℕ = c.wide_lanes_at-lanes.result in
    let run = c.bare_run-run.result in
    let so = c.blocks-2.invariant in
    let is_delim : ℕ → Bool = λ b. b == c.delim-delim.result in
    let long : length lanes ≡ 64 = c.wide_lanes_at-lanes.ensures.count in
    let all : run ≡ 64 = omega (arith, c.if-run-lt64.false, c.bare_run-run.ensures, prefix_len-le-length (λ b. not (is_one_of 10 13 q b)) lanes, long) in
    record {
      within = omega (arith, so.within, c.blocks-2-test.true);
      few = omega (arith, so.few, c.count-delims.ensures, count_by-le-length is_delim lanes, long);
      bare = λ k lt. bare_on bytes lanes at q run c.wide_lanes_at-lanes.ensures.value c.bare_run-run.ensures (omega (arith, all)) so.bare k (omega (arith, lt, all));
      counted = (λ i. so.counted i + (c.count-delims.ensures ∙ ap (count_by is_delim) (sym (take_all 64 lanes (omega (arith, long))))) i)
          ∙ counted_on is_delim bytes lanes at 64 c.wide_lanes_at-lanes.ensures.value (omega arith);
    }

pub returns-then-run-lt64 : goal.returns-then-run-lt64
returns-then-run-lt64 c =
    let d = c.args.dialect.now in
    let bytes : List ℕ = c.args.bytes.now in
    let at = c.blocks-2.at in
    let q = c.unwrap_or-quote.result in
    let lanes : List ℕ = c.wide_lanes_at-lanes.result in
    let run = c.bare_run-run.result in
    let end : ℕ = at + run in
    let so = c.blocks-2.invariant in
    let few : run ≤ 64 = omega (arith, c.if-run-lt64.true) in
    let high : end < length bytes = omega (arith, so.within, c.blocks-2-test.true, c.if-run-lt64.true) in
    let ends : is_line_end_byte (get_or bytes end 0) ≡ true = sym c.is_line_end.ensures ∙ c.if-not-is_line_end.false in
    let quote : unwrap_or d.quote 10 ≡ q = sym (c.unwrap_or-quote.ensures ∙ ap (λ o. unwrap_or o 10) c.quote.ensures.value) in
    let bare = all_bare d bytes end q quote (omega (arith, high)) (bare_on bytes lanes at q run c.wide_lanes_at-lanes.ensures.value c.bare_run-run.ensures few so.bare) in
    let counted : count_by (λ b. b == d.delim) (take end bytes) ≡ c.blocks-2.delims + c.count_first.result =
    ap (λ m. count_by (λ b. b == m) (take end bytes)) (sym c.delim-delim.ensures)
    ∙ sym ((λ i. so.counted i + c.count_first.ensures i) ∙ counted_on (λ b. b == c.delim-delim.result) bytes lanes at run c.wide_lanes_at-lanes.ensures.value few) in
    subst (λ n. HasCount d bytes (record { end = end; fields = n + 1; quoted = 0 })) counted (counts_bare d bytes end high bare ends c.requires.no_comment)
