use Rattle.std.proofs.Common.{◌≡◌, ℕ, ◌+◌, List, ◌++◌, take, drop, length, subst, sym, ◌∙◌, arith}
use Rattle.std.proofs.lemmas.List.{drop_all, take_all, take-append-le}
use Rattle.byte_classes.specs.Dialect.{Marks}
use Rattle.dialect_rank.specs.Sampled.{Span}
use Rattle.csv_sniffer.specs.Columns.{HasValues, no_samples}
use Rattle.csv_sniffer.specs.declared.explaining.entries.ColumnSample.{ColumnSample}
use Rattle.csv_sniffer.proofs.EntrySteps.{values_of_all}
use Rattle.csv_sniffer.proofs.explaining.gathering.column_samples.Goals as goal

-- what is lent whole comes back whole
all_taken : (n : ℕ) (xs ys : List ColumnSample) → length xs ≡ n → take n (xs ++ ys) ≡ xs
all_taken n xs ys is = take-append-le n xs ys (omega (arith, is)) ∙ take_all n xs (omega (arith, is))

pub loop-row-preserved : goal.loop-row-preserved
loop-row-preserved c =
    let o = c.args.file.now.options.now in
    let d : Marks = c.args.file.now.rows.dialect in
    let front : List ℕ = c.args.file.now.front.now in
    let sample : List ℕ = c.args.file.now.rows.sample.now in
    let all : List Span = c.args.file.now.rows.spans in
    let row = c.loop-row.row in
    let start : List ColumnSample = no_samples o c.args.sniffed.now in
    let lent : List ColumnSample = c.deref_mut.result.now in
    let new : List ColumnSample = c.push_row.new.samples in
    let behind : List ColumnSample = drop (length new) c.loop-row.samples.items in
    let given = subst (λ ss. HasValues o d front sample start (drop c.args.first all) (drop row all) ss) (sym c.deref_mut.ensures.value) c.loop-row.invariant.values in
    let whole : take c.loop-row.samples.len (new ++ behind) ≡ new =
    all_taken c.loop-row.samples.len new behind (omega (arith, c.push_row.auto.samples, c.deref_mut.ensures.len)) in record {
      counted = c.in_ok-push_row.ensures.counted;
      values = subst (λ ss. HasValues o d front sample start (drop c.args.first all) (drop (row + 1) all) ss) (sym whole)
          (c.in_ok-push_row.ensures.values start (drop c.args.first all) given);
    }

pub returns : goal.returns
returns c =
    let o = c.args.file.now.options.now in
    let s = c.args.sniffed.now in
    let front : List ℕ = c.args.file.now.front.now in
    let sample : List ℕ = c.args.file.now.rows.sample.now in
    let all : List Span = c.args.file.now.rows.spans in
    let left : List Span = drop c.loop-row.row all in
    let now = c.loop-row.samples.items in
    values_of_all o s front sample (drop c.args.first all) left now (drop_all c.loop-row.row all (omega arith))
    (subst (λ d. HasValues o d front sample (no_samples o s) (drop c.args.first all) left now) c.requires.same c.loop-row.invariant.values)
