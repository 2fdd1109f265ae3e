use Rattle.std.proofs.Common.{◌≡◌, ℕ, zero, suc, ◌≤◌, List, [], ◌∷◌, length, None, refl, sym, ap, ◌∙◌, arith}
use Rattle.std.specs.Prelude.{slice_get}
use Rattle.std.specs.List.{cons_option}
use Rattle.std.specs.Option.{option_and_then}
use Rattle.row_fields.specs.Fields.{Field}
use Rattle.row_fields.specs.Split.{fields_in}
use Rattle.csv_sniffer.specs.Columns.{with_entries}
use Rattle.csv_sniffer.specs.Entries.{entry_of}
use Rattle.csv_sniffer.proofs.EntrySteps.{with_none}
use Rattle.csv_sniffer.proofs.explaining.gathering.push_value.Goals as goal

past : (xs : List Field) (k : ℕ) → length xs ≤ k → slice_get xs k ≡ None
past [] k le = refl
past (x ∷ xs) zero le = absurd (let no : ⊥ = omega (arith, le) in no)
past (x ∷ xs) (suc k) le = past xs k (omega (arith, le))

pub returns-then-column-count : goal.returns-then-column-count
returns-then-column-count c =
    let row : List Field = fields_in c.args.row.now.bytes.now c.args.row.now.fields.now in
    let none : slice_get row c.args.column ≡ None = past row c.args.column (omega (arith, c.count.ensures.value c.args.row.now.bytes.now, c.if-column-count.true)) in
    sym (ap (λ f. with_entries c.args.sample.now (cons_option (option_and_then (entry_of c.args.options.now c.args.row.now.line) f) [])) none ∙ with_none c.args.sample.now)
