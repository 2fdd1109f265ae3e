use Rattle.std.proofs.Common.{◌∙◌, [], ◌∷◌, false, List, ℕ, map, ap, sym, refl, pos}
use Rattle.value_types.specs.declared.types.ColumnType.TheVariants as types
use Rattle.value_types.specs.declared.types.Value.TheVariants as values
use Rattle.value_types.specs.Datum.{typed, text}
use Rattle.value_types.specs.Packed.{numbers_in}
use Rattle.npz_writer.specs.Arrays.{not_a_time, number_bytes, truth_byte}
use Rattle.npz_writer.specs.Blocks.{unmarked}
use Rattle.npz_writer.proofs.Parts.{marked_bytes}
use Rattle.npz_writer.proofs.run.Run.fill_values.Goals as goal

pub fill_truths-requires-clause-column : goal.fill_truths-requires-clause-column
fill_truths-requires-clause-column c =
    rw c.in-Boolean.is (marked_bytes (λ b. typed (values.Bool b)) (λ truth. truth_byte truth ∷ []) types.Boolean false (λ _. refl) refl c.in-Boolean.nulls.now c.in-Boolean.truths.now)

pub fill_numbers-requires-clause-column : goal.fill_numbers-requires-clause-column
fill_numbers-requires-clause-column c =
    let column = c.in-Bigint.column in
    rw c.in-Bigint.is (marked_bytes (λ n. typed (values.Int n)) number_bytes types.Bigint (pos 0) (λ _. refl) refl column.nulls.now (numbers_in column.values)
    ∙ ap (map number_bytes) (sym (c.new-numbers.ensures ∙ (λ i. unmarked (pos 0) (c.nulls.ensures i) ((c.of.ensures ∙ ap numbers_in c.values.ensures) i)))))

pub fill_numbers-requires-in-Date-clause-column : goal.fill_numbers-requires-in-Date-clause-column
fill_numbers-requires-in-Date-clause-column c =
    rw c.in-Date.is (marked_bytes (λ n. typed (values.Date n)) number_bytes types.Date not_a_time (λ _. refl) refl c.in-Date.nulls.now c.in-Date.days.now
    ∙ ap (map number_bytes) (sym c.new-numbers-in-Date.ensures))

pub fill_numbers-requires-in-Time-clause-column : goal.fill_numbers-requires-in-Time-clause-column
fill_numbers-requires-in-Time-clause-column c =
    rw c.in-Time.is (marked_bytes (λ n. typed (values.Time n)) number_bytes types.Time not_a_time (λ _. refl) refl c.in-Time.nulls.now c.in-Time.micros.now
    ∙ ap (map number_bytes) (sym c.new-numbers-in-Time.ensures))

pub fill_numbers-requires-in-Timestamp-clause-column : goal.fill_numbers-requires-in-Timestamp-clause-column
fill_numbers-requires-in-Timestamp-clause-column c =
    rw c.in-Timestamp.is (marked_bytes (λ n. typed (values.Stamp n)) number_bytes types.Timestamp not_a_time (λ _. refl) refl c.in-Timestamp.nulls.now c.in-Timestamp.micros.now
    ∙ ap (map number_bytes) (sym c.new-numbers-in-Timestamp.ensures))

pub fill_texts-requires-clause-column : goal.fill_texts-requires-clause-column
fill_texts-requires-clause-column c =
    let none : List ℕ = [] in
    rw c.in-Varchar.is (marked_bytes text (λ (bytes : List ℕ). bytes) types.Varchar none (λ _. refl) refl c.in-Varchar.nulls.now c.in-Varchar.texts.now)
