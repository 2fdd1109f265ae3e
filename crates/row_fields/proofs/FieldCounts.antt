-- How many fields a row has.
use Rattle.std.proofs.Common.{◌≡◌, ℕ, suc, ◌+◌, ◌≤◌, Bool, true, false, List, [], ◌∷◌, length, refl, ap, arith}
use Rattle.byte_classes.specs.Dialect.{Marks}
use Rattle.quote_automaton.specs.declared.state.State.{State}
use Rattle.quote_automaton.specs.declared.state.State.TheVariants.{RowStart}
use Rattle.quote_automaton.specs.Automaton.{step}
use Rattle.row_fields.specs.Fields.{fields, fields_from, is_separator, put_first, raw_fields}

length-put_first : (ends : Bool) (b : ℕ) (raws : List (List ℕ)) (n : ℕ) → length raws ≤ n + 1 → length (put_first ends b raws) ≤ suc n + 1
length-put_first true b raws n le = omega (arith, le)
length-put_first false b [] n le = omega arith
length-put_first false b (raw ∷ raws) n le = omega (arith, le)

length-raw_fields : (d : Marks) (s : State) (row : List ℕ) → length (raw_fields d s row) ≤ length row + 1
length-raw_fields d s [] = omega arith
length-raw_fields d s (b ∷ row) = length-put_first (is_separator d s b) b (raw_fields d (step d s b) row) (length row) (length-raw_fields d (step d s b) row)

pub length-fields_from : (d : Marks) (at : ℕ) (raws : List (List ℕ)) → length (fields_from d at raws) ≡ length raws
length-fields_from d at [] = refl
length-fields_from d at (raw ∷ raws) = ap suc (length-fields_from d (at + length raw + 1) raws)

-- at most one more than bytes
pub length-fields : (d : Marks) (row : List ℕ) → length (fields d row) ≤ length row + 1
length-fields d row = omega (arith, length-fields_from d 0 (raw_fields d RowStart row), length-raw_fields d RowStart row)
