-- The names of columns and the place of a row change the texts of its faults alone: not its cells, nor whether it has a fault.
use Rattle.std.proofs.Common.{◌≡◌, ℕ, ◌+◌, Bool, true, false, cond, List, [], ◌∷◌, ◌++◌, Option, Some, None, refl, sym, ap, subst}
use Rattle.std.specs.Prelude.{is_some}
use Rattle.std.specs.Option.{option_map, option_or}
use Rattle.byte_classes.specs.Dialect.{Marks}
use Rattle.row_fields.specs.Fields.{Field, fields, flaw}
use Rattle.value_types.specs.Datum.{Datum, null}
use Rattle.value_types.specs.declared.types.ColumnType.{ColumnType}
use Rattle.reject_book.specs.declared.reject.Reject.{Reject}
use Rattle.reject_book.specs.declared.reject.RowPlace.{RowPlace}
use Rattle.reject_book.specs.declared.reject.Schema.{Schema}
use Rattle.reject_book.specs.Fault.{row_fault, line_size_fault, unquoted_fault, unicode_fault, missing_fault, too_many_fault, cast_faults}
use Rattle.reject_book.specs.Judging.{verdict_of, faulty_or, good_unless, is_blank, cell_of_field, cells_of_fields}
use Rattle.csv_source.specs.Lists.{is_empty}
use Rattle.reject_book.specs.Verdict.{Verdict, Blank, cells_of, faults_of}

-- ---- by whether there is a fault

abbrev RowVerdict : Type 0
RowVerdict = Verdict (List Datum) Reject

some_if : (t : Bool) (r s : Reject) → is_some (cond t (Some r) None) ≡ is_some (cond t (Some s) None)
some_if true r s = refl
some_if false r s = refl

none_if : (t : Bool) (r s : Reject) → is_some (cond t None (Some r)) ≡ is_some (cond t None (Some s))
none_if true r s = refl
none_if false r s = refl

of_option : {A : Type 0} (f g : A → Reject) (o : Option A) → is_some (option_map f o) ≡ is_some (option_map g o)
of_option f g None = refl
of_option f g (Some x) = refl

of_or : (o p q r : Option Reject) → is_some o ≡ is_some p → is_some q ≡ is_some r → is_some (option_or o q) ≡ is_some (option_or p r)
of_or None None q r first later = later
of_or None (Some s) q r first later = absurd (let no : ⊥ = cc in no)
of_or (Some s) None q r first later = absurd (let no : ⊥ = cc in no)
of_or (Some s) (Some t) q r first later = refl

one_unless : (t : Bool) (r s : Reject) (rs ss : List Reject) → is_empty rs ≡ is_empty ss → is_empty (cond t [] (r ∷ []) ++ rs) ≡ is_empty (cond t [] (s ∷ []) ++ ss)
one_unless true r s rs ss others = others
one_unless false r s rs ss others = refl

-- two verdicts have the same cells, and both a fault or none
record Alike (v w : RowVerdict) : Type 0 where
  cells : cells_of v ≡ cells_of w
  faults : is_empty (faults_of v) ≡ is_empty (faults_of w)

good_alike : (cells : List Datum) (rs ss : List Reject) → is_empty rs ≡ is_empty ss → Alike (good_unless cells rs) (good_unless cells ss)
good_alike cells [] [] e = record { cells = refl; faults = refl }
good_alike cells [] (s ∷ ss) e = absurd (let no : ⊥ = cc in no)
good_alike cells (r ∷ rs) [] e = absurd (let no : ⊥ = cc in no)
good_alike cells (r ∷ rs) (s ∷ ss) e = record { cells = refl; faults = refl }

faulty_alike : (v w : RowVerdict) (o p : Option Reject) → Alike v w → is_some o ≡ is_some p → Alike (faulty_or v o) (faulty_or w p)
faulty_alike v w None None same e = same
faulty_alike v w None (Some s) same e = absurd (let no : ⊥ = cc in no)
faulty_alike v w (Some r) None same e = absurd (let no : ⊥ = cc in no)
faulty_alike v w (Some r) (Some s) same e = record { cells = refl; faults = refl }

blank_alike : (t : Bool) (v w : RowVerdict) → Alike v w → Alike (cond t Blank v) (cond t Blank w)
blank_alike true v w same = record { cells = refl; faults = refl }
blank_alike false v w same = same

-- ---- one row

module _ (d : Marks) (schema : Schema) (names : List (List ℕ)) (place other : RowPlace) (row : List ℕ) where
  abbrev renamed : Schema
  renamed = record schema { names = names }

  fault_alike : is_some (row_fault d renamed other row) ≡ is_some (row_fault d schema place row)
  fault_alike =
      of_or (line_size_fault d renamed other row) (line_size_fault d schema place row) _ _ (some_if _ _ _)
      (of_or (unquoted_fault d renamed other row) (unquoted_fault d schema place row) _ _ (of_option _ _ (flaw d row))
      (of_or (unicode_fault d renamed other row) (unicode_fault d schema place row) _ _ (none_if _ _ _)
      (of_or (missing_fault d renamed other row) (missing_fault d schema place row) (too_many_fault d renamed other row) (too_many_fault d schema place row) (some_if _ _ _) (some_if _ _ _))))

  values_alike : (column : ℕ) (tys : List ColumnType) (fs : List Field) → is_empty (cast_faults d renamed other row column tys fs) ≡ is_empty (cast_faults d schema place row column tys fs)
  values_alike column [] fs = refl
  values_alike column (ty ∷ tys) [] = refl
  values_alike column (ty ∷ tys) (f ∷ fs) = one_unless _ _ _ _ _ (values_alike (column + 1) tys fs)

  cells_alike : (tys : List ColumnType) (fs : List Field) → cells_of_fields renamed tys fs ≡ cells_of_fields schema tys fs
  cells_alike [] fs = refl
  cells_alike (ty ∷ tys) [] = ap (λ cells. null ∷ cells) (cells_alike tys [])
  cells_alike (ty ∷ tys) (f ∷ fs) = ap (λ cells. cell_of_field schema ty f ∷ cells) (cells_alike tys fs)

  abbrev by_values : List Datum → Schema → RowPlace → RowVerdict
  by_values cells s at = good_unless cells (cast_faults d s at row 1 schema.types (fields d row))

  by_row : (bytes : List ℕ) → is_blank renamed bytes ≡ is_blank schema bytes
  by_row [] = refl
  by_row (b ∷ bytes) = refl

  alike : Alike (verdict_of d renamed other row) (verdict_of d schema place row)
  alike =
      let cells : List Datum = cells_of_fields schema schema.types (fields d row) in
      subst (λ t. Alike (cond t Blank (faulty_or (by_values (cells_of_fields renamed schema.types (fields d row)) renamed other) (row_fault d renamed other row))) (verdict_of d schema place row)) (sym (by_row row))
      (subst (λ cs. Alike (cond (is_blank schema row) Blank (faulty_or (by_values cs renamed other) (row_fault d renamed other row))) (verdict_of d schema place row)) (sym (cells_alike schema.types (fields d row)))
      (blank_alike (is_blank schema row) _ _ (faulty_alike (by_values cells renamed other) (by_values cells schema place) (row_fault d renamed other row) (row_fault d schema place row)
      (good_alike cells _ _ (values_alike 1 schema.types (fields d row))) fault_alike)))

  pub cells_of_row : cells_of (verdict_of d renamed other row) ≡ cells_of (verdict_of d schema place row)
  cells_of_row = alike.cells

  pub faults_of_row : is_empty (faults_of (verdict_of d renamed other row)) ≡ is_empty (faults_of (verdict_of d schema place row))
  faults_of_row = alike.faults
