-- A row is judged alike at each place, but for the places of its faults.
use Rattle.std.proofs.Common.{◌≡◌, ℕ, ◌+◌, Bool, true, false, List, [], ◌∷◌, ◌++◌, map, Option, Some, None, cond, refl, ap, ◌∙◌, arith}
use Rattle.std.specs.Option.{option_map, option_or}
use Rattle.byte_classes.specs.Dialect.{Marks}
use Rattle.row_fields.specs.Fields.{Field, fields, flaw}
use Rattle.value_types.specs.Datum.{Datum}
use Rattle.value_types.specs.declared.types.ColumnType.{ColumnType}
use Rattle.reject_book.specs.declared.reject.ErrorKind.{ErrorKind}
use Rattle.reject_book.specs.declared.reject.Reject.{Reject}
use Rattle.reject_book.specs.declared.reject.RowPlace.{RowPlace}
use Rattle.reject_book.specs.declared.reject.Schema.{Schema}
use Rattle.reject_book.specs.Fault.{fault_of, row_fault, line_size_fault, unquoted_fault, unicode_fault, missing_fault, too_many_fault, cast_fault, cast_faults}
use Rattle.reject_book.specs.Judging.{verdict_of, faulty_or, good_unless, is_blank, cells_of_fields}
use Rattle.reject_book.specs.Verdict.{Verdict, Blank, map_faults}
use Rattle.table_laws.specs.PartLaws.{placed}

-- ---- choices of faults, each of them moved

module _ (move : Reject → Reject) where
  some_if : (b : Bool) (r s : Reject) → s ≡ move r → cond b (Some s) None ≡ option_map move (cond b (Some r) None)
  some_if true r s is = ap Some is
  some_if false r s is = refl

  none_if : (b : Bool) (r s : Reject) → s ≡ move r → cond b None (Some s) ≡ option_map move (cond b None (Some r))
  none_if true r s is = refl
  none_if false r s is = ap Some is

  one_unless : (b : Bool) (r s : Reject) → s ≡ move r → cond b [] (s ∷ []) ≡ map move (cond b [] (r ∷ []))
  one_unless true r s is = refl
  one_unless false r s is = ap (λ t. t ∷ []) is

  of_option : {A : Type 0} (f g : A → Reject) (o : Option A) → ((x : A) → g x ≡ move (f x)) → option_map g o ≡ option_map move (option_map f o)
  of_option f g None is = refl
  of_option f g (Some x) is = ap Some (is x)

  of_or : (a b o p : Option Reject) → b ≡ option_map move a → p ≡ option_map move o → option_or b p ≡ option_map move (option_or a o)
  of_or None b o p first second = (λ i. option_or (first i) (second i))
  of_or (Some r) b o p first second = (λ i. option_or (first i) p)

  of_append : (xs ys : List Reject) → map move xs ++ map move ys ≡ map move (xs ++ ys)
  of_append [] ys = refl
  of_append (x ∷ xs) ys = ap {B = List Reject} (λ rest. move x ∷ rest) (of_append xs ys)

  good_moved : (cells : List Datum) (rs : List Reject) → good_unless cells (map move rs) ≡ map_faults move (good_unless cells rs)
  good_moved cells [] = refl
  good_moved cells (r ∷ rs) = refl

  faulty_moved : (v : Verdict (List Datum) Reject) (o : Option Reject) → faulty_or (map_faults move v) (option_map move o) ≡ map_faults move (faulty_or v o)
  faulty_moved v None = refl
  faulty_moved v (Some r) = refl

  blank_moved : (b : Bool) (v : Verdict (List Datum) Reject) → cond b Blank (map_faults move v) ≡ map_faults move (cond b Blank v)
  blank_moved true v = refl
  blank_moved false v = refl

-- ---- a row at two places

module _ (d : Marks) (schema : Schema) (lines bytes : ℕ) (place : RowPlace) (row : List ℕ) where
  abbrev move : Reject → Reject
  move = placed lines bytes

  abbrev there : RowPlace
  there = record place { line = lines + place.line; start = bytes + place.start }

  one_fault : (kind : ErrorKind) (column offset : ℕ) (message : List ℕ) → fault_of schema there row kind column offset message ≡ move (fault_of schema place row kind column offset message)
  one_fault kind column offset message =
      let first : bytes + place.start + 1 ≡ bytes + (place.start + 1) = omega arith in
      let faulty : bytes + place.start + 1 + offset ≡ bytes + (place.start + 1 + offset) = omega arith in
      λ i. record (fault_of schema there row kind column offset message) { line_byte_position = first i; byte_position = faulty i }

  whole_row : row_fault d schema there row ≡ option_map move (row_fault d schema place row)
  whole_row =
      of_or move (line_size_fault d schema place row) (line_size_fault d schema there row) _ _ (some_if move _ _ _ (one_fault _ _ _ _))
      (of_or move (unquoted_fault d schema place row) (unquoted_fault d schema there row) _ _ (of_option move _ _ (flaw d row) (λ f. one_fault _ _ _ _))
      (of_or move (unicode_fault d schema place row) (unicode_fault d schema there row) _ _ (none_if move _ _ _ (one_fault _ _ _ _))
      (of_or move (missing_fault d schema place row) (missing_fault d schema there row) (too_many_fault d schema place row) (too_many_fault d schema there row)
      (some_if move _ _ _ (one_fault _ _ _ _)) (some_if move _ _ _ (one_fault _ _ _ _)))))

  value : (column : ℕ) (ty : ColumnType) (f : Field) → cast_fault d schema there row column ty f ≡ map move (cast_fault d schema place row column ty f)
  value column ty f = one_unless move _ _ _ (one_fault _ _ _ _)

  values : (column : ℕ) (tys : List ColumnType) (fs : List Field) → cast_faults d schema there row column tys fs ≡ map move (cast_faults d schema place row column tys fs)
  values column [] fs = refl
  values column (ty ∷ tys) [] = refl
  values column (ty ∷ tys) (f ∷ fs) =
      (λ i. value column ty f i ++ values (column + 1) tys fs i)
      ∙ of_append move (cast_fault d schema place row column ty f) (cast_faults d schema place row (column + 1) tys fs)

  pub placed_alike : verdict_of d schema there row ≡ map_faults move (verdict_of d schema place row)
  placed_alike =
      let cells = cells_of_fields schema schema.types (fields d row) in
      let bad : List Reject = cast_faults d schema place row 1 schema.types (fields d row) in
      (λ i. cond (is_blank schema row) Blank (faulty_or (good_unless cells (values 1 schema.types (fields d row) i)) (whole_row i)))
      ∙ ap (λ v. cond (is_blank schema row) Blank (faulty_or v (option_map move (row_fault d schema place row)))) (good_moved move cells bad)
      ∙ ap (λ v. cond (is_blank schema row) Blank v) (faulty_moved move (good_unless cells bad) (row_fault d schema place row))
      ∙ blank_moved move (is_blank schema row) _
