-- Texts of definitions that grow, column by column and byte by byte.
use Rattle.std.proofs.Common.{◌≡◌, ℕ, zero, suc, ◌+◌, ◌<◌, cond, List, [], ◌∷◌, ◌++◌, length, take, refl, sym, ◌∙◌, ap, arith, append_assoc, codes, Some, get_or}
use Rattle.std.specs.Prelude.{◌==◌, slice_get, zip}
use Rattle.std.proofs.lemmas.Bool.{ne_eqb}
use Rattle.std.proofs.lemmas.List.{take_more}
use Rattle.csv_writer.specs.Quoting.{doubled, quoted}
use Rattle.value_types.specs.declared.types.ColumnType.{ColumnType}
use Rattle.value_types.specs.TypeName.{name_of_type}
use Rattle.db_writer.specs.Definitions.{column_text, columns_text, separator}
use Rattle.db_writer.proofs.RowsLaid.{take-at}

doubled-append : (xs ys : List ℕ) → doubled (xs ++ ys) ≡ doubled xs ++ doubled ys
doubled-append [] ys = refl
doubled-append (b ∷ xs) ys =
    let here : List ℕ = cond (b == 34) (b ∷ b ∷ []) (b ∷ []) in
    ap (λ rest. here ++ rest) (doubled-append xs ys) ∙ sym (append_assoc here (doubled xs) (doubled ys))

-- a byte was appended to those before
pub byte-appended : (old into new name : List ℕ) (k : ℕ) → k < length name → into ≡ old ++ doubled (take k name) → new ≡ into ++ doubled (get_or name k 0 ∷ []) →
    new ≡ old ++ doubled (take (k + 1) name)
byte-appended old into new name k within before one =
    let byte : List ℕ = get_or name k 0 ∷ [] in
    one ∙ ap (λ xs. xs ++ doubled byte) before ∙ append_assoc old (doubled (take k name)) (doubled byte)
    ∙ ap (λ xs. old ++ xs) (sym (doubled-append (take k name) byte) ∙ ap doubled (sym (take_more name k 0 within)))

-- ---- columns

some : (n : ℕ) → separator (suc n) ≡ codes ", "
some n = ap (λ t. cond t [] (codes ", ")) (ne_eqb (suc n) 0 (λ e. omega (arith, e)))

columns-more : (columns : List (List ℕ × ColumnType)) (column : List ℕ × ColumnType) → columns_text (columns ++ column ∷ []) ≡ columns_text columns ++ (separator (length columns) ++ column_text column)
columns-more [] column = refl
columns-more (first ∷ []) column = append_assoc (column_text first) (codes ", ") (column_text column) ∙ ap (λ xs. column_text first ++ (xs ++ column_text column)) (sym (some 0))
columns-more (first ∷ (next ∷ columns)) column =
    let front : List ℕ = column_text first ++ codes ", " in
    ap (λ rest. front ++ rest) (columns-more (next ∷ columns) column ∙ ap (λ xs. columns_text (next ∷ columns) ++ (xs ++ column_text column)) (some (length columns)))
    ∙ sym (append_assoc front (columns_text (next ∷ columns)) (codes ", " ++ column_text column))
    ∙ ap (λ xs. columns_text (first ∷ (next ∷ columns)) ++ (xs ++ column_text column)) (sym (some (suc (length columns))))

zip-at : (names : List (List ℕ)) (types : List ColumnType) (k : ℕ) (name : List ℕ) (ty : ColumnType) → slice_get names k ≡ Some name → slice_get types k ≡ Some ty → slice_get (zip names types) k ≡ Some (name, ty)
zip-at [] types k name ty at is = absurd (let no : ⊥ = cc in no)
zip-at (n ∷ names) [] k name ty at is = absurd (let no : ⊥ = cc in no)
zip-at (n ∷ names) (t ∷ types) zero name ty at is = let left : n ≡ name = cc in let right : t ≡ ty = cc in λ i. Some (left i, right i)
zip-at (n ∷ names) (t ∷ types) (suc k) name ty at is = zip-at names types k name ty at is

taken : {X : Type 0} (xs : List X) (k : ℕ) (x : X) → slice_get xs k ≡ Some x → length (take k xs) ≡ k
taken [] k x at = absurd (let no : ⊥ = cc in no)
taken (y ∷ xs) zero x at = refl
taken (y ∷ xs) (suc k) x at = ap suc (taken xs k x at)

-- a column was appended to those before
pub column-appended : (names : List (List ℕ)) (types : List ColumnType) (k : ℕ) (name : List ℕ) (ty : ColumnType) (old into behind named spaced new : List ℕ) →
    slice_get names k ≡ Some name → slice_get types k ≡ Some ty → into ≡ old ++ columns_text (take k (zip names types)) → behind ≡ into ++ separator k →
    named ≡ behind ++ quoted name → spaced ≡ named ++ codes " " → new ≡ spaced ++ name_of_type ty → new ≡ old ++ columns_text (take (k + 1) (zip names types))
column-appended names types k name ty old into behind named spaced new at is before first second third last =
    let columns : List (List ℕ × ColumnType) = zip names types in
    let there = zip-at names types k name ty at is in
    let front : List ℕ = columns_text (take k columns) in
    last ∙ ap (λ xs. xs ++ name_of_type ty) (third ∙ ap (λ xs. xs ++ codes " ") (second ∙ ap (λ xs. xs ++ quoted name) (first ∙ ap (λ xs. xs ++ separator k) before)))
    ∙ append_assoc (((old ++ front) ++ separator k) ++ quoted name) (codes " ") (name_of_type ty)
    ∙ append_assoc ((old ++ front) ++ separator k) (quoted name) (codes " " ++ name_of_type ty)
    ∙ ap (λ xs. ((old ++ front) ++ separator k) ++ xs) (sym (append_assoc (quoted name) (codes " ") (name_of_type ty)))
    ∙ append_assoc (old ++ front) (separator k) (column_text (name, ty))
    ∙ append_assoc old front (separator k ++ column_text (name, ty))
    ∙ ap (λ xs. old ++ xs)
    (ap (λ n. front ++ (separator n ++ column_text (name, ty))) (sym (taken columns k (name, ty) there))
    ∙ sym (columns-more (take k columns) (name, ty)) ∙ ap columns_text (sym (take-at columns k (name, ty) there)))

pub length-zip : (names : List (List ℕ)) (types : List ColumnType) → length names ≡ length types → length (zip names types) ≡ length types
length-zip [] [] same = refl
length-zip [] (t ∷ types) same = absurd (let no : ⊥ = omega (arith, same) in no)
length-zip (n ∷ names) [] same = absurd (let no : ⊥ = omega (arith, same) in no)
length-zip (n ∷ names) (t ∷ types) same = ap suc (length-zip names types (omega (arith, same)))
