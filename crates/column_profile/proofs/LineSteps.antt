-- The lines of a profile, column by column.
use Rattle.std.proofs.Common.{◌≡◌, ℕ, zero, suc, ◌+◌, List, [], ◌∷◌, ◌++◌, Option, Some, None, refl, sym, ap, ◌∙◌, append_assoc, append-nil, arith}
use Rattle.std.specs.Prelude.{flat_map, slice_get}
use Rattle.std.specs.Fmt.{decimal}
use Rattle.std.specs.List.{range_with_len}
use Rattle.std.specs.Option.{option_map}
use Rattle.std.proofs.lemmas.List.Concat.{flat_map-append}
use Rattle.std.proofs.lemmas.Option.{get_or_from_slice_get}
use Rattle.value_types.specs.declared.types.ColumnType.{ColumnType}
use Rattle.value_types.specs.declared.types.ColumnType.TheVariants as types
use Rattle.value_types.specs.TypeName.{name_of_type}
use Rattle.csv_writer.specs.WrittenTable.{text_field}
use Rattle.column_profile.specs.declared.different.Different.{Different}
use Rattle.column_profile.specs.Kept.{kept_apart}
use Rattle.column_profile.specs.Profile.{ProfileView, column_line, field_if_some, line_at}
use Rattle.column_profile.specs.Tally.{Tally, apart_count, tally_of}

-- the name of a type has no quotes
pub type_is_bare : (ty : ColumnType) → text_field (name_of_type ty) ≡ name_of_type ty
type_is_bare types.Boolean = refl
type_is_bare types.Bigint = refl
type_is_bare types.Date = refl
type_is_bare types.Time = refl
type_is_bare types.Timestamp = refl
type_is_bare types.Varchar = refl

pub count_kept : (different : Option Different) → field_if_some (λ different. decimal (apart_count (kept_apart different))) different ≡ field_if_some (λ apart. decimal (apart_count apart)) (option_map kept_apart different)
count_kept None = refl
count_kept (Some different) = refl

last_place : (a n j : ℕ) → a + n ≡ j → range_with_len a (suc n) ≡ range_with_len a n ++ j ∷ []
last_place a zero j is = let same : a ≡ j = omega (arith, is) in ap (λ k. k ∷ []) same
last_place a (suc n) j is = ap (λ rest. a ∷ rest) (last_place (a + 1) n j (omega (arith, is)))

-- one line more
pub line_more : (line : ℕ → List ℕ) (n : ℕ) (before now new text : List ℕ) → now ≡ before ++ flat_map line (range_with_len 0 n) → new ≡ now ++ text → text ≡ line n
    → new ≡ before ++ flat_map line (range_with_len 0 (n + 1))
line_more line n before now new text so_far told is =
    let one : suc n ≡ n + 1 = omega arith in
    let place : 0 + n ≡ n = omega arith in
    told ∙ (λ i. so_far i ++ is i) ∙ append_assoc before (flat_map line (range_with_len 0 n)) (line n)
    ∙ ap (λ lines. before ++ lines)
    (ap (λ last. flat_map line (range_with_len 0 n) ++ last) (sym (append-nil (line n))) ∙ sym (flat_map-append line (range_with_len 0 n) (n ∷ []))
    ∙ ap (flat_map line) (sym (last_place 0 n n place)) ∙ ap (λ m. flat_map line (range_with_len 0 m)) one)

-- the line of a column whose parts were looked up
pub line_looked_up : (names : List (List ℕ)) (profile : ProfileView) (column : ℕ) (name : List ℕ) (ty : ColumnType) (rows : ℕ) (tally : Tally) → slice_get names column ≡ Some name
    → slice_get profile.types column ≡ Some ty → rows ≡ profile.rows → slice_get profile.tallies column ≡ Some tally → column_line column name ty rows tally ≡ line_at names profile column
line_looked_up names profile column name ty rows tally named typed counted known = λ i. column_line column
    (sym (get_or_from_slice_get names column name [] named) i)
    (sym (get_or_from_slice_get profile.types column ty types.Varchar typed) i)
    (counted i)
    (sym (get_or_from_slice_get profile.tallies column tally (tally_of []) known) i)
