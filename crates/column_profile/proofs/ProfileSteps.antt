-- A profile that takes in more rows.
use Rattle.std.proofs.Common.{◌≡◌, ℕ, ◌+◌, ◌<◌, false, List, [], ◌++◌, None, length, map, get_or, refl, sym, ap, subst, ◌∙◌, length-append, arith}
use Rattle.std.specs.Prelude.{All}
use Rattle.std.specs.List.{range_with_len}
use Rattle.std.proofs.lemmas.List.{get_or-map, length-map}
use Rattle.std.proofs.lemmas.List.FromFn.{fill_by_all, get_or-map-range_with_len, length-map-range_with_len}
use Rattle.value_types.specs.declared.types.ColumnType.{ColumnType}
use Rattle.value_types.specs.Datum.{Datum}
use Rattle.column_profile.specs.declared.column.Column.{Column}
use Rattle.column_profile.specs.Folded.{tally_after}
use Rattle.column_profile.specs.Kept.{tally_in, HasSpelledSpan}
use Rattle.column_profile.specs.Parts.{TakesIn}
use Rattle.column_profile.specs.Profile.{ProfileView, cells_in, profile_of, Continues}
use Rattle.column_profile.specs.Tally.{tally_of}
use Rattle.column_profile.proofs.TallySteps.{cells_in-append, tally_of-append}

no_column : Column
no_column = record { nulls = 0; different = None; span = None; lengths = None; is_wanting = false }

module _ (tys : List ColumnType) (olds news : List Column) (more : List (List Datum)) (wide : length olds ≡ length tys) (same : length news ≡ length olds)
    (takes : (k : ℕ) (d : Column) → k < length olds → TakesIn k more (get_or olds k d) (get_or news k d)) (whole : All (λ column. column.is_wanting ≡ false) news) where
  tally_at : (rows : List (List Datum)) → map tally_in olds ≡ map (λ column. tally_of (cells_in column rows)) (range_with_len 0 (length tys)) → (k : ℕ) → k < length tys
      → get_or (map tally_in news) k (tally_of []) ≡ tally_of (cells_in k (rows ++ more))
  tally_at rows is k below =
      get_or-map tally_in news k no_column (tally_of []) (omega (arith, below, wide, same))
      ∙ (takes k no_column (omega (arith, below, wide))).tally (whole k no_column (omega (arith, below, wide, same)))
      ∙ ap (λ tally. tally_after tally (cells_in k more))
      (sym (get_or-map tally_in olds k no_column (tally_of []) (omega (arith, below, wide))) ∙ ap (λ tallies. get_or tallies k (tally_of [])) is
      ∙ get_or-map-range_with_len (λ column. tally_of (cells_in column rows)) 0 (length tys) k k (tally_of []) below (omega arith))
      ∙ tally_of-append (cells_in k rows) (cells_in k more) ∙ ap tally_of (sym (cells_in-append k rows more))

  pub continues : (before after : ℕ) → after ≡ before + length more
      → Continues (record { types = tys; rows = before; tallies = map tally_in olds }) more (record { types = tys; rows = after; tallies = map tally_in news })
  continues before after grown = record {
    types = refl;
    profile =
        λ rows is.
        let before_is : before ≡ length rows = ap (λ (p : ProfileView). p.rows) is in
        let long = length-append rows more in
        let rows_are : after ≡ length (rows ++ more) = omega (arith, before_is, grown, long) in
        let tallies = fill_by_all (λ column. tally_of (cells_in column (rows ++ more))) (map tally_in news) (length tys) (tally_of [])
        (length-map news tally_in ∙ same ∙ wide) (tally_at rows (ap (λ (p : ProfileView). p.tallies) is)) in
        λ i. record { types = tys; rows = rows_are i; tallies = tallies i };
  }

-- ---- a profile of no rows

abbrev AreEmpty : List Column → ℕ → Type 0
AreEmpty columns count = map tally_in columns ≡ map (λ column. tally_of (cells_in column [])) (range_with_len 0 count)

pub begins_long : (columns : List Column) (count : ℕ) → AreEmpty columns count → length columns ≡ count
begins_long columns count are = sym (length-map columns tally_in) ∙ ap length are ∙ length-map-range_with_len (λ column. tally_of (cells_in column [])) 0 count

pub begins_spelled : (columns : List Column) (count : ℕ) → AreEmpty columns count → All (λ column. HasSpelledSpan (tally_in column)) columns
begins_spelled columns count are = λ k d below.
    let within : k < count = (let long = begins_long columns count are in omega (arith, below, long)) in
    subst HasSpelledSpan
    (sym (sym (get_or-map tally_in columns k d (tally_of []) below) ∙ ap (λ tallies. get_or tallies k (tally_of [])) are
    ∙ get_or-map-range_with_len (λ column. tally_of (cells_in column [])) 0 count k k (tally_of []) within (omega arith)))
    tt

pub begins : (tys given : List ColumnType) (columns : List Column) (count : ℕ) → tys ≡ given → count ≡ length given → AreEmpty columns count
    → record { types = tys; rows = 0; tallies = map tally_in columns } ≡ profile_of given []
begins tys given columns count same long are = λ i. record {
  types = same i;
  rows = 0;
  tallies = (are ∙ ap (λ n. map (λ column. tally_of (cells_in column [])) (range_with_len 0 n)) long) i;
}
