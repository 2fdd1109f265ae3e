-- Columns that lose leading zeros, with one row more.
use Rattle.std.proofs.Common.{◌≡◌, ℕ, ◌+◌, ◌*◌, ◌^◌, ◌<◌, ◌≤◌, Bool, true, false, ◌||◌, cond, List, [], ◌∷◌, map, length, drop, get_or, replicate, min, Some, sym, ◌∙◌, ap, arith, pow_mono}
use Rattle.std.specs.Prelude.{filter, slice_get}
use Rattle.std.specs.Int.{from_bool}
use Rattle.std.specs.List.{list_any, range_with_len}
use Rattle.std.proofs.lemmas.List.{length-drop, length-replicate, get_or-replicate}
use Rattle.std.proofs.lemmas.List.FromFn.{fill_by_all, get_or-map-range_with_len, length-map-range_with_len}
use Rattle.std.proofs.lemmas.Simd.{mask_l-lt}
use lib.Lanes.{mask_l}
use Rattle.byte_classes.specs.Dialect.{Marks}
use Rattle.row_fields.specs.Fields.{fields}
use Rattle.value_types.specs.declared.types.ColumnType.{ColumnType}
use Rattle.load_options.specs.declared.options.Options.{Options}
use Rattle.load_options.proofs.ListSteps.{drop-at}
use Rattle.csv_sniffer.specs.ColumnTypes.{agrees}
use Rattle.csv_sniffer.specs.ZeroColumns.{has_zero_at, loses_zeros_at, zero_flags}
use Rattle.csv_sniffer.specs.declared.zero_columns.TheConstants.{ZERO_COLUMNS}

module _ (o : Options) (d : Marks) (tys : List ColumnType) where
  abbrev count : ℕ
  count = min (length tys) ZERO_COLUMNS

  -- no column is marked where there is no row
  pub zero_flags-none : replicate count false ≡ zero_flags o d tys []
  zero_flags-none = fill_by_all (loses_zeros_at o d tys []) (replicate count false) count false (length-replicate count false) (λ k within. get_or-replicate count k false false within)

  module _ (row : List ℕ) (rows : List (List ℕ)) where
    abbrev kept : List (List ℕ)
    kept = filter (agrees d (length tys)) rows

    pub zero_flags-other : agrees d (length tys) row ≡ false → zero_flags o d tys rows ≡ zero_flags o d tys (row ∷ rows)
    zero_flags-other is = sym (ap (λ t. map (λ column. list_any (λ fs. has_zero_at o tys fs column) (map (fields d) (cond t (row ∷ kept) kept))) (range_with_len 0 count)) is)

    -- each column is marked by the row's value too
    pub zero_flags-agreeing : (old new : List Bool) → length new ≡ length old → agrees d (length tys) row ≡ true → old ≡ zero_flags o d tys rows →
        ((k : ℕ) (other : Bool) → k < length old → get_or new k other ≡ (has_zero_at o tys (fields d row) k || get_or old k other)) → new ≡ zero_flags o d tys (row ∷ rows)
    zero_flags-agreeing old new same is before each =
        let many : length old ≡ count = ap length before ∙ length-map-range_with_len (loses_zeros_at o d tys rows) 0 count in
        fill_by_all (loses_zeros_at o d tys (row ∷ rows)) new count false (same ∙ many)
        (λ k within. each k false (omega (arith, within, many))
        ∙ ap (λ b. has_zero_at o tys (fields d row) k || b)
        (ap (λ bs. get_or bs k false) before ∙ get_or-map-range_with_len (loses_zeros_at o d tys rows) 0 count k k false within (omega arith))
        ∙ sym (ap (λ t. list_any (λ fs. has_zero_at o tys fs k) (map (fields d) (cond t (row ∷ kept) kept))) is))

-- ---- flags as bits

-- one flag more
pub bits_on : (flags : List Bool) (place : ℕ) (flag : Bool) → slice_get flags place ≡ Some flag → 2 * mask_l (drop (place + 1) flags) + from_bool flag ≡ mask_l (drop place flags)
bits_on flags place flag at = turned flag (mask_l (drop (place + 1) flags)) ∙ sym (ap mask_l (drop-at flags place flag at)) where
  turned : (flag : Bool) (bits : ℕ) → 2 * bits + from_bool flag ≡ cond {A = ℕ} flag 1 0 + 2 * bits
  turned true bits = omega arith
  turned false bits = omega arith

-- 64 of them fit into a word
pub bits_fit : (flags : List Bool) (place : ℕ) → length flags ≤ 64 → mask_l (drop place flags) < 2 ^ 64
bits_fit flags place few = omega (arith, mask_l-lt (drop place flags), pow_mono {i = length (drop place flags)} {j = 64} (omega (arith, length-drop place flags, few)))
