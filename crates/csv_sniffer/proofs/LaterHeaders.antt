-- The header of a text beside the one that was found in another.
use Rattle.std.proofs.Common.{◌≡◌, ℕ, ◌+◌, ◌^◌, ◌<◌, ◌≤◌, Bool, false, ◌&&◌, List, length, drop, Some, sym, ap, subst, ◌∙◌, arith}
use Rattle.std.specs.Prelude.{slice_get}
use Rattle.std.specs.Cmp.Lexicographic.{pointwise}
use Rattle.std.specs.Str.{bytes_eq}
use Rattle.std.proofs.lemmas.Bool.{le-leb, lt-leb}
use Rattle.byte_classes.specs.Dialect.{Marks}
use Rattle.row_fields.specs.Fields.{fields}
use Rattle.load_options.specs.declared.options.Options.{Options}
use Rattle.load_options.specs.Accepted.{IsAccepted}
use Rattle.load_options.proofs.ListSteps.{drop-at}
use Rattle.csv_sniffer.specs.ColumnNames.{detected_names}
use Rattle.csv_sniffer.specs.Input.{found}
use Rattle.csv_sniffer.specs.LaterHeader.{names_columns}
use Rattle.csv_sniffer.specs.Sample.{sample_of, is_whole, start_of_sample}
use Rattle.csv_sniffer.specs.declared.found.Sniffed.{Sniffed}
use Rattle.csv_sniffer.proofs.SampleLaws.{sample-limited}
use Rattle.csv_sniffer.proofs.SniffedLaws.{few_names}

-- two names more, side by side
pub next_names : (names others : List (List ℕ)) (column : ℕ) (a b : List ℕ) (whole : Bool) → slice_get names column ≡ Some a → slice_get others column ≡ Some b →
    pointwise bytes_eq (drop column names) (drop column others) ≡ whole → (bytes_eq a b && pointwise bytes_eq (drop (column + 1) names) (drop (column + 1) others)) ≡ whole
next_names names others column a b whole h k is = sym (λ i. pointwise bytes_eq (drop-at names column a h i) (drop-at others column b k i)) ∙ is

-- ---- a row as a header

module _ (s : Sniffed) (d : Marks) (row : List ℕ) (same : d ≡ s.dialect) where
  -- with more fields than there are columns
  pub too_many_fields : length s.names < length (fields d row) → names_columns s row ≡ false
  too_many_fields over =
      ap (λ t. t && pointwise bytes_eq (detected_names s.dialect (length s.names) (Some row)) s.names)
      (lt-leb (length (fields s.dialect row)) (length s.names) (subst (λ e. length s.names < length (fields e row)) same over))

  -- with no more, by its names
  pub names_decide : (names : List (List ℕ)) (r : Bool) → length (fields d row) ≤ length s.names → names ≡ detected_names d (length s.names) (Some row) → r ≡ pointwise bytes_eq names s.names → names_columns s row ≡ r
  names_decide names r fits is decides =
      ap (λ t. t && pointwise bytes_eq (detected_names s.dialect (length s.names) (Some row)) s.names)
      (le-leb (length (fields s.dialect row)) (length s.names) (subst (λ e. length (fields e row) ≤ length s.names) same fits))
      ∙ ap (λ e. pointwise bytes_eq (detected_names e (length s.names) (Some row)) s.names) (sym same)
      ∙ ap (λ ns. pointwise bytes_eq ns s.names) (sym is)
      ∙ sym decides

-- few names are found in an input
pub few_found : (o : Options) (input : List ℕ) → IsAccepted o → length (found o input).names < 2 ^ 63
few_found o input accepted =
    let behind : List ℕ = drop (start_of_sample o.skip input) input in omega (arith, few_names o (sample_of behind) (is_whole behind) accepted (sample-limited behind))
