-- The rows and faults of the parts of an input, end to end.
use Rattle.std.proofs.Common.{◌≡◌, List, [], ◌∷◌, ◌++◌, map, ℕ, refl, sym, ◌∙◌}
use Rattle.std.specs.Prelude.{flat_map}
use Rattle.std.proofs.lemmas.Grind.{flat_map-append}
use Rattle.std.proofs.lemmas.List.{map-append}
use Rattle.value_types.specs.Datum.{Datum}
use Rattle.reject_book.specs.declared.reject.Reject.{Reject}
use Rattle.reject_book.specs.Verdict.{Verdict, Blank, Good, Faulty, cells_of, faults_of, map_faults}
use Rattle.loader_reply.specs.Reading.{table_rows, faults}
use Rattle.table_laws.specs.PartLaws.{placed, all_placed}

-- faults that are placed leave the rows
cells_placed : (lines bytes : ℕ) (v : Verdict (List Datum) Reject) → cells_of (map_faults (placed lines bytes) v) ≡ cells_of v
cells_placed lines bytes Blank = refl
cells_placed lines bytes (Good cells) = refl
cells_placed lines bytes (Faulty rs) = refl

faults_placed : (lines bytes : ℕ) (v : Verdict (List Datum) Reject) → faults_of (map_faults (placed lines bytes) v) ≡ map (placed lines bytes) (faults_of v)
faults_placed lines bytes Blank = refl
faults_placed lines bytes (Good cells) = refl
faults_placed lines bytes (Faulty rs) = refl

rows_placed : (lines bytes : ℕ) (vs : List (Verdict (List Datum) Reject)) → table_rows (all_placed lines bytes vs) ≡ table_rows vs
rows_placed lines bytes [] = refl
rows_placed lines bytes (v ∷ vs) = λ i. cells_placed lines bytes v i ++ rows_placed lines bytes vs i

all_faults_placed : (lines bytes : ℕ) (vs : List (Verdict (List Datum) Reject)) → faults (all_placed lines bytes vs) ≡ map (placed lines bytes) (faults vs)
all_faults_placed lines bytes [] = refl
all_faults_placed lines bytes (v ∷ vs) =
    (λ i. faults_placed lines bytes v i ++ all_faults_placed lines bytes vs i) ∙ sym (map-append (placed lines bytes) (faults_of v) (faults vs))

-- what is read of some things, each with its faults placed
module _ {P : Type 0} (lines bytes : P → ℕ) (read : P → List (Verdict (List Datum) Reject)) where
  pub rows_of_all : (ps : List P) → table_rows (flat_map (λ p. all_placed (lines p) (bytes p) (read p)) ps) ≡ flat_map (λ p. table_rows (read p)) ps
  rows_of_all [] = refl
  rows_of_all (p ∷ ps) =
      flat_map-append cells_of (all_placed (lines p) (bytes p) (read p)) (flat_map (λ q. all_placed (lines q) (bytes q) (read q)) ps)
      ∙ (λ i. rows_placed (lines p) (bytes p) (read p) i ++ rows_of_all ps i)

  pub faults_of_all : (ps : List P) → faults (flat_map (λ p. all_placed (lines p) (bytes p) (read p)) ps) ≡ flat_map (λ p. map (placed (lines p) (bytes p)) (faults (read p))) ps
  faults_of_all [] = refl
  faults_of_all (p ∷ ps) =
      flat_map-append faults_of (all_placed (lines p) (bytes p) (read p)) (flat_map (λ q. all_placed (lines q) (bytes q) (read q)) ps)
      ∙ (λ i. all_faults_placed (lines p) (bytes p) (read p) i ++ faults_of_all ps i)
