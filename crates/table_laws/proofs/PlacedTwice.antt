-- Faults that are placed twice, or where they are.
use Rattle.std.proofs.Common.{◌≡◌, ℕ, ◌+◌, List, [], ◌∷◌, map, refl, ap, ◌∙◌, arith}
use Rattle.value_types.specs.Datum.{Datum}
use Rattle.reject_book.specs.declared.reject.Reject.{Reject}
use Rattle.reject_book.specs.Verdict.{Verdict, Blank, Good, Faulty, map_faults}
use Rattle.table_laws.specs.PartLaws.{placed, all_placed}

placed_twice : (lines bytes more_lines more_bytes : ℕ) (r : Reject) → placed lines bytes (placed more_lines more_bytes r) ≡ placed (lines + more_lines) (bytes + more_bytes) r
placed_twice lines bytes more_lines more_bytes r =
    let line : lines + (more_lines + r.line) ≡ lines + more_lines + r.line = omega arith in
    let first : bytes + (more_bytes + r.line_byte_position) ≡ bytes + more_bytes + r.line_byte_position = omega arith in
    let faulty : bytes + (more_bytes + r.byte_position) ≡ bytes + more_bytes + r.byte_position = omega arith in
    λ i. record r { line = line i; line_byte_position = first i; byte_position = faulty i }

placed_here : (r : Reject) → placed 0 0 r ≡ r
placed_here r =
    let line : 0 + r.line ≡ r.line = omega arith in
    let first : 0 + r.line_byte_position ≡ r.line_byte_position = omega arith in
    let faulty : 0 + r.byte_position ≡ r.byte_position = omega arith in
    λ i. record r { line = line i; line_byte_position = first i; byte_position = faulty i }

-- a change of each fault
each_fault : (f g : Reject → Reject) → ((r : Reject) → f r ≡ g r) → (rs : List Reject) → map f rs ≡ map g rs
each_fault f g same [] = refl
each_fault f g same (r ∷ rs) = λ i. same r i ∷ each_fault f g same rs i

twice_map : (f g : Reject → Reject) (rs : List Reject) → map f (map g rs) ≡ map (λ r. f (g r)) rs
twice_map f g [] = refl
twice_map f g (r ∷ rs) = ap (λ rest. f (g r) ∷ rest) (twice_map f g rs)

same_map : (rs : List Reject) → map (λ r. r) rs ≡ rs
same_map [] = refl
same_map (r ∷ rs) = ap (λ rest. r ∷ rest) (same_map rs)

pub all_placed_twice : (lines bytes more_lines more_bytes : ℕ) (vs : List (Verdict (List Datum) Reject)) →
    all_placed lines bytes (all_placed more_lines more_bytes vs) ≡ all_placed (lines + more_lines) (bytes + more_bytes) vs
all_placed_twice lines bytes more_lines more_bytes [] = refl
all_placed_twice lines bytes more_lines more_bytes (v ∷ vs) = λ i. one v i ∷ all_placed_twice lines bytes more_lines more_bytes vs i where
  one : (v : Verdict (List Datum) Reject) → map_faults (placed lines bytes) (map_faults (placed more_lines more_bytes) v) ≡ map_faults (placed (lines + more_lines) (bytes + more_bytes)) v
  one Blank = refl
  one (Good cells) = refl
  one (Faulty rs) = ap Faulty (twice_map (placed lines bytes) (placed more_lines more_bytes) rs ∙ each_fault _ _ (placed_twice lines bytes more_lines more_bytes) rs)

pub all_placed_here : (vs : List (Verdict (List Datum) Reject)) → all_placed 0 0 vs ≡ vs
all_placed_here [] = refl
all_placed_here (v ∷ vs) = λ i. one v i ∷ all_placed_here vs i where
  one : (v : Verdict (List Datum) Reject) → map_faults (placed 0 0) v ≡ v
  one Blank = refl
  one (Good cells) = refl
  one (Faulty rs) = ap Faulty (each_fault (placed 0 0) (λ r. r) placed_here rs ∙ same_map rs)
