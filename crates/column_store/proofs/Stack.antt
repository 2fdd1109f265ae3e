-- Chunks one behind another.
use Rattle.std.proofs.Common.{◌≡◌, ℕ, zero, suc, ◌+◌, ◌-◌, ◌^◌, ◌<◌, ◌≤◌, refl, sym, ap, ◌∙◌, arith, List, [], ◌∷◌, ◌++◌, length, get_or, take, drop, map}
use Rattle.std.specs.Prelude.{slice_get}
use Rattle.std.proofs.lemmas.List.{append-nil, append_assoc, length-append, take-append-drop}
use Rattle.std.proofs.lemmas.List.Elements.{All-append, All-push, All-weaker}
use Rattle.std.proofs.lemmas.Grind.{flat_map-append}
use Rattle.value_types.specs.Datum.{Datum}
use Rattle.column_store.specs.ChunkView.{ChunkView}
use Rattle.column_store.specs.Ends.{begin_of}
use Rattle.column_store.specs.Stacked.{rows_in, ends_from, IsStacked}

-- ---- where chunks begin

abbrev begin_from : ℕ → List ℕ → ℕ → ℕ
begin_from before ends zero = before
begin_from before ends (suc number) = get_or ends number 0

pub begin_of_from : (ends : List ℕ) (number : ℕ) → begin_of ends number ≡ begin_from 0 ends number
begin_of_from ends zero = refl
begin_of_from ends (suc number) = refl

next_begin : (end : ℕ) (ends : List ℕ) (number : ℕ) → get_or (end ∷ ends) number 0 ≡ begin_from end ends number
next_begin end ends zero = refl
next_begin end ends (suc number) = refl

pub length-ends : (before : ℕ) (chunks : List ChunkView) → length (ends_from before chunks) ≡ length chunks
length-ends before [] = refl
length-ends before (chunk ∷ chunks) = ap suc (length-ends (before + length chunk.rows) chunks)

begin_all : (before : ℕ) (chunks : List ChunkView) → begin_from before (ends_from before chunks) (length chunks) ≡ before + length (rows_in chunks)
begin_all before [] = omega arith
begin_all before (chunk ∷ chunks) =
    next_begin (before + length chunk.rows) (ends_from (before + length chunk.rows) chunks) (length chunks)
    ∙ begin_all (before + length chunk.rows) chunks ∙ omega (arith, length-append chunk.rows (rows_in chunks))

begin_low : (before : ℕ) (chunks : List ChunkView) (number : ℕ) → number ≤ length chunks → before ≤ begin_from before (ends_from before chunks) number
begin_low before chunks zero within = omega arith
begin_low before [] (suc number) within = absurd (let no : ⊥ = omega (arith, within) in no)
begin_low before (chunk ∷ chunks) (suc number) within =
    omega (arith, begin_low (before + length chunk.rows) chunks number (omega (arith, within)), next_begin (before + length chunk.rows) (ends_from (before + length chunk.rows) chunks) number)

end_of : (before : ℕ) (chunks : List ChunkView) (number : ℕ) (other : ChunkView) → number < length chunks →
    get_or (ends_from before chunks) number 0 ≡ begin_from before (ends_from before chunks) number + length (get_or chunks number other).rows
end_of before [] number other inside = absurd (let no : ⊥ = omega (arith, inside) in no)
end_of before (chunk ∷ chunks) zero other inside = refl
end_of before (chunk ∷ chunks) (suc number) other inside =
    end_of (before + length chunk.rows) chunks number other (omega (arith, inside))
    ∙ ap (λ n. n + length (get_or chunks number other).rows) (sym (next_begin (before + length chunk.rows) (ends_from (before + length chunk.rows) chunks) number))

pub rows_before_all : (chunks : List ChunkView) (number : ℕ) → number ≡ length chunks → begin_of (ends_from 0 chunks) number ≡ length (rows_in chunks)
rows_before_all chunks number is =
    begin_of_from (ends_from 0 chunks) number ∙ ap (begin_from 0 (ends_from 0 chunks)) is ∙ begin_all 0 chunks ∙ omega arith

pub end_of_chunk : (chunks : List ChunkView) (number : ℕ) (other : ChunkView) → number < length chunks →
    get_or (ends_from 0 chunks) number 0 ≡ begin_of (ends_from 0 chunks) number + length (get_or chunks number other).rows
end_of_chunk chunks number other inside =
    end_of 0 chunks number other inside ∙ ap (λ n. n + length (get_or chunks number other).rows) (sym (begin_of_from (ends_from 0 chunks) number))

-- ---- which row is where

slice_get-append_left : {A : Type 0} (xs ys : List A) (place : ℕ) → place < length xs → slice_get (xs ++ ys) place ≡ slice_get xs place
slice_get-append_left [] ys place below = absurd (let no : ⊥ = omega (arith, below) in no)
slice_get-append_left (x ∷ xs) ys zero below = refl
slice_get-append_left (x ∷ xs) ys (suc place) below = slice_get-append_left xs ys place (omega (arith, below))

slice_get-append_right : {A : Type 0} (xs ys : List A) (place : ℕ) → slice_get (xs ++ ys) (length xs + place) ≡ slice_get ys place
slice_get-append_right [] ys place = let same : 0 + place ≡ place = omega arith in ap (slice_get ys) same
slice_get-append_right (x ∷ xs) ys place =
    let next : suc (length xs) + place ≡ suc (length xs + place) = omega arith in
    ap (slice_get (x ∷ (xs ++ ys))) next ∙ slice_get-append_right xs ys place

row_in_chunk : (before : ℕ) (chunks : List ChunkView) (rest : List (List Datum)) (number place : ℕ) (other : ChunkView) → number < length chunks → place < length (get_or chunks number other).rows →
    slice_get (rows_in chunks ++ rest) (begin_from before (ends_from before chunks) number + place - before) ≡ slice_get (get_or chunks number other).rows place
row_in_chunk before [] rest number place other inside below = absurd (let no : ⊥ = omega (arith, inside) in no)
row_in_chunk before (chunk ∷ chunks) rest zero place other inside below =
    let at : before + place - before ≡ place = omega arith in
    ap (slice_get ((chunk.rows ++ rows_in chunks) ++ rest)) at
    ∙ slice_get-append_left (chunk.rows ++ rows_in chunks) rest place (omega (arith, below, length-append chunk.rows (rows_in chunks)))
    ∙ slice_get-append_left chunk.rows (rows_in chunks) place below
row_in_chunk before (chunk ∷ chunks) rest (suc number) place other inside below =
    let end : ℕ = before + length chunk.rows in
    let begin : ℕ = begin_from end (ends_from end chunks) number in
    let low : end ≤ begin = begin_low end chunks number (omega (arith, inside)) in
    let at : get_or (end ∷ ends_from end chunks) number 0 + place - before ≡ length chunk.rows + (begin + place - end) = omega (arith, low, next_begin end (ends_from end chunks) number) in
    (λ i. slice_get (append_assoc chunk.rows (rows_in chunks) rest i) (at i))
    ∙ slice_get-append_right chunk.rows (rows_in chunks ++ rest) (begin + place - end)
    ∙ row_in_chunk end chunks rest number place other (omega (arith, inside)) below

pub row_of_chunk : (chunks : List ChunkView) (rest : List (List Datum)) (number row place : ℕ) (other : ChunkView) → number < length chunks → place < length (get_or chunks number other).rows →
    row ≡ begin_of (ends_from 0 chunks) number + place → slice_get (rows_in chunks ++ rest) row ≡ slice_get (get_or chunks number other).rows place
row_of_chunk chunks rest number row place other inside below is =
    let at : row ≡ begin_from 0 (ends_from 0 chunks) number + place - 0 = omega (arith, is, begin_of_from (ends_from 0 chunks) number) in
    ap (slice_get (rows_in chunks ++ rest)) at ∙ row_in_chunk 0 chunks rest number place other inside below

pub row_of_last : (chunks : List ChunkView) (rest : List (List Datum)) (row place : ℕ) → row ≡ length (rows_in chunks) + place → slice_get (rows_in chunks ++ rest) row ≡ slice_get rest place
row_of_last chunks rest row place is = ap (slice_get (rows_in chunks ++ rest)) is ∙ slice_get-append_right (rows_in chunks) rest place

-- the chunk of this number holds a row, so many rows behind its begin, or the last one does
module _ (chunks : List ChunkView) (rest : List (List Datum)) (ends : List ℕ) (placed : ends ≡ ends_from 0 chunks) (number row low : ℕ) (low_is : low ≡ begin_of ends number) (behind : begin_of ends number ≤ row) where
  begin : low ≡ begin_of (ends_from 0 chunks) number
  begin = low_is ∙ ap (λ es. begin_of es number) placed

  module _ (inside : number < length chunks) (chunk : ChunkView) (at : chunk ≡ get_or chunks number chunk) (before : row < get_or ends number 0) where
    pub within_chunk : row - low < length chunk.rows
    within_chunk =
        let end : get_or ends number 0 ≡ begin_of (ends_from 0 chunks) number + length (get_or chunks number chunk).rows = ap (λ es. get_or es number 0) placed ∙ end_of_chunk chunks number chunk inside in
        omega (arith, behind, begin, before, ap (λ (c : ChunkView). length c.rows) at)

    pub row_there : slice_get (rows_in chunks ++ rest) row ≡ slice_get chunk.rows (row - low)
    row_there =
        let same : length chunk.rows ≡ length (get_or chunks number chunk).rows = ap (λ (c : ChunkView). length c.rows) at in
        row_of_chunk chunks rest number row (row - low) chunk inside (omega (arith, within_chunk, same)) (omega (arith, begin, low_is, behind))
        ∙ sym (ap (λ (c : ChunkView). slice_get c.rows (row - low)) at)

  module _ (last : number ≡ length chunks) where
    all : low ≡ length (rows_in chunks)
    all = begin ∙ rows_before_all chunks number last

    pub within_last : row < length (rows_in chunks ++ rest) → row - low < length rest
    within_last below = omega (arith, all, low_is, behind, below, length-append (rows_in chunks) rest)

    pub row_in_last : slice_get (rows_in chunks ++ rest) row ≡ slice_get rest (row - low)
    row_in_last = row_of_last chunks rest row (row - low) (omega (arith, all, low_is, behind))

-- ---- chunks that are joined

pub rows_in-append : (chunks more : List ChunkView) → rows_in (chunks ++ more) ≡ rows_in chunks ++ rows_in more
rows_in-append chunks more = flat_map-append (λ (chunk : ChunkView). chunk.rows) chunks more

-- the first chunks have no more rows than all
pub rows_in_front : (count : ℕ) (chunks : List ChunkView) → length (rows_in (take count chunks)) ≤ length (rows_in chunks)
rows_in_front count chunks =
    omega (arith, length-append (rows_in (take count chunks)) (rows_in (drop count chunks)), ap length (sym (rows_in-append (take count chunks) (drop count chunks)) ∙ ap rows_in (take-append-drop count chunks)))

end_bound : (before : ℕ) (chunks : List ChunkView) (number : ℕ) → number < length chunks → get_or (ends_from before chunks) number 0 ≤ before + length (rows_in chunks)
end_bound before [] number inside = absurd (let no : ⊥ = omega (arith, inside) in no)
end_bound before (chunk ∷ chunks) zero inside = omega (arith, length-append chunk.rows (rows_in chunks))
end_bound before (chunk ∷ chunks) (suc number) inside =
    omega (arith, end_bound (before + length chunk.rows) chunks number (omega (arith, inside)), length-append chunk.rows (rows_in chunks))

pub end_of_table : (chunks : List ChunkView) (number : ℕ) → number < length chunks → get_or (ends_from 0 chunks) number 0 ≤ length (rows_in chunks)
end_of_table chunks number inside = omega (arith, end_bound 0 chunks number inside)

ends_from-append : (before : ℕ) (chunks more : List ChunkView) → ends_from before (chunks ++ more) ≡ ends_from before chunks ++ ends_from (before + length (rows_in chunks)) more
ends_from-append before [] more = let same : before ≡ before + 0 = omega arith in ap (λ b. ends_from b more) same
ends_from-append before (chunk ∷ chunks) more =
    let same : before + length chunk.rows + length (rows_in chunks) ≡ before + length (chunk.rows ++ rows_in chunks) = omega (arith, length-append chunk.rows (rows_in chunks)) in
    ap (λ es. (before + length chunk.rows) ∷ es) (ends_from-append (before + length chunk.rows) chunks more)
    ∙ ap (λ b. (before + length chunk.rows) ∷ (ends_from (before + length chunk.rows) chunks ++ ends_from b more)) same

ends_from-shifted : (base before : ℕ) (chunks : List ChunkView) → ends_from (base + before) chunks ≡ map (λ end. base + end) (ends_from before chunks)
ends_from-shifted base before [] = refl
ends_from-shifted base before (chunk ∷ chunks) =
    let next : base + before + length chunk.rows ≡ base + (before + length chunk.rows) = omega arith in
    λ i. next i ∷ (ap (λ b. ends_from b chunks) next ∙ ends_from-shifted base (before + length chunk.rows) chunks) i

-- a table behind another: its chunks stand behind the last one of that
pub stacked_join : (xs cs : List ChunkView) (es es' : List ℕ) (last last' : ChunkView) (before : ℕ) → IsStacked xs es last → IsStacked cs es' last' → last.types ≡ last'.types →
    before ≡ length (rows_in xs ++ last.rows) → before + length (rows_in cs ++ last'.rows) + last'.spare < 2 ^ 64 → IsStacked ((xs ++ last ∷ []) ++ cs) (es ++ before ∷ map (λ end. before + end) es') last'
stacked_join xs cs es es' last last' before old other same is fits = record {
  types = All-append (λ (chunk : ChunkView). chunk.types ≡ last'.types) (xs ++ last ∷ []) cs
      (All-push (λ (chunk : ChunkView). chunk.types ≡ last'.types) xs last (All-weaker (λ (chunk : ChunkView). chunk.types ≡ last.types) (λ (chunk : ChunkView). chunk.types ≡ last'.types) (λ _ e. e ∙ same) xs old.types) same) other.types;
  whole = All-append (λ (chunk : ChunkView). chunk.unfinished ≡ []) (xs ++ last ∷ []) cs (All-push (λ (chunk : ChunkView). chunk.unfinished ≡ []) xs last old.whole old.last_whole) other.whole;
  last_whole = other.last_whole;
  placed =
      let count : length (rows_in xs) + length last.rows ≡ before = omega (arith, is, length-append (rows_in xs) last.rows) in
      let end : 0 + length (rows_in xs) + length last.rows ≡ before = omega (arith, count) in
      let zero_base : before + 0 ≡ before = omega arith in
      let all : length (rows_in (xs ++ last ∷ [])) ≡ before =
      ap length (rows_in-append xs (last ∷ [])) ∙ length-append (rows_in xs) (last.rows ++ []) ∙ ap (λ rows. length (rows_in xs) + length rows) (append-nil last.rows) ∙ count in
      let from : 0 + length (rows_in (xs ++ last ∷ [])) ≡ before = omega (arith, all) in
      let first : ends_from 0 (xs ++ last ∷ []) ≡ es ++ before ∷ [] =
      ends_from-append 0 xs (last ∷ []) ∙ (λ i. sym old.placed i ++ end i ∷ []) in
      sym (ends_from-append 0 (xs ++ last ∷ []) cs
      ∙ (λ i. first i ++ ends_from (from i) cs)
      ∙ ap (λ b. (es ++ before ∷ []) ++ ends_from b cs) (sym zero_base)
      ∙ ap (λ ends. (es ++ before ∷ []) ++ ends) (ends_from-shifted before 0 cs ∙ ap (map (λ end. before + end)) (sym other.placed))
      ∙ append_assoc es (before ∷ []) (map (λ end. before + end) es'));
  countable =
      let rows : length (rows_in ((xs ++ last ∷ []) ++ cs)) ≡ before + length (rows_in cs) =
      ap length (rows_in-append (xs ++ last ∷ []) cs) ∙ length-append (rows_in (xs ++ last ∷ [])) (rows_in cs)
      ∙ ap (λ n. n + length (rows_in cs)) (ap length (rows_in-append xs (last ∷ [])) ∙ length-append (rows_in xs) (last.rows ++ []) ∙ ap (λ r. length (rows_in xs) + length r) (append-nil last.rows) ∙ omega (arith, is, length-append (rows_in xs) last.rows)) in
      omega (arith, fits, length-append (rows_in ((xs ++ last ∷ []) ++ cs)) last'.rows, length-append (rows_in cs) last'.rows);
}
