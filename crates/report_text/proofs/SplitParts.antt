-- The parts of a file, and the lines of the first and of one more.
use Rattle.std.proofs.Common.{◌≡◌, ℕ, suc, ◌+◌, List, [], ◌∷◌, ◌++◌, length, drop, ap, refl, Some}
use Rattle.std.specs.Prelude.{slice_get}
use Rattle.part_cuts.specs.declared.part.Part.{Part}
use Rattle.part_cuts.specs.declared.tally.Tally.{Tally}
use Rattle.part_cuts.specs.Part.{parts}
use Rattle.report_text.specs.SplitLines.{head_line, head_lines, part_line, part_lines_from}
use Rattle.report_text.proofs.Texts.{drop-get}

-- a part begins at each start
pub parts-length : (starts : List Tally) (end : Tally) → length (parts starts end) ≡ length starts
parts-length [] end = refl
parts-length (t ∷ []) end = refl
parts-length (t ∷ u ∷ starts) end = ap suc (parts-length (u ∷ starts) end)

-- without a start there is no head
pub no_head : (starts : List Tally) (end : Tally) → length starts ≡ 0 → head_lines (parts starts end) ≡ []
no_head [] end none = refl
no_head (t ∷ starts) end none = absurd (let no : ⊥ = cc in no)

-- the head lies before the first part
pub head_before : (all : List Part) (first : Part) → slice_get all 0 ≡ Some first → head_line first ≡ head_lines all
head_before [] first at = absurd (let no : ⊥ = cc in no)
head_before (part ∷ all) first at = let same : first ≡ part = cc in ap head_line same

-- the lines from a part on begin with its line
pub one_more : (all : List Part) (k : ℕ) (part : Part) → slice_get all k ≡ Some part
    → part_lines_from k (drop k all) ≡ part_line k part ++ part_lines_from (k + 1) (drop (k + 1) all)
one_more all k part at = ap (part_lines_from k) (drop-get all k part at)
