-- Places in their order, and the parts between them.
use Rattle.std.proofs.Common.{◌≡◌, ℕ, zero, suc, ◌+◌, ◌<◌, List, [], ◌∷◌, ◌++◌, length, get_or, refl, ◌∙◌, ap, subst, arith}
use Rattle.std.specs.Prelude.{Some, slice_get}
use Rattle.part_cuts.specs.declared.tally.Tally.{Tally}
use Rattle.part_cuts.specs.Part.{part_between, parts}
use Rattle.part_cuts.specs.Within.{Ascends, IsBefore}

same_place : (t : Tally) → IsBefore t t
same_place t = record { bytes = omega arith; lines = omega arith; rows = omega arith }

further : (t u v : Tally) → IsBefore t u → IsBefore u v → IsBefore t v
further t u v tu uv = record { bytes = omega (arith, tu.bytes, uv.bytes); lines = omega (arith, tu.lines, uv.lines); rows = omega (arith, tu.rows, uv.rows) }

-- the end moves on
pub ascends_on : (starts : List Tally) (end later : Tally) → Ascends starts end → IsBefore end later → Ascends starts later
ascends_on [] end later all on = tt
ascends_on (t ∷ []) end later all on = further t end later all on
ascends_on (t ∷ u ∷ starts) end later all on = (all.0, ascends_on (u ∷ starts) end later all.1 on)

-- the end becomes a start
pub ascends_more : (starts : List Tally) (end : Tally) → Ascends starts end → Ascends (starts ++ end ∷ []) end
ascends_more [] end all = same_place end
ascends_more (t ∷ []) end all = (all, same_place end)
ascends_more (t ∷ u ∷ starts) end all = (all.0, ascends_more (u ∷ starts) end all.1)

ascends_at : (starts : List Tally) (end : Tally) (k : ℕ) (d : Tally) → Ascends starts end → k < length starts → IsBefore (get_or starts k d) (get_or starts (suc k) end)
ascends_at [] end k d all below = absurd (let no : ⊥ = omega (arith, below) in no)
ascends_at (t ∷ []) end zero d all below = all
ascends_at (t ∷ []) end (suc k) d all below = absurd (let h : suc k < 1 = below in let no : ⊥ = omega (arith, h) in no)
ascends_at (t ∷ u ∷ starts) end zero d all below = all.0
ascends_at (t ∷ u ∷ starts) end (suc k) d all below = ascends_at (u ∷ starts) end k d all.1 (let h : suc k < suc (length (u ∷ starts)) = below in omega (arith, h))

-- each start and the place behind it
pub ascends_next : (starts : List Tally) (end : Tally) (k : ℕ) (d : Tally) → Ascends starts end → k < length starts → IsBefore (get_or starts k d) (get_or starts (k + 1) end)
ascends_next starts end k d all below =
    let same : suc k ≡ k + 1 = omega arith in
    subst (λ (n : ℕ). IsBefore (get_or starts k d) (get_or starts n end)) same (ascends_at starts end k d all below)

-- each start and the end
pub start_before_end : (starts : List Tally) (end : Tally) (k : ℕ) (d : Tally) → Ascends starts end → k < length starts → IsBefore (get_or starts k d) end
start_before_end [] end k d all below = absurd (let no : ⊥ = omega (arith, below) in no)
start_before_end (t ∷ []) end zero d all below = all
start_before_end (t ∷ []) end (suc k) d all below = absurd (let h : suc k < 1 = below in let no : ⊥ = omega (arith, h) in no)
start_before_end (t ∷ u ∷ starts) end zero d all below = further t u end all.0 (start_before_end (u ∷ starts) end 0 u all.1 (omega arith))
start_before_end (t ∷ u ∷ starts) end (suc k) d all below = start_before_end (u ∷ starts) end k d all.1 (let h : suc k < suc (length (u ∷ starts)) = below in omega (arith, h))

nth_part : (starts : List Tally) (end : Tally) (k : ℕ) (d : Tally) → k < length starts → slice_get (parts starts end) k ≡ Some (part_between (get_or starts k d) (get_or starts (suc k) end))
nth_part [] end k d below = absurd (let no : ⊥ = omega (arith, below) in no)
nth_part (t ∷ []) end zero d below = refl
nth_part (t ∷ []) end (suc k) d below = absurd (let h : suc k < 1 = below in let no : ⊥ = omega (arith, h) in no)
nth_part (t ∷ u ∷ starts) end zero d below = refl
nth_part (t ∷ u ∷ starts) end (suc k) d below = nth_part (u ∷ starts) end k d (let h : suc k < suc (length (u ∷ starts)) = below in omega (arith, h))

-- each part goes from its start to the place behind it
pub part_at : (starts : List Tally) (end : Tally) (k : ℕ) (d : Tally) → k < length starts → slice_get (parts starts end) k ≡ Some (part_between (get_or starts k d) (get_or starts (k + 1) end))
part_at starts end k d below =
    let same : suc k ≡ k + 1 = omega arith in
    nth_part starts end k d below ∙ ap (λ (n : ℕ). Some (part_between (get_or starts k d) (get_or starts n end))) same
