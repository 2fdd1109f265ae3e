-- The reading up to the next part, and over its first byte.
use Rattle.std.proofs.Common.{◌≡◌, ℕ, ◌+◌, ◌-◌, ◌<◌, ◌≤◌, ◌&&◌, not, true, false, List, ◌∷◌, length, take, drop, get_or, sym, ◌∙◌, ap, ap₂, subst, arith, ◌⊎◌, inl, inr}
use Rattle.std.specs.Prelude.{nat_lt}
use Rattle.std.proofs.lemmas.Bool.{le-ltb}
use Rattle.std.proofs.lemmas.List.{drop-drop, drop_more, length-drop, length-take-le}
use Rattle.part_cuts.specs.Cut.{is_cut}
use Rattle.part_cuts.specs.NoCut.{NoCut}
use Rattle.part_cuts.specs.Passed.{passed}
use Rattle.part_cuts.specs.Reading.{Reading, begins_part, begun, reading}
use Rattle.part_cuts.proofs.PassedLaws.{begins_passed, passed-nil, passed_early, passed_no_cut}
use Rattle.part_cuts.proofs.ReadingLaws.{goes_on}

early : (r : Reading) (bytes : List ℕ) (quiet : ℕ) → quiet ≤ length bytes → (quiet ≡ 0) ⊎ (r.tally.bytes + quiet ≤ r.due) → passed r (take quiet bytes) ≡ reading r (take quiet bytes) (drop quiet bytes)
early r bytes quiet room (inl is) = subst (λ (n : ℕ). passed r (take n bytes) ≡ reading r (take n bytes) (drop n bytes)) (sym is) (sym (passed-nil r))
early r bytes quiet room (inr le) =
    let all : length (take quiet bytes) ≡ quiet = length-take-le quiet bytes room in
    sym (passed_early r (take quiet bytes) (drop quiet bytes) (omega (arith, all, le)))

module _ (r : Reading) (bytes : List ℕ) (quiet cut : ℕ) (room : quiet + cut ≤ length bytes) where
  -- what is known behind the bytes before the multiple, and behind those before the cut
  abbrev near : Reading
  near = passed r (take quiet bytes)

  abbrev here : Reading
  here = passed near (take cut (drop quiet bytes))

  -- no part begins before the cut
  pub up_to_cut : (quiet ≡ 0) ⊎ (r.tally.bytes + quiet ≤ r.due) → NoCut r.rule.dialect near.state (take cut (drop quiet bytes)) (drop cut (drop quiet bytes)) →
      here ≡ reading r (take (quiet + cut) bytes) (drop (quiet + cut) bytes)
  up_to_cut due none =
      sym (passed_no_cut near (take cut (drop quiet bytes)) (drop cut (drop quiet bytes)) none)
      ∙ goes_on r near bytes quiet cut (early r bytes quiet (omega (arith, room)) due)

  -- one begins there
  pub cut_begins : r.due ≤ r.tally.bytes + quiet → is_cut r.rule.dialect here.state (drop cut (drop quiet bytes)) ≡ true → begins_part here (drop (quiet + cut) bytes) ≡ true
  cut_begins due cuts =
      let front : length (take quiet bytes) ≡ quiet = length-take-le quiet bytes (omega (arith, room)) in
      let left : length (drop quiet bytes) ≡ length bytes - quiet = length-drop quiet bytes in
      let back : length (take cut (drop quiet bytes)) ≡ cut = length-take-le cut (drop quiet bytes) (omega (arith, room, left)) in
      let late : nat_lt here.tally.bytes r.due ≡ false = le-ltb here.tally.bytes r.due (omega (arith, due, front, back)) in
      ap₂ (λ s t. s && not t) (ap (is_cut r.rule.dialect here.state) (sym (drop-drop cut quiet bytes)) ∙ cuts) late

-- the first byte of a part
pub first_byte : (r q : Reading) (bytes : List ℕ) (at : ℕ) → at < length bytes → q ≡ reading r (take at bytes) (drop at bytes) → begins_part q (drop at bytes) ≡ true →
    passed (begun q) (take 1 (drop at bytes)) ≡ reading r (take (at + 1) bytes) (drop (at + 1) bytes)
first_byte r q bytes at below is begins =
    let b : ℕ = get_or bytes at 0 in
    let behind : List ℕ = drop (at + 1) bytes in
    let left : drop at bytes ≡ b ∷ behind = drop_more bytes at 0 below in
    ap (λ (l : List ℕ). passed (begun q) (take 1 l)) left
    ∙ (sym (begins_passed q b behind (ap (begins_part q) (sym left) ∙ begins))
    ∙ (ap (λ (l : List ℕ). reading q (take 1 l) (drop 1 l)) (sym left)
    ∙ goes_on r q bytes at 1 is))
