-- What the taps have seen that were put into slots.
use Rattle.std.proofs.Common.{◌≡◌, List, [], ◌∷◌, map, refl, sym, ap, ◌∙◌, subst}
use Rattle.std.specs.Prelude.{All}
use Rattle.std.proofs.lemmas.Simd.{map-map}
use Rattle.column_taps.specs.declared.slot.Slot.{Slot}
use Rattle.column_taps.specs.declared.slot.Slot.TheVariants.{Live, Over}
use Rattle.column_taps.specs.Seen.{Seen, counted, IsFresh}
use Rattle.column_taps.specs.Course.{Course, going, over_at}
use Rattle.column_taps.specs.Slots.{course_in}
use Rattle.loader_reply.specs.Showing.{seen_in, AreNew}

abbrev seen_of : Course → Seen
seen_of (going seen) = seen
seen_of (over_at row) = counted 0 0

abbrev first_of : Course → List Course → Course
first_of other [] = other
first_of other (c ∷ courses) = c

abbrev rest_of : List Course → List Course
rest_of [] = []
rest_of (c ∷ courses) = courses

module _ {D : Type 0} {H : D → Type 0} (seen : (d : D) → H d → Seen) where
  seen_is : (slots : List (Slot D H)) (taps : List Seen) → map (course_in seen) slots ≡ map going taps → seen_in seen slots ≡ taps
  seen_is [] [] same = refl
  seen_is [] (t ∷ taps) same = absurd (let n : ⊥ = cc in n)
  seen_is (slot ∷ slots) [] same = absurd (let n : ⊥ = cc in n)
  seen_is (Live tap ∷ slots) (t ∷ taps) same =
      let first : seen tap.vtable tap.value ≡ t = ap (λ cs. seen_of (first_of (over_at 0) cs)) same in
      let rest : map (course_in seen) slots ≡ map going taps = ap rest_of same in
      λ i. first i ∷ seen_is slots taps rest i
  seen_is (Over row ∷ slots) (t ∷ taps) same =
      let first : over_at row ≡ going t = ap (first_of (over_at row)) same in
      absurd (let n : ⊥ = cc in n)

  module _ {T : Type 0} (view : T → Seen) (slots : List (Slot D H)) (taps : List T) (same : map (course_in seen) slots ≡ map (λ tap. going (view tap)) taps) where
    -- the slots have what the taps have seen
    pub taps_in : seen_in seen slots ≡ map view taps
    taps_in = seen_is slots (map view taps) (same ∙ sym (map-map going view taps))

    pub are_new : All IsFresh (map view taps) → AreNew seen slots
    are_new fresh = (same ∙ sym (map-map going view taps) ∙ ap (map going) (sym taps_in), subst (All IsFresh) (sym taps_in) fresh)
