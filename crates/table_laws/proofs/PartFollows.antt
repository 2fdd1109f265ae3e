-- What stands behind the head where a part is loaded alone: the part goes on as the data do.
use Rattle.std.proofs.Common.{◌≡◌, ◌≢◌, ℕ, ◌&&◌, not, Bool, true, false, List, [], ◌∷◌, ◌++◌, length, refl, sym, ◌∙◌, ap, ◌⊎◌, inl, inr, drop, append_assoc, subst}
use Rattle.std.specs.Prelude.{Option, None, flat_map, nat_eq}
use Rattle.std.specs.List.{AllByRecursion, last_or, starts_with}
use Rattle.std.proofs.lemmas.Bool.{not-true, false_from_ne_true}
use Rattle.std.proofs.lemmas.Bool.Decides.{Decides-eqb}
use Rattle.std.proofs.lemmas.List.{append-nil}
use Rattle.std.proofs.lemmas.Slice.Eq.{starts_is}
use Rattle.byte_classes.specs.ByteOrderMark.{byte_order_mark}
use Rattle.byte_classes.specs.Class.{class_of}
use Rattle.byte_classes.specs.LineEnds.{line_ends}
use Rattle.quote_automaton.specs.declared.state.State.{State}
use Rattle.quote_automaton.specs.declared.state.State.TheVariants.{RowStart}
use Rattle.quote_automaton.specs.Automaton.{state_after}
use Rattle.part_cuts.specs.declared.cut_rule.CutRule.{CutRule}
use Rattle.part_cuts.specs.declared.part.Part.{Part}
use Rattle.part_cuts.specs.declared.tally.Tally.{Tally}
use Rattle.part_cuts.specs.Cut.{begins_filled, is_cut}
use Rattle.part_cuts.specs.Laws.{tally_of}
use Rattle.part_cuts.specs.Part.{part_between, parts}
use Rattle.csv_sniffer.proofs.LineStarts.{before_none, before_other}
use Rattle.csv_sniffer.proofs.LineStarts as lines
use Rattle.table_laws.specs.PartLaws.{part_bytes}
use Rattle.table_laws.proofs.CutReading.{IsFilledRow, filled_at_cut}
use Rattle.table_laws.proofs.Divisions.{Divides, last, more, parts_by_first}
use Rattle.table_laws.proofs.HeadLines.{Follows}
use Rattle.table_laws.proofs.PartReadings.{bytes_between}

-- bytes that go on behind a head as its data do, and before which no byte order mark is made
pub record GoesOn (head text other : List ℕ) : Type 0 where
  pub follows : Follows (last_or None head) text other
  pub bare : head ≡ [] → starts_with nat_eq other byte_order_mark ≡ false

-- fewer bytes begin no mark
pub front_bare : (xs ys : List ℕ) → starts_with nat_eq (xs ++ ys) byte_order_mark ≡ false → starts_with nat_eq xs byte_order_mark ≡ false
front_bare xs ys none = false_from_ne_true _ (λ e.
    let whole : xs ≡ 0xEF ∷ 0xBB ∷ 0xBF ∷ drop 3 xs = (starts_is Decides-eqb xs byte_order_mark (starts_with nat_eq xs byte_order_mark) refl).0 e in
    let marked : starts_with nat_eq (xs ++ ys) byte_order_mark ≡ true = ap (λ l. starts_with nat_eq (l ++ ys) byte_order_mark) whole in
    let no : false ≡ true = sym none ∙ marked in
    let wrong : ⊥ = cc in wrong)

-- a front of bytes that part no pair parts none
pub front_apart : (o : Option ℕ) (xs ys : List ℕ) → lines.parts o (xs ++ ys) ≡ false → lines.parts o xs ≡ false
front_apart o [] ys apart = before_none o
front_apart o (x ∷ xs) ys apart = apart

some_or_none : (xs ys text : List ℕ) → (xs ++ ys ≢ [] → text ≢ []) → (xs ≡ []) ⊎ (text ≢ [])
some_or_none [] ys text h = inl refl
some_or_none (x ∷ xs) ys text h = inr (h (λ e. let wrong : ⊥ = cc in wrong))

-- a front of the data
pub goes_at_start : (head text xs ys : List ℕ) → lines.parts (last_or None head) text ≡ false → (head ≡ [] → starts_with nat_eq text byte_order_mark ≡ false) → text ≡ xs ++ ys → GoesOn head text xs
goes_at_start head text xs ys apart bare is = record {
  follows = record {
    apart = front_apart (last_or None head) xs ys (ap (lines.parts (last_or None head)) (sym is) ∙ apart);
    some = some_or_none xs ys text (λ filled none. filled (sym is ∙ none));
  };
  bare = λ none. front_bare xs ys (ap (λ l. starts_with nat_eq l byte_order_mark) (sym is) ∙ bare none);
}

and_second : (a b : Bool) → (a && b) ≡ true → b ≡ true
and_second true b h = h
and_second false b h = absurd (let no : ⊥ = cc in no)

bare_at_cut : (rule : CutRule) (s : State) (back : List ℕ) → is_cut rule.dialect s back ≡ true → starts_with nat_eq back byte_order_mark ≡ false
bare_at_cut rule s [] cut = absurd (let no : ⊥ = cc in no)
bare_at_cut rule s (b ∷ back) cut = not-true (starts_with nat_eq (b ∷ back) byte_order_mark) (and_second (begins_filled s (class_of rule.dialect b)) (not (starts_with nat_eq (b ∷ back) byte_order_mark)) cut)

-- a front of what stands behind a cut
goes_at_cut : (rule : CutRule) (s : State) (head text back xs ys : List ℕ) → is_cut rule.dialect s back ≡ true → (back ≢ [] → text ≢ []) → back ≡ xs ++ ys → GoesOn head text xs
goes_at_cut rule s head text back xs ys cut filled is =
    let f : IsFilledRow rule.dialect s back = filled_at_cut rule.dialect s back cut in
    record {
      follows = record {
        apart = front_apart (last_or None head) xs ys (ap (lines.parts (last_or None head)) (sym is ∙ f.is) ∙ before_other (last_or None head) f.b f.rest f.filled);
        some = some_or_none xs ys text (λ some. filled (λ none. some (sym is ∙ none)));
      };
      bare = λ none. front_bare xs ys (ap (λ l. starts_with nat_eq l byte_order_mark) (sym is) ∙ bare_at_cut rule s back cut);
    }

behind_some : (front back text : List ℕ) → text ≡ front ++ back → back ≢ [] → text ≢ []
behind_some [] back text is some none = some (sym is ∙ none)
behind_some (x ∷ front) back text is some none = let no : x ∷ (front ++ back) ≡ [] = sym is ∙ none in let wrong : ⊥ = cc in wrong

-- the bytes of each part go on behind the head
module _ (rule : CutRule) (head text : List ℕ) where
  abbrev begun : List ℕ → Tally
  begun = tally_of rule (length head) (line_ends None head)

  abbrev pub PartGoesOn : Part → Type 0
  PartGoesOn part = GoesOn head text (part_bytes (head ++ text) part)

  one_goes : (front piece back : List ℕ) → text ≡ front ++ (piece ++ back) → GoesOn head text piece → PartGoesOn (part_between (begun front) (begun (front ++ piece)))
  one_goes front piece back is goes = subst (GoesOn head text) (sym (bytes_between rule head text front piece back is)) goes

  pub parts_go_on : (front rest : List ℕ) (starts : List Tally) → Divides rule (length head) (line_ends None head) front rest starts → text ≡ front ++ rest →
      ((xs ys : List ℕ) → rest ≡ xs ++ ys → GoesOn head text xs) → AllByRecursion PartGoesOn (parts starts (begun text))
  parts_go_on front rest starts (last f back) is goes =
      let whole : text ≡ f ++ (back ++ []) = is ∙ ap (λ l. f ++ l) (sym (append-nil back)) in
      (subst (λ l. PartGoesOn (part_between (begun f) (begun l))) (sym is) (one_goes f back [] whole (goes back [] (sym (append-nil back)))), tt)
  parts_go_on front rest starts (more f piece back later cut divides) is goes =
      let on = parts_go_on (f ++ piece) back later divides (is ∙ sym (append_assoc f piece back))
      (λ xs ys at. goes_at_cut rule (state_after rule.dialect RowStart piece) head text back xs ys cut (behind_some (f ++ piece) back text (is ∙ sym (append_assoc f piece back))) at) in
      subst (AllByRecursion PartGoesOn) (sym (parts_by_first rule (length head) (line_ends None head) (begun f) (begun text) (f ++ piece) back later divides)) (one_goes f piece back is (goes piece back refl), on)

-- two readings of parts that agree on each of them
pub flat_alike : {P V : Type 0} (Holds : P → Type 0) (f g : P → List V) → ((p : P) → Holds p → f p ≡ g p) → (ps : List P) → AllByRecursion Holds ps → flat_map f ps ≡ flat_map g ps
flat_alike Holds f g same [] all = refl
flat_alike Holds f g same (p ∷ ps) all = λ i. same p all.0 i ++ flat_alike Holds f g same ps all.1 i
