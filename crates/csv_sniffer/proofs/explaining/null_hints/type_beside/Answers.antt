use Rattle.std.proofs.Common.{◌≡◌, ℕ, suc, ◌-◌, ◌<◌, ◌≤◌, cond, false, true, List, ◌∷◌, drop, drop-cons, length, get_or, map, sym, ap, ◌∙◌, arith}
use Rattle.std.specs.Prelude.{filter, not}
use Rattle.load_options.specs.declared.options.Options.{Options}
use Rattle.csv_sniffer.specs.Hints.{is_such_null}
use Rattle.value_types.specs.PossibleTypes.{first_possible, narrowed, possible_types}
use Rattle.csv_sniffer.specs.declared.explaining.entries.Entry.{Entry}
use Rattle.csv_sniffer.proofs.PossibleLaws.{first_possible-is, possible-cons}
use Rattle.csv_sniffer.proofs.explaining.null_hints.type_beside.Goals as goal

module _ (o : Options) (text : List ℕ) where
  abbrev kept : List Entry → List Entry
  kept es = filter (λ e. not (is_such_null o text e)) es

  abbrev values : List Entry → List (List ℕ)
  values es = map (λ (e : Entry). e.value) (kept es)

  module _ (es : List Entry) (place : ℕ) (e : Entry) (some : 0 < place) (high : place ≤ length es) (is : e ≡ get_or es (place - 1) e) where
    here : drop (place - 1) es ≡ e ∷ drop place es
    here =
        drop-cons es (place - 1) e (omega (arith, some, high)) ∙ ap (λ x. x ∷ drop (suc (place - 1)) es) (sym is)
        ∙ ap (λ n. e ∷ drop n es) (let next : suc (place - 1) ≡ place = omega (arith, some) in next)

    pub value_kept : is_such_null o text e ≡ false → values (drop (place - 1) es) ≡ e.value ∷ values (drop place es)
    value_kept null = ap values here ∙ ap (λ t. map (λ (x : Entry). x.value) (cond (not t) (e ∷ kept (drop place es)) (kept (drop place es)))) null

    pub value_left_out : is_such_null o text e ≡ true → values (drop (place - 1) es) ≡ values (drop place es)
    value_left_out null = ap values here ∙ ap (λ t. map (λ (x : Entry). x.value) (cond (not t) (e ∷ kept (drop place es)) (kept (drop place es)))) null

pub loop-place-preserved-then-not-is_such_null : goal.loop-place-preserved-then-not-is_such_null
loop-place-preserved-then-not-is_such_null c =
    let o = c.args.options.now in
    let text : List ℕ = c.args.text.now in
    let es : List Entry = c.args.entries.now in
    let place = c.loop-place.place in
    let e = c.index-entries-place.result in
    let some : 0 < place = omega (arith, c.loop-place-test.true) in
    let kept_on = value_kept o text es place e some c.loop-place.invariant.high c.index-entries-place.is (sym c.is_such_null.ensures ∙ c.if-not-is_such_null.true) in record {
      high = omega (arith, c.loop-place.invariant.high);
      possible = c.narrow.ensures ∙ (λ i. narrowed (c.loop-place.invariant.possible i) (c.as_slice.ensures i))
          ∙ sym (possible-cons e.value (values o text (drop place es))) ∙ ap possible_types (sym kept_on);
    }

pub loop-place-preserved : goal.loop-place-preserved
loop-place-preserved c =
    let o = c.args.options.now in
    let text : List ℕ = c.args.text.now in
    let es : List Entry = c.args.entries.now in
    let place = c.loop-place.place in
    let e = c.index-entries-place.result in
    let some : 0 < place = omega (arith, c.loop-place-test.true) in
    let left_out = value_left_out o text es place e some c.loop-place.invariant.high c.index-entries-place.is (sym c.is_such_null.ensures ∙ c.if-not-is_such_null.false) in record {
      high = omega (arith, c.loop-place.invariant.high);
      possible = c.loop-place.invariant.possible ∙ ap possible_types (sym left_out);
    }

pub returns : goal.returns
returns c =
    let o = c.args.options.now in
    let text : List ℕ = c.args.text.now in
    let es : List Entry = c.args.entries.now in
    let first : c.loop-place.place ≡ 0 = omega (arith, c.loop-place-test.false) in
    c.first.ensures ∙ ap first_possible (c.loop-place.invariant.possible ∙ ap (λ n. possible_types (values o text (drop n es))) first)
    ∙ first_possible-is (values o text es)
