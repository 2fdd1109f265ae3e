use Rattle.std.proofs.Common.{◌≡◌, ℕ, ◌+◌, ◌-◌, arith, length-drop, List, [], take, drop, length, Option, Some, None, sym, ◌∙◌, ap}
use Rattle.std.specs.Prelude.{unwrap_or}
use Rattle.std.specs.Option.{option_map}
use Rattle.std.specs.Path.{rfind_below, rsplit_once}
use Rattle.std.proofs.lemmas.List.{take_all}
use Rattle.load_options.specs.ColumnTypes.{cut_pair}
use Rattle.load_options.proofs.column_types.cut_pair.Goals as goal

-- a pair by the place of its last colon
by_place : (pair : List ℕ) (o : Option ℕ) → o ≡ rfind_below 58 pair (length pair) → unwrap_or (option_map (λ i. (take i pair, drop (i + 1) pair)) o) (pair, []) ≡ cut_pair pair
unfolding rsplit_once
by_place pair o is = ap (λ p. unwrap_or (option_map (λ i. (take i pair, drop (i + 1) pair)) p) (pair, [])) is

pub returns-in-Some : goal.returns-in-Some
returns-in-Some c =
    let pair = c.args.pair.now in
    ap (λ (t : List ℕ). (take c.in-Some.at pair, t)) (take_all (length pair - (c.in-Some.at + 1)) (drop (c.in-Some.at + 1) pair) (omega (arith, length-drop (c.in-Some.at + 1) pair)))
    ∙ by_place pair (Some c.in-Some.at) (sym c.in-Some.is ∙ c.last_colon.ensures.value)

pub returns-in-None : goal.returns-in-None
returns-in-None c = ap (λ (t : List ℕ). (c.args.pair.now, t)) c.as_slice.ensures ∙ by_place c.args.pair.now None (sym c.in-None.is ∙ c.last_colon.ensures.value)
