use Rattle.std.proofs.Common.{◌≡◌, ℕ, List, length, not, arith, sym, ap, ◌∙◌}
use Rattle.std.specs.Option.{is_some}
use Rattle.csv_sniffer.specs.NamedTypes.{place_of}
use Rattle.csv_sniffer.proofs.NamedTypes.{found_go_on, found_stop, found_in_none}
use Rattle.csv_sniffer.proofs.named_types.missing_name.Goals as goal

pub returns-then-len-eq0 : goal.returns-then-len-eq0
returns-then-len-eq0 c =
    let none : length c.args.given.now.names ≡ 0 = let test = c.if-len-eq0.true in let many = c.len.ensures in omega (arith, test, many) in
    found_in_none (λ (name : List ℕ). not (is_some (place_of c.args.names.now name))) c.args.given.now.names none

pub loop-at-preserved : goal.loop-at-preserved
loop-at-preserved c =
    let names = c.args.names.now in
    let missing = λ (name : List ℕ). not (is_some (place_of names name)) in
    let there = ap is_some (sym (c.in_ok-places.ensures c.get-name.result)) ∙ sym c.contains_key.ensures ∙ c.if-not-contains_key.false in
    found_go_on missing c.args.given.now.names c.loop-at.at c.get-name.result.now c.get-name.ensures _ (ap not there) c.loop-at.invariant

pub returns-then-not-contains_key : goal.returns-then-not-contains_key
returns-then-not-contains_key c =
    let names = c.args.names.now in
    let missing = λ (name : List ℕ). not (is_some (place_of names name)) in
    let absent = ap is_some (sym (c.in_ok-places.ensures c.get-name.result)) ∙ sym c.contains_key.ensures ∙ c.if-not-contains_key.true in
    sym (found_stop missing c.args.given.now.names c.loop-at.at c.get-name.result.now c.get-name.ensures _ (ap not absent) c.loop-at.invariant)
