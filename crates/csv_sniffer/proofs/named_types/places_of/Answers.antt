use Rattle.std.proofs.Common.{ℕ, List, Bor, arith}
use Rattle.csv_sniffer.proofs.NamedTypes.{no_place_yet, one_place_more}
use Rattle.csv_sniffer.proofs.named_types.places_of.Goals as goal

pub loop-place-init : goal.loop-place-init
loop-place-init c = λ key. no_place_yet (λ (name : Bor (List ℕ)). name.now) c.args.names.now key c.new-places.ensures.empty (let end = c.len-place.ensures in omega (arith, end))

pub loop-place-preserved : goal.loop-place-preserved
loop-place-preserved c =
    one_place_more (λ (name : Bor (List ℕ)). name.now) c.args.names.now c.loop-place.place c.get.result c.loop-place.places.entries c.insert.new.self.entries
    c.loop-place-test.true c.get.ensures c.in_ok-insert.ensures.updates.0 c.loop-place.invariant
