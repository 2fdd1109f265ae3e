use Rattle.std.proofs.Common.{◌≡◌, ◌∙◌, ℤ, pos, ◌+ℤ◌, ◌≤ℤ◌, ◌<ℤ◌, arith, subst, to_z, of_z, w64}
use Rattle.std.proofs.lemmas.Option.{get_or_from_slice_get}
use Rattle.value_types.proofs.Narrowed.{numbers_more, offset_fits, offset_high, offset_kept, offset_low, there_again}
use Rattle.value_types.proofs.ViewSteps.{number_kept}
use Rattle.value_types.proofs.offsets.Offsets.of.Given.{Over}
use Rattle.value_types.proofs.offsets.Offsets.of.Goals as goal

module _ (g : Over) (c : goal.After-number_at g) where
  abbrev n : ℤ
  n = c.number_at.result

  low : c.args.least ≤ℤ n
  low = subst (λ (z : ℤ). c.args.least ≤ℤ z) (get_or_from_slice_get c.args.numbers.now c.loop-place.place n n c.number_at.ensures) (c.requires.low c.loop-place.place n c.loop-place-test.true)

  high : n <ℤ (c.args.least +ℤ pos g.T.Narrow.limit)
  high = subst (λ (z : ℤ). z <ℤ (c.args.least +ℤ pos g.T.Narrow.limit)) (get_or_from_slice_get c.args.numbers.now c.loop-place.place n n c.number_at.ensures) (c.requires.high c.loop-place.place n c.loop-place-test.true)

  least_kept : to_z w64 (of_z w64 c.args.least) ≡ c.args.least
  least_kept = number_kept c.args.least c.ranges.least.sfits

  n_kept : to_z w64 (of_z w64 n) ≡ n
  n_kept = number_kept n c.number_at.type_inv

pub overflow_sub-number_at : goal.overflow_sub-number_at
overflow_sub-number_at g c = offset_fits c.args.least (n g c) g.T.Narrow.limit c.requires.small (low g c) (high g c) _ _ (least_kept g c) (n_kept g c)

pub of-requires-clause-low : goal.of-requires-clause-low
of-requires-clause-low g c = offset_low c.args.least (n g c) g.T.Narrow.limit c.requires.small (low g c) (high g c) _ _ (least_kept g c) (n_kept g c)

pub of-requires-clause-high : goal.of-requires-clause-high
of-requires-clause-high g c = offset_high c.args.least (n g c) g.T.Narrow.limit c.requires.small (low g c) (high g c) _ _ (least_kept g c) (n_kept g c)

pub loop-place-preserved : goal.loop-place-preserved
loop-place-preserved g c =
    let so = c.loop-place.invariant in
    let n = c.number_at.result in
    let numbers = c.args.numbers.now in
    let place = c.loop-place.place in
    let there = get_or_from_slice_get numbers place n n c.number_at.ensures in
    let limit = g.T.Narrow.limit in
    let low = subst (λ (z : ℤ). c.args.least ≤ℤ z) there (c.requires.low place n c.loop-place-test.true) in
    let high = subst (λ (z : ℤ). z <ℤ (c.args.least +ℤ pos limit)) there (c.requires.high place n c.loop-place-test.true) in
    let least_kept : to_z w64 (of_z w64 c.args.least) ≡ c.args.least = number_kept c.args.least c.ranges.least.sfits in
    let n_kept = number_kept n c.number_at.type_inv in
    record {
      numbers = numbers_more _ numbers place c.loop-place.over.items _ c.of.result n so.numbers c.push_reserved.ensures.items
          (there_again _ c.args.least n _ least_kept c.number_at.type_inv (c.of.ensures ∙ offset_kept c.args.least n limit c.requires.small low high _ _ least_kept n_kept)) c.number_at.ensures;
      count = omega (arith, so.count, c.push_reserved.ensures.len);
      room = omega (arith, so.room, c.push_reserved.ensures.capacity);
    }
