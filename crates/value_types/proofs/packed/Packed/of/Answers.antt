use Rattle.std.proofs.Common.{arith, rules, w64}
use Rattle.std.proofs.lemmas.Int.{to_z-of_z}
use Rattle.value_types.proofs.Narrowed.{all_high, all_low, far_apart}
use Rattle.value_types.proofs.ViewSteps.{number_kept}
use Rattle.value_types.proofs.packed.Packed.of.Goals as goal

pub of-requires-clause-low : goal.of-requires-clause-low
of-requires-clause-low c =
    let e = c.args.extent in
    let span = c.saturating_sub-span in
    all_low e _ _ span.result _ (to_z-of_z w64 e.least (search rules)) (to_z-of_z w64 e.greatest (search rules)) (number_kept span.result span.type_inv) span.ensures c.args.numbers.now c.requires

pub of-requires-clause-high : goal.of-requires-clause-high
of-requires-clause-high c =
    let e = c.args.extent in
    let span = c.saturating_sub-span in
    all_high e _ _ span.result _ (to_z-of_z w64 e.least (search rules)) (to_z-of_z w64 e.greatest (search rules)) (number_kept span.result span.type_inv) span.ensures c.args.numbers.now 256 (omega arith) c.requires c.if-span-lt256.true

pub of-requires-then-span-lt65536-clause-low : goal.of-requires-then-span-lt65536-clause-low
of-requires-then-span-lt65536-clause-low c =
    let e = c.args.extent in
    let span = c.saturating_sub-span in
    all_low e _ _ span.result _ (to_z-of_z w64 e.least (search rules)) (to_z-of_z w64 e.greatest (search rules)) (number_kept span.result span.type_inv) span.ensures c.args.numbers.now c.requires

pub of-requires-then-span-lt65536-clause-high : goal.of-requires-then-span-lt65536-clause-high
of-requires-then-span-lt65536-clause-high c =
    let e = c.args.extent in
    let span = c.saturating_sub-span in
    all_high e _ _ span.result _ (to_z-of_z w64 e.least (search rules)) (to_z-of_z w64 e.greatest (search rules)) (number_kept span.result span.type_inv) span.ensures c.args.numbers.now 65536 (omega arith) c.requires c.if-span-lt65536.true

pub of-requires-then-span-lt4294967296-clause-low : goal.of-requires-then-span-lt4294967296-clause-low
of-requires-then-span-lt4294967296-clause-low c =
    let e = c.args.extent in
    let span = c.saturating_sub-span in
    all_low e _ _ span.result _ (to_z-of_z w64 e.least (search rules)) (to_z-of_z w64 e.greatest (search rules)) (number_kept span.result span.type_inv) span.ensures c.args.numbers.now c.requires

pub of-requires-then-span-lt4294967296-clause-high : goal.of-requires-then-span-lt4294967296-clause-high
of-requires-then-span-lt4294967296-clause-high c =
    let e = c.args.extent in
    let span = c.saturating_sub-span in
    all_high e _ _ span.result _ (to_z-of_z w64 e.least (search rules)) (to_z-of_z w64 e.greatest (search rules)) (number_kept span.result span.type_inv) span.ensures c.args.numbers.now 4294967296 (omega arith) c.requires c.if-span-lt4294967296.true

pub returns-clause-none : goal.returns-clause-none
returns-clause-none c none =
    let e = c.args.extent in
    let span = c.saturating_sub-span in
    far_apart e _ _ span.result _ (to_z-of_z w64 e.least (search rules)) (to_z-of_z w64 e.greatest (search rules)) (number_kept span.result span.type_inv) span.ensures c.if-span-lt4294967296.false
