use Rattle.std.proofs.Common.{ℤ, Some, false, get_or, sym, ap, ◌∙◌, arith}
use Rattle.std.proofs.lemmas.Option.{get_or_from_slice_get}
use Rattle.value_types.specs.Packed.{packed_numbers}
use Rattle.value_types.proofs.ViewSteps.{number_kept}
use Rattle.column_store.proofs.Options.{length-options, null_at, value_at}
use Rattle.column_store.proofs.packed_numbers.PackedNumbers.get.Goals as goal

pub get-requires : goal.get-requires
get-requires c = let s = c.args.self.now in omega (arith, c.requires, length-options s.nulls.items (packed_numbers s.packed))

pub returns-then-is_marked : goal.returns-then-is_marked
returns-then-is_marked c =
    let s = c.args.self.now in
    let numbers = packed_numbers s.packed in
    null_at s.nulls.items numbers c.args.row c.is_marked.result (omega (arith, c.requires, length-options s.nulls.items numbers))
    (c.is_marked.ensures ∙ ap (λ nulls. get_or nulls c.args.row false) c.deref.ensures.value) c.if-is_marked.true

pub returns-else-is_marked : goal.returns-else-is_marked
returns-else-is_marked c =
    let s = c.args.self.now in
    let numbers = packed_numbers s.packed in
    let number = c.get.result in
    value_at s.nulls.items numbers c.args.row c.is_marked.result number (omega (arith, c.requires, length-options s.nulls.items numbers))
    (c.is_marked.ensures ∙ ap (λ nulls. get_or nulls c.args.row false) c.deref.ensures.value) c.if-is_marked.false (sym (get_or_from_slice_get numbers c.args.row number number c.get.ensures))
    ∙ ap (λ (z : ℤ). Some (Some z)) (sym (number_kept number c.get.type_inv))
