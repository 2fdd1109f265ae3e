use Rattle.std.proofs.Common.{◌∙◌, ◌++◌, ◌∷◌, [], ap, arith, length, sym, take}
use Rattle.std.proofs.lemmas.List.{append_assoc, length-append, length-take, take_all}
use Rattle.value_types.proofs.CopySteps.{take-at}
use Rattle.column_store.specs.Nullable.{options}
use Rattle.column_store.specs.Numbers.{packed_options}
use Rattle.column_store.proofs.packed_numbers.PackedNumbers.push_all.Goals as goal

pub get-requires : goal.get-requires
get-requires c = omega (arith, c.len-row-end.ensures)

pub push_reserved-requires : goal.push_reserved-requires
push_reserved-requires c =
    let so = c.loop-row.invariant in
    let all = packed_options c.args.self.now in
    let row = c.loop-row.row in
    omega (arith, c.requires, c.len-row-end.ensures, so.room, ap length so.value, length-append (options c.args.wide.now) (take row all), length-take row all)

pub loop-row-preserved : goal.loop-row-preserved
loop-row-preserved c =
    let so = c.loop-row.invariant in
    let all = packed_options c.args.self.now in
    let row = c.loop-row.row in
    let before = options c.args.wide.now in
    let number = c.get.result in
    record {
      value = c.push_reserved.ensures.value ∙ (λ i. so.value i ++ number ∷ []) ∙ append_assoc before (take row all) (number ∷ []) ∙ ap (λ front. before ++ front) (sym (take-at all row number c.get.ensures));
      room = c.push_reserved.ensures.room ∙ so.room;
    }

pub returns-clause-value : goal.returns-clause-value
returns-clause-value c =
    let so = c.loop-row.invariant in
    let all = packed_options c.args.self.now in
    so.value ∙ ap (λ front. options c.args.wide.now ++ front) (take_all c.loop-row.row all (omega (arith, c.len-row-end.ensures)))
