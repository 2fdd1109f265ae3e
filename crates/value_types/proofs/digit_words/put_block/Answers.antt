use Rattle.std.proofs.Common.{◌≡◌, ◌∙◌, ◌+◌, ◌-◌, ◌/◌, ◌%◌, ◌^◌, ◌++◌, length, take, arith, refl, sym, ap}
use Rattle.std.proofs.lemmas.List.{length-take-le, take-take}
use Rattle.std.proofs.lemmas.Slice.{take-put_mid}
use Rattle.value_types.proofs.BlockBytes.{block_kept}
use Rattle.value_types.proofs.digit_words.put_block.Goals as goal

pub returns-clause-text : goal.returns-clause-text
returns-clause-text c text is long =
    let at = c.args.at in
    let old = c.args.into.now in
    let bytes = c.copy_from_slice.new.self in
    let front : length (take at old) ≡ at = length-take-le at old (omega (arith, c.requires.room)) in
    let sixteen : length bytes ≡ 16 = omega (arith, c.copy_from_slice.ensures.len, c.requires.room) in
    block_kept (take at old) (take at old ++ bytes) _ bytes text c.args.block (c.args.block % 2 ^ 64) (c.args.block / 2 ^ 64) (at + c.args.count)
    is refl refl (c.copy_from_slice.ensures.after ∙ c.as_array.ensures) refl (omega (arith, front, long))
    (sym (take-take (at + c.args.count) (at + 16) _ (omega (arith, c.requires.short)))
    ∙ ap (take (at + c.args.count)) (take-put_mid at (at + 16 - at) old bytes (at + 16) (omega (arith, sixteen)) (omega (arith, c.requires.room))))
