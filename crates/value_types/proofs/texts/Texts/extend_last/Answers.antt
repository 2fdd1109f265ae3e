use Rattle.std.proofs.Common.{◌≡◌, ◌∙◌, ◌+◌, ◌-◌, ◌++◌, ◌∷◌, [], List, ℕ, ap, arith, length}
use Rattle.value_types.specs.Texts.{on_last}
use Rattle.std.proofs.lemmas.List.{length-append}
use Rattle.value_types.proofs.TextsInBuffer.{extended_rising, extended_texts, length-texts}
use Rattle.value_types.proofs.texts.Texts.extend_last.Goals as goal

pub invariant_of-self-2 : goal.invariant_of-self-2
invariant_of-self-2 c =
    let end : c.in_ok-end.end ≡ length c.extend_from_slice.new.self.items = omega (arith, c.in_ok-end.ensures, ap length c.in_ok-extend_from_slice.ensures.items, length-append c.self.inside.bytes.items c.args.more.now) in
    let ends : List ℕ = c.self.inside.ends.items in
    let bytes : List ℕ = c.self.inside.bytes.items in
    let count : length ends ≡ (c.len-last.result - 1) + 1 = omega (arith, length-texts 0 ends bytes, ap length c.self.view_is, c.requires.some, c.len-last.ensures) in
    extended_rising ends bytes c.self.invariant (c.len-last.result - 1) count c.args.more.now c.push_reserved.new.self.items c.extend_from_slice.new.self.items c.in_ok-end.end
    c.in_ok-extend_from_slice.ensures.items (c.push_reserved.ensures.items ∙ ap (λ es. es ++ c.in_ok-end.end ∷ []) c.truncate.ensures.items) end

pub returns-clause-ok : goal.returns-clause-ok
returns-clause-ok c =
    let end : c.in_ok-end.end ≡ length c.extend_from_slice.new.self.items = omega (arith, c.in_ok-end.ensures, ap length c.in_ok-extend_from_slice.ensures.items, length-append c.self.inside.bytes.items c.args.more.now) in
    let ends : List ℕ = c.self.inside.ends.items in
    let bytes : List ℕ = c.self.inside.bytes.items in
    let count : length ends ≡ (c.len-last.result - 1) + 1 = omega (arith, length-texts 0 ends bytes, ap length c.self.view_is, c.requires.some, c.len-last.ensures) in
    extended_texts ends bytes c.self.invariant (c.len-last.result - 1) count c.args.more.now c.push_reserved.new.self.items c.extend_from_slice.new.self.items c.in_ok-end.end
    c.in_ok-extend_from_slice.ensures.items (c.push_reserved.ensures.items ∙ ap (λ es. es ++ c.in_ok-end.end ∷ []) c.truncate.ensures.items) end
    ∙ ap (on_last (λ text. text ++ c.args.more.now)) c.self.view_is
