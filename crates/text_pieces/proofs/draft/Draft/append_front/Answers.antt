use Rattle.std.proofs.Common.{◌≡◌, ◌+◌, ◌++◌, ℕ, List, length, take, ap, sym, ◌∙◌, arith}
use Rattle.std.proofs.Math.Seq.{take-append-add}
use Rattle.std.proofs.lemmas.List.{length-take-le, take-take}
use Rattle.text_pieces.specs.DraftView.{DraftView}
use Rattle.text_pieces.proofs.draft.Draft.append_front.Goals as goal

pub returns-clause-ok : goal.returns-clause-ok
returns-clause-ok c =
    let at : ℕ = c.self.inside.end in
    let count : ℕ = c.args.count in
    let block : List ℕ = c.args.block.now in
    let before : List ℕ = take at c.self.inside.bytes.items in
    let front : length before ≡ at = length-take-le at c.self.inside.bytes.items c.self.invariant in
    let place : at + count ≡ length before + count = omega (arith, front) in
    sym (take-take (at + count) (at + length block) c.store.new.bytes.items (omega (arith, c.requires.within)))
    ∙ ap (take (at + count)) c.store.ensures.text
    ∙ ap (λ n. take n (before ++ block)) place
    ∙ take-append-add before block count
    ∙ ap (λ xs. xs ++ take count block) (ap (λ (d : DraftView). d.text) c.self.view_is ∙ c.make_room.ensures.same)
