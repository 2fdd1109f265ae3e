use Rattle.std.proofs.Common.{List, ℕ, ◌∷◌, ◌++◌, ap, sym, ◌∙◌, arith}
use Rattle.std.specs.Prelude.{flat_map}
use Rattle.std.proofs.lemmas.List.{take_all}
use Rattle.report_text.specs.Part.{part_text}
use Rattle.report_text.proofs.Texts.{join-flat_map}
use Rattle.report_text.proofs.lines.push_front.Goals as goal

pub returns : goal.returns
returns c =
    let before : List ℕ = c.args.into.now.text in
    let name : List ℕ = c.args.name.now in
    let parts = c.args.parts.now in
    c.loop-part.invariant ∙ ap (λ ps. before ++ (name ++ flat_map (λ part. 124 ∷ part_text part) ps)) (take_all c.loop-part.part-index parts (omega arith))
    ∙ ap (λ xs. before ++ xs) (sym (join-flat_map 124 part_text name parts))
