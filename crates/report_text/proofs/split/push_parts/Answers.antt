use Rattle.std.proofs.Common.{◌≡◌, List, ℕ, [], ◌+◌, ◌++◌, drop, ap, sym, ◌∙◌, append_assoc, append-nil, arith}
use Rattle.std.proofs.lemmas.List.{drop_all}
use Rattle.part_cuts.specs.declared.part.Part.{Part}
use Rattle.part_cuts.specs.Part.{parts}
use Rattle.report_text.specs.SplitLines.{part_lines_from}
use Rattle.report_text.proofs.SplitParts.{one_more, parts-length}
use Rattle.report_text.proofs.split.push_parts.Goals as goal

pub loop-number-preserved : goal.loop-number-preserved
loop-number-preserved c =
    let k = c.loop-number.number in
    let cuts = c.args.cuts.now in
    let all : List Part = parts cuts.starts cuts.tally in
    let before : List ℕ = c.loop-number.into.text in
    let rest : List ℕ = part_lines_from (k + 1) (drop (k + 1) all) in
    ap (λ xs. xs ++ rest) c.in_ok-push_part.ensures ∙ append_assoc before _ rest ∙ ap (λ xs. before ++ xs) (sym (one_more all k c.part.result c.part.ensures))
    ∙ c.loop-number.invariant

pub returns : goal.returns
returns c =
    let k = c.loop-number.number in
    let cuts = c.args.cuts.now in
    let all : List Part = parts cuts.starts cuts.tally in
    let text : List ℕ = c.loop-number.into.text in
    let over : drop k all ≡ [] = drop_all k all (omega (arith, parts-length cuts.starts cuts.tally, c.count-number-end.ensures)) in
    sym (append-nil text) ∙ ap (λ ps. text ++ part_lines_from k ps) (sym over) ∙ c.loop-number.invariant
