use Rattle.std.proofs.Common.{◌≡◌, List, ℕ, ◌++◌, length, ap, sym, ◌∙◌, append_assoc}
use Rattle.std.proofs.lemmas.Result.{on_ok_weaker}
use Rattle.part_cuts.specs.declared.part.Part.{Part}
use Rattle.part_cuts.specs.Part.{parts}
use Rattle.report_text.specs.SplitLines.{head_lines, part_lines_from, parts_line}
use Rattle.report_text.proofs.SplitParts.{parts-length}
use Rattle.report_text.proofs.split.push_cuts.Goals as goal

pub returns : goal.returns
returns c =
    let before : List ℕ = c.args.into.now.text in
    let cuts = c.args.cuts.now in
    let all : List Part = parts cuts.starts cuts.tally in
    let first : List ℕ = head_lines all in
    let second : List ℕ = part_lines_from 0 all in
    let third : List ℕ = parts_line (length all) cuts.tally in
    let count_is : c.count.result ≡ length all = c.count.ensures ∙ sym (parts-length cuts.starts cuts.tally) in
    on_ok_weaker c.push_part_count.result
    (λ is. is
    ∙ (λ i. c.in_ok-push_parts.ensures i ++ parts_line (count_is i) (c.tally.ensures i))
    ∙ ap (λ xs. (xs ++ second) ++ third) c.in_ok-push_head_of.ensures
    ∙ ap (λ xs. xs ++ third) (append_assoc before first second)
    ∙ append_assoc before (first ++ second) third)
    c.push_part_count.ensures
