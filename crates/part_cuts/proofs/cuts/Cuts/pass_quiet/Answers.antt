use Rattle.std.proofs.Common.{◌≡◌, ℕ, ◌+◌, ◌-◌, ◌≤◌, ◌∙◌, List, sym, ap, ap₂, length, take, drop, arith, subst}
use Rattle.std.proofs.lemmas.List.{take_rest}
use Rattle.quote_automaton.specs.Automaton.{state_after}
use Rattle.part_cuts.specs.Cut.{is_cut}
use Rattle.part_cuts.specs.NoCut.{NoCut}
use Rattle.part_cuts.specs.Passed.{passed}
use Rattle.part_cuts.specs.Reading.{Reading, begins_part}
use Rattle.part_cuts.proofs.PartLaws.{cut_begins, up_to_cut}
use Rattle.part_cuts.proofs.cuts.Cuts.pass_quiet.Goals as goal

pub returns : goal.returns
returns c =
    let r = c.args.self.now in
    let bytes = c.args.bytes.now in
    let quiet = c.before_due-quiet.result in
    let cut = c.first_cut-cut.result in
    let room : quiet + cut ≤ length bytes = omega (arith, c.before_due-quiet.ensures.high, c.first_cut-cut.ensures.high, c.requires.within) in
    let rest : take (length bytes - quiet) (drop quiet bytes) ≡ drop quiet bytes = take_rest bytes quiet in
    let near = c.self.view_is ∙ c.go_over.ensures in
    let here : c.go_over-2.new.self ≡ passed (passed r (take quiet bytes)) (take cut (drop quiet bytes)) =
    c.go_over-2.ensures ∙ ap₂ (λ (q : Reading) (l : List ℕ). passed q (take cut l)) c.go_over.ensures rest in
    record {
      high = omega (arith, c.before_due-quiet.ensures.high, c.first_cut-cut.ensures.high);
      read = here ∙ up_to_cut r bytes quiet cut room c.before_due-quiet.ensures.quiet
          (subst (λ (l : List ℕ). NoCut r.rule.dialect (passed r (take quiet bytes)).state (take cut l) (drop cut l)) rest
          (subst (λ (q : Reading). NoCut q.rule.dialect q.state (take cut (take (length bytes - quiet) (drop quiet bytes))) (drop cut (take (length bytes - quiet) (drop quiet bytes)))) near
          c.first_cut-cut.ensures.none));
      part = λ below.
          ap (λ q. begins_part q (drop (quiet + cut) bytes)) here
          ∙ cut_begins r bytes quiet cut room (c.before_due-quiet.ensures.due (omega (arith, below)))
          (ap₂ (λ (q : Reading) (l : List ℕ). is_cut q.rule.dialect (state_after q.rule.dialect q.state (take cut l)) (drop cut l)) (sym near) (sym rest)
          ∙ c.first_cut-cut.ensures.cut (omega (arith, below, c.before_due-quiet.ensures.high)));
    }
