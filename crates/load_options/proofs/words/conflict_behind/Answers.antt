use Rattle.std.proofs.Common.{map, sym, ◌∙◌, ap, string_bytes}
use Rattle.load_options.specs.Conflicts.{conflict_of}
use Rattle.load_options.specs.Request.{options_given, unless_refused}
use Rattle.load_options.proofs.words.conflict_behind.Goals as goal

pub returns : goal.returns
returns c =
    let words = map string_bytes c.args.options.now in
    let none = sym c.in_ok-option_refusal.ensures ∙ c.in_default.is in
    c.conflict_of.ensures ∙ ap (conflict_of c.args.command words) c.in_ok-given.ensures
    ∙ ap (λ fault. unless_refused fault (conflict_of c.args.command words (options_given c.args.command words))) (sym none)
