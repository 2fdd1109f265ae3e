use Rattle.std.proofs.Common.{sym, subst}
use Rattle.std.specs.Prelude.{◌≡◌, true, All}
use Rattle.value_types.specs.OfType.{fit_all}
use Rattle.loader_reply.proofs.loader.Loader.summary_reply.Goals as goal

pub tap_lines-requires-clause-fits : goal.tap_lines-requires-clause-fits
tap_lines-requires-clause-fits g c =
    subst (λ tys. All (λ cells. fit_all tys cells ≡ true) c.args.loaded.table.rows) (sym c.requires.printable.types) c.requires.printable.rows
