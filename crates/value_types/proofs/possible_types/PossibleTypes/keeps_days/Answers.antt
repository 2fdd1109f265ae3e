use Rattle.std.proofs.Common.{◌&&◌, sym, ◌∙◌, ap}
use Rattle.value_types.specs.declared.types.ColumnType.TheVariants.{Date, Timestamp}
use Rattle.value_types.specs.KeptTypes.{keeps_type}
use Rattle.value_types.proofs.KeptTypes.{date_decides}
use Rattle.value_types.proofs.possible_types.PossibleTypes.keeps_days.Goals as goal

pub returns-then-self : goal.returns-then-self
returns-then-self c =
    let stamp = c.args.self.now.timestamp in
    let text = c.args.text.now in
    c.is_of_type.ensures ∙ date_decides stamp text ∙ ap (λ date. keeps_type date text Date && keeps_type stamp text Timestamp) (sym c.if-self.true)
