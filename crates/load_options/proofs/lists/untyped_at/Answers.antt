use Rattle.std.proofs.Common.{Some, sym, ◌∙◌, ap}
use Rattle.std.specs.Option.{is_some, option_map}
use Rattle.value_types.specs.TypeName.{type_named}
use Rattle.load_options.proofs.ListSteps.{all_go_on, all_stop}
use Rattle.load_options.proofs.lists.untyped_at.Goals as goal

pub loop-column-preserved : goal.loop-column-preserved
loop-column-preserved c =
    all_go_on (λ name. is_some (type_named name)) c.args.names.now c.loop-column.column _ _ c.get.ensures (sym c.names_type.ensures ∙ c.if-not-names_type.false) c.loop-column.invariant

pub returns-then-not-names_type : goal.returns-then-not-names_type
returns-then-not-names_type c =
    let untyped = sym c.names_type.ensures ∙ c.if-not-names_type.true in (
      sym (all_stop (λ name. is_some (type_named name)) c.args.names.now c.loop-column.column _ _ c.get.ensures untyped c.loop-column.invariant),
      ap (option_map (λ name. is_some (type_named name))) c.get.ensures ∙ ap Some untyped,
    )
