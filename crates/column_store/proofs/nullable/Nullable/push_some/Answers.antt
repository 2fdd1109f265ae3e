use Rattle.std.proofs.Common.{◌∙◌, ◌++◌, ap, arith, length, map, sym, Some}
use Rattle.std.specs.Option.{option_to_list}
use Rattle.column_store.proofs.nullable.Nullable.push_some.Goals as goal

pub push_value-requires : goal.push_value-requires
push_value-requires g c = omega (arith, c.in_ok-make_room.ensures.ok, ap length c.in_ok-make_room.ensures.value)

pub returns-clause-ok : goal.returns-clause-ok
returns-clause-ok g c =
    c.push_value.ensures.value ∙ (λ i. c.in_ok-make_room.ensures.value i ++ map (λ x. Some x) (option_to_list (sym c.in-Some.is i)))
