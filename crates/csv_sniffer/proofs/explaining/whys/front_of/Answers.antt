use Rattle.std.proofs.Common.{ℕ, List, length-take, take, sym, arith}
use Rattle.std.proofs.lemmas.List.{take_all}
use Rattle.csv_sniffer.specs.declared.explaining.whys.TheConstants.{VALUE_LIMIT}
use Rattle.csv_sniffer.proofs.Answered.{ok_equal}
use Rattle.csv_sniffer.proofs.explaining.whys.front_of.Goals as goal

pub returns-then-value-le-VALUE_LIMIT : goal.returns-then-value-le-VALUE_LIMIT
returns-then-value-le-VALUE_LIMIT c =
    let value : List ℕ = c.args.value.now in
    ok_equal c.copy_of.result value (take VALUE_LIMIT value) c.copy_of.ensures (sym (take_all VALUE_LIMIT value (omega (arith, c.if-value-le-VALUE_LIMIT.true))))

pub slice_bounds-copy_of-end : goal.slice_bounds-copy_of-end
slice_bounds-copy_of-end c = omega (arith, length-take VALUE_LIMIT c.args.value.now, c.if-value-le-VALUE_LIMIT.false)
