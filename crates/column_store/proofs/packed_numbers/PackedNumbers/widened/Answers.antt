use Rattle.std.proofs.Common.{ap, arith, length}
use Rattle.column_store.proofs.packed_numbers.PackedNumbers.widened.Goals as goal

pub push_all-requires : goal.push_all-requires
push_all-requires c =
    let ready = c.in_ok-reserve.ensures in
    omega (arith, ready.ok, ap length ready.value, ap length c.new-wide.ensures, c.len.ensures, c.checked_add.ensures)
