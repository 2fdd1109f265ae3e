use Rattle.std.proofs.Common.{◌<◌, length, arith}
use Rattle.db_writer.proofs.groups.write_again.Goals as goal

pub returns-in_err-place_groups : goal.returns-in_err-place_groups
returns-in_err-place_groups g c = λ k d lt. c.place_groups.ensures c.args.table.now.rows k d lt (c.requires.groups k d lt)

pub write_groups-requires-clause-groups : goal.write_groups-requires-clause-groups
write_groups-requires-clause-groups g c κs within =
    λ k d lt. (let there : k < length c.args.groups.now = omega (arith, lt, c.place_groups.auto.groups) in (c.place_groups.ensures c.args.table.now.rows k d there (c.requires.groups k d there)).holds)

pub returns-else-any : goal.returns-else-any
returns-else-any g c = λ k d lt. c.place_groups.ensures c.args.table.now.rows k d lt (c.requires.groups k d lt)
