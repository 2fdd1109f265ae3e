use Rattle.std.proofs.Common.{[], ap, ◌∙◌}
use Rattle.column_profile.specs.Profile.{profile_of}
use Rattle.loader_reply.proofs.loader.Loader.with_rows.Goals as goal

pub returns-in-Ok : goal.returns-in-Ok
returns-in-Ok g c = c.in-Ok.ensures.profile [] c.requires.none ∙ ap (profile_of c.args.profile.types) c.table.ensures.rows
