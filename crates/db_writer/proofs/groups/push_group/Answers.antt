use Rattle.std.proofs.Common.{◌≡◌, ◌+◌, ap, sym, ◌∙◌, subst}
use Rattle.std.specs.Prelude.{IfSome, slice_range}
use Rattle.std.proofs.lemmas.Result.{on_ok_weaker}
use Rattle.db_pages.specs.Grown.{Filled, closed, filled, holds_at}
use Rattle.db_pages.specs.Laid.{next_place}
use Rattle.db_writer.specs.Written.{records_of}
use Rattle.db_writer.proofs.Blocks.{group-joined, holds-here}
use Rattle.db_writer.proofs.groups.push_group.Goals as goal

pub returns-then-holds_at : goal.returns-then-holds_at
returns-then-holds_at c =
    let rows = c.args.table.now.rows in
    let group = c.args.group in
    let old = c.args.pages.now in
    let leaves = c.in-Some.leaves in
    let written = subst (λ o. IfSome o (λ (l : Filled). l ≡ filled group.base (group.from + 1) (records_of (slice_range rows group.from group.to)))) c.in-Some.is c.requires.group.leaves in
    let holds = ap (λ n. holds_at n (closed leaves)) (sym c.next_place-place.ensures) ∙ sym c.holds_at.ensures ∙ c.if-holds_at.true in record {
      ok = on_ok_weaker c.push.result
          (group-joined c.groups_join.ensures rows old.base group.from group.to c.requires.group.ordered c.requires.group.within old c.push.new.self leaves group.base c.requires.block c.requires.before written holds)
          c.push.ensures.ok;
    }

pub returns : goal.returns
returns c =
    let rows = c.args.table.now.rows in
    let group = c.args.group in
    let old = c.args.pages.now in
    let leaves = c.in_ok-leaves.leaves in
    let place = c.next_place-place.result in
    let written = c.in_ok-leaves.ensures.ok in
    let holds = holds-here (next_place old.base old.pages) (closed leaves) (ap (λ (l : Filled). l.base) written ∙ c.next_place-place.ensures) in record {
      ok = on_ok_weaker c.push-2.result
          (group-joined c.groups_join.ensures rows old.base group.from group.to c.requires.group.ordered c.requires.group.within old c.push-2.new.self leaves place c.requires.block c.requires.before written holds)
          c.push-2.ensures.ok;
    }
