use Rattle.std.proofs.Common.{ℕ, length, ap, ◌∙◌, subst}
use Rattle.std.specs.Prelude.{All, slice_range}
use Rattle.std.proofs.lemmas.List.Elements.{All-tail}
use Rattle.db_pages.specs.Grown.{Grown, grown}
use Rattle.db_writer.specs.Groups.{AreBlocks, HoldsRows}
use Rattle.db_writer.specs.Written.{records_of}
use Rattle.db_writer.proofs.groups.push_groups.Goals as goal

pub loop-group-preserved : goal.loop-group-preserved
loop-group-preserved c =
    let rows = c.args.table.now.rows in
    let before = c.loop-group.invariant in
    let group = c.in-Some.group in
    let rest = c.next.new.self.rest.items in
    let steps = c.in-Some.ensures.steps.0 in
    let are = subst (λ gs. AreBlocks before.so_far.0 gs (length rows)) steps before.so_far.1 in
    let base = ap (λ (g : Grown). g.base) before.so_far.2 in record {
      holds = All-tail (HoldsRows rows) group rest (subst (All (HoldsRows rows)) steps before.holds);
      so_far = (group.to, are.3, c.in_ok-push_group.ensures.ok ∙ ap (λ (b : ℕ). grown b 1 (records_of (slice_range rows 0 group.to))) base);
    }
