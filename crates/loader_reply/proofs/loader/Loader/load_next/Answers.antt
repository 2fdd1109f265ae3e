use Rattle.std.proofs.Common.{◌≡◌, sym, subst, ap, ◌∙◌}
use Rattle.loader_reply.specs.Batch.{with_load}
use Rattle.loader_reply.specs.SoFar.{ReadsNext}
use Rattle.loader_reply.proofs.FileSteps.{later_joins, reads_later}
use Rattle.loader_reply.proofs.loader.Loader.load_next.Goals as goal

pub add-requires : goal.add-requires
add-requires g c =
    let so_far = c.requires.so_far in
    record {
      types = later_joins c.args.self.now.options.now c.args.files.now.sniffed (g.S.Source.held c.args.source.now) c.args.name.now (g.S.Source.left c.load_later.new.source) c.in_ok-load.load
          c.args.number c.requires.later c.args.files.now.load c.in_ok-load.ensures.ok so_far.0 so_far.1 so_far.2;
    }

pub returns-clause-ok : goal.returns-clause-ok
returns-clause-ok g c =
    let o = c.args.self.now.options.now in
    let s = c.args.files.now.sniffed in
    let held = g.S.Source.held c.args.source.now in
    let left = g.S.Source.left c.load_later.new.source in
    let name = c.args.name.now in
    let named : c.in_ok-file.file ≡ name = c.in_ok-file.ensures ∙ c.as_bytes.ensures.value in
    let load = c.args.files.now.load in (
      c.in_ok-sum_of.ensures.ok,
      subst (λ l. ReadsNext o s held name c.args.number load l left) (sym (c.in_ok-add.ensures.ok ∙ ap (λ n. with_load load n c.in_ok-load.load) named))
          (reads_later o s held name left c.in_ok-load.load c.args.number c.requires.later load c.in_ok-load.ensures.ok),
    )
