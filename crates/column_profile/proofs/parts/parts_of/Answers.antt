use Rattle.std.proofs.Common.{ap, subst, ◌≡◌, ◌∙◌, length, arith}
use Rattle.column_store.specs.ChunkView.{ChunkView}
use Rattle.column_profile.specs.declared.parts.Part.{Part}
use Rattle.column_profile.specs.Parts.{part_rows, IsPart}
use Rattle.column_profile.proofs.PartSteps.{flat_more, All-more}
use Rattle.column_profile.proofs.parts.parts_of.Goals as goal

pub loop-chunk-preserved : goal.loop-chunk-preserved
loop-chunk-preserved c =
    let chunks = c.chunks.result.0.now in
    let k = c.loop-chunk.chunk-index in
    let chunk : ChunkView = c.chunk-item.result in
    let part : Part = c.in_ok-part_of.field-0 in
    let types : chunk.types ≡ c.args.table.now.types = ap (λ (x : ChunkView). x.types) c.chunk-item.is ∙ c.chunks.ensures.types k chunk (omega arith) in record {
      parts = All-more (IsPart (length c.args.table.now.types)) c.loop-chunk.parts.items c.push.new.self.items part c.in_ok-push.ensures.items c.loop-chunk.invariant.parts
          (subst (λ tys. IsPart (length tys) part) types c.in_ok-part_of.ensures.part);
      rows = flat_more (λ (x : ChunkView). x.rows) part_rows chunks k chunk c.loop-chunk.parts.items c.push.new.self.items part (omega arith) c.chunk-item.is c.loop-chunk.invariant.rows
          c.in_ok-part_of.ensures.rows c.in_ok-push.ensures.items;
    }
