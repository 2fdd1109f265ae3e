use Rattle.std.proofs.Common.{◌+◌, ◌-◌, ℕ, List, [], ◌++◌, length, take, sym, ap, ◌∙◌, arith}
use Rattle.std.proofs.lemmas.List.{with_items_is}
use Rattle.std.proofs.KnownBytes.{Consumes-nil, Consumes-kept}
use Rattle.csv_source.proofs.Filling.{front_and_came, front_stays, written_length}
use Rattle.csv_source.proofs.buffer.Buffer.read_piece.Goals as goal
use borrow.Rule.Slice.PartMut.{post_of}

pub returns-in-Ok-read-clause-moved : goal.returns-in-Ok-read-clause-moved
returns-in-Ok-read-clause-moved g c =
    let rest : List ℕ = post_of c.self.inside.filled (c.self.inside.filled + c.min.result - c.self.inside.filled) c.deref_mut.result.now in
    let written : List ℕ = take c.self.inside.filled c.deref_mut.result.now ++ (c.read.new.buf ++ rest) in
    let size = written_length c.self.inside.filled c.min.result c.deref_mut.result.now c.read.new.buf (omega (arith, c.in-Ok.ensures.ok, ap length c.deref_mut.ensures.value)) (omega arith) in (
      take c.in-Ok-read.count c.read.new.buf,
      ap (take (c.self.inside.filled + c.in-Ok-read.count)) (with_items_is c.extend.new.memory written (omega (arith, size)))
          ∙ front_and_came c.self.inside.filled c.in-Ok-read.count c.self.inside.memory.items c.deref_mut.result.now c.read.new.buf rest c.args.self.now (sym c.self.view_is) c.self.invariant
          (ap (take _) c.deref_mut.ensures.value ∙ c.extend.ensures.same) c.in-Ok-read.ensures.bound.0,
      c.in-Ok-read.ensures.bytes.0,
    )

pub returns-in-Err-clause-moved : goal.returns-in-Err-clause-moved
returns-in-Err-clause-moved g c =
    let rest : List ℕ = post_of c.self.inside.filled (c.self.inside.filled + c.min.result - c.self.inside.filled) c.deref_mut.result.now in
    let written : List ℕ = take c.self.inside.filled c.deref_mut.result.now ++ (c.read.new.buf ++ rest) in
    let size = written_length c.self.inside.filled c.min.result c.deref_mut.result.now c.read.new.buf (omega (arith, c.in-Ok.ensures.ok, ap length c.deref_mut.ensures.value)) (omega arith) in (
      [],
      ap (take c.self.inside.filled) (with_items_is c.extend.new.memory written (omega (arith, size)))
          ∙ front_stays c.self.inside.filled c.self.inside.memory.items c.deref_mut.result.now c.read.new.buf rest c.args.self.now (sym c.self.view_is) c.self.invariant
          (ap (take _) c.deref_mut.ensures.value ∙ c.extend.ensures.same),
      Consumes-kept _ _ _ _ (Consumes-nil (g.S.Source.left c.args.source.now)) c.in-Err.ensures.bytes,
    )
