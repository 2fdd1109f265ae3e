use Rattle.std.proofs.Common.{List, Option, ℕ, subst}
use Rattle.std.specs.Io.KnownBytes.{Appends}
use Rattle.csv_source.specs.Moves.{AppendsFront}
use Rattle.text_pieces.proofs.Fronts.{front_behind, text_of}
use Rattle.text_pieces.proofs.pieces.Pieces.write.Goals as goal

pub returns-clause-front : goal.returns-clause-front
returns-clause-front g c =
    let before : Option (List ℕ) = g.K.Sink.taken c.args.sink.now in
    let here : Option (List ℕ) = g.K.Sink.taken c.write_each.new.sink in
    let after : Option (List ℕ) = g.K.Sink.taken c.write_all.new.sink in
    subst (AppendsFront before after) c.self.view_is
    (front_behind before here after (text_of c.self.inside.earlier.items) c.self.inside.last.items
    (subst (λ ps. Appends before here (text_of ps)) c.deref.ensures.value c.in_ok-write_each.ensures.ok)
    (subst (AppendsFront here after) c.deref-2.ensures.value c.write_all.ensures.front))
