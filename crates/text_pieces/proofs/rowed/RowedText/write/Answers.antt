use Rattle.std.proofs.Common.{◌++◌, List, Option, ℕ, drop, subst}
use Rattle.std.specs.List.{concat}
use Rattle.std.specs.Prelude.{OnOk}
use Rattle.std.specs.Io.KnownBytes.{Appends}
use Rattle.csv_source.specs.Moves.{AppendsFront}
use Rattle.text_pieces.proofs.Fronts.{front_before, front_behind, ok_behind}
use Rattle.text_pieces.proofs.rowed.RowedText.write.Goals as goal

pub returns-in_err-write_from-clause-front : goal.returns-in_err-write_from-clause-front
returns-in_err-write_from-clause-front g c =
    let before : Option (List ℕ) = g.K.Sink.taken c.args.sink.now in
    let here : Option (List ℕ) = g.K.Sink.taken c.write_text.new.sink in
    let after : Option (List ℕ) = g.K.Sink.taken c.write_from.new.sink in
    let lines : List ℕ = concat (drop c.self.inside.next (g.T.RowLines.lines c.self.inside.rows)) in
    subst (AppendsFront before after) c.self.view_is
    (front_behind before here after c.self.inside.head.items (lines ++ c.self.inside.tail.items)
    (subst (Appends before here) c.deref.ensures.value c.in_ok-write_text.ensures.ok)
    (front_before here after lines c.self.inside.tail.items c.write_from.ensures.front))

pub returns-clause-front : goal.returns-clause-front
returns-clause-front g c =
    let before : Option (List ℕ) = g.K.Sink.taken c.args.sink.now in
    let here : Option (List ℕ) = g.K.Sink.taken c.write_text.new.sink in
    let there : Option (List ℕ) = g.K.Sink.taken c.write_from.new.sink in
    let after : Option (List ℕ) = g.K.Sink.taken c.write_text-2.new.sink in
    let lines : List ℕ = concat (drop c.self.inside.next (g.T.RowLines.lines c.self.inside.rows)) in
    subst (AppendsFront before after) c.self.view_is
    (front_behind before here after c.self.inside.head.items (lines ++ c.self.inside.tail.items)
    (subst (Appends before here) c.deref.ensures.value c.in_ok-write_text.ensures.ok)
    (front_behind here there after lines c.self.inside.tail.items c.in_ok-write_from.ensures.ok
    (subst (AppendsFront there after) c.deref-2.ensures.value c.write_text-2.ensures.front)))

pub returns-clause-ok : goal.returns-clause-ok
returns-clause-ok g c =
    let before : Option (List ℕ) = g.K.Sink.taken c.args.sink.now in
    let here : Option (List ℕ) = g.K.Sink.taken c.write_text.new.sink in
    let there : Option (List ℕ) = g.K.Sink.taken c.write_from.new.sink in
    let after : Option (List ℕ) = g.K.Sink.taken c.write_text-2.new.sink in
    let lines : List ℕ = concat (drop c.self.inside.next (g.T.RowLines.lines c.self.inside.rows)) in
    subst (λ text. OnOk c.write_text-2.result (Appends before after text)) c.self.view_is
    (ok_behind c.write_text-2.result before here after c.self.inside.head.items (lines ++ c.self.inside.tail.items)
    (subst (Appends before here) c.deref.ensures.value c.in_ok-write_text.ensures.ok)
    (ok_behind c.write_text-2.result here there after lines c.self.inside.tail.items c.in_ok-write_from.ensures.ok
    (subst (λ text. OnOk c.write_text-2.result (Appends there after text)) c.deref-2.ensures.value c.write_text-2.ensures.ok)))
