use Rattle.std.proofs.Common.{◌≡◌, ◌++◌, List, Vec, Global, ℕ, Option, suc, take, drop, subst, sym, arith}
use Rattle.std.specs.Io.KnownBytes.{Appends}
use Rattle.std.proofs.KnownBytes.{Appends-nil, Appends-trans}
use Rattle.std.proofs.lemmas.List.{take_all}
use Rattle.csv_source.specs.Moves.{AppendsFront}
use Rattle.text_pieces.proofs.Fronts.{cause_failed, front_behind, front_before, text_of, text_of-cut, text_of-take_more, whole_front}
use Rattle.text_pieces.proofs.pieces.write_each.Goals as goal

pub loop-piece-init : goal.loop-piece-init
loop-piece-init g c = record {
  text = Appends-nil (g.K.Sink.taken c.args.sink.now);
  count = omega arith;
}

pub returns-in_err-write_all-clause-front : goal.returns-in_err-write_all-clause-front
returns-in_err-write_all-clause-front g c =
    let pieces : List (Vec ℕ Global) = c.args.pieces.now in
    let at : ℕ = c.loop-piece.piece-index in
    let piece : Vec ℕ Global = c.piece-item.result in
    let before : Option (List ℕ) = g.K.Sink.taken c.args.sink.now in
    let after : Option (List ℕ) = g.K.Sink.taken c.write_all.new.sink in
    let behind : List ℕ = text_of (drop (suc at) pieces) in
    let some : AppendsFront (g.K.Sink.taken c.loop-piece.sink) after piece.items =
    subst (AppendsFront (g.K.Sink.taken c.loop-piece.sink) after) c.deref.ensures.value c.write_all.ensures.front in
    subst (AppendsFront before after) (sym (text_of-cut pieces at piece c.loop-piece-test.true c.piece-item.is))
    (front_behind before (g.K.Sink.taken c.loop-piece.sink) after (text_of (take at pieces)) (piece.items ++ behind) c.loop-piece.invariant.text
    (front_before (g.K.Sink.taken c.loop-piece.sink) after piece.items behind some))

pub returns-in_err-write_all-clause-cause : goal.returns-in_err-write_all-clause-cause
returns-in_err-write_all-clause-cause g c =
    let cause = c.in_err-write_all.ensures.cause in
    cause_failed c.from_residual.result (g.K.Sink.faults c.args.sink.now) (g.K.Sink.faults c.loop-piece.sink) (g.K.Sink.faults c.write_all.new.sink) c.loop-piece.invariant.count cause.later
    cause.failed

pub loop-piece-preserved : goal.loop-piece-preserved
loop-piece-preserved g c =
    let pieces : List (Vec ℕ Global) = c.args.pieces.now in
    let at : ℕ = c.loop-piece.piece-index in
    let piece : Vec ℕ Global = c.piece-item.result in
    let before : Option (List ℕ) = g.K.Sink.taken c.args.sink.now in
    let here : Option (List ℕ) = g.K.Sink.taken c.loop-piece.sink in
    let after : Option (List ℕ) = g.K.Sink.taken c.write_all.new.sink in
    let whole : Appends here after piece.items = subst (Appends here after) c.deref.ensures.value c.in_ok-write_all.ensures.ok in
    record {
      text =
          subst (Appends before after) (sym (text_of-take_more pieces at piece c.loop-piece-test.true c.piece-item.is))
          (Appends-trans before here after (text_of (take at pieces)) piece.items c.loop-piece.invariant.text whole);
      count = omega (arith, c.loop-piece.invariant.count, c.in_ok-write_all.ensures.cause.later);
    }

pub returns-clause-ok : goal.returns-clause-ok
returns-clause-ok g c =
    let pieces : List (Vec ℕ Global) = c.args.pieces.now in
    let all : take c.loop-piece.piece-index pieces ≡ pieces = take_all c.loop-piece.piece-index pieces (omega (arith, c.loop-piece-test.false)) in
    subst (λ ps. Appends (g.K.Sink.taken c.args.sink.now) (g.K.Sink.taken c.loop-piece.sink) (text_of ps)) all c.loop-piece.invariant.text

pub returns-clause-front : goal.returns-clause-front
returns-clause-front g c =
    let pieces : List (Vec ℕ Global) = c.args.pieces.now in
    let before : Option (List ℕ) = g.K.Sink.taken c.args.sink.now in
    let after : Option (List ℕ) = g.K.Sink.taken c.loop-piece.sink in
    let all : take c.loop-piece.piece-index pieces ≡ pieces = take_all c.loop-piece.piece-index pieces (omega (arith, c.loop-piece-test.false)) in
    whole_front before after (text_of pieces) (subst (λ ps. Appends before after (text_of ps)) all c.loop-piece.invariant.text)

pub returns-clause-cause : goal.returns-clause-cause
returns-clause-cause g c = record { later = c.loop-piece.invariant.count; failed = tt }
