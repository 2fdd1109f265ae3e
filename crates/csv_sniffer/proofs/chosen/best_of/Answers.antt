use Rattle.std.proofs.Common.{◌∙◌, ap, arith, sym}
use Rattle.std.specs.Prelude.{None}
use Rattle.std.specs.List.{position_or_len}
use Rattle.dialect_rank.specs.Alike.{reads_alike}
use Rattle.dialect_rank.specs.Candidates.{with_delim, no_quote}
use Rattle.dialect_rank.specs.Rank.{is_above}
use Rattle.dialect_rank.specs.Ranked.{higher, ranked_of}
use Rattle.dialect_rank.specs.Score.{score_of}
use Rattle.csv_sniffer.proofs.BestRanked.{best_of_alike, best_of_all, best_of_kept, best_of_more, best_of_one}
use Rattle.csv_sniffer.proofs.chosen.best_of.Goals as goal

pub loop-place-init : goal.loop-place-init
loop-place-init c = record {
  best = best_of_one c.args.sample.now c.args.whole c.args.sample_size c.args.candidates.now (with_delim None 44 no_quote) c.get.result c.in_ok-best.best c.get.ensures c.in_ok-best.ensures;
  bytes = c.new-searched.ensures.bytes;
  whole = c.new-searched.ensures.whole;
  size = c.new-searched.ensures.size;
}

pub loop-place-preserved-then-not-may_win : goal.loop-place-preserved-then-not-may_win
loop-place-preserved-then-not-may_win c =
    let h = c.loop-place.invariant in
    let so = h.best in
    let best = c.loop-place.best in
    let d = c.get-dialect.result in
    let level = (λ i. is_above (score_of d (sym h.bytes i) (sym h.whole i) (sym h.size i)) best.score) ∙ c.in_ok-may_win.ensures c.if-not-may_win.true in
    record {
      best = best_of_kept c.args.sample.now c.args.whole c.args.sample_size c.args.candidates.now (with_delim None 44 no_quote) c.loop-place.place best d c.get-dialect.ensures so.0 so.1 so.2 level;
      bytes = h.bytes;
      whole = h.whole;
      size = h.size;
    }

pub loop-place-preserved-then-first_alike-place : goal.loop-place-preserved-then-first_alike-place
loop-place-preserved-then-first_alike-place c =
    let h = c.loop-place.invariant in
    let so = h.best in
    let d = c.get-dialect.result in
    let ds = c.args.candidates.now in
    let found = c.first_alike.ensures in
    let first = found.value ∙ ap (λ bytes. position_or_len (λ other. reads_alike bytes other d) ds) h.bytes in
    record {
      best = best_of_alike c.args.sample.now c.args.whole c.args.sample_size ds (with_delim None 44 no_quote) c.loop-place.place c.loop-place.best d c.get-dialect.ensures so.0 so.1 so.2
          c.first_alike.result c.requires.sound first c.if-first_alike-place.true;
      bytes = found.bytes ∙ h.bytes;
      whole = found.whole ∙ h.whole;
      size = found.size ∙ h.size;
    }

pub loop-place-preserved : goal.loop-place-preserved
loop-place-preserved c =
    let h = c.loop-place.invariant in
    let so = h.best in
    let best = c.loop-place.best in
    let d = c.get-dialect.result in
    let found = c.first_alike.ensures in
    let bytes = found.bytes ∙ h.bytes in
    let whole = found.whole ∙ h.whole in
    let size = found.size ∙ h.size in
    let new = c.in_ok-best-2.ensures ∙ (λ i. higher best (ranked_of d (bytes i) (whole i) (size i))) in
    record {
      best = best_of_more c.args.sample.now c.args.whole c.args.sample_size c.args.candidates.now (with_delim None 44 no_quote) c.loop-place.place best d c.get-dialect.ensures so.0 so.1 so.2 c.in_ok-best-2.best new;
      bytes = bytes;
      whole = whole;
      size = size;
    }

pub returns : goal.returns
returns c =
    best_of_all c.args.sample.now c.args.whole c.args.sample_size c.args.candidates.now (with_delim None 44 no_quote) c.loop-place.place c.loop-place.best (omega arith) c.requires.some c.loop-place.invariant.best

pub returns-then-len-eq1 : goal.returns-then-len-eq1
returns-then-len-eq1 c =
    let sample = c.args.sample.now in
    let whole = c.args.whole in
    let size = c.args.sample_size in
    let candidates = c.args.candidates.now in
    let default = with_delim None 44 no_quote in
    best_of_all sample whole size candidates default 1 c.in_ok-best.best (omega (arith, c.len.ensures, c.if-len-eq1.true)) c.requires.some
    (best_of_one sample whole size candidates default c.get.result c.in_ok-best.best c.get.ensures c.in_ok-best.ensures)
