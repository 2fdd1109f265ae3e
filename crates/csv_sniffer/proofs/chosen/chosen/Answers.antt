use Rattle.std.proofs.Common.{List, get_or, map, ap}
use Rattle.std.specs.Prelude.{None}
use Rattle.byte_classes.specs.Dialect.{Marks}
use Rattle.dialect_rank.specs.declared.ranked.Ranked.{Ranked}
use Rattle.dialect_rank.specs.Candidates.{with_delim, no_quote}
use Rattle.dialect_rank.specs.Rank.{best_place}
use Rattle.dialect_rank.specs.Ranked.{ranked_of}
use Rattle.dialect_rank.specs.Score.{score_of}
use Rattle.csv_sniffer.specs.Sniffed.{chosen_dialect}
use Rattle.csv_sniffer.proofs.Answered.{ok_equal}
use Rattle.csv_sniffer.proofs.chosen.chosen.Goals as goal

pub returns : goal.returns
returns c =
    let o = c.args.options.now in
    let sample = c.args.sample.now in
    let whole = c.args.whole in
    let size = o.sample_size in
    let best : List Marks → Ranked = λ cs. ranked_of (get_or cs (best_place (map (λ d. score_of d sample whole size) cs)) (with_delim None 44 no_quote)) sample whole size in
    ok_equal c.best_of.result (best c.in_ok-candidates.candidates) (ranked_of (chosen_dialect o sample whole) sample whole size) c.best_of.ensures (ap best c.in_ok-candidates.ensures.ok)
