use Rattle.part_cuts.proofs.CountedLaws.{goes_further, goes_on_quiet}
use Rattle.part_cuts.proofs.row_count.walk.Goals as goal

pub loop-counted-preserved : goal.loop-counted-preserved
loop-counted-preserved c =
    let rule = c.args.rule.now in
    let bytes = c.args.bytes.now in
    let next = c.next_byte-next.result in
    goes_further rule bytes c.args.from c.loop-counted.counted _ c.loop-counted.invariant
    (goes_further rule bytes c.loop-counted.counted next _ c.next_byte-next.ensures.on
    (goes_on_quiet rule bytes next c.run_end-at.result c.run_end-at.ensures.low c.run_end-at.ensures.high c.run_end-at.ensures.quiet))
