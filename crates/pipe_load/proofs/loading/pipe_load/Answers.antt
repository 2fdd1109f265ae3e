use Rattle.std.proofs.Common.{◌≡◌, List, ℕ, sym, subst, arith, rules}
use Rattle.window_load.specs.declared.stop.LoadStop.TheVariants as stops
use Rattle.pipe_load.specs.declared.layout.Layout.{Layout}
use Rattle.pipe_load.specs.Layout.{IsLayout}
use Rattle.pipe_load.specs.Loading.{IsAllRead}
use Rattle.pipe_load.proofs.AnswerLaws.{one_stop, comes_whole, comes_over}
use Rattle.pipe_load.proofs.LoadLaws.{layout_lies}
use Rattle.pipe_load.proofs.loading.pipe_load.Goals as goal

pub load_rounds-requires-clause-layout : goal.load_rounds-requires-clause-layout
load_rounds-requires-clause-layout g c κs within =
    subst IsLayout (sym c.layout_of-layout.ensures)
    (layout_lies c.args.data_start c.args.loader.now.range_size c.args.loader.now.context.now.schema.max_line_size c.requires.some c.requires.within c.requires.line
    (omega (arith, c.requires.place, c.requires.begins, c.requires.room, c.room-room.ensures.value, c.if-room-eq0.false)))

pub returns-in_err-read-clause-too_large : goal.returns-in_err-read-clause-too_large
returns-in_err-read-clause-too_large g c = λ e.
    let read = c.in_err-read.ensures.reads.1 in
    let moved = read.moved in
    let over = read.too_large (one_stop c.from_residual.result c.in_err-read.field-0.0 stops.TooLarge (search rules) e) in
    let far = moved.2 in
    let most = moved.3 in
    comes_over c.args.head c.drop_front.new.self c.args.data_start (g.S.Source.left c.args.source.now) (g.S.Source.left c.load_rounds.new.source) c.requires.begins c.requires.place c.drop_front.ensures moved.0 moved.1 (omega (arith, far, most, over))

pub returns-in_err-read-clause-failed : goal.returns-in_err-read-clause-failed
returns-in_err-read-clause-failed g c = λ e. c.in_err-read.ensures.reads.1.failed (one_stop c.from_residual.result c.in_err-read.field-0.0 stops.Failed (search rules) e)

pub returns-in_err-read-clause-moved : goal.returns-in_err-read-clause-moved
returns-in_err-read-clause-moved g c = let moved = c.load_rounds.ensures.reads.1.moved in (moved.0, moved.1)

pub returns-in_err-read-clause-held : goal.returns-in_err-read-clause-held
returns-in_err-read-clause-held g c = c.load_rounds.ensures.reads.1.held

pub returns-in_err-read-clause-count : goal.returns-in_err-read-clause-count
returns-in_err-read-clause-count g c = c.load_rounds.ensures.reads.1.count

pub returns-in_err-up_to_reject-clause-moved : goal.returns-in_err-up_to_reject-clause-moved
returns-in_err-up_to_reject-clause-moved g c = let moved = c.load_rounds.ensures.reads.1.moved in (moved.0, moved.1)

pub returns-in_err-up_to_reject-clause-held : goal.returns-in_err-up_to_reject-clause-held
returns-in_err-up_to_reject-clause-held g c = c.load_rounds.ensures.reads.1.held

pub returns-in_err-up_to_reject-clause-count : goal.returns-in_err-up_to_reject-clause-count
returns-in_err-up_to_reject-clause-count g c = c.load_rounds.ensures.reads.1.count

pub returns-clause-moved : goal.returns-clause-moved
returns-clause-moved g c = let moved = c.load_rounds.ensures.reads.1.moved in (moved.0, moved.1)

pub returns-clause-held : goal.returns-clause-held
returns-clause-held g c = c.load_rounds.ensures.reads.1.held

pub returns-clause-count : goal.returns-clause-count
returns-clause-count g c = c.load_rounds.ensures.reads.1.count

pub returns-clause-ok : goal.returns-clause-ok
returns-clause-ok g c =
    let context = c.args.loader.now.context.now in
    let all : (came : List ℕ) × IsAllRead context c.args.data_start c.args.loader.now.range_size c.drop_front.new.self (g.S.Source.left c.args.source.now) (g.S.Source.left c.load_rounds.new.source) came c.in_ok-read.read =
    subst (λ (x : Layout). (came : List ℕ) × IsAllRead context x.data_start x.range_size c.drop_front.new.self (g.S.Source.left c.args.source.now) (g.S.Source.left c.load_rounds.new.source) came c.in_ok-read.read)
    c.layout_of-layout.ensures c.in_ok-read.ensures.ok in
    comes_whole c.args.head c.drop_front.new.self c.args.data_start (g.S.Source.left c.args.source.now) (g.S.Source.left c.load_rounds.new.source) c.requires.begins c.requires.place c.drop_front.ensures
    context c.args.loader.now.range_size c.args.loader.now.stop c.in_ok-read.read c.in_ok-up_to_reject.field-0 all
    (λ is. c.in_ok-up_to_reject.ensures context _ c.args.data_start c.args.loader.now.range_size c.requires.keep is)
