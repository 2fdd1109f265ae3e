use Rattle.std.proofs.Common.{rules, ◌≡◌, ◌-◌, ◌≤◌, ℕ, length, sym, ap, ◌∙◌, subst, arith}
use Rattle.window_load.specs.Window.{WindowView}
use Rattle.window_load.proofs.ReadSteps.{reads_from, reads_short, reads_same, reads_twice}
use Rattle.window_load.specs.declared.data_read.DataRead.{DataRead}
use Rattle.range_scan.specs.declared.context.Context.{Context}
use Rattle.pipe_load.specs.declared.layout.Layout.{Layout}
use Rattle.pipe_load.specs.Layout.{IsLayout, lead, turned}
use Rattle.window_load.specs.DataRead.{data_read}
use Rattle.pipe_load.specs.Loading.{AddsRound, IsAllRead}
use Rattle.pipe_load.proofs.FeedingLaws.{reads_as}
use Rattle.pipe_load.proofs.RoundLaws.{IsUpToRound, started_cut, first_round, round_on, turned_on, all_done, few_before}
use Rattle.pipe_load.proofs.loading.load_rounds.Goals as goal

pub loop-joined-init : goal.loop-joined-init
loop-joined-init g c =
    let context = c.args.loader.now.context.now in
    let before = g.S.Source.left c.args.source.now in
    let after = g.S.Source.left c.fill.new.source in
    let fills = c.fill.ensures.moved in
    let same : c.fill.new.self.layout ≡ c.args.layout = fills.layout ∙ c.new-reader.ensures.layout in
    let begun = c.in_ok-joined.ensures in
    let cut = started_cut c.args.layout c.requires.layout before after c.args.window c.new-reader.result c.fill.new.self c.requires.first c.new-reader.ensures fills c.in_ok-fill.ensures.ok c.in_ok-fill.ensures.reads.at_end in
    record {
      plan = same ∙ (λ i. record c.args.layout { before = sym (ap (λ (x : Layout). x.before) same) i });
      lies = subst IsLayout (sym same) c.requires.layout;
      number = fills.number ∙ c.new-reader.ensures.number;
      up_to = subst (λ (x : Layout). IsUpToRound context x c.args.window before after c.fill.new.self.window c.in_ok-joined.joined) (sym same)
          (first_round context c.args.layout c.requires.layout c.args.window before after fills.moved.0 c.fill.new.self.window c.in_ok-joined.joined c.requires.first cut begun);
      types = begun.part.types;
      keep = ap (λ b. b.keep) begun.part.book;
      reads = reads_from c.new-reader.ensures.held c.in_ok-fill.ensures.reads;
    }

pub returns-in_err-fill-clause-reads : goal.returns-in_err-fill-clause-reads
returns-in_err-fill-clause-reads g c = (c.fill.new.self.window, reads_as c.from_residual.result c.in_err-fill.field-0.0 (search rules) (reads_from c.new-reader.ensures.held c.in_err-fill.ensures.reads))

pub returns-in_err-joined-clause-reads : goal.returns-in_err-joined-clause-reads
returns-in_err-joined-clause-reads g c = (c.fill.new.self.window, reads_short (reads_from c.new-reader.ensures.held c.in_ok-fill.ensures.reads) c.from_residual-in_err-joined.result (search rules))

pub returns-in_err-load_round-clause-reads : goal.returns-in_err-load_round-clause-reads
returns-in_err-load_round-clause-reads g c = (c.load_round.new.reader.window, reads_as c.from_residual-in_err-load_round.result c.in_err-load_round.field-0.0 (search rules) (reads_twice c.loop-joined.invariant.reads c.in_err-load_round.ensures.reads.reads))

pub returns-then-is_done-clause-reads : goal.returns-then-is_done-clause-reads
returns-then-is_done-clause-reads g c = (c.load_round.new.reader.window, reads_twice c.loop-joined.invariant.reads c.in_ok-load_round.ensures.reads.reads)

pub returns-then-is_done-clause-ok : goal.returns-then-is_done-clause-ok
returns-then-is_done-clause-ok g c =
    let context = c.args.loader.now.context.now in
    let l : Layout = c.loop-joined.reader.layout in
    let before = g.S.Source.left c.args.source.now in
    let after = g.S.Source.left c.load_round.new.source in
    let new = c.load_round.new in
    let inv = c.loop-joined.invariant in
    let ok = c.in_ok-load_round.ensures.ok in
    let round : AddsRound context l (g.S.Source.left c.loop-joined.source) after new.reader.number c.loop-joined.reader.window new.reader.window ok.0 c.loop-joined.joined new.joined =
    subst (λ (x : Layout). AddsRound context x (g.S.Source.left c.loop-joined.source) after new.reader.number c.loop-joined.reader.window new.reader.window ok.0 c.loop-joined.joined new.joined) c.round_of.ensures.layout
    (subst (λ (y : Context). AddsRound y c.round_of.result.scanner.layout (g.S.Source.left c.loop-joined.source) after new.reader.number c.loop-joined.reader.window new.reader.window ok.0 c.loop-joined.joined new.joined)
    c.round_of.ensures.context ok.1) in
    let up = round_on context l inv.lies c.args.window before (g.S.Source.left c.loop-joined.source) after new.reader.number c.loop-joined.reader.window new.reader.window ok.0 c.loop-joined.joined new.joined inv.up_to round in
    let few : length new.reader.window.kept ≤ lead l new.reader.number =
    subst (λ (x : Layout). length new.reader.window.kept ≤ lead x new.reader.number) c.load_round.ensures.reads.layout (c.is_done.ensures.none c.if-is_done.true) in
    let count : ℕ = c.reach.result - c.base-start.result in
    let done = all_done context l inv.lies c.args.window before after new.reader.number new.reader.window new.joined up few count (λ i. c.reach.ensures i - c.base-start.ensures i) in (
      done.0,
      subst (λ (d : DataRead). IsAllRead context c.args.layout.data_start c.args.layout.range_size c.args.window before after done.0 d) (sym c.of.ensures)
          (subst (λ (x : Layout). IsAllRead context x.data_start x.range_size c.args.window before after done.0 (data_read new.joined count x.range_size)) inv.plan done.1),
    )

pub turn-requires : goal.turn-requires
turn-requires g c =
    let context = c.args.loader.now.context.now in
    let l : Layout = c.loop-joined.reader.layout in
    let before = g.S.Source.left c.args.source.now in
    let after = g.S.Source.left c.load_round.new.source in
    let new = c.load_round.new in
    let inv = c.loop-joined.invariant in
    let ok = c.in_ok-load_round.ensures.ok in
    let round : AddsRound context l (g.S.Source.left c.loop-joined.source) after new.reader.number c.loop-joined.reader.window new.reader.window ok.0 c.loop-joined.joined new.joined =
    subst (λ (x : Layout). AddsRound context x (g.S.Source.left c.loop-joined.source) after new.reader.number c.loop-joined.reader.window new.reader.window ok.0 c.loop-joined.joined new.joined) c.round_of.ensures.layout
    (subst (λ (y : Context). AddsRound y c.round_of.result.scanner.layout (g.S.Source.left c.loop-joined.source) after new.reader.number c.loop-joined.reader.window new.reader.window ok.0 c.loop-joined.joined new.joined)
    c.round_of.ensures.context ok.1) in
    let up = round_on context l inv.lies c.args.window before (g.S.Source.left c.loop-joined.source) after new.reader.number c.loop-joined.reader.window new.reader.window ok.0 c.loop-joined.joined new.joined inv.up_to round in
    let few = few_before context l inv.lies c.args.window before after new.reader.number new.reader.window new.joined up c.requires.room in
    let same : new.reader.layout.before ≡ l.before = ap (λ (x : Layout). x.before) c.load_round.ensures.reads.layout in
    record { early = omega (arith, few, same) }

pub loop-joined-preserved : goal.loop-joined-preserved
loop-joined-preserved g c =
    let context = c.args.loader.now.context.now in
    let l : Layout = c.loop-joined.reader.layout in
    let before = g.S.Source.left c.args.source.now in
    let after = g.S.Source.left c.load_round.new.source in
    let new = c.load_round.new in
    let n : ℕ = new.reader.number in
    let inv = c.loop-joined.invariant in
    let ok = c.in_ok-load_round.ensures.ok in
    let round : AddsRound context l (g.S.Source.left c.loop-joined.source) after n c.loop-joined.reader.window new.reader.window ok.0 c.loop-joined.joined new.joined =
    subst (λ (x : Layout). AddsRound context x (g.S.Source.left c.loop-joined.source) after n c.loop-joined.reader.window new.reader.window ok.0 c.loop-joined.joined new.joined) c.round_of.ensures.layout
    (subst (λ (y : Context). AddsRound y c.round_of.result.scanner.layout (g.S.Source.left c.loop-joined.source) after n c.loop-joined.reader.window new.reader.window ok.0 c.loop-joined.joined new.joined)
    c.round_of.ensures.context ok.1) in
    let up = round_on context l inv.lies c.args.window before (g.S.Source.left c.loop-joined.source) after n c.loop-joined.reader.window new.reader.window ok.0 c.loop-joined.joined new.joined inv.up_to round in
    let few = few_before context l inv.lies c.args.window before after n new.reader.window new.joined up c.requires.room in
    let turn = c.turn.ensures in
    let same : c.turn.new.self.layout ≡ turned l n = turn.layout ∙ ap (λ (x : Layout). turned x n) c.load_round.ensures.reads.layout in
    let lies = inv.lies in
    record {
      plan = same ∙ ap (λ (x : Layout). turned x n) inv.plan ∙ (λ i. record c.args.layout { before = sym (ap (λ (x : Layout). x.before) same) i });
      lies = subst IsLayout (sym same) record {
        some = lies.some;
        ranges = lies.ranges;
        start = lies.start;
        size = lies.size;
        few = lies.few;
        short = lies.short;
        far = lies.far;
        early = omega (arith, few);
      };
      number = turn.number;
      up_to = subst (λ (x : Layout). IsUpToRound context x c.args.window before after c.turn.new.self.window new.joined) (sym same)
          (subst (λ (v : WindowView). IsUpToRound context (turned l n) c.args.window before after v new.joined) (sym turn.window) (turned_on context l inv.lies c.args.window before after n new.reader.window new.joined up));
      types = round.adds.types;
      keep = round.adds.keep;
      reads = reads_same (reads_twice inv.reads c.in_ok-load_round.ensures.reads.reads) turn.window;
    }
