use Rattle.std.proofs.Common.{◌≡◌, ◌+◌, ◌<◌, ◌++◌, ◌∷◌, [], ℕ, List, length, refl, sym, ap, ◌∙◌, subst, arith, rules, length-append}
use Rattle.window_load.proofs.ReadSteps.{reads_none, reads_short, reads_same, reads_twice}
use Rattle.pipe_load.specs.declared.layout.Layout.{Layout}
use Rattle.pipe_load.specs.declared.window.Window.{Window}
use Rattle.pipe_load.specs.Feeding.{IsFeed, made_of}
use Rattle.pipe_load.specs.Layout.{lead}
use Rattle.pipe_load.specs.Reading.{CutsOn}
use Rattle.pipe_load.proofs.CuttingLaws.{cuts_none}
use Rattle.pipe_load.proofs.FeedingLaws.{cut_reads, reads_as, cuts_one_more}
use Rattle.pipe_load.proofs.feeding.Feed.put_round.Goals as goal

pub loop-reader-init : goal.loop-reader-init
loop-reader-init g c =
    let begins = c.requires.begins in
    let l : Layout = c.args.reader.now.layout in
    let left = g.S.Source.left c.args.source.now in
    let window = c.args.reader.now.window in
    record {
      feed = begins.feed;
      cuts = (
        [],
        subst (λ (n : ℕ). CutsOn l left left (made_of c.args.self.now) n window window []) (sym begins.start)
            (subst (λ (ws : List Window). CutsOn l left left ws 0 window window []) (sym begins.none) (cuts_none l begins.layout left window)),
      );
      counted = ap length begins.none ∙ sym begins.start;
      few = let start = begins.start in omega (arith, start);
      layout = refl;
      reads = reads_none left (g.S.Source.held c.args.source.now) (g.S.Source.faults c.args.source.now) window begins.at_end;
    }

pub loop-reader-preserved : goal.loop-reader-preserved
loop-reader-preserved g c =
    let inv = c.loop-reader.invariant in
    let l : Layout = c.args.reader.now.layout in
    let made : List Window = made_of c.loop-reader.self in
    let w : Window = c.in_ok-window.window in
    let cut = c.in_ok-window.ensures.ok in
    let fills = c.fill.ensures.moved in
    let there : lead c.loop-reader.reader.layout c.loop-reader.reader.number < length c.loop-reader.reader.window.kept = c.is_done.ensures.some c.if-not-is_done.true in
    let more : List ℕ = inv.cuts.0 ++ fills.moved.0 in
    let cuts =
    cuts_one_more l c.requires.begins.layout (g.S.Source.left c.args.source.now) (g.S.Source.left c.loop-reader.source) (g.S.Source.left c.fill.new.source) w c.loop-reader.reader c.cut.new.self c.fill.new.self
    inv.layout cut fills made c.args.reader.now.window inv.cuts.0 inv.cuts.1 there c.in_ok-fill.ensures.ok c.in_ok-fill.ensures.reads.at_end in
    let grown : length (made_of c.keep.new.self) ≡ length made + 1 = ap length c.in_ok-keep.ensures.ok ∙ length-append made (w ∷ []) in
    let below = c.loop-reader-test.true in
    record {
      feed = subst (λ (n : ℕ). IsFeed c.args.windows.now n c.keep.new.self) inv.feed.pass.stages c.keep.ensures.feed;
      cuts = (
        more,
        subst (λ (ws : List Window). CutsOn l (g.S.Source.left c.args.source.now) (g.S.Source.left c.fill.new.source) ws c.fill.new.self.number c.args.reader.now.window c.fill.new.self.window more)
            (sym c.in_ok-keep.ensures.ok) cuts,
      );
      counted = let n = inv.counted in let f = fills.number in let k = cut.number in omega (arith, grown, n, f, k);
      few = let f = fills.number in let k = cut.number in omega (arith, below, f, k);
      layout = fills.layout ∙ cut.layout ∙ inv.layout;
      reads = reads_twice (cut_reads cut inv.reads) c.in_ok-fill.ensures.reads;
    }

pub returns-in_err-window-clause-reads : goal.returns-in_err-window-clause-reads
returns-in_err-window-clause-reads g c =
    let inv = c.loop-reader.invariant in
    record { reads = reads_short (reads_same inv.reads c.in_err-window.ensures.err) c.from_residual.result (search rules); layout = c.cut.ensures.same ∙ inv.layout }

pub returns-in_err-keep-clause-feed : goal.returns-in_err-keep-clause-feed
returns-in_err-keep-clause-feed g c = subst (λ (n : ℕ). IsFeed c.args.windows.now n c.keep.new.self) c.loop-reader.invariant.feed.pass.stages c.keep.ensures.feed

pub returns-in_err-keep-clause-reads : goal.returns-in_err-keep-clause-reads
returns-in_err-keep-clause-reads g c =
    let inv = c.loop-reader.invariant in
    let cut = c.in_ok-window.ensures.ok in
    record { reads = reads_short (cut_reads cut inv.reads) c.from_residual-in_err-keep.result (search rules); layout = cut.layout ∙ inv.layout }

pub returns-in_err-fill-clause-feed : goal.returns-in_err-fill-clause-feed
returns-in_err-fill-clause-feed g c = subst (λ (n : ℕ). IsFeed c.args.windows.now n c.keep.new.self) c.loop-reader.invariant.feed.pass.stages c.keep.ensures.feed

pub returns-in_err-fill-clause-reads : goal.returns-in_err-fill-clause-reads
returns-in_err-fill-clause-reads g c =
    let inv = c.loop-reader.invariant in
    let cut = c.in_ok-window.ensures.ok in
    record { reads = reads_as c.from_residual-in_err-fill.result c.in_err-fill.field-0.0 (search rules) (reads_twice (cut_reads cut inv.reads) c.in_err-fill.ensures.reads); layout = c.fill.ensures.moved.layout ∙ cut.layout ∙ inv.layout }
