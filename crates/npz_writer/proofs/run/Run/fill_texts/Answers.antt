use Rattle.std.proofs.Common.{◌-◌, ◌<◌, drop, [], List, ℕ, length, ap, refl, arith, length-drop, length-take}
use Rattle.std.specs.Prelude.{slice_range}
use Rattle.std.proofs.lemmas.List.{length-map}
use Rattle.value_types.specs.Views.{view_cells}
use Rattle.column_store.specs.ViewTypes.{type_of_view}
use Rattle.npz_writer.specs.Arrays.{cell_bytes}
use Rattle.npz_writer.specs.Blocks.{unmarked}
use Rattle.npz_writer.proofs.Runs.{filled_texts}
use Rattle.npz_writer.proofs.TextSteps.{begun, flat, text_moved, text_put}
use Rattle.npz_writer.proofs.Unmarked.{length-unmarked}
use Rattle.npz_writer.proofs.ViewLengths.{cells_of_rows}
use Rattle.npz_writer.proofs.run.Run.fill_texts.Goals as goal

pub loop-pending-init : goal.loop-pending-init
loop-pending-init c =
    let old = c.args.self.now in
    let put = c.put_front-at.ensures in
    let none : List ℕ = [] in
    let texts : List (List ℕ) = unmarked none c.args.nulls.now c.args.texts.now in
    let count = c.put_front-at.result in
    record {
      room = omega (arith, put.room);
      low = omega arith;
      high = c.requires.run.within;
      bytes = begun old.pending.now (flat (slice_range texts old.row old.rows)) count c.args.block.now c.put_front-at.new.block put.bytes;
      first = λ _. omega (arith, put.within, length-take (length old.pending.now - count) (drop count old.pending.now), length-drop count old.pending.now);
      some = λ more. put.some (omega (arith, c.requires.room)) more;
    }

pub text_of-text-requires : goal.text_of-text-requires
text_of-text-requires c =
    let old = c.args.self.now in
    let none : List ℕ = [] in
    let texts : List (List ℕ) = unmarked none c.args.nulls.now c.args.texts.now in
    let wants = c.wants_text.ensures.yes c.loop-pending-test.true in
    omega (
      arith,
      wants.1,
      cells_of_rows old.rows old.view c.requires.run.long,
      ap length c.requires.column,
      length-map (view_cells old.view) (cell_bytes (type_of_view old.view)),
      length-map texts (λ (text : List ℕ). text),
      length-unmarked none c.args.nulls.now c.args.texts.now,
    )

pub overflow_add-row : goal.overflow_add-row
overflow_add-row c = let fits = c.wants_text.ensures.fits c.loop-pending-test.true in omega (arith, fits)

pub loop-pending-preserved : goal.loop-pending-preserved
loop-pending-preserved c =
    let old = c.args.self.now in
    let before = c.loop-pending.invariant in
    let put = c.put_front-count.ensures in
    let wants = c.wants_text.ensures.yes c.loop-pending-test.true in
    let none : List ℕ = [] in
    let texts : List (List ℕ) = unmarked none c.args.nulls.now c.args.texts.now in
    record {
      room = put.room;
      low = omega (arith, before.low);
      high = omega (arith, wants.1);
      bytes = text_put _ c.loop-pending.pending.now texts c.loop-pending.row old.rows c.text_of-text.result.now c.put_front-count.result c.loop-pending.at c.loop-pending.block c.put_front-count.new.block
          c.text_of-text.ensures wants.1 wants.0 put.bytes before.bytes;
      first = λ same. absurd (let no : ⊥ = omega (arith, same, before.low) in no);
      some = λ more. let at : 0 < c.loop-pending.at = before.some more in omega (arith, at);
    }

pub returns : goal.returns
returns c =
    let old = c.args.self.now in
    let end = c.loop-pending.invariant in
    let none : List ℕ = [] in
    filled_texts old _ _ _ (unmarked none c.args.nulls.now c.args.texts.now) c.requires.run refl refl refl c.requires.texts end.high end.room c.requires.column end.bytes
    (text_moved old.row c.loop-pending.row old.rows c.loop-pending.at (length c.loop-pending.pending.now) (length old.pending.now) c.requires.more end.low end.high end.first end.some
    (c.wants_text.ensures.no c.loop-pending-test.false))
