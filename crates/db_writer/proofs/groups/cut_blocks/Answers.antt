use Rattle.std.proofs.Common.{◌≡◌, ℕ, ◌+◌, ◌-◌, ◌/◌, ◌%◌, ◌≤◌, ◌⊎◌, ◌*◌, ◌^◌, min, inl, inr, sym, ◌∙◌, ap, subst, arith, refl}
use Rattle.db_writer.specs.Groups.{AreBlocks, IsUnwritten}
use Rattle.db_writer.proofs.Blocks.{All-more, ends_all, ends_block, more, share_of_one}
use Rattle.db_writer.proofs.groups.cut_blocks.Goals as goal

-- a group that doesn't begin a block begins behind the last row, and has none
none : (from rows count : ℕ) → count ≤ rows - from → (from % 8192 ≡ 0) ⊎ (from ≡ rows) → (from % 8192 ≡ 0) ⊎ (from ≡ from + count)
none from rows count few (inl begins) = inl begins
none from rows count few (inr end) = inr (omega (arith, few, end))

pub loop-number-preserved : goal.loop-number-preserved
loop-number-preserved c =
    let rows = c.args.rows in
    let from = c.loop-number.from in
    let count = c.min.result in
    let share = (rows - from) / (c.args.count - c.loop-number.number) in
    let before = c.loop-number.invariant in
    let few = c.ranges.rows.fits in
    let mul = c.saturating_mul.ensures ∙ ap (λ n. min (n * 8192) (2 ^ 64 - 1)) c.div_ceil.ensures in record {
      within = omega (arith, before.within, c.min.ensures);
      all =
          λ last. ends_all rows from share c.saturating_mul.result count before.within few mul c.min.ensures
          (let one : c.args.count - c.loop-number.number ≡ 1 = omega (arith, last) in share_of_one (rows - from) (c.args.count - c.loop-number.number) one);
      block = ends_block rows from share c.saturating_mul.result count before.within few mul c.min.ensures before.block;
      groups =
          subst (λ gs. AreBlocks 0 gs (from + count)) (sym c.in_ok-push.ensures.items)
          (more 0 c.loop-number.groups.items from _ before.groups refl (omega arith) (none from rows count (omega (arith, c.min.ensures)) before.block));
      unwritten =
          All-more (IsUnwritten rows) c.loop-number.groups.items c.push.new.self.items _ c.in_ok-push.ensures.items before.unwritten
          (record { ordered = omega arith; within = omega (arith, before.within, c.min.ensures); leaves = refl });
      count = omega (arith, c.in_ok-push.ensures.len, before.count);
    }
