use Rattle.std.proofs.Common.{◌≡◌, ◌++◌, ℕ, List, length, take, drop, sym, ◌∙◌, ap, subst, arith}
use Rattle.std.proofs.Math.Seq.{take-append_seam}
use Rattle.db_writer.specs.declared.groups.Group.{Group}
use Rattle.db_writer.specs.Groups.{AreBlocks}
use Rattle.db_writer.proofs.Blocks.{blocks-written}
use Rattle.db_pages.specs.Grown.{Grown, grown}
use Rattle.db_writer.specs.Written.{records_of}
use Rattle.db_writer.proofs.database.write_pages.Goals as goal

-- a list of so many things is all that a slice of as many was written back over
whole : {X : Type 0} (len : ℕ) (new old : List X) → len ≡ length new → take len (new ++ drop (length new) old) ≡ new
whole len new old count = ap (λ n. take n (new ++ drop (length new) old)) count ∙ take-append_seam new (drop (length new) old)

pub push_groups-requires-clause-blocks : goal.push_groups-requires-clause-blocks
push_groups-requires-clause-blocks g c =
    let rows = c.args.rows.now.rows in
    let len = c.in_ok-groups.groups.len in
    let cut : List Group = c.in_ok-groups.groups.items in
    let first : List Group = c.as_mut_slice.result.now in
    let written : List Group = c.write_groups.new.groups in
    let next : List Group = c.as_mut_slice-2.result.now in
    let last : List Group = c.write_again.new.groups in
    let there : take len (written ++ drop (length written) cut) ≡ written = whole len written cut (omega (arith, c.as_mut_slice.ensures.len, c.write_groups.auto.groups)) in
    let are : AreBlocks 0 first (length rows) =
    subst (AreBlocks 0 first) c.rows-count.ensures (subst (λ gs. AreBlocks 0 gs c.rows-count.result) (sym c.as_mut_slice.ensures.value) c.in_ok-groups.ensures.groups) in
    let once : AreBlocks 0 written (length rows) = blocks-written rows first written 0 (length rows) are c.write_groups.auto.groups c.write_groups.ensures in
    let again : AreBlocks 0 next (length rows) = subst (λ gs. AreBlocks 0 gs (length rows)) (sym (c.as_mut_slice-2.ensures.value ∙ there)) once in
    subst (λ gs. AreBlocks 0 gs (length rows))
    (sym (whole len last (take len (written ++ drop (length written) cut)) (omega (arith, c.as_mut_slice-2.ensures.len, c.write_again.auto.groups))))
    (blocks-written rows next last 0 (length rows) again c.write_again.auto.groups c.write_again.ensures)

pub returns : goal.returns
returns g c = record { ok = c.in_ok-push_groups.ensures.ok ∙ ap (λ (p : Grown). grown p.base 1 (records_of c.args.rows.now.rows)) c.new-pages.ensures }
