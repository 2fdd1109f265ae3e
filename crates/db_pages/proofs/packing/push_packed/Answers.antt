use Rattle.std.proofs.Common.{◌+◌, ◌-◌, ◌*◌, ◌++◌, List, ℕ, length, replicate, sym, ◌∙◌, ap}
use Rattle.std.proofs.lemmas.Result.{on_ok_weaker}
use Rattle.db_pages.specs.Cut.{starts}
use Rattle.db_pages.proofs.Appends.{three_behind}
use Rattle.db_pages.proofs.Cuts.{packed_cut}
use Rattle.db_pages.proofs.packing.push_packed.Goals as goal

pub returns : goal.returns
returns c =
    let old : List ℕ = c.args.into.now.items in
    let cells : List ℕ = c.args.cells.now in
    let first : List ℕ = starts (4096 - length cells) c.args.sizes.now in
    let zeros : List ℕ = replicate (4096 - length cells - (c.args.head + 2 * length c.args.sizes.now)) 0 in
    record {
      ok = on_ok_weaker c.append.result
          (λ out. three_behind old first zeros cells _ _ _ c.in_ok-push_starts.ensures.ok c.in_ok-push_zeros.ensures.ok out
          ∙ ap (λ xs. old ++ xs) (sym (packed_cut c.args.head c.args.sizes.now cells c.requires.whole))) c.append.ensures.ok;
    }
