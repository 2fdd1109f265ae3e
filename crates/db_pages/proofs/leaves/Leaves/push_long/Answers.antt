use Rattle.std.proofs.Common.{◌≡◌, ◌∙◌, ℕ, List, ap, arith}
use Rattle.std.proofs.lemmas.Result.{on_ok_weaker}
use Rattle.db_pages.specs.Grown.{Filled}
use Rattle.db_pages.specs.Laid.{next_place, roomy}
use Rattle.db_pages.proofs.Chains.{after_long, after_long_is}
use Rattle.db_pages.proofs.leaves.Leaves.push_long.Goals as goal

pub returns : goal.returns
returns c =
    let row : List ℕ = c.args.row.now in
    let before : Filled = c.args.self.now in
    let s = c.self.inside in
    let place : c.in_ok-place.place ≡ next_place s.base s.pages.items = c.in_ok-place.ensures ∙ ap (λ xs. next_place s.base xs) c.deref.ensures.value in
    record {
      ok = on_ok_weaker c.push_chain.result
          (λ out. after_long_is s.base s.pages.items s.leaves.items s.cells s.last c.args.rowid row c.split_at.result.1.now c.in_ok-place.place c.local_len.result _ _
          place c.local_len.ensures.value (c.local_len.ensures.some (omega (arith, c.requires.long))) c.local_len.ensures.within c.split_at.ensures.back out c.in_ok-push_long.ensures.ok
          ∙ ap (λ f. after_long f c.args.rowid row) (c.self.view_is ∙ c.in_ok-make_room.ensures.ok
          ∙ ap (λ n. record { base = before.base; laid = roomy before.base before.laid n }) c.long_cell_len.ensures.value)) c.push_chain.ensures.ok;
    }
