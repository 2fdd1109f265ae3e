-- What a pass learns of the queue's rule.
use Rattle.std.proofs.Common.{◌≡◌, ℕ, ◌+◌, ◌≤◌, List, length, sum_by, All, sym, subst, arith}
use Rattle.crossbeam_queue.specs.Fifo.{Learns}
use Rattle.pipe_load.specs.declared.pass_view.PassView.{PassView}
use Rattle.pipe_load.specs.declared.pass_view.Role.TheVariants as roles
use Rattle.pipe_load.specs.declared.window.Window.{Window}
use Rattle.pipe_load.specs.PassViews.{IsOneOf, IsSettled}
use Rattle.pipe_load.specs.Rule.{Fits, IsRuled, IsMoment}
use Rattle.pipe_load.proofs.Lists.{sum_covers}

-- at the caller's moments each window that it took is the one that it put, and it took no more than it put
pub settles : (id : ℕ) (v : PassView) → v.role ≡ roles.Caller → Learns IsRuled id v (λ items. IsSettled v)
settles id v may items views (put, taken, marks_left, marks, stages, caller, r) at =
    let mine : Fits put marks stages caller id v = r.each id v at in
    let is : (id ≡ caller) × (v.put ≡ put) × (v.puts ≡ length put + marks) × (v.stages ≡ stages) = mine.puts may in
    let puts_is = is.2 in
    let windows : length v.taken ≤ sum_by (λ u. length u.taken) views = sum_covers (λ u. length u.taken) views id v at in
    let ends : v.marks_taken ≤ sum_by (λ u. u.marks_taken) views = sum_covers (λ u. u.marks_taken) views id v at in record {
      one = subst (λ (l : List Window). All (IsOneOf l) v.taken) (sym is.1) mine.taken;
      most = omega (arith, windows, ends, puts_is, r.all, r.few, r.counted);
    }

-- what a pass learns of any moment
pub moments : (id : ℕ) (v : PassView) → Learns IsRuled id v (IsMoment v)
moments id v items views h at = record { views = views; id = id; knows = at; rule = h }
