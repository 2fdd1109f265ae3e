-- Each step of the queue keeps its rule.
use Rattle.std.proofs.Common.{◌≡◌, ℕ, zero, suc, ◌+◌, ◌-◌, ◌<◌, eqb, cond, List, [], ◌∷◌, ◌++◌, length, map, drop, set, sym, refl, ap, ◌∙◌, subst, ⊎_elim, arith, append_assoc, length-append}
use Rattle.std.proofs.lemmas.List.{map-append, append-nil, drop-append-le}
use Rattle.std.proofs.lemmas.List.Elements.{All-append, All-nil, All-push, All-weaker}
use Rattle.std.proofs.lemmas.List.Sums.{sum_by-cons, sum_by-append}
use mathlib.Core.Option.{some}
use lib.ListN.{get_elem?}
use Rattle.crossbeam_queue.specs.Fifo.{Pushes, Pops, Forks, Merges}
use Rattle.crossbeam_queue.proofs.Lists.{at_set, at_snoc}
use Rattle.pipe_load.specs.declared.pass_view.PassView.{PassView}
use Rattle.pipe_load.specs.declared.pass_view.Role.TheVariants as roles
use Rattle.pipe_load.specs.declared.window.Window.{Window}
use Rattle.pipe_load.specs.declared.window.Item.{Item}
use Rattle.pipe_load.specs.declared.window.Item.TheVariants as item
use Rattle.pipe_load.specs.PassViews.{stage_view, spent_view, joined_view, with_stages, after_put, after_take, MayTake, IsNext, IsOneOf}
use Rattle.pipe_load.specs.Rule.{times, end_marks, held, one_if_stage, Fits, Ruled, IsRuled}
use Rattle.pipe_load.proofs.Lists.{at_more, at_one_more, drop_first, marks_more, times-append, once_more, sum_set}

-- what all passes know is so
abbrev pub AllFit : List Window → ℕ → ℕ → ℕ → List PassView → Type 0
AllFit put marks stages caller views = (id : ℕ) (v : PassView) → get_elem? views id ≡ some v → Fits put marks stages caller id v

-- where one view is replaced, and what fits the others fits still
fits_set : (F : ℕ → PassView → Type 0) (views : List PassView) (id : ℕ) (w : PassView) → F id w → ((j : ℕ) (u : PassView) → (j ≡ id → ⊥) → get_elem? views j ≡ some u → F j u)
    → (j : ℕ) (u : PassView) → get_elem? (set views id w) j ≡ some u → F j u
fits_set F views id w mine others j u e =
    ⊎_elim (λ (t : (j ≡ id) × (w ≡ u)). subst (λ (y : ℕ × PassView). F y.0 y.1) (λ i. (sym t.0 i, t.1 i)) mine)
    (λ (t : (j ≡ id → ⊥) × (get_elem? views j ≡ some u)). others j u t.0 t.1) (at_set views id j w u e)

stage_fits : (put : List Window) (marks stages caller id : ℕ) → Fits put marks stages caller id stage_view
stage_fits put marks stages caller id = record { puts = λ p. absurd (cc); other = λ _. refl; joined = λ _. (refl, refl); taken = All-nil _ }

spent_fits : (put : List Window) (marks stages caller id : ℕ) → Fits put marks stages caller id spent_view
spent_fits put marks stages caller id = record { puts = λ p. absurd (cc); other = λ _. refl; joined = λ _. (refl, refl); taken = All-nil _ }

-- a window is put
window_put : (n id : ℕ) (v : PassView) (x : Window) → v.role ≡ roles.Caller → x.number ≡ length v.put → v.puts ≡ length v.put →
    Pushes IsRuled n id v (item.Window x) (λ w. w ≡ after_put v (item.Window x))
window_put n id v x may number none items views _ (put, taken, marks_left, marks, stages, caller, r) at =
    let w : PassView = after_put v (item.Window x) in
    let mine : Fits put marks stages caller id v = r.each id v at in
    let is : (id ≡ caller) × (v.put ≡ put) × (v.puts ≡ length put + marks) × (v.stages ≡ stages) = mine.puts may in
    let put_is : v.put ≡ put = is.1 in
    let same_length : length v.put ≡ length put = ap length put_is in
    let puts_is : v.puts ≡ length put + marks = is.2 in
    let no_marks : marks_left ≡ 0 = omega (arith, r.counted, none, puts_is, same_length) in
    let more : List Window = put ++ x ∷ [] in
    let longer : length more ≡ length put + 1 = length-append put (x ∷ []) in
    let number_is : x.number ≡ length put = number ∙ same_length in
    let up : (u : Window) → IsOneOf put u → IsOneOf more u = λ u e. at_more put (x ∷ []) u.number u e in (
      w,
      (
        more,
        taken,
        marks_left,
        marks,
        stages,
        caller,
        record {
          numbered = λ k u e. ⊎_elim (λ t. r.numbered k u t) (λ t. ap (λ (y : Window). y.number) (sym t.1) ∙ number_is ∙ sym t.0) (at_one_more put x k u e);
          few = omega (arith, r.few, longer);
          holds =
              ap (λ l. l ++ item.Window x ∷ []) (r.holds ∙ ap (held put taken) no_marks ∙ append-nil (map item.Window (drop taken put)))
              ∙ sym (map-append item.Window (drop taken put) (x ∷ []))
              ∙ ap (map item.Window) (sym (drop-append-le taken put (x ∷ []) r.few))
              ∙ sym (append-nil (map item.Window (drop taken more)))
              ∙ ap (held more taken) (sym no_marks);
          once = λ k. omega (arith, r.once k, sum_set (λ u. times k u.taken) views id v w at);
          all = omega (arith, r.all, sum_set (λ u. length u.taken) views id v w at);
          counted = omega (arith, r.counted, sum_set (λ u. u.marks_taken) views id v w at);
          apart = omega (arith, r.apart, sum_set (λ u. one_if_stage u.role) views id v w at);
          each = fits_set (Fits more marks stages caller) views id w
              record {
                puts = λ _. (is.0, ap (λ l. l ++ x ∷ []) put_is, omega (arith, puts_is, longer), is.3);
                other = λ p. absurd (p may);
                joined = mine.joined;
                taken = All-weaker (IsOneOf put) (IsOneOf more) up v.taken mine.taken;
              }
              (λ j u other e. let f : Fits put marks stages caller j u = r.each j u e in record {
                puts = λ p. absurd (other ((f.puts p).0 ∙ sym is.0));
                other = f.other;
                joined = f.joined;
                taken = All-weaker (IsOneOf put) (IsOneOf more) up u.taken f.taken;
              });
        },
      ),
      refl,
    )

-- an end mark is put
mark_put : (n id : ℕ) (v : PassView) → v.role ≡ roles.Caller → Pushes IsRuled n id v item.EndMark (λ w. w ≡ after_put v item.EndMark)
mark_put n id v may items views _ (put, taken, marks_left, marks, stages, caller, r) at =
    let w : PassView = after_put v item.EndMark in
    let mine : Fits put marks stages caller id v = r.each id v at in
    let is : (id ≡ caller) × (v.put ≡ put) × (v.puts ≡ length put + marks) × (v.stages ≡ stages) = mine.puts may in
    let puts_is : v.puts ≡ length put + marks = is.2 in (
      w,
      (
        put,
        taken,
        suc marks_left,
        suc marks,
        stages,
        caller,
        record {
          numbered = r.numbered;
          few = r.few;
          holds =
              ap (λ l. l ++ item.EndMark ∷ []) r.holds
              ∙ append_assoc (map item.Window (drop taken put)) (end_marks marks_left) (item.EndMark ∷ [])
              ∙ ap (λ ms. map item.Window (drop taken put) ++ ms) (marks_more marks_left);
          once = λ k. omega (arith, r.once k, sum_set (λ u. times k u.taken) views id v w at);
          all = omega (arith, r.all, sum_set (λ u. length u.taken) views id v w at);
          counted = omega (arith, r.counted, sum_set (λ u. u.marks_taken) views id v w at);
          apart = omega (arith, r.apart, sum_set (λ u. one_if_stage u.role) views id v w at);
          each = fits_set (Fits put (suc marks) stages caller) views id w
              record { puts = λ _. (is.0, is.1, omega (arith, puts_is), is.3); other = λ p. absurd (p may); joined = mine.joined; taken = mine.taken }
              (λ j u other e. let f : Fits put marks stages caller j u = r.each j u e in record {
                puts = λ p. absurd (other ((f.puts p).0 ∙ sym is.0));
                other = f.other;
                joined = f.joined;
                taken = f.taken;
              });
        },
      ),
      refl,
    )

pub puts : (n id : ℕ) (v : PassView) (x : Item) → v.role ≡ roles.Caller → IsNext v x → Pushes IsRuled n id v x (λ w. w ≡ after_put v x)
puts n id v (item.Window x) may next = window_put n id v x may next.0 next.1
puts n id v item.EndMark may next = mark_put n id v may

-- the first window is taken
window_taken : (id : ℕ) (v : PassView) (x : Window) (rest : List Window) (items : List Item) (views : List PassView) (put : List Window) (taken marks_left marks stages caller : ℕ) → MayTake v →
    drop taken put ≡ x ∷ rest → items ≡ map item.Window rest ++ end_marks marks_left → (its : List Item) → Ruled put taken marks_left marks stages caller its views → get_elem? views id ≡ some v →
    Ruled put (suc taken) marks_left marks stages caller items (set views id (after_take v (item.Window x)))
window_taken id v x rest items views put taken marks_left marks stages caller may left is its r at =
    let w : PassView = after_take v (item.Window x) in
    let first = drop_first put taken x rest left in
    let there : get_elem? put taken ≡ some x = first.0 in
    let after : drop (suc taken) put ≡ rest = first.1 in
    let below : taken < length put = first.2 in
    let number : x.number ≡ taken = r.numbered taken x there in
    let mine : Fits put marks stages caller id v = r.each id v at in
    let it_is : IsOneOf put x = ap (get_elem? put) number ∙ there in
    record {
      numbered = r.numbered;
      few = omega (arith, below);
      holds = is ∙ ap (λ l. map item.Window l ++ end_marks marks_left) (sym after);
      once = λ k. let counted : cond {A = ℕ} (eqb x.number k) 1 0 ≡ cond (eqb taken k) 1 0 = ap (λ n. cond {A = ℕ} (eqb n k) 1 0) number in
          omega (arith, r.once k, once_more k taken, counted, sum_set (λ u. times k u.taken) views id v w at, times-append k v.taken (x ∷ []), sum_by-cons (λ (u : Window). cond {A = ℕ} (eqb u.number k) 1 0) x []);
      all = omega (arith, r.all, sum_set (λ u. length u.taken) views id v w at, length-append v.taken (x ∷ []));
      counted = omega (arith, r.counted, sum_set (λ u. u.marks_taken) views id v w at);
      apart = omega (arith, r.apart, sum_set (λ u. one_if_stage u.role) views id v w at);
      each = fits_set (Fits put marks stages caller) views id w
          record { puts = mine.puts; other = mine.other; joined = λ p. absurd (may.apart p); taken = All-push (IsOneOf put) v.taken x mine.taken it_is }
          (λ j u other e. r.each j u e);
    }

-- an end mark is taken
mark_taken : (id : ℕ) (v : PassView) (m : ℕ) (items : List Item) (views : List PassView) (put : List Window) (taken marks_left marks stages caller : ℕ) → MayTake v →
    drop taken put ≡ [] → items ≡ end_marks m → marks_left ≡ suc m → (its : List Item) → Ruled put taken marks_left marks stages caller its views → get_elem? views id ≡ some v →
    Ruled put taken m marks stages caller items (set views id (after_take v item.EndMark))
mark_taken id v m items views put taken marks_left marks stages caller may none is left its r at =
    let w : PassView = after_take v item.EndMark in
    let mine : Fits put marks stages caller id v = r.each id v at in
    record {
      numbered = r.numbered;
      few = r.few;
      holds = is ∙ ap (λ l. map item.Window l ++ end_marks m) (sym none);
      once = λ k. omega (arith, r.once k, sum_set (λ u. times k u.taken) views id v w at);
      all = omega (arith, r.all, sum_set (λ u. length u.taken) views id v w at);
      counted = omega (arith, r.counted, left, sum_set (λ u. u.marks_taken) views id v w at);
      apart = omega (arith, r.apart, sum_set (λ u. one_if_stage u.role) views id v w at);
      each = fits_set (Fits put marks stages caller) views id w record { puts = mine.puts; other = mine.other; joined = λ p. absurd (may.apart p); taken = mine.taken } (λ j u other e. r.each j u e);
    }

-- whatever stands first
first_taken : (id : ℕ) (v : PassView) (x : Item) (items : List Item) (views : List PassView) (put : List Window) (taken marks_left marks stages caller : ℕ) → MayTake v →
    Ruled put taken marks_left marks stages caller (x ∷ items) views → get_elem? views id ≡ some v → (left : List Window) → drop taken put ≡ left → (m : ℕ) → marks_left ≡ m →
    IsRuled items (set views id (after_take v x))
first_taken id v x items views put taken marks_left marks stages caller may r at (y ∷ rest) left m some_marks =
    let all : x ∷ items ≡ item.Window y ∷ (map item.Window rest ++ end_marks marks_left) = r.holds ∙ ap (λ l. map item.Window l ++ end_marks marks_left) left in
    let head : item.Window y ≡ x = cc in
    let tail : items ≡ map item.Window rest ++ end_marks marks_left = cc in
    subst (λ (z : Item). IsRuled items (set views id (after_take v z))) head
    (put, suc taken, marks_left, marks, stages, caller, window_taken id v y rest items views put taken marks_left marks stages caller may left tail (x ∷ items) r at)
first_taken id v x items views put taken marks_left marks stages caller may r at [] left zero some_marks =
    let all : x ∷ items ≡ [] = r.holds ∙ (λ i. map item.Window (left i) ++ end_marks (some_marks i)) in absurd (cc)
first_taken id v x items views put taken marks_left marks stages caller may r at [] left (suc m) some_marks =
    let all : x ∷ items ≡ item.EndMark ∷ end_marks m = r.holds ∙ (λ i. map item.Window (left i) ++ end_marks (some_marks i)) in
    let head : item.EndMark ≡ x = cc in
    let tail : items ≡ end_marks m = cc in
    subst (λ (z : Item). IsRuled items (set views id (after_take v z))) head
    (put, taken, m, marks, stages, caller, mark_taken id v m items views put taken marks_left marks stages caller may left tail some_marks (x ∷ items) r at)

pub takes : (id : ℕ) (v : PassView) → MayTake v → Pops IsRuled id v (λ x w. w ≡ after_take v x)
takes id v may x items views (put, taken, marks_left, marks, stages, caller, r) at =
    (after_take v x, first_taken id v x items views put taken marks_left marks stages caller may r at (drop taken put) refl marks_left refl, refl)

pub splits : (id : ℕ) (v : PassView) → v.role ≡ roles.Caller → Forks IsRuled id v (with_stages v 1) stage_view
splits id v may items views (put, taken, marks_left, marks, stages, caller, r) at =
    let w : PassView = with_stages v 1 in
    let vs : List PassView = set views id w in
    let mine : Fits put marks stages caller id v = r.each id v at in
    let is : (id ≡ caller) × (v.put ≡ put) × (v.puts ≡ length put + marks) × (v.stages ≡ stages) = mine.puts may in
    let old : AllFit put marks (stages + 1) caller vs = fits_set (Fits put marks (stages + 1) caller) views id w
    record { puts = λ _. (is.0, is.1, is.2, ap (λ n. n + 1) is.3); other = mine.other; joined = mine.joined; taken = mine.taken }
    (λ j u other e. let f : Fits put marks stages caller j u = r.each j u e in record {
      puts = λ p. absurd (other ((f.puts p).0 ∙ sym is.0));
      other = f.other;
      joined = f.joined;
      taken = f.taken;
    }) in (
      put,
      taken,
      marks_left,
      marks,
      stages + 1,
      caller,
      record {
        numbered = r.numbered;
        few = r.few;
        holds = r.holds;
        once = λ k. omega (arith, r.once k, sum_set (λ u. times k u.taken) views id v w at, sum_by-append (λ (u : PassView). times k u.taken) vs (stage_view ∷ []));
        all = omega (arith, r.all, sum_set (λ u. length u.taken) views id v w at, sum_by-append (λ (u : PassView). length u.taken) vs (stage_view ∷ []));
        counted = omega (arith, r.counted, sum_set (λ u. u.marks_taken) views id v w at, sum_by-append (λ (u : PassView). u.marks_taken) vs (stage_view ∷ []));
        apart = omega (arith, r.apart, sum_set (λ u. one_if_stage u.role) views id v w at, sum_by-append (λ (u : PassView). one_if_stage u.role) vs (stage_view ∷ []));
        each = λ j u e. ⊎_elim (λ t. old j u t) (λ t. subst (λ (z : PassView). Fits put marks (stages + 1) caller j z) t (stage_fits put marks (stages + 1) caller j)) (at_snoc vs stage_view u j e);
      },
    )

pub joins : (id : ℕ) (v : PassView) (other : ℕ) (u : PassView) → v.role ≡ roles.Caller → u.role ≡ roles.Stage → Merges IsRuled id v other u (joined_view v u) spent_view
joins id v other u may stage items views (put, taken, marks_left, marks, stages, caller, r) at apart there =
    let w : PassView = joined_view v u in
    let vs : List PassView = set views id w in
    let was : get_elem? views other ≡ some u = ⊎_elim (λ t. absurd (apart t.0)) (λ t. t.1) (at_set views id other w u there) in
    let mine : Fits put marks stages caller id v = r.each id v at in
    let is : (id ≡ caller) × (v.put ≡ put) × (v.puts ≡ length put + marks) × (v.stages ≡ stages) = mine.puts may in
    let theirs : Fits put marks stages caller other u = r.each other u was in
    let one : one_if_stage u.role ≡ 1 = ap one_if_stage stage in
    let now : AllFit put marks (stages - 1) caller vs = fits_set (Fits put marks (stages - 1) caller) views id w
    record {
      puts = λ _. (is.0, is.1, is.2, ap (λ n. n - 1) is.3);
      other = mine.other;
      joined = λ p. absurd (cc);
      taken = All-append (IsOneOf put) v.taken u.taken mine.taken theirs.taken;
    }
    (λ j y other e. let f : Fits put marks stages caller j y = r.each j y e in record {
      puts = λ p. absurd (other ((f.puts p).0 ∙ sym is.0));
      other = f.other;
      joined = f.joined;
      taken = f.taken;
    }) in (
      put,
      taken,
      marks_left,
      marks,
      stages - 1,
      caller,
      record {
        numbered = r.numbered;
        few = r.few;
        holds = r.holds;
        once = λ k. omega (arith, r.once k, sum_set (λ y. times k y.taken) views id v w at, sum_set (λ y. times k y.taken) vs other u spent_view there, times-append k v.taken u.taken);
        all = omega (arith, r.all, sum_set (λ y. length y.taken) views id v w at, sum_set (λ y. length y.taken) vs other u spent_view there, length-append v.taken u.taken);
        counted = omega (arith, r.counted, sum_set (λ y. y.marks_taken) views id v w at, sum_set (λ y. y.marks_taken) vs other u spent_view there);
        apart = omega (arith, r.apart, one, sum_set (λ y. one_if_stage y.role) views id v w at, sum_set (λ y. one_if_stage y.role) vs other u spent_view there);
        each = fits_set (Fits put marks (stages - 1) caller) vs other spent_view (spent_fits put marks (stages - 1) caller other) (λ j y _ e. now j y e);
      },
    )

-- the rule behind a put and a take
pub put_keeps : (id : ℕ) (v : PassView) (x : Item) (items : List Item) (views : List PassView) → v.role ≡ roles.Caller → IsNext v x → IsRuled items views → get_elem? views id ≡ some v → IsRuled (items ++ x ∷ []) (set views id (after_put v x))
put_keeps id v x items views may next h at = let w = puts (suc (length items)) id v x may next items views (omega arith) h at in subst (λ (u : PassView). IsRuled (items ++ x ∷ []) (set views id u)) w.2 w.1

pub take_keeps : (id : ℕ) (v : PassView) (x : Item) (items : List Item) (views : List PassView) → MayTake v → IsRuled (x ∷ items) views → get_elem? views id ≡ some v → IsRuled items (set views id (after_take v x))
take_keeps id v x items views may h at = let w = takes id v may x items views h at in subst (λ (u : PassView). IsRuled items (set views id u)) w.2 w.1
