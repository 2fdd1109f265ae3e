-- What a stage keeps, window by window and range by range.
use Rattle.std.proofs.Common.{◌≡◌, ℕ, ◌+◌, List, [], ◌∷◌, ◌++◌, length, map, All, sym, ap, ◌∙◌, subst, arith}
use Rattle.std.proofs.lemmas.List.{map-append}
use Rattle.std.proofs.lemmas.List.Elements.{All-nil, All-push, All-same}
use Rattle.std.proofs.lemmas.List.FromFn.{map-range_with_len_more, length-map-range_with_len}
use Rattle.quote_automaton.specs.declared.state.State.{State}
use Rattle.range_scan.specs.declared.context.Context.{Context}
use Rattle.range_guess.specs.declared.span.Span.{Span}
use Rattle.range_guess.specs.declared.stretch.Stretch.{Stretch}
use Rattle.range_guess.specs.Stretch.{span_of}
use Rattle.range_scan.specs.Scanned.{Scanned, scanned}
use Rattle.crossbeam_queue.specs.Passes.{view}
use Rattle.pipe_load.specs.declared.layout.Layout.{Layout}
use Rattle.pipe_load.specs.declared.pass_view.PassView.{PassView}
use Rattle.pipe_load.specs.declared.scanner.Kept.{Kept}
use Rattle.pipe_load.specs.declared.stage.Stage.{Stage}
use Rattle.pipe_load.specs.declared.window.Window.{Window}
use Rattle.pipe_load.specs.Layout.{base_of, stretch_of, stretch_len}
use Rattle.pipe_load.specs.PassViews.{stage_view, with_stages}
use Rattle.pipe_load.specs.Scanning.{opening_of, guessed_part, guessed_parts, HasParts, IsScanned, HasScanned}

module _ (context : Context) (l : Layout) (w : Window) where
  pub one_more_part : (n : ℕ) (parts new : List Scanned) (part : Scanned) (bytes : List ℕ) (base : ℕ) (s : Stretch) (span : Span) (opened : State) →
      parts ≡ guessed_parts context l w n → new ≡ parts ++ part ∷ [] → part ≡ scanned context bytes base span opened →
      bytes ≡ w.bytes → base ≡ base_of l w → s ≡ stretch_of l w → span ≡ span_of s n → opened ≡ opening_of context.dialect bytes span →
      new ≡ guessed_parts context l w (n + 1)
  one_more_part n parts new part bytes base s span opened parts_are new_is part_is bytes_are base_is s_is span_is opened_is =
      let at : span ≡ span_of (stretch_of l w) n = span_is ∙ ap (λ (x : Stretch). span_of x n) s_is in
      let in_state : opened ≡ opening_of context.dialect w.bytes (span_of (stretch_of l w) n) = opened_is ∙ (λ i. opening_of context.dialect (bytes_are i) (at i)) in
      let is : part ≡ guessed_part context l w n = part_is ∙ (λ i. scanned context (bytes_are i) (base_is i) (at i) (in_state i)) in
      new_is ∙ (λ i. parts_are i ++ is i ∷ []) ∙ sym (map-range_with_len_more (guessed_part context l w) 0 n n (let e : 0 + n ≡ n = omega arith in e))

  pub so_many_parts : (m n : ℕ) (parts : List Scanned) → parts ≡ guessed_parts context l w m → m ≡ n → parts ≡ guessed_parts context l w n
  so_many_parts m n parts is same = is ∙ ap (guessed_parts context l w) same

-- the parts of all ranges are those of the first ones
pub scanned_parts : (context : Context) (l : Layout) (kept : Kept) → IsScanned context l kept → HasParts context l kept
scanned_parts context l kept h =
    let count : ℕ = stretch_len l kept.window in
    let long : length kept.parts.items ≡ count = ap length h.is ∙ length-map-range_with_len (guessed_part context l kept.window) 0 count in
    record { is = so_many_parts context l kept.window count (length kept.parts.items) kept.parts.items h.is (sym long) }

-- one more entry of which a fact is known
pub all_more : {A : Type 0} (P : A → Type 0) (xs ys : List A) (x : A) → ys ≡ xs ++ x ∷ [] → All P xs → P x → All P ys
all_more P xs ys x e h p = All-same P ys (xs ++ x ∷ []) e (All-push P xs x h p)

-- a stage that took nothing
pub fresh_stage : (context : Context) (l : Layout) (stage : Stage) → stage.kept.items ≡ [] → view stage.pass ≡ stage_view → HasScanned context l stage
fresh_stage context l stage none is = record {
  all = ap (map (λ (k : Kept). k.window)) none ∙ sym (ap (λ v. v.taken) is);
  parts = subst (All (IsScanned context l)) (sym none) (All-nil _);
}

-- more stages are split off
pub more_stages : (v : PassView) (m n : ℕ) → with_stages (with_stages v m) n ≡ with_stages v (m + n)
more_stages v m n = let count : v.stages + m + n ≡ v.stages + (m + n) = omega arith in ap (λ k. record v { stages = k }) count

-- a stage that took one more window and keeps it
pub kept_more : (context : Context) (l : Layout) (old new : Stage) (kept : Kept) → HasScanned context l old → new.kept.items ≡ old.kept.items ++ kept ∷ [] →
    (view new.pass).taken ≡ (view old.pass).taken ++ kept.window ∷ [] → IsScanned context l kept → HasScanned context l new
kept_more context l old new kept h is taken parts = record {
  all =
      ap (map (λ (k : Kept). k.window)) is ∙ map-append (λ (k : Kept). k.window) old.kept.items (kept ∷ [])
      ∙ ap (λ ws. ws ++ kept.window ∷ []) h.all ∙ sym taken;
  parts = all_more (IsScanned context l) old.kept.items new.kept.items kept is h.parts parts;
}
