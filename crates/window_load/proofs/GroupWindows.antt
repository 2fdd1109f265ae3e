-- A group that is read in a window is read as it is in all data.
use Rattle.std.proofs.Common.{◌≡◌, ◌⊎◌, ℕ, ◌+◌, ◌*◌, ◌<◌, ◌≤◌, min, Bool, true, List, ◌++◌, length, sym, ◌∙◌, ap, subst, arith, inl, inr}
use Rattle.std.proofs.lemmas.Bool.Decides.{leb_tells}
use Rattle.quote_automaton.specs.declared.state.State.{State}
use Rattle.range_scan.specs.declared.context.Context.{Context}
use Rattle.range_guess.specs.declared.stretch.Stretch.{Stretch as Group}
use Rattle.load_crew.specs.declared.group_read.GroupRead.{GroupRead}
use Rattle.load_crew.specs.Groups.{shared_ranges, shared_groups, group_end, group_of}
use Rattle.load_crew.specs.GroupRead.{IsGroupRead}
use Rattle.load_crew.specs.Laws.{StandsIn}
use Rattle.load_crew.specs.Windows.{behind, Suffices}
use Rattle.load_crew.proofs.CountLaws.{group_counts, group_stands}
use Rattle.load_crew.proofs.WindowLaws.{group_read_in_window}
use Rattle.window_load.specs.Groups.{group_in, group_reach}
use Rattle.window_load.specs.Reading.{MayGoOn}
use Rattle.window_load.specs.Window.{WindowView}
use Rattle.window_load.proofs.WindowSteps.{Stands, place-more, is_over, begins, ends, reaches}

-- the bytes of a whole group
abbrev pub group_width : ℕ → ℕ
group_width size = shared_ranges * size

same_end : (n size k : ℕ) → min (k * group_width size) n ≡ group_end n size k
same_end n size k = let e : k * group_width size ≡ k * shared_ranges * size = omega arith in ap (λ p. min p n) e

module _ (start size k at : ℕ) (text : List ℕ) (w : WindowView) (s : Stands start (group_width size) k at text w) (some : 0 < size) (line : ℕ)
    (filled : (w.ended ≡ true) ⊎ (at + group_reach size line ≤ length w.kept)) where
  wide : 0 < group_width size
  wide = omega (arith, some)

  module _ (there : at < length w.kept) where
    abbrev group : Group
    group = group_in at (length w.kept) size k

    suffices : (more : List ℕ) → MayGoOn w more → Suffices line s.lead w.kept more group
    suffices more may = record {
      holds = record { some = some; ordered = omega (arith, there); within = omega arith };
      before = s.before;
      reaches = reaches start (group_width size) k at text w s wide line filled there more may;
    }

    is_group : (more : List ℕ) → MayGoOn w more → behind (length s.lead) group ≡ group_of (length (text ++ more)) size k
    is_group more may = λ i. record {
      first_range = k * shared_ranges;
      from = (place-more start (group_width size) k at text w s more may ∙ same_end (length (text ++ more)) size k) i;
      to = (ends start (group_width size) k at text w s wide line filled there more may ∙ same_end (length (text ++ more)) size (k + 1)) i;
      range_size = size;
    }

    -- what is read of it in the window is what is read of it in all data
    pub read_in_data : (context : Context) (first : State) (stop : Bool) (read : GroupRead) (more : List ℕ) → line ≡ context.schema.max_line_size → MayGoOn w more →
        IsGroupRead context w.kept w.base group first stop read → IsGroupRead context (text ++ more) start (group_of (length (text ++ more)) size k) first stop read
    read_in_data context first stop read more lines may is =
        let whole : s.lead ++ w.kept ++ more ≡ text ++ more = ap (λ xs. xs ++ more) (sym s.data_is) in
        let here : IsGroupRead context w.kept (start + length s.lead) group first stop read = subst (λ b. IsGroupRead context w.kept b group first stop read) s.base_is is in
        let enough : Suffices context.schema.max_line_size s.lead w.kept more group = subst (λ n. Suffices n s.lead w.kept more group) lines (suffices more may) in
        subst (λ xs. IsGroupRead context xs start (group_of (length (text ++ more)) size k) first stop read) whole
        (subst (λ g. IsGroupRead context (s.lead ++ w.kept ++ more) start g first stop read) (is_group more may)
        (group_read_in_window context s.lead w.kept more start group first stop read enough here))

    -- it is one of the groups
    pub is_one : (more : List ℕ) → MayGoOn w more → k + 1 ≤ shared_groups (length (text ++ more)) size
    is_one more may =
        let before : k * group_width size < length (text ++ more) = begins start (group_width size) k at text w s wide line filled there more may in
        let starts : group_end (length (text ++ more)) size k < length (text ++ more) = omega (arith, before, same_end (length (text ++ more)) size k) in
        omega (arith, group_counts (length (text ++ more)) size k some starts)

  -- no group is left
  pub all_groups_read : at ≡ length w.kept → (more : List ℕ) → MayGoOn w more → k ≤ shared_groups (length (text ++ more)) size → k ≡ shared_groups (length (text ++ more)) size
  all_groups_read over more may few =
      let past : length (text ++ more) ≤ k * group_width size = is_over start (group_width size) k at text w s wide line filled over more may in
      elim (leb_tells (shared_groups (length (text ++ more)) size) k) [
        | inl h ↦ omega (arith, h.1, few)
        | inr h ↦ (let below : k < shared_groups (length (text ++ more)) size = h.1 in
            let stands : StandsIn (length (text ++ more)) size k = group_stands (length (text ++ more)) size k some below in
            absurd (let wrong : ⊥ = omega (arith, stands.begins, past, same_end (length (text ++ more)) size k) in wrong))
      ]
