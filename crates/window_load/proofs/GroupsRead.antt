-- How far the groups of the data are read in windows, turn by turn.
use Rattle.std.proofs.Common.{◌≡◌, ℕ, ◌+◌, ◌-◌, ◌<◌, ◌≤◌, Bool, true, false, List, [], ◌++◌, length, Option, refl, sym, ◌∙◌, ap, subst, arith}
use Rattle.std.specs.Prelude.{Some, option_map, slice_get}
use Rattle.csv_source.specs.Moves.{MovesFront}
use Rattle.quote_automaton.specs.declared.state.State.{State}
use Rattle.quote_automaton.specs.declared.state.State.TheVariants.{RowStart}
use Rattle.reject_book.specs.declared.book.Keep.TheVariants.{First}
use Rattle.reject_book.specs.declared.reject.Reject.{Reject}
use Rattle.reject_book.specs.BookView.{BookView}
use Rattle.reject_book.specs.Kept.{raised}
use Rattle.range_scan.specs.declared.context.Context.{Context}
use Rattle.range_scan.specs.declared.joined.Joined.{Joined}
use Rattle.range_scan.specs.Joined.{IsBegun, IsAppended}
use Rattle.range_guess.specs.declared.stretch.Stretch.{Stretch as Group}
use Rattle.load_crew.specs.declared.group_read.GroupRead.{GroupRead}
use Rattle.load_crew.specs.GroupRead.{IsGroupRead}
use Rattle.load_crew.specs.Groups.{shared_groups, group_of}
use Rattle.window_load.specs.declared.course.Course.{Course}
use Rattle.window_load.specs.declared.data_read.WindowRead.TheVariants as reads
use Rattle.window_load.specs.DataRead.{data_read}
use Rattle.window_load.specs.Groups.{group_in, group_reach}
use Rattle.window_load.specs.Reading.{MayGoOn, IsReadInWindows, IsReadUpTo}
use Rattle.window_load.specs.Window.{WindowView, reach, behind_front, IsFilled}
use Rattle.window_load.proofs.GroupSteps.{begun, added, has_first, stopped, whole}
use Rattle.window_load.proofs.GroupWindows.{group_width, read_in_data, is_one, all_groups_read}
use Rattle.window_load.proofs.SoFar.{IsReadSoFar}
use Rattle.window_load.proofs.SoFar as so_far

-- the first k groups are read, which are groups of the data
abbrev pub AreGroupsRead : Context → Course → ℕ → Joined → List ℕ → Type 0
AreGroupsRead context course k joined text = IsReadUpTo context text course k joined × (k ≤ shared_groups (length text) course.range_size)

-- and the window stands at the next one
abbrev pub IsUpToGroup : Context → Course → Option (List ℕ) → Option (List ℕ) → WindowView → WindowView → ℕ → ℕ → Joined → Type 0
IsUpToGroup context course left_before left_after old w k at joined =
    IsReadSoFar (AreGroupsRead context course k joined) course.start (group_width course.range_size) left_before left_after old w k at

module _ (context : Context) (course : Course) (some : 0 < course.range_size) (left_before : Option (List ℕ)) (old : WindowView) where
  pub read_none : (joined : Joined) → old.base ≡ course.start → IsBegun context RowStart joined → IsUpToGroup context course left_before left_before old old 0 0 joined
  read_none joined begins begin =
      so_far.read_none (AreGroupsRead context course 0 joined) course.start (group_width course.range_size) left_before old begins
      (λ text. (begun context text course some joined begin, omega arith))

  module _ (left_after : Option (List ℕ)) (w : WindowView) (k at : ℕ) (joined : Joined) (r : IsUpToGroup context course left_before left_after old w k at joined) where
    pub read_more : (left_next : Option (List ℕ)) (w2 : WindowView) → MovesFront left_after left_next w.kept w2.kept → w2.base ≡ w.base → w2.most ≡ w.most → (w.ended ≡ true → w2 ≡ w) →
        IsUpToGroup context course left_before left_next old w2 k at joined
    read_more left_next w2 moves base most stays =
        so_far.read_more (AreGroupsRead context course k joined) course.start (group_width course.range_size) left_before left_after old w k at r left_next w2 moves base most stays

    -- its table and its book are those of the context
    pub are_types : joined.table.types ≡ context.schema.types
    are_types = (r.read [] (λ ended. refl)).0.part.types

    pub is_keep : joined.book.keep ≡ context.keep
    is_keep = ap (λ (b : BookView). b.keep) (r.read [] (λ ended. refl)).0.part.book

    -- all groups are read
    pub read_all : IsFilled (at + group_reach course.range_size context.schema.max_line_size) w → at ≡ length w.kept → old.base ≡ course.start → (count : ℕ) → count ≡ reach w - course.start →
        IsReadInWindows context course left_before left_after old w (reads.All (data_read joined count course.range_size))
    read_all filled over begins count counted = (
      r.came,
      r.taken,
      r.reached,
      r.quiet,
      λ more may.
          let last : k ≡ shared_groups (length ((old.kept ++ r.came) ++ more)) course.range_size =
          all_groups_read course.start course.range_size k at (old.kept ++ r.came) w r.stands some context.schema.max_line_size filled.0 over more may (r.read more may).1 in
          let wide : 0 < group_width course.range_size = omega (arith, some) in
          whole context ((old.kept ++ r.came) ++ more) course some joined count
          (counted ∙ so_far.read_length (AreGroupsRead context course k joined) course.start (group_width course.range_size) left_before left_after old w k at r wide context.schema.max_line_size filled.0 over begins more may)
          (subst (λ n. IsReadUpTo context ((old.kept ++ r.came) ++ more) course n joined) last (r.read more may).0),
    )

    module _ (filled : IsFilled (at + group_reach course.range_size context.schema.max_line_size) w) (there : at < length w.kept) (read : GroupRead)
        (is : IsGroupRead context w.kept w.base (group_in at (length w.kept) course.range_size k) joined.end course.stop read) where
      abbrev text : List ℕ
      text = old.kept ++ r.came

      in_data : (more : List ℕ) → MayGoOn w more → IsGroupRead context (text ++ more) course.start (group_of (length (text ++ more)) course.range_size k) joined.end course.stop read
      in_data more may = read_in_data course.start course.range_size k at text w r.stands some context.schema.max_line_size filled.0 there context joined.end course.stop read more refl may is

      -- the reading goes on behind the group
      pub read_next : read.stopped ≡ false → (new : Joined) → IsAppended read.joined joined new →
          IsUpToGroup context course left_before left_after old (behind_front ((group_in at (length w.kept) course.range_size k).to - 1) w) (k + 1) 1 new
      read_next goes_on new adds =
          let wide : 0 < group_width course.range_size = omega (arith, some) in
          so_far.read_step (AreGroupsRead context course k joined) course.start (group_width course.range_size) left_before left_after old w k at r
          (AreGroupsRead context course (k + 1) new) wide context.schema.max_line_size filled.0 there
          (λ more may h. (
            added context (text ++ more) course some k joined read h.0 (in_data more may) goes_on new adds,
            is_one course.start course.range_size k at text w r.stands some context.schema.max_line_size filled.0 there more may,
          ))

      pub read_in_next : read.stopped ≡ false → (new : Joined) → IsAppended read.joined joined new → (w2 : WindowView) (group : Group) {len : ℕ} → group ≡ group_in at len course.range_size k → len ≡ length w.kept →
          w2 ≡ behind_front (group.to - 1) w → IsUpToGroup context course left_before left_after old w2 (k + 1) 1 new
      read_in_next goes_on new adds w2 group is_group is_len is_front =
          subst (λ v. IsUpToGroup context course left_before left_after old v (k + 1) 1 new)
          (sym (is_front ∙ ap (λ (g : Group). behind_front (g.to - 1) w) (is_group ∙ ap (λ n. group_in at n course.range_size k) is_len)))
          (read_next goes_on new adds)

      -- the reading stops at the group
      module _ (stops : read.stopped ≡ true) (keeps : course.stop ≡ true → context.keep ≡ First 1) where
        pub some_reject : 0 < length read.joined.book.stored
        some_reject = has_first context (text ++ []) course some k joined read (r.read [] (λ ended. refl)).0 (in_data [] (λ ended. refl)) stops keeps

        pub read_stopped : (reject : Reject) → option_map (raised joined.line_ends) (slice_get read.joined.book.stored 0) ≡ Some reject → IsReadInWindows context course left_before left_after old w (reads.Stopped reject)
        read_stopped reject e = (
          r.came,
          r.taken,
          r.reached,
          r.quiet,
          λ more may. stopped context (text ++ more) course some k joined read (r.read more may).0 (in_data more may) stops keeps reject e,
        )

-- a group that was read in the bytes of a window
pub in_window : (context : Context) (bytes kept : List ℕ) (base place : ℕ) (group : Group) (at len size k : ℕ) (first : State) (stop : Bool) (read : GroupRead) →
    bytes ≡ kept → base ≡ place → group ≡ group_in at len size k → len ≡ length kept →
    IsGroupRead context bytes base group first stop read → IsGroupRead context kept place (group_in at (length kept) size k) first stop read
in_window context bytes kept base place group at len size k first stop read is_bytes is_base is_group is_len is =
    subst (λ n. IsGroupRead context kept place (group_in at n size k) first stop read) is_len
    (subst (λ g. IsGroupRead context kept place g first stop read) is_group
    (subst (λ b. IsGroupRead context kept b group first stop read) is_base
    (subst (λ bs. IsGroupRead context bs base group first stop read) is_bytes is)))
