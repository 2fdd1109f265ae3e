-- Groups of whole blocks, one more at a time.
use Rattle.std.proofs.Common.{◌≡◌, ℕ, suc, ◌+◌, ◌-◌, ◌*◌, ◌/◌, ◌%◌, ◌^◌, ◌<◌, ◌≤◌, ◌⊎◌, inl, inr, true, min, List, [], ◌∷◌, ◌++◌, length, take, drop, get_or, append-nil, refl, sym, ◌∙◌, ap, subst, arith}
use Rattle.std.specs.Prelude.{All, ◌==◌, ◌||◌, slice_range}
use Rattle.std.proofs.lemmas.Bool.{cases_lt}
use Rattle.std.proofs.lemmas.Bool.Decides.{nat_tests}
use Rattle.std.proofs.lemmas.List.Elements.{All-append, All-cons, All-nil}
use Rattle.std.proofs.lemmas.List.{drop-drop, length-take-le}
use Rattle.std.proofs.Math.Seq.{take-add}
use Rattle.value_types.specs.Datum.{Datum}
use Rattle.db_pages.specs.Grown.{Filled, Grown, behind, closed, filled, grown, holds_at}
use Rattle.db_pages.specs.Laid.{next_place}
use Rattle.db_pages.specs.Laws.{GroupsJoin}
use Rattle.db_writer.specs.Written.{records_of}
use Rattle.db_writer.proofs.RowsLaid.{records_of-append}
use Rattle.db_writer.specs.declared.groups.Group.{Group}
use Rattle.db_writer.specs.Groups.{AreBlocks, WritesGroup}

pub share_of_one : (rest left : ℕ) → left ≡ 1 → rest / left ≡ rest
share_of_one rest left is = let whole : rest / 1 ≡ rest = omega arith in ap (λ n. rest / n) is ∙ whole

pub All-more : {X : Type 0} (P : X → Type 0) (xs new : List X) (x : X) → new ≡ xs ++ x ∷ [] → All P xs → P x → All P new
All-more P xs new x is all one = subst (All P) (sym is) (All-append P xs (x ∷ []) all (All-cons P x [] one (All-nil P)))

-- a group ends with a block, or with the rows
module _ (rows from share mul count : ℕ) (within : from ≤ rows) (few : rows < 2 ^ 64)
    (mul_is : mul ≡ min ((share / 8192 + min 1 (share % 8192)) * 8192) (2 ^ 64 - 1)) (count_is : count ≡ min mul (rows - from)) where
  pub ends_block : (from % 8192 ≡ 0) ⊎ (from ≡ rows) → ((from + count) % 8192 ≡ 0) ⊎ (from + count ≡ rows)
  ends_block (inr end) = inr (omega (arith, within, count_is, end))
  ends_block (inl begins) = elim (cases_lt mul (rows - from)) [
    | inl less ↦ inl (let whole : count ≡ (share / 8192 + min 1 (share % 8192)) * 8192 = omega (arith, mul_is, count_is, less, few) in omega (arith, whole, begins))
    | inr more ↦ inr (omega (arith, within, count_is, more))
  ]

  pub ends_all : share ≡ rows - from → from + count ≡ rows
  ends_all all = omega (arith, all, mul_is, count_is, within, few)

pub more : (from : ℕ) (groups : List Group) (mid : ℕ) (group : Group) → AreBlocks from groups mid → group.from ≡ mid → mid ≤ group.to → (mid % 8192 ≡ 0) ⊎ (mid ≡ group.to) →
    AreBlocks from (groups ++ group ∷ []) group.to
more from [] mid group are begins ordered block =
    (begins ∙ sym are, subst (λ n. n ≤ group.to) (sym are) ordered, subst (λ n. (n % 8192 ≡ 0) ⊎ (n ≡ group.to)) (sym are) block, refl)
more from (first ∷ groups) mid group are begins ordered block = (are.0, are.1, are.2, more first.to groups mid group are.3 begins ordered block)

-- the groups stand as they did, once they are written
pub blocks-written : (rows : List (List Datum)) (old new : List Group) (from to : ℕ) → AreBlocks from old to → length new ≡ length old →
    ((k : ℕ) (d : Group) → k < length old → WritesGroup rows (get_or old k d) (get_or new k d)) → AreBlocks from new to
blocks-written rows [] [] from to are count writes = are
blocks-written rows [] (h ∷ hs) from to are count writes = absurd (let no : ⊥ = omega (arith, count) in no)
blocks-written rows (g ∷ gs) [] from to are count writes = absurd (let no : ⊥ = omega (arith, count) in no)
blocks-written rows (g ∷ gs) (h ∷ hs) from to are count writes =
    let first : WritesGroup rows g h = writes 0 g (omega arith) in
    let rest : AreBlocks g.to hs to = blocks-written rows gs hs g.to to are.3 (omega (arith, count)) (λ k d lt. writes (suc k) d (omega (arith, lt))) in (
      first.from ∙ are.0,
      subst (λ n. from ≤ n) (sym first.to) are.1,
      subst (λ n. (from % 8192 ≡ 0) ⊎ (from ≡ n)) (sym first.to) are.2,
      subst (λ n. AreBlocks n hs to) (sym first.to) rest,
    )

-- ---- joining

range-split : {X : Type 0} (rows : List X) (from mid to : ℕ) → from ≤ mid → mid ≤ to → slice_range rows from mid ++ slice_range rows mid to ≡ slice_range rows from to
range-split rows from mid to low high =
    let count : to - from ≡ (mid - from) + (to - mid) = omega arith in
    let place : from + (mid - from) ≡ mid = omega arith in
    sym
    (ap (λ n. take n (drop from rows)) count
    ∙ take-add (mid - from) (to - mid) (drop from rows)
    ∙ ap (λ rest. slice_range rows from mid ++ take (to - mid) rest) (drop-drop (mid - from) from rows ∙ ap (λ n. drop n rows) place))

length-records : (rows : List (List Datum)) → length (records_of rows) ≡ length rows
length-records [] = refl
length-records (row ∷ rows) = ap suc (length-records rows)

length-front : (rows : List (List Datum)) (to : ℕ) → to ≤ length rows → length (records_of (slice_range rows 0 to)) ≡ to
length-front rows to within =
    let all : to - 0 ≡ to = omega arith in
    length-records (slice_range rows 0 to) ∙ ap (λ n. length (take n rows)) all ∙ length-take-le to rows within

-- no rows
nothing-behind : (g : Grown) (base n : ℕ) → behind g (closed (filled base n [])) ≡ g
nothing-behind g base n = λ i. record { base = g.base; pages = append-nil g.pages i; leaves = append-nil g.leaves i }

module _ (join : GroupsJoin) (rows : List (List Datum)) (base from to : ℕ) (ordered : from ≤ to) (within : to ≤ length rows) where
  -- a group that begins a block, behind the rows before it
  block-joined : (b : ℕ) → from % 8192 ≡ 0 → holds_at (next_place base (grown base 1 (records_of (slice_range rows 0 from))).pages) (closed (filled b (from + 1) (records_of (slice_range rows from to)))) ≡ true →
      behind (grown base 1 (records_of (slice_range rows 0 from))) (closed (filled b (from + 1) (records_of (slice_range rows from to)))) ≡ grown base 1 (records_of (slice_range rows 0 to))
  block-joined b begins holds =
      let before : List (List ℕ) = records_of (slice_range rows 0 from) in
      let later : List (List ℕ) = records_of (slice_range rows from to) in
      let count : length before ≡ from = length-front rows from (omega (arith, ordered, within)) in
      let first : from + 1 ≡ 1 + length before = omega (arith, count) in
      let whole : (1 + length before) % 8192 ≡ 1 = omega (arith, count, begins) in
      ap (λ n. behind (grown base 1 before) (closed (filled b n later))) first
      ∙ join base 1 b before later whole (subst (λ n. holds_at (next_place base (grown base 1 before).pages) (closed (filled b n later)) ≡ true) first holds)
      ∙ ap (grown base 1) (sym (records_of-append (slice_range rows 0 from) (slice_range rows from to)) ∙ ap records_of (range-split rows 0 from to (omega arith) ordered))

  -- a group, behind the rows before it
  pub group-joined : (old new : Grown) (leaves : Filled) (b : ℕ) → (from % 8192 ≡ 0) ⊎ (from ≡ to) → old ≡ grown base 1 (records_of (slice_range rows 0 from)) → leaves ≡ filled b (from + 1) (records_of (slice_range rows from to)) →
      holds_at (next_place old.base old.pages) (closed leaves) ≡ true → new ≡ behind old (closed leaves) → new ≡ grown base 1 (records_of (slice_range rows 0 to))
  group-joined old new leaves b (inl begins) old_is leaves_is holds is =
      is ∙ ap (λ l. behind old (closed l)) leaves_is ∙ ap (λ g. behind g (closed (filled b (from + 1) (records_of (slice_range rows from to))))) old_is
      ∙ block-joined b begins
      (subst (λ (g : Grown). holds_at (next_place g.base g.pages) (closed (filled b (from + 1) (records_of (slice_range rows from to)))) ≡ true) old_is
      (subst (λ l. holds_at (next_place old.base old.pages) (closed l) ≡ true) leaves_is holds))
  group-joined old new leaves b (inr none) old_is leaves_is holds is =
      let nothing : slice_range rows from to ≡ [] = (let zero_rows : to - from ≡ 0 = omega (arith, none) in ap (λ n. take n (drop from rows)) zero_rows) in
      is ∙ ap (λ l. behind old (closed l)) (leaves_is ∙ ap (λ rs. filled b (from + 1) (records_of rs)) nothing) ∙ nothing-behind old b (from + 1)
      ∙ old_is ∙ ap (λ n. grown base 1 (records_of (slice_range rows 0 n))) none

-- pages hold where they were written
pub holds-here : (place : ℕ) (g : Grown) → g.base ≡ place → holds_at place g ≡ true
holds-here place g is = ap (λ t. t || (length g.pages == 4096 * length g.leaves)) (eqb-refl g.base place is) where
  eqb-refl : (a b : ℕ) → a ≡ b → (a == b) ≡ true
  eqb-refl a b same = grind (arith, nat_tests)
