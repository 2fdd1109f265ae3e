-- A candidate that can't be above a score on which all rows agree.
use Rattle.std.proofs.Common.{◌≡◌, ℕ, suc, ◌+◌, ◌*◌, ◌-◌, ◌<◌, ◌≤◌, Bool, true, false, ◌&&◌, cond, List, [], ◌∷◌, length, drop, map, max, refl, sym, ap, ◌∙◌, subst, inl, inr, arith}
use Rattle.std.specs.Prelude.{◌==◌, nat_le, nat_lt, count_by, sum_by, slice_get, slice_range, All, Some, option_map}
use Rattle.std.specs.declared.cmp.Ordering.{Ordering}
use Rattle.std.specs.declared.cmp.Ordering.TheVariants.{Less, Equal, Greater}
use Rattle.std.specs.Ordering.{nat_cmp, ordering_then, is_gt}
use Rattle.std.proofs.Math.Nat.{mul-le-mul_left, mul-lt-mul_of_pos_right}
use Rattle.std.proofs.lemmas.Bool.{cases_lt, cases_Bool, cases_order, and_parts, lt-ltb, le-ltb, eq-eqb, eqb-true, ltb-true}
use Rattle.std.proofs.lemmas.List.Elements.{All-drop, All-take}
use Rattle.std.proofs.lemmas.List.Sums.{sum_by-cons, sum_by-take-le, count_by-le-length}
use Rattle.byte_classes.specs.Dialect.{Marks}
use Rattle.quote_automaton.specs.declared.state.State.{State}
use Rattle.quote_automaton.specs.declared.state.State.TheVariants.{RowStart}
use Rattle.quote_automaton.specs.Automaton.{step}
use Rattle.row_fields.specs.Fields.{Field, fields, fields_from, is_quote, is_quoted, is_separator, put_first, raw_fields, value_of}
use Rattle.dialect_rank.specs.declared.scores.Score.{Score}
use Rattle.dialect_rank.specs.Rank.{truth_number, is_table, is_well_quoted, compare_shares, is_above}
use Rattle.dialect_rank.specs.Sampled.{Span, sampled_rows, sampled_spans, span_bytes}
use Rattle.dialect_rank.specs.Score.{closed_fields, field_count, is_sound, score_of, score_rows}

-- ---- by the points of two scores

not_gt : (o p : Ordering) → is_gt o ≡ false → (o ≡ Equal → is_gt p ≡ false) → is_gt (ordering_then o p) ≡ false
not_gt Less p h k = refl
not_gt Equal p h k = k refl
not_gt Greater p h k = h

up_to : (x y : ℕ) → x ≤ y → is_gt (nat_cmp x y) ≡ false
up_to x y h = elim (cases_order x y) [
  | inl e ↦ (λ i. is_gt (cond (le-ltb x y (omega arith) i) Less (cond (eq-eqb x y e i) Equal Greater)))
  | inr (inl lt) ↦ ap (λ t. is_gt (cond t Less (cond (x == y) Equal Greater))) (lt-ltb x y lt)
  | inr (inr gt) ↦ absurd (let no : ⊥ = omega arith in no)
]

same_as : (x y : ℕ) → x ≤ y → nat_cmp x y ≡ Equal → x ≡ y
same_as x y h e = elim (cases_lt x y) [
  | inl lt ↦ absurd (let less : nat_cmp x y ≡ Less = ap (λ t. cond t Less (cond (x == y) Equal Greater)) (lt-ltb x y lt) in let no : ⊥ = cc in no)
  | inr le ↦ omega arith
]

truth-le : (b : Bool) → truth_number b ≤ 1
truth-le true = omega arith
truth-le false = omega arith

truth-is : (b : Bool) → truth_number b ≡ 1 → b ≡ true
truth-is true h = refl
truth-is false h = absurd (let no : ⊥ = omega (arith, h) in no)

-- shares compared crosswise, where the second is whole
share-le : (a r q c m n : ℕ) → a ≤ r → c ≡ q → m ≡ q → n ≡ r → a * m ≤ c * n
share-le a r q c m n le cq mq nr =
    let small : a * q ≤ q * r = omega (arith, mul-le-mul_left q le) in
    subst (λ m. a * m ≤ c * n) (sym mq) (subst (λ c. a * q ≤ c * n) (sym cq) (subst (λ n. a * q ≤ q * n) (sym nr) small))

share-same : (a r q c m n : ℕ) → a ≤ r → c ≡ q → m ≡ q → n ≡ r → 0 < q → a * m ≡ c * n → a ≡ r
share-same a r q c m n le cq mq nr some e = elim (cases_lt a r) [
  | inl lt ↦ absurd (let less : a * q < r * q = mul-lt-mul_of_pos_right lt some in
      let same : a * q ≡ q * r = (λ i. a * sym mq i) ∙ e ∙ (λ i. cq i * nr i) in
      let no : ⊥ = omega (arith, less, same) in no)
  | inr all ↦ omega (arith, all, le)
]

abbrev by_shares : Score → Score → Ordering
by_shares s b = ordering_then (compare_shares s b) (nat_cmp s.mode b.mode)

abbrev by_quotes : Score → Score → Ordering
by_quotes s b = ordering_then (nat_cmp (truth_number (is_well_quoted s)) (truth_number (is_well_quoted b))) (by_shares s b)

by_table : (s b : Score) → b.agree ≡ b.rows → s.agree ≤ s.rows → truth_number (is_well_quoted s) ≤ truth_number (is_well_quoted b) → (0 < s.rows → s.agree ≡ s.rows → s.mode ≤ b.mode)
    → b.rows < 2 * b.agree → is_table s ≡ true → is_gt (by_quotes s b) ≡ false
by_table s b perfect few quoted columns some too =
    let most : s.rows < 2 * s.agree = ltb-true s.rows (2 * s.agree) (and_parts (nat_le 2 s.mode) (nat_lt s.rows (2 * s.agree)) too).1 in
    let any : 0 < s.rows = omega (arith, most, few) in
    let here : 0 < b.rows = omega (arith, some, perfect) in
    let left : max b.rows 1 ≡ b.rows = omega (arith, here) in
    let right : max s.rows 1 ≡ s.rows = omega (arith, any) in
    let product : s.agree * max b.rows 1 ≤ b.agree * max s.rows 1 = share-le s.agree s.rows b.rows b.agree (max b.rows 1) (max s.rows 1) few perfect left right in
    not_gt (nat_cmp (truth_number (is_well_quoted s)) (truth_number (is_well_quoted b))) (by_shares s b) (up_to _ _ quoted)
    (λ _. not_gt (compare_shares s b) (nat_cmp s.mode b.mode) (up_to _ _ product)
    (λ same. up_to s.mode b.mode (columns any (share-same s.agree s.rows b.rows b.agree (max b.rows 1) (max s.rows 1) few perfect left right here (same_as _ _ product same)))))

-- a score whose rows, where all of them agree, have no more columns
pub not_above : (s b : Score) → is_table b ≡ true → b.agree ≡ b.rows → s.agree ≤ s.rows → truth_number (is_well_quoted s) ≤ truth_number (is_well_quoted b)
    → (0 < s.rows → s.agree ≡ s.rows → s.mode ≤ b.mode) → is_above s b ≡ false
not_above s b table perfect few quoted columns =
    let one : truth_number (is_table b) ≡ 1 = ap truth_number table in
    let some : b.rows < 2 * b.agree = ltb-true b.rows (2 * b.agree) (and_parts (nat_le 2 b.mode) (nat_lt b.rows (2 * b.agree)) table).1 in
    let first : truth_number (is_table s) ≤ truth_number (is_table b) = omega (arith, one, truth-le (is_table s)) in
    not_gt (nat_cmp (truth_number (is_table s)) (truth_number (is_table b))) (by_quotes s b) (up_to _ _ first)
    (λ e. by_table s b perfect few quoted columns some (truth-is (is_table s) (same_as _ _ first e ∙ one)))

pub le_from : (x y : ℕ) → nat_lt x y ≡ false → y ≤ x
le_from x y h = elim (cases_lt x y) [
  | inl lt ↦ absurd (let true_is : nat_lt x y ≡ true = lt-ltb x y lt in let no : ⊥ = cc in no)
  | inr le ↦ omega arith
]

-- ---- by the rows

-- where all rows agree, the first does
first_agrees : (d : Marks) (row : List ℕ) (rows : List (List ℕ)) → (score_rows d (row ∷ rows)).agree ≡ length (row ∷ rows) → field_count d row ≡ (score_rows d (row ∷ rows)).mode
first_agrees d row rows h =
    let mode = (score_rows d (row ∷ rows)).mode in
    let agrees : List ℕ → Bool = λ row. is_sound d row && (field_count d row == mode) in
    let count = sum_by-cons (λ row. cond {A = ℕ} (agrees row) 1 0) row rows in
    elim (cases_Bool (agrees row)) [
      | inl agreed ↦ eqb-true (field_count d row) mode (and_parts _ _ agreed).1
      | inr differs ↦ absurd (let none : cond {A = ℕ} (agrees row) 1 0 ≡ 0 = ap (λ t. cond {A = ℕ} t 1 0) differs in
          let n : ⊥ = omega (arith, h, count, none, count_by-le-length agrees rows) in n)
    ]

-- rows whose first has no more columns than the mode of another score have no more, where all agree
columns-le : (d : Marks) (rows : List (List ℕ)) (n most : ℕ) → option_map (field_count d) (slice_get rows 0) ≡ Some n → n ≤ most → (score_rows d rows).agree ≡ (score_rows d rows).rows → (score_rows d rows).mode ≤ most
columns-le d [] n most is le h = absurd (let no : ⊥ = cc in no)
columns-le d (row ∷ rows) n most is le h =
    let count : field_count d row ≡ n = cc in
    omega (arith, first_agrees d row rows h, count, le)

-- ---- without quotes

abbrev NoQuote : Marks → List ℕ → Type 0
NoQuote d bytes = All (λ b. is_quote d b ≡ false) bytes

first_unquoted : (d : Marks) (b : ℕ) (bytes : List ℕ) → NoQuote d (b ∷ bytes) → is_quote d b ≡ false
first_unquoted d b bytes all = all 0 b (omega arith)

others : (d : Marks) (b : ℕ) (bytes : List ℕ) → NoQuote d (b ∷ bytes) → NoQuote d bytes
others d b bytes all = λ k x lt. all (suc k) x (omega (arith, lt))

count_cons : {X : Type 0} (p : X → Bool) (x : X) (xs : List X) → p x ≡ false → count_by p (x ∷ xs) ≡ count_by p xs
count_cons p x xs fails =
    let none : cond {A = ℕ} (p x) 1 0 ≡ 0 = ap (λ t. cond {A = ℕ} t 1 0) fails in
    omega (arith, sum_by-cons (λ x. cond {A = ℕ} (p x) 1 0) x xs, none)

count_tail : {X : Type 0} (p : X → Bool) (x : X) (xs : List X) → count_by p (x ∷ xs) ≡ 0 → count_by p xs ≡ 0
count_tail p x xs h = omega (arith, sum_by-cons (λ x. cond {A = ℕ} (p x) 1 0) x xs, h)

put_unquoted : (d : Marks) (ends : Bool) (b : ℕ) (raws : List (List ℕ)) → is_quote d b ≡ false → count_by (is_quoted d) raws ≡ 0 → count_by (is_quoted d) (put_first ends b raws) ≡ 0
put_unquoted d true b raws plain h = count_cons (is_quoted d) [] raws refl ∙ h
put_unquoted d false b [] plain h = count_cons (is_quoted d) (b ∷ []) [] plain ∙ h
put_unquoted d false b (raw ∷ raws) plain h = count_cons (is_quoted d) (b ∷ raw) raws plain ∙ count_tail (is_quoted d) raw raws h

raws_unquoted : (d : Marks) (s : State) (row : List ℕ) → NoQuote d row → count_by (is_quoted d) (raw_fields d s row) ≡ 0
raws_unquoted d s [] all = count_cons (is_quoted d) [] [] refl ∙ refl
raws_unquoted d s (b ∷ row) all =
    put_unquoted d (is_separator d s b) b (raw_fields d (step d s b) row) (first_unquoted d b row all) (raws_unquoted d (step d s b) row (others d b row all))

count_fields : (d : Marks) (at : ℕ) (raws : List (List ℕ)) → count_by (λ (f : Field). f.quoted) (fields_from d at raws) ≡ count_by (is_quoted d) raws
count_fields d at [] = refl
count_fields d at (raw ∷ raws) =
    sum_by-cons (λ (f : Field). cond {A = ℕ} f.quoted 1 0) (record { at = at; quoted = is_quoted d raw; value = value_of d raw }) (fields_from d (at + length raw + 1) raws)
    ∙ ap (λ n. cond {A = ℕ} (is_quoted d raw) 1 0 + n) (count_fields d (at + length raw + 1) raws)
    ∙ sym (sum_by-cons (λ (raw : List ℕ). cond {A = ℕ} (is_quoted d raw) 1 0) raw raws)

pub none_closed : (d : Marks) (row : List ℕ) → NoQuote d row → closed_fields d row ≡ 0
none_closed d row all =
    let whole : count_by (λ (f : Field). f.quoted) (fields d row) ≡ 0 = count_fields d 0 (raw_fields d RowStart row) ∙ raws_unquoted d RowStart row all in
    let most = sum_by-take-le (λ (f : Field). cond {A = ℕ} f.quoted 1 0) (fields d row) (cond (is_sound d row) (field_count d row) (field_count d row - 1)) in
    omega (arith, whole, most)

rows_closed : (d : Marks) (sample : List ℕ) (spans : List Span) → NoQuote d sample → sum_by (closed_fields d) (map (span_bytes sample) spans) ≡ 0
rows_closed d sample [] all = refl
rows_closed d sample (span ∷ spans) all =
    let row : List ℕ = span_bytes sample span in
    let first : closed_fields d row ≡ 0 = none_closed d row (in_slice d sample span.0 span.1 all) in
    omega (arith, sum_by-cons (closed_fields d) row (map (span_bytes sample) spans), first, rows_closed d sample spans all) where
      in_slice : (d : Marks) (sample : List ℕ) (from to : ℕ) → NoQuote d sample → NoQuote d (slice_range sample from to)
      in_slice d sample from to all = All-take (λ b. is_quote d b ≡ false) (to - from) (drop from sample) (All-drop (λ b. is_quote d b ≡ false) from sample all)

unquoted-truth : (s b : Score) → s.closed ≡ 0 → truth_number (is_well_quoted s) ≤ truth_number (is_well_quoted b)
unquoted-truth s b none =
    let no : is_well_quoted s ≡ false = le-ltb s.flawed s.closed (omega (arith, none)) in
    omega (arith, ap truth_number no)

-- a dialect whose first row has no more fields than a perfect score's mode isn't above it
module _ (d : Marks) (sample : List ℕ) (whole : Bool) (size : ℕ) (best : Score) (perfect : (is_table best && (best.agree == best.rows)) ≡ true) where
  pub outranked : truth_number (is_well_quoted (score_of d sample whole size)) ≤ truth_number (is_well_quoted best)
      → (n : ℕ) → option_map (field_count d) (slice_get (sampled_rows d sample whole size) 0) ≡ Some n → n ≤ best.mode → is_above (score_of d sample whole size) best ≡ false
  outranked quoted n is le =
      let parts = and_parts _ _ perfect in
      let rows : List (List ℕ) = sampled_rows d sample whole size in
      not_above (score_of d sample whole size) best parts.0 (eqb-true best.agree best.rows parts.1)
      (count_by-le-length (λ row. is_sound d row && (field_count d row == (score_rows d rows).mode)) rows) quoted
      (λ _. columns-le d rows n best.mode is le)

  pub without_quotes : NoQuote d sample → truth_number (is_well_quoted (score_of d sample whole size)) ≤ truth_number (is_well_quoted best)
  without_quotes all = unquoted-truth (score_of d sample whole size) best (rows_closed d sample (sampled_spans d sample whole size) all)

  pub well_quoted : is_well_quoted best ≡ true → truth_number (is_well_quoted (score_of d sample whole size)) ≤ truth_number (is_well_quoted best)
  well_quoted well = let one : truth_number (is_well_quoted best) ≡ 1 = ap truth_number well in omega (arith, one, truth-le (is_well_quoted (score_of d sample whole size)))
