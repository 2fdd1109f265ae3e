-- A head that goes on behind its sample has the sample of the whole input.
use Rattle.std.proofs.Common.{◌≡◌, ◌⊎◌, inl, inr, ℕ, zero, suc, ◌+◌, ◌<◌, ◌≤◌, Bool, true, false, cond, List, [], ◌∷◌, ◌++◌, length, take, drop, refl, sym, ◌∙◌, ap, arith, append-nil, length-append, length-drop}
use Rattle.std.specs.Prelude.{◌==◌, nat_eq, option_map, unwrap_or}
use Rattle.std.specs.List.{starts_with}
use Rattle.std.proofs.lemmas.Bool.{lt-leb}
use Rattle.std.proofs.lemmas.List.{take-append-le, drop-append-le}
use Rattle.load_options.specs.declared.options.Options.{Options}
use Rattle.byte_classes.specs.ByteOrderMark.{byte_order_mark}
use Rattle.csv_sniffer.specs.Explanation.{explanation, explanation_in}
use Rattle.csv_sniffer.specs.declared.found.Sniffed.{Sniffed}
use Rattle.csv_sniffer.specs.Sample.{without_mark, without_lf, behind_line, behind_lines, start_of_sample, sample_limit, without_last_cr, is_whole, sample_of}
use Rattle.csv_sniffer.specs.Sniffed.{sniffed}
use Rattle.csv_sniffer.specs.LaterHeader.{begins_alike}
use Rattle.csv_sniffer.specs.LaterStart.{start_under}
use Rattle.csv_sniffer.specs.Input.{found, data_place, has_same_header, place_under}
use Rattle.csv_sniffer.proofs.StartSteps.{behind_line-le, no_line, without_mark-le}
use Rattle.report_text.specs.declared.outcome.Outcome.TheVariants as outcomes
use Rattle.loader_reply.specs.Loading.{GoesBehindSample}
use Rattle.loader_reply.specs.Fitting.{no_column}
use Rattle.loader_reply.specs.Reply.{sniffed_outcome}

append-cond : (t : Bool) (xs ys more : List ℕ) → cond t (xs ++ more) (ys ++ more) ≡ cond t xs ys ++ more
append-cond true xs ys more = refl
append-cond false xs ys more = refl

-- ---- skipped lines of a front

without_lf-more : (bytes more : List ℕ) → 0 < length (without_lf bytes) → without_lf (bytes ++ more) ≡ without_lf bytes ++ more
without_lf-more [] more some = absurd (let wrong : ⊥ = omega (arith, some) in wrong)
without_lf-more (b ∷ bytes) more some = append-cond (b == 10) bytes (b ∷ bytes) more

behind_line-more : (bytes more : List ℕ) → 0 < length (behind_line bytes) → behind_line (bytes ++ more) ≡ behind_line bytes ++ more
behind_line-more [] more some = absurd (let wrong : ⊥ = omega (arith, some) in wrong)
behind_line-more (b ∷ bytes) more some = by_tests (λ h. behind_line-more bytes more h) (b == 10) (b == 13) some where
  by_tests : (0 < length (behind_line bytes) → behind_line (bytes ++ more) ≡ behind_line bytes ++ more) → (t u : Bool) → 0 < length (cond t bytes (cond u (without_lf bytes) (behind_line bytes))) →
      cond t (bytes ++ more) (cond u (without_lf (bytes ++ more)) (behind_line (bytes ++ more))) ≡ cond t bytes (cond u (without_lf bytes) (behind_line bytes)) ++ more
  by_tests later true u some = refl
  by_tests later false true some = without_lf-more bytes more some
  by_tests later false false some = later some

some_line : (n : ℕ) (bytes : List ℕ) → 0 < length (behind_lines n bytes) → 0 < length bytes
some_line n [] some = absurd (let wrong : ⊥ = omega (arith, some, ap length (no_line n)) in wrong)
some_line n (b ∷ bytes) some = omega arith

behind_lines-more : (n : ℕ) (bytes more : List ℕ) → 0 < length (behind_lines n bytes) → behind_lines n (bytes ++ more) ≡ behind_lines n bytes ++ more
behind_lines-more zero bytes more some = refl
behind_lines-more (suc n) bytes more some =
    ap (behind_lines n) (behind_line-more bytes more (some_line n (behind_line bytes) some)) ∙ behind_lines-more n (behind_line bytes) more some

without_mark-more : (bytes more : List ℕ) → 3 ≤ length bytes → without_mark (bytes ++ more) ≡ without_mark bytes ++ more
without_mark-more [] more long = absurd (let wrong : ⊥ = omega (arith, long) in wrong)
without_mark-more (a ∷ []) more long = absurd (let wrong : ⊥ = omega (arith, long) in wrong)
without_mark-more (a ∷ (b ∷ [])) more long = absurd (let wrong : ⊥ = omega (arith, long) in wrong)
without_mark-more (a ∷ (b ∷ (c ∷ bytes))) more long = append-cond (starts_with nat_eq (a ∷ (b ∷ (c ∷ bytes))) byte_order_mark) bytes (a ∷ (b ∷ (c ∷ bytes))) more

-- ---- lines are dropped from a front, so what is left is no longer

behind_lines-short : (n : ℕ) (bytes : List ℕ) → length (behind_lines n bytes) ≤ length bytes
behind_lines-short zero bytes = omega arith
behind_lines-short (suc n) bytes = omega (arith, behind_lines-short n (behind_line bytes), behind_line-le bytes)

-- ---- the head

module _ (skip : ℕ) (head rest : List ℕ) (far : GoesBehindSample skip head) where
  abbrev left : List ℕ
  left = behind_lines skip (without_mark head)

  left_short : length left ≤ length head
  left_short = omega (arith, behind_lines-short skip (without_mark head), without_mark-le head)

  left-more : behind_lines skip (without_mark (head ++ rest)) ≡ left ++ rest
  left-more =
      let long : 3 ≤ length head = omega (arith, far) in
      let some : 0 < length left = omega (arith, far, left_short) in
      ap (behind_lines skip) (without_mark-more head rest long) ∙ behind_lines-more skip (without_mark head) rest some

  pub start-more : start_of_sample skip (head ++ rest) ≡ start_of_sample skip head
  start-more = omega (arith, ap length left-more, left_short, length-append head rest, length-append left rest)

  abbrev start : ℕ
  start = start_of_sample skip head

  behind-more : drop (start_of_sample skip (head ++ rest)) (head ++ rest) ≡ drop start head ++ rest
  behind-more = ap (λ n. drop n (head ++ rest)) start-more ∙ drop-append-le start head rest (omega (arith, far))

  abbrev behind : List ℕ
  behind = drop start head

  long_behind : sample_limit < length behind
  long_behind = omega (arith, far, length-drop start head)

  not_whole : (bytes : List ℕ) → sample_limit < length bytes → is_whole bytes ≡ false
  not_whole bytes long = lt-leb (length bytes) sample_limit long

  longer : sample_limit < length (behind ++ rest)
  longer = omega (arith, long_behind, length-append behind rest)

  cut_sample : (bytes : List ℕ) → sample_limit < length bytes → sample_of bytes ≡ without_last_cr (take sample_limit bytes)
  cut_sample bytes long = ap (λ t. cond t bytes (without_last_cr (take sample_limit bytes))) (not_whole bytes long)

  sample-more : sample_of (behind ++ rest) ≡ sample_of behind
  sample-more =
      cut_sample (behind ++ rest) longer
      ∙ ap without_last_cr (take-append-le sample_limit behind rest (omega (arith, long_behind)))
      ∙ sym (cut_sample behind long_behind)

  whole-more : is_whole (behind ++ rest) ≡ is_whole behind
  whole-more = not_whole (behind ++ rest) longer ∙ sym (not_whole behind long_behind)

  pub found_behind : (o : Options) → o.skip ≡ skip → sniffed o (sample_of (drop (start_of_sample skip (head ++ rest)) (head ++ rest))) (is_whole (drop (start_of_sample skip (head ++ rest)) (head ++ rest)))
      ≡ sniffed o (sample_of behind) (is_whole behind)
  found_behind o same =
      (λ i. sniffed o (sample_of (behind-more i)) (is_whole (behind-more i)))
      ∙ (λ i. sniffed o (sample-more i) (whole-more i))

  front-more : take (start_of_sample skip (head ++ rest)) (head ++ rest) ≡ take start head
  front-more = ap (λ n. take n (head ++ rest)) start-more ∙ take-append-le start head rest (omega (arith, far))

  pub explained-more : (o : Options) (s : Sniffed) →
      explanation_in o (take (start_of_sample skip (head ++ rest)) (head ++ rest)) (sample_of (drop (start_of_sample skip (head ++ rest)) (head ++ rest)))
      (is_whole (drop (start_of_sample skip (head ++ rest)) (head ++ rest))) s
      ≡ explanation_in o (take start head) (sample_of behind) (is_whole behind) s
  explained-more o s =
      (λ i. explanation_in o (front-more i) (sample_of (behind-more i)) (is_whole (behind-more i)) s)
      ∙ (λ i. explanation_in o (take start head) (sample-more i) (whole-more i) s)

  pub start_under-more : (o : Options) (s : Sniffed) → start_under o s (sample_of (drop (start_of_sample skip (head ++ rest)) (head ++ rest))) (is_whole (drop (start_of_sample skip (head ++ rest)) (head ++ rest)))
      ≡ start_under o s (sample_of behind) (is_whole behind)
  start_under-more o s =
      (λ i. start_under o s (sample_of (behind-more i)) (is_whole (behind-more i)))
      ∙ (λ i. start_under o s (sample-more i) (whole-more i))

  pub alike-more : (o : Options) (s : Sniffed) → begins_alike o s (sample_of (drop (start_of_sample skip (head ++ rest)) (head ++ rest))) (is_whole (drop (start_of_sample skip (head ++ rest)) (head ++ rest)))
      ≡ begins_alike o s (sample_of behind) (is_whole behind)
  alike-more o s =
      (λ i. begins_alike o s (sample_of (behind-more i)) (is_whole (behind-more i)))
      ∙ (λ i. begins_alike o s (sample-more i) (whole-more i))

pub sniffed_in_head : (o : Options) (head rest : List ℕ) → (rest ≡ []) ⊎ GoesBehindSample o.skip head → sniffed_outcome o (head ++ rest) ≡ sniffed_outcome o head
sniffed_in_head o head rest (inl none) = ap (sniffed_outcome o) (ap (λ r. head ++ r) none ∙ append-nil head)
sniffed_in_head o head rest (inr far) =
    let same : found o (head ++ rest) ≡ found o head = found_behind o.skip head rest far o refl in
    (λ i. unwrap_or (option_map (λ m. outcomes.Mismatch m) (no_column o (same i))) (cond o.explain (outcomes.Explained (same i) (explanation o (head ++ rest) (same i))) (outcomes.Sniffed (same i))))
    ∙ (λ i. unwrap_or (option_map (λ m. outcomes.Mismatch m) (no_column o (found o head))) (cond o.explain (outcomes.Explained (found o head) (explained-more o.skip head rest far o (found o head) i)) (outcomes.Sniffed (found o head))))

pub found_in_head : (o : Options) (head rest : List ℕ) → (rest ≡ []) ⊎ GoesBehindSample o.skip head →
    (found o (head ++ rest) ≡ found o head) × ((s : Sniffed) → data_place o (head ++ rest) s ≡ data_place o head s) × ((s : Sniffed) → place_under o s (head ++ rest) ≡ place_under o s head)
    × ((s : Sniffed) → has_same_header o s (head ++ rest) ≡ has_same_header o s head)
found_in_head o head rest (inl none) =
    let same : head ++ rest ≡ head = ap (λ r. head ++ r) none ∙ append-nil head in
    (ap (found o) same, λ s. ap (λ xs. data_place o xs s) same, λ s. ap (place_under o s) same, λ s. ap (has_same_header o s) same)
found_in_head o head rest (inr far) = (
  found_behind o.skip head rest far o refl,
  λ s. ap (λ n. n + s.data_start) (start-more o.skip head rest far),
  λ s. λ i. start-more o.skip head rest far i + start_under-more o.skip head rest far o s i,
  λ s. alike-more o.skip head rest far o s,
)
