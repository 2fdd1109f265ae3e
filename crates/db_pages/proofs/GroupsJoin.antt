-- Groups of rows that are written side by side and joined.
use Rattle.std.proofs.Common.{◌≡◌, ℕ, ◌+◌, ◌*◌, ◌%◌, ◌==◌, true, if◌then◌else◌, List, [], ◌∷◌, ◌++◌, length, map, refl, sym, ◌∙◌, ap, arith, inl, inr, append-nil}
use Rattle.std.proofs.lemmas.Bool.{cond-true, eqb-true, or_cases, eq-eqb}
use Rattle.csv_source.specs.Lists.{is_empty}
use Rattle.db_pages.specs.Laid.{Laid, ended, finished, next_place, nothing_laid, with_row, with_rows}
use Rattle.db_pages.specs.Grown.{Grown, behind, closed, grown, holds_at, moved}
use Rattle.db_pages.proofs.Counted.{AllShort, Adds, Counts, end-counts, nothing-counts, rows-add}
use Rattle.db_pages.proofs.Follows.{AllMay, Follows, all, end}
use Rattle.db_pages.proofs.Rows.{with_rows-append}

-- rows that end with a block leave no leaf under way
none-under-way : (base : ℕ) (rows : List (List ℕ)) (laid : Laid) (first : ℕ) → (length rows ≡ 0 → laid.cells ≡ []) → (first + length rows) % 8192 ≡ 1 →
    (with_rows base laid first rows).cells ≡ []
none-under-way base [] laid first empty ends = empty refl
none-under-way base (row ∷ rows) laid first empty ends =
    let next : Laid = with_row base laid first row in
    none-under-way base rows (if first % 8192 == 0 then ended base next else next) (first + 1)
    (λ none. let whole : first % 8192 ≡ 0 = omega (arith, none, ends) in
    ap (λ (l : Laid). l.cells) (cond-true (first % 8192 == 0) (ended base next) next (eq-eqb (first % 8192) 0 whole)) ∙ ended-none next)
    (omega (arith, ends))
  where
    ended-none : (l : Laid) → (ended base l).cells ≡ []
    ended-none l = by-cells l.cells refl
      where
        by-cells : (cells : List (List ℕ)) → l.cells ≡ cells → (ended base l).cells ≡ []
        by-cells [] is = ap (λ (x : Laid). x.cells) (cond-true (is_empty l.cells) l (finished base l) (ap is_empty is)) ∙ is
        by-cells (c ∷ cells) is = ap (λ cs. (if is_empty cs then l else finished base l).cells) is

may-all : (from to : ℕ) (rows : List (List ℕ)) → from ≡ to → AllMay from to rows
may-all from to [] same = tt
may-all from to (row ∷ rows) same = (inl same, may-all from to rows same)

may-short : (from to : ℕ) (rows : List (List ℕ)) → AllShort rows → AllMay from to rows
may-short from to [] short = tt
may-short from to (row ∷ rows) short = (inr short.0, may-short from to rows short.1)

-- what holds somewhere was written there, or has short rows alone
holds-may : (from to first : ℕ) (rows : List (List ℕ)) → holds_at to (grown from first rows) ≡ true → AllMay from to rows
holds-may from to first rows holds =
    let laid : Laid = with_rows from nothing_laid first rows in
    let g : Grown = grown from first rows in
    let a : Adds laid 0 (AllShort rows) = rows-add from rows nothing_laid first 0 nothing-counts in
    let c : Counts (ended from laid) (0 + a.added) = end-counts from laid (0 + a.added) a.counts in
    elim (or_cases (from == to) (length g.pages == 4096 * length g.leaves) holds) [
      | inl at ↦ may-all from to rows (eqb-true from to at)
      | inr leaves ↦ may-short from to rows (a.none (omega (arith, c.pages-are, eqb-true (length g.pages) (4096 * length g.leaves) leaves)))
    ]

pub groups-join : (base first from : ℕ) (rows more : List (List ℕ)) → (first + length rows) % 8192 ≡ 1 →
    holds_at (next_place base (grown base first rows).pages) (grown from (first + length rows) more) ≡ true →
    behind (grown base first rows) (grown from (first + length rows) more) ≡ grown base first (rows ++ more)
groups-join base first from rows more ends holds =
    let n : ℕ = first + length rows in
    let before : Laid = with_rows base nothing_laid first rows in
    let alone : Laid = with_rows from nothing_laid n more in
    let none : before.cells ≡ [] = none-under-way base rows nothing_laid first (λ _. refl) ends in
    let done : ended base before ≡ before = cond-true (is_empty before.cells) before (finished base before) (ap is_empty none) in
    let to : ℕ = next_place base before.pages in
    let at : next_place base (ended base before).pages ≡ to = ap (λ (l : Laid). next_place base l.pages) done in
    let a : Adds before 0 (AllShort rows) = rows-add base rows nothing_laid first 0 nothing-counts in
    let whole : length before.pages % 4096 ≡ 0 = omega (arith, a.counts.pages-are) in
    let may : AllMay from to more = holds-may from to n more (ap (λ p. holds_at p (grown from n more)) (sym at) ∙ holds) in
    let start : Follows from to before.pages before.leaves before nothing_laid = record {
      pages-are = sym (append-nil before.pages);
      leaves-are = sym (append-nil before.leaves);
      cells-are = none;
      last-is = λ no. absurd (let none : ⊥ = omega (arith, no) in none);
    } in
    let f : Follows from to before.pages before.leaves (ended base (with_rows base before n more)) (ended from alone) =
    end base from to before.pages before.leaves whole refl (with_rows base before n more) alone
    (all base from to before.pages before.leaves whole refl more before nothing_laid n may start) in
    let last : Laid = ended from alone in
    let joined : Laid = ended base (with_rows base before n more) in
    ap (λ (l : Laid). behind (record { base = base; pages = l.pages; leaves = l.leaves }) (grown from n more)) done
    ∙ ap (λ xs. record { base = base; pages = xs; leaves = before.leaves ++ map (moved from to) last.leaves }) (sym f.pages-are)
    ∙ ap (λ cs. record { base = base; pages = joined.pages; leaves = cs }) (sym f.leaves-are)
    ∙ ap (λ l. closed (record { base = base; laid = l })) (with_rows-append base first nothing_laid rows more)
