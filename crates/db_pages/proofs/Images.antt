-- A file made of its parts.
use Rattle.std.proofs.Common.{◌≡◌, ℕ, ◌+◌, ◌-◌, ◌%◌, ◌^◌, ◌<◌, List, ◌++◌, length, ◌∙◌, ap, arith, inl, inr, length-append, nat_lt}
use Rattle.std.proofs.lemmas.Bool.{cases_lt, cond-false, le-ltb}
use Rattle.db_pages.specs.Numbers.{number_of}
use Rattle.db_pages.specs.Laid.{next_place}
use Rattle.db_pages.specs.Grown.{TreeBytes, tree_of}
use Rattle.db_pages.specs.Image.{Imaged, first_page, image_over, with_lock_page}
use Rattle.db_pages.proofs.LockPage.{long-size, short_as_is}
use Rattle.db_pages.proofs.WholeTrees.{tree-whole}

pub image_is : (parts : Imaged) (list : TreeBytes) (base pages number root : ℕ) (first all text : List ℕ) →
    base ≡ next_place 1 parts.trees → list ≡ tree_of base parts.records → pages ≡ next_place base list.bytes → number ≡ number_of (pages - 1) →
    root ≡ number_of list.root → first ≡ first_page number root → all ≡ parts.trees ++ list.bytes → text ≡ with_lock_page (first ++ all) → text ≡ image_over parts
unfolding image_over
image_is parts list base pages number root first all text is-base is-list is-pages is-number is-root is-first is-all is-text =
    let here : ℕ = next_place 1 parts.trees in
    let tree : TreeBytes = tree_of here parts.records in
    let same : list ≡ tree = is-list ∙ ap (λ b. tree_of b parts.records) is-base in
    let count : number ≡ number_of (next_place here tree.bytes - 1) =
    is-number ∙ ap (λ n. number_of (n - 1)) (is-pages ∙ ap (λ b. next_place b list.bytes) is-base ∙ ap (λ (t : TreeBytes). next_place here t.bytes) same) in
    let top : root ≡ number_of tree.root = is-root ∙ ap (λ (t : TreeBytes). number_of t.root) same in
    is-text
    ∙ ap (λ xs. with_lock_page (xs ++ all)) (is-first ∙ ap (λ n. first_page n root) count ∙ ap (λ n. first_page (number_of (next_place here tree.bytes - 1)) n) top)
    ∙ ap (λ xs. with_lock_page (first_page (number_of (next_place here tree.bytes - 1)) (number_of tree.root) ++ xs))
    (is-all ∙ ap (λ (t : TreeBytes). parts.trees ++ t.bytes) same)

-- a file whose last page has a number of 32 bits
pub image_few : (parts : Imaged) (list : TreeBytes) (base pages number : ℕ) (first all text : List ℕ) →
    base ≡ next_place 1 parts.trees → list ≡ tree_of base parts.records → pages ≡ next_place base list.bytes → number ≡ number_of (pages - 1) → number < 2 ^ 32 →
    length first ≡ 4096 → all ≡ parts.trees ++ list.bytes → text ≡ with_lock_page (first ++ all) → length text < 2 ^ 44
image_few parts list base pages number first all text is-base is-list is-pages is-number small size is-all is-text =
    let whole : length list.bytes % 4096 ≡ 0 = ap (λ (t : TreeBytes). length t.bytes % 4096) is-list ∙ tree-whole base parts.records in
    let longer : length (first ++ all) ≡ 4096 + (length parts.trees + length list.bytes) =
    omega (arith, length-append first all, size, ap length is-all, length-append parts.trees list.bytes) in
    elim (cases_lt (2 ^ 30) (length (first ++ all))) [
      | inl long ↦
          elim (cases_lt (pages - 1) 262144) [
            | inl low ↦ omega (arith, ap length is-text, long-size (first ++ all) long, longer, whole, is-base, is-pages, low)
            | inr high ↦
                let past : number_of (pages - 1) ≡ pages - 1 + 2 = cond-false (nat_lt (pages - 1) 262144) (pages - 1 + 1) (pages - 1 + 2) (le-ltb (pages - 1) 262144 high) in
                omega (arith, ap length is-text, long-size (first ++ all) long, longer, whole, is-base, is-pages, is-number, past, small)
          ]
      | inr short ↦ omega (arith, ap length is-text, ap length (short_as_is (first ++ all) short), short)
    ]
