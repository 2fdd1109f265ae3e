-- Pages above others, as they are read.
use Rattle.std.proofs.Common.{◌≡◌, ℕ, suc, ◌+◌, ◌*◌, ◌/◌, ◌%◌, ◌^◌, ◌<◌, false, List, [], ◌∷◌, ◌++◌, length, take, refl, ◌∙◌, ap, arith, All}
use Rattle.std.proofs.lemmas.List.{take_all}
use Rattle.std.proofs.lemmas.List.Elements.{All-cons}
use Rattle.sqlite_format.specs.declared.kind.Tree.TheVariants.{Table}
use Rattle.sqlite_format.specs.Varint.{varint_value}
use Rattle.sqlite_format.specs.Cell.{IsCell, body_key, body_size, cell_body, cell_child, cell_size, flip_sign}
use Rattle.sqlite_format.specs.Page.{right_child}
use Rattle.db_pages.specs.Page.{content_at}
use Rattle.db_records.specs.Varint.{varint}
use Rattle.db_pages.proofs.Pages.{page-holds}
use Rattle.db_records.proofs.Varints.{varint-is}
use Rattle.db_pages.specs.declared.child.Child.{Child}
use Rattle.db_pages.specs.Levels.{dividers, last_child, page_above}
use Rattle.db_pages.specs.Numbers.{four_bytes, number_of}
use Rattle.db_pages.proofs.WholeTrees.{dividers-size}
use Rattle.db_reading.specs.Laws.{Divides, HoldsChildren, inner_kind}

-- a number in four bytes is read as itself
pub four-read : (n : ℕ) → (n / 16777216 * 256 + n / 65536 % 256) * 65536 + (n / 256 % 256 * 256 + n % 256) ≡ n
four-read n =
    let two : n / 65536 / 256 ≡ n / 16777216 = omega arith in
    let one : n / 256 / 256 ≡ n / 65536 = omega arith in
    omega (arith, two, one)

divider-size : (number last : ℕ) → last < 2 ^ 56 → body_size Table false 4096 (varint last) ≡ length (varint last)
unfolding body_size
divider-size number last small = (varint-is last small).whole

pub divider-whole : (number last : ℕ) → last < 2 ^ 56 → IsCell inner_kind 4096 (four_bytes number ++ varint last)
unfolding cell_size
divider-whole number last small = omega (arith, divider-size number last small)

pub divider-child : (number last : ℕ) → cell_child (four_bytes number ++ varint last) ≡ number
unfolding cell_child
divider-child number last = four-read number

pub divider-key : (number last : ℕ) → last < 2 ^ 56 → body_key Table false (cell_body inner_kind 4096 (four_bytes number ++ varint last)) ≡ flip_sign last
unfolding cell_body body_key
divider-key number last small =
    let size : body_size Table false 4096 (varint last) ≡ length (varint last) = divider-size number last small in
    let body : take (body_size Table false 4096 (varint last)) (varint last) ≡ varint last = take_all (body_size Table false 4096 (varint last)) (varint last) (omega (arith, size)) in
    ap (λ bytes. flip_sign (varint_value bytes)) body ∙ ap flip_sign (varint-is last small).holds

pub divider-reads : (number last : ℕ) → last < 2 ^ 56 → Divides (four_bytes number ++ varint last) number last
divider-reads number last small =
    record { whole = divider-whole number last small; child = divider-child number last; key = divider-key number last small }

dividers-whole : (children : List Child) → All (λ child. child.last < 2 ^ 56) children → All (IsCell inner_kind 4096) (dividers children)
dividers-whole [] small = λ k d lt. absurd (let no : ⊥ = omega (arith, lt) in no)
dividers-whole (child ∷ []) small = λ k d lt. absurd (let no : ⊥ = omega (arith, lt) in no)
dividers-whole (child ∷ next ∷ more) small =
    let here : IsCell inner_kind 4096 (four_bytes (number_of child.place) ++ varint child.last) = divider-whole (number_of child.place) child.last (small 0 child (omega arith)) in
    All-cons (IsCell inner_kind 4096) (four_bytes (number_of child.place) ++ varint child.last) (dividers (next ∷ more)) here
    (dividers-whole (next ∷ more) (λ k d lt. small (suc k) d (omega (arith, lt))))

right-is : (children : List Child) → right_child (page_above children) 0 ≡ number_of (last_child children).place
unfolding right_child
right-is children = four-read (number_of (last_child children).place)

pub page-reads : (children : List Child) → length children < 256 → All (λ child. child.last < 2 ^ 56) children → HoldsChildren (page_above children) children
page-reads children few small =
    let cells : List (List ℕ) = dividers children in
    let n : ℕ = length cells in
    let at : ℕ = content_at cells in
    let front : List ℕ = 5 ∷ 0 ∷ 0 ∷ n / 256 ∷ n % 256 ∷ at / 256 ∷ at % 256 ∷ 0 ∷ four_bytes (number_of (last_child children).place) in
    record {
      cells = page-holds inner_kind cells (page_above children) front (dividers-whole children small) refl (omega (arith, few, dividers-size children)) refl
          (record { flag = refl; whole = refl; cells = omega arith; begins = omega arith; none = refl });
      right = right-is children;
    }
