use Rattle.std.proofs.Common.{◌≡◌, ◌+◌, ◌/◌, ◌^◌, ◌<◌, ◌++◌, ◌∙◌, List, ℕ, Vec, Global, length, ap, sym, arith}
use Rattle.std.proofs.lemmas.Result.{IfOk-weaker}
use Rattle.db_pages.specs.Grown.{TreeBytes, tree_of}
use Rattle.db_pages.specs.Image.{Imaged, image_over, with_lock_page}
use Rattle.db_pages.specs.Laid.{next_place}
use Rattle.db_pages.specs.Numbers.{number_of}
use Rattle.db_pages.proofs.Images.{image_few, image_is}
use Rattle.db_pages.proofs.Joined.{text_of, text_of-append}
use Rattle.db_pages.proofs.Rows.{bytes_of}
use Rattle.db_pages.proofs.image.Image.finish.Goals as goal

pub returns : goal.returns
returns c =
    let parts : Imaged = c.args.self in
    let list : TreeBytes = c.in_ok-list.list in
    let base : ℕ = c.next_place-base.result in
    let trees : List (Vec ℕ Global) = c.self.inside.trees.items in
    let pages : List (Vec ℕ Global) = c.list.inside.pages.items in
    let first : List ℕ = c.in_ok-first.first.items in
    let all : List (Vec ℕ Global) = c.append.new.self.items in
    let is-list : list ≡ tree_of base parts.records =
    c.in_ok-list.ensures ∙ ap (λ rows. tree_of base (bytes_of rows)) c.deref.ensures.value ∙ ap (λ (p : Imaged). tree_of base p.records) c.self.view_is in
    let size : length list.bytes ≡ c.list.inside.len = ap (λ (t : TreeBytes). length t.bytes) (sym c.list.view_is) ∙ c.list.invariant in
    let is-pages : c.in_ok-pages.pages ≡ next_place base list.bytes =
    (let sum : c.in_ok-pages.pages ≡ base + c.list.inside.len / 4096 = grind arith in sum) ∙ ap (λ n. base + n / 4096) (sym size) in
    let appended : all ≡ trees ++ pages = c.in_ok-append.ensures.items in
    let is-all : text_of all ≡ parts.trees ++ list.bytes =
    ap text_of appended ∙ text_of-append trees pages
    ∙ ap (λ (p : Imaged). p.trees ++ text_of pages) c.self.view_is ∙ ap (λ (t : TreeBytes). parts.trees ++ t.bytes) c.list.view_is in
    let is-root : c.in_ok-root.root ≡ number_of list.root = c.in_ok-root.ensures ∙ ap (λ (t : TreeBytes). number_of t.root) c.list.view_is in
    let few : c.in_ok-number_of.field-0 < 2 ^ 32 = omega arith in
    let Text : List ℕ → Type 0 = λ text. text ≡ with_lock_page (first ++ text_of all) in
    record {
      value = IfOk-weaker c.join_pages.result Text (λ text. text ≡ image_over parts)
          (λ text is. image_is parts list base c.in_ok-pages.pages c.in_ok-number_of.field-0 c.in_ok-root.root first (text_of all) text
          c.next_place-base.ensures is-list is-pages c.in_ok-number_of.ensures is-root c.in_ok-first.ensures.value is-all is)
          c.join_pages.ensures;
      few = IfOk-weaker c.join_pages.result Text (λ text. length text < 2 ^ 44)
          (λ text is. image_few parts list base c.in_ok-pages.pages c.in_ok-number_of.field-0 first (text_of all) text c.next_place-base.ensures is-list is-pages c.in_ok-number_of.ensures few
          c.in_ok-first.ensures.size is-all is)
          c.join_pages.ensures;
    }
