-- The trees of tables that are written, and the file of all of them.
use Rattle.std.proofs.Common.{◌≡◌, ℕ, List, [], ◌∷◌, ◌∙◌, ap}
use Rattle.db_pages.specs.Grown.{closed, tree_of, tree_over}
use Rattle.db_pages.specs.Image.{Imaged, Tabled, image, image_over, no_table}
use Rattle.db_pages.specs.Laws.{TablesFollow}
use Rattle.db_writer.specs.Database.{with_tabled}
use Rattle.db_writer.specs.Written.{Written, nothing_written, with_records}

-- all rows of a table were written
pub tree-written : (base : ℕ) (w : Written) (records : List (List ℕ)) → w ≡ with_records (nothing_written base 1) records → tree_over (closed w.rows) ≡ tree_of base records
tree-written base w records is = ap (λ (v : Written). tree_over (closed v.rows)) is

pub three-tables : TablesFollow → (a b c : Tabled) (i : Imaged) → i ≡ with_tabled (with_tabled (with_tabled no_table a) b) c → image_over i ≡ image (a ∷ b ∷ c ∷ [])
three-tables follow a b c i is =
    ap image_over
    (is ∙ ap (λ v. with_tabled (with_tabled v b) c) (follow [] a)
    ∙ ap (λ v. with_tabled v c) (follow (a ∷ []) b)
    ∙ follow (a ∷ (b ∷ [])) c)
