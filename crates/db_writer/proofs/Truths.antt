-- Truths, which have no bytes.
use Rattle.std.proofs.Common.{◌≡◌, ◌∙◌, Bool, pos, if◌then◌else◌, List, [], ◌++◌, ℕ, append-nil, ap, sym}
use Rattle.sqlite_value.specs.declared.value.Value.TheVariants.{Int}
use Rattle.db_records.specs.Record.{type_bytes, value_bytes}
use Rattle.db_pages.specs.Grown.{Filled}
use Rattle.db_writer.specs.Written.{Written, with_value}

abbrev written : Filled → ℕ → List ℕ → List ℕ → Written
written rows next types body = record { rows = rows; next = next; values = record { types = types; body = body } }

-- a truth was appended by its type alone
pub truth_appended : (w : Written) (rows : Filled) (next : ℕ) (types body types′ : List ℕ) (truth : Bool) → written rows next types body ≡ w →
    value_bytes (Int (if truth then pos 1 else pos 0)) ≡ [] → types′ ≡ types ++ type_bytes (Int (if truth then pos 1 else pos 0)) →
    written rows next types′ body ≡ with_value w (Int (if truth then pos 1 else pos 0))
truth_appended w rows next types body types′ truth is none added =
    ap (λ ts. written rows next ts body) added
    ∙ ap (λ bs. written rows next (types ++ type_bytes (Int (if truth then pos 1 else pos 0))) bs) (sym (append-nil body) ∙ ap (λ bs. body ++ bs) (sym none))
    ∙ ap (λ (v : Written). with_value v (Int (if truth then pos 1 else pos 0))) is
