-- What each cell keeps holds of all cells and of what they are folded to.
use Rattle.std.proofs.Common.{List, [], ◌∷◌, ◌++◌, sym, subst, append_assoc, append-nil}
use Rattle.std.specs.List.{fold}
use Rattle.value_types.specs.Datum.{Datum}

module _ {S : Type 0} (add : S → Datum → S) (P : List Datum → S → Type 0) (keeps : (before : List Datum) (s : S) (cell : Datum) → P before s → P (before ++ cell ∷ []) (add s cell)) where
  behind : (before cells : List Datum) (s : S) → P before s → P (before ++ cells) (fold add s cells)
  behind before [] s holds = subst (λ cells. P cells s) (sym (append-nil before)) holds
  behind before (cell ∷ cells) s holds =
      subst (λ all. P all (fold add (add s cell) cells)) (append_assoc before (cell ∷ []) cells) (behind (before ++ cell ∷ []) cells (add s cell) (keeps before s cell holds))

  pub holds_of_all : (s : S) → P [] s → (cells : List Datum) → P cells (fold add s cells)
  holds_of_all s holds cells = behind [] cells s holds
