-- A field is found and its cell is pushed.
use Rattle.std.proofs.Common.{◌≡◌, ℕ, ◌+◌, sym, ap, ◌∙◌, subst, List, [], ◌∷◌, ◌++◌, length, get_or, true, false, length-append}
use Rattle.std.specs.Prelude.{IfSome, Option, None, Some, slice_get}
use Rattle.byte_classes.specs.Dialect.{IsDialect}
use Rattle.byte_classes.specs.Fault.{is_line_end_byte}
use Rattle.quote_automaton.specs.Rows.{begins_comment}
use Rattle.value_types.specs.declared.types.ColumnType.{ColumnType}
use Rattle.value_types.specs.Datum.{Datum}
use Rattle.column_store.specs.ChunkView.{ChunkView}
use Rattle.range_scan.specs.declared.context.Context.{Context}
use Rattle.range_scan.specs.FastRows.{HasFields, IsFastRow, IsFieldPushed, KeepsRows}
use Rattle.row_fields.proofs.PlainReading.{delim_stops, line_end_stops}
use Rattle.range_scan.proofs.FastFields.{last_one, one_more}

pub on_some : {P Q : ℕ → Type 0} (o : Option ℕ) → ((n : ℕ) → P n → Q n) → IfSome o P → IfSome o Q
on_some None weaker p = p
on_some (Some n) weaker p = weaker n p

-- what changed twice alone is all that changed
pub under_twice : (first old new : ChunkView) → KeepsRows first old → KeepsRows old new → KeepsRows first new
under_twice first old new one two = two ∙ (λ i. record (one i) { unfinished = new.unfinished })

module _ (context : Context) (sound : IsDialect context.dialect) (bytes : List ℕ) (from : ℕ) (first old new : ChunkView) (under : KeepsRows first old) (ty : ColumnType)
    (next : slice_get context.schema.types (length old.unfinished) ≡ Some ty) (end : ℕ) (found : IsFieldPushed context ty bytes from old new end) (so : HasFields context bytes from old.unfinished) where
  unfinished_is : new.unfinished ≡ old.unfinished ++ found.cell ∷ []
  unfinished_is = ap (λ x. x.unfinished) found.pushed

  pub still_under : KeepsRows first new
  still_under = found.pushed ∙ (λ i. record (under i) { unfinished = (sym found.pushed i).unfinished })

  pub one_longer : length new.unfinished ≡ length old.unfinished + 1
  one_longer = ap length unfinished_is ∙ length-append old.unfinished (found.cell ∷ [])

  pub step_more : get_or bytes end 0 ≡ context.dialect.delim → HasFields context bytes (end + 1) new.unfinished
  step_more delim =
      subst (HasFields context bytes (end + 1)) (sym {A = List Datum} unfinished_is)
      (one_more context sound bytes from old.unfinished so ty next end found.cell (found.is (delim_stops context.dialect (get_or bytes end 0) sound delim)) found.high found.ascii delim)

  pub step_last : is_line_end_byte (get_or bytes end 0) ≡ true → begins_comment context.dialect bytes ≡ false → IsFastRow context bytes new.unfinished end
  step_last ends no_comment =
      subst (λ cells. IsFastRow context bytes cells end) (sym {A = List Datum} unfinished_is)
      (last_one context sound bytes from old.unfinished so ty next end found.cell (found.is (line_end_stops context.dialect (get_or bytes end 0) ends)) found.high found.ascii ends no_comment)
