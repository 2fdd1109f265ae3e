use Rattle.std.proofs.Common.{◌≡◌, ◌≢◌, Bor, ℕ, Bool, List, Option, take, refl, sym}
use Rattle.std.specs.List.{fold}
use Rattle.value_types.specs.declared.types.Value.TheVariants as values
use Rattle.value_types.specs.Datum.{typed}
use Rattle.value_types.specs.Packed.{numbers_in}
use Rattle.value_types.specs.Views.{view_cells}
use Rattle.value_types.specs.declared.views.ColumnView.{ColumnView}
use Rattle.value_types.specs.declared.views.ColumnView.TheVariants as views
use Rattle.column_profile.specs.declared.lengths.Lengths.{Lengths}
use Rattle.column_profile.specs.Tally.{lengths_with}
use Rattle.column_profile.proofs.MarkSteps.{fold_marked}
use Rattle.column_profile.proofs.lengths.lengths_with.Goals as goal

no_texts : (lengths : Option Lengths) (n : ℕ) (view : ColumnView) → ((nulls : Bor (List Bool)) (texts : Bor (List (List ℕ))) → view ≢ views.Varchar nulls texts)
    → lengths ≡ fold lengths_with lengths (take n (view_cells view))
no_texts lengths n (views.Boolean nulls column) not = sym (fold_marked (λ b. typed (values.Bool b)) lengths_with lengths n nulls.now column.now refl (λ b. refl))
no_texts lengths n (views.Bigint column) not = sym (fold_marked (λ z. typed (values.Int z)) lengths_with lengths n column.nulls.now (numbers_in column.values) refl (λ z. refl))
no_texts lengths n (views.Date nulls column) not = sym (fold_marked (λ z. typed (values.Date z)) lengths_with lengths n nulls.now column.now refl (λ z. refl))
no_texts lengths n (views.Time nulls column) not = sym (fold_marked (λ z. typed (values.Time z)) lengths_with lengths n nulls.now column.now refl (λ z. refl))
no_texts lengths n (views.Timestamp nulls column) not = sym (fold_marked (λ z. typed (values.Stamp z)) lengths_with lengths n nulls.now column.now refl (λ z. refl))
no_texts lengths n (views.Varchar nulls column) not = absurd (not nulls column refl)

pub returns-in_default : goal.returns-in_default
returns-in_default c = no_texts c.args.lengths c.args.rows c.args.column.now c.in_default.not-Varchar
