use Rattle.std.proofs.Common.{ap, sym, take, refl, ◌∙◌}
use Rattle.std.specs.List.{fold}
use Rattle.value_types.specs.declared.types.Value.TheVariants as values
use Rattle.value_types.specs.declared.views.ColumnView.{ColumnView}
use Rattle.value_types.specs.Datum.{text}
use Rattle.value_types.specs.Packed.{numbers_in}
use Rattle.value_types.specs.Views.{view_cells}
use Rattle.column_profile.specs.Folded.{joined}
use Rattle.column_profile.specs.Tally.{span_with}
use Rattle.column_profile.proofs.MarkSteps.{fold_marked}
use Rattle.column_profile.proofs.SpanSteps.{made-joined}
use Rattle.column_profile.proofs.span.span_with.Goals as goal

pub returns-in-Bigint : goal.returns-in-Bigint
returns-in-Bigint c =
    let column = c.in-Bigint.numbers in
    c.joined.ensures ∙ ap (joined c.args.span) c.span_of_numbers.ensures
    ∙ made-joined (λ n. values.Int n) (λ n. refl) c.args.span c.extent.result c.args.rows column.nulls.now (numbers_in column.values) c.extent.ensures
    ∙ sym (ap (λ (view : ColumnView). fold span_with c.args.span (take c.args.rows (view_cells view))) c.in-Bigint.is)

pub returns-in-Time : goal.returns-in-Time
returns-in-Time c =
    c.joined-in-Time.ensures ∙ ap (joined c.args.span) c.span_of_times.ensures
    ∙ made-joined (λ n. values.Time n) (λ n. refl) c.args.span c.extent_of.result c.args.rows c.in-Time.nulls.now c.in-Time.micros.now c.extent_of.ensures
    ∙ sym (ap (λ (view : ColumnView). fold span_with c.args.span (take c.args.rows (view_cells view))) c.in-Time.is)

pub returns-in-Timestamp : goal.returns-in-Timestamp
returns-in-Timestamp c =
    c.joined-in-Timestamp.ensures ∙ ap (joined c.args.span) c.span_of_stamps.ensures
    ∙ made-joined (λ n. values.Stamp n) (λ n. refl) c.args.span c.extent_of-in-Timestamp.result c.args.rows c.in-Timestamp.nulls.now c.in-Timestamp.stamps.now c.extent_of-in-Timestamp.ensures
    ∙ sym (ap (λ (view : ColumnView). fold span_with c.args.span (take c.args.rows (view_cells view))) c.in-Timestamp.is)

pub returns-in-Varchar : goal.returns-in-Varchar
returns-in-Varchar c =
    sym (ap (λ (view : ColumnView). fold span_with c.args.span (take c.args.rows (view_cells view))) c.in-Varchar.is
    ∙ fold_marked text span_with c.args.span c.args.rows c.in-Varchar.field-0.now c.in-Varchar.field-1.now refl (λ t. refl))
