use Rattle.std.proofs.Common.{rules, ◌≡◌, ◌∙◌, ap, sym, w64, FitsSigned, to_z-of_z}
use Rattle.std.specs.Prelude.{if◌then◌else◌, Some}
use Rattle.value_types.proofs.ViewSteps.{number_kept}
use Rattle.npz_writer.specs.Blocks.{numbers_of}
use Rattle.npz_writer.proofs.Unmarked.{unmarked-get}
use Rattle.npz_writer.proofs.numbers.NumberColumn.get.Goals as goal

pub returns : goal.returns
returns c =
    let column = c.args.self.now in
    let null_fits : FitsSigned w64 column.null = search rules in
    let chosen : c.unless_null.result ≡ (if c.is_marked.result then column.null else c.get.result) =
    c.unless_null.ensures ∙ (λ i. if c.is_marked.result then to_z-of_z null_fits i else number_kept c.get.result c.get.type_inv i) in
    unmarked-get column.null column.nulls.now (numbers_of column.numbers) c.args.row c.is_marked.result c.get.result c.unless_null.result c.is_marked.ensures c.get.ensures chosen
    ∙ ap Some (sym (number_kept c.unless_null.result c.unless_null.type_inv))
