use Rattle.std.proofs.Common.{◌∙◌, ◌++◌, ap}
use Rattle.std.specs.Prelude.{codes}
use Rattle.npz_writer.proofs.npy.header_text.Goals as goal

pub returns-clause-value : goal.returns-clause-value
returns-clause-value c =
    c.in_ok-extend_from_slice-4.ensures.items
    ∙ ap (λ xs. xs ++ codes ",), }") (c.in_ok-extend_from_slice-3.ensures.items
    ∙ (λ i. (c.in_ok-extend_from_slice-2.ensures.items
    ∙ ap (λ xs. xs ++ codes "', 'fortran_order': False, 'shape': (") (c.in_ok-extend_from_slice.ensures.items
    ∙ ap (λ xs. xs ++ c.args.kind.now) c.in_ok-text.ensures.items)) i
    ++ (c.as_bytes.ensures.value ∙ c.format.ensures.text) i))
