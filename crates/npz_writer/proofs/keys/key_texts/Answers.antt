use Rattle.std.proofs.Common.{List, ℕ, [], ◌+◌, ◌∷◌, ◌++◌, map, drop, ap, ◌∙◌}
use Rattle.db_writer.proofs.RowsLaid.{drop-at}
use Rattle.npz_writer.specs.Keys.{key_text}
use Rattle.npz_writer.proofs.Grown.{made-more}
use Rattle.npz_writer.proofs.keys.key_texts.Goals as goal

pub loop-column-preserved : goal.loop-column-preserved
loop-column-preserved c =
    let names : List (List ℕ) = c.args.names.now in
    let k : ℕ = c.loop-column.column in
    let made : List (List ℕ) = c.loop-column.texts in
    let name : List ℕ = c.get.result.now in
    made-more made _ (key_text name ∷ []) (map key_text (drop k names)) (map key_text (drop (k + 1) names)) (map key_text names)
    (c.in_ok-push.ensures.ok ∙ ap (λ text. made ++ text ∷ []) (c.deref.ensures.value ∙ c.in_ok-text.ensures)) (ap (map key_text) (drop-at names k name c.get.ensures)) c.loop-column.invariant
