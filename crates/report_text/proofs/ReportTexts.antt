-- Reports that are a head, the lines of rows, and a tail.
use Rattle.std.proofs.Common.{◌≡◌, ℕ, List, ◌++◌, map, ◌∙◌, ap, sym, append_assoc}
use Rattle.std.specs.Prelude.{flat_map}
use Rattle.std.specs.List.{concat}
use Rattle.value_types.specs.Datum.{Datum}
use Rattle.text_pieces.proofs.RowTexts.{lines-all}
use Rattle.report_text.specs.Lines.{row_line}

pub joined : (head found tail closing : List ℕ) (lines : List (List ℕ)) (rows : List (List Datum)) → head ≡ found → lines ≡ map row_line rows → tail ≡ closing →
    head ++ (concat lines ++ tail) ≡ (found ++ flat_map row_line rows) ++ closing
joined head found tail closing lines rows head_is lines_are tail_is =
    let text : concat lines ≡ flat_map row_line rows = ap concat lines_are ∙ lines-all row_line rows in
    (λ i. head_is i ++ (text i ++ tail_is i)) ∙ sym (append_assoc found (flat_map row_line rows) closing)
