use Rattle.std.proofs.Common.{◌++◌, ◌∷◌, [], ℕ, ap, sym, map, ◌∙◌, arith}
use Rattle.std.proofs.lemmas.List.{map-append}
use Rattle.std.proofs.lemmas.List.FromFn.{map-range_with_len_more}
use Rattle.column_profile.specs.Kept.{tally_in}
use Rattle.column_profile.specs.Profile.{cells_in}
use Rattle.column_profile.specs.Tally.{Tally, tally_of}
use Rattle.column_profile.proofs.columns.empty_columns.Goals as goal

pub loop-number-preserved : goal.loop-number-preserved
loop-number-preserved c =
    let nothing : ℕ → Tally = λ column. tally_of (cells_in column []) in
    ap (map tally_in) c.in_ok-push.ensures.items ∙ map-append tally_in c.loop-number.columns.items (c.new-column.result ∷ [])
    ∙ (λ i. c.loop-number.invariant i ++ c.new-column.ensures i ∷ []) ∙ sym (map-range_with_len_more nothing 0 c.loop-number._number c.loop-number._number (omega arith))
