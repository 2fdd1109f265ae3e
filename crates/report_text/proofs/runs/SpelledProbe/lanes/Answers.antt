use Rattle.std.proofs.Common.{◌≡◌, ℕ, List, map, ◌∙◌, ap₂}
use Rattle.std.specs.Prelude.{◌==◌, ◌||◌, nat_lt}
use lib.Bits.{bit_or}
use lib.Lanes.{mask_l}
use Rattle.report_text.specs.Ordinary.{is_spelled}
use Rattle.byte_classes.proofs.LaneLaws.{or_mask}
use Rattle.report_text.proofs.runs.SpelledProbe.lanes.Goals as goal

-- the four comparisons together
joined : (q r s t : ℕ) (lanes : List ℕ) → q ≡ mask_l (map (λ x. x == 92) lanes) → r ≡ mask_l (map (λ x. x == 124) lanes) → s ≡ mask_l (map (λ x. x == 127) lanes)
    → t ≡ mask_l (map (λ x. nat_lt x 32) lanes) → bit_or (bit_or (bit_or q r) s) t ≡ mask_l (map is_spelled lanes)
joined q r s t lanes first second third fourth =
    ap₂ bit_or
    (ap₂ bit_or (ap₂ bit_or first second ∙ or_mask (λ x. x == 92) (λ x. x == 124) lanes) third ∙ or_mask (λ x. x == 92 || x == 124) (λ x. x == 127) lanes)
    fourth
    ∙ or_mask (λ x. (x == 92 || x == 124) || x == 127) (λ x. nat_lt x 32) lanes

pub returns : goal.returns
returns c = joined _ _ _ _ c.args.lanes c.equal_to.ensures c.equal_to-2.ensures c.equal_to-3.ensures c.below.ensures
