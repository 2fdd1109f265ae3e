use Rattle.std.proofs.Common.{◌≡◌, ◌+◌, ◌∙◌, ℕ, arith, List, length}
use Rattle.std.specs.Prelude.{slice_range}
use Rattle.value_types.proofs.SlicesInBytes.{length-slice}
use Rattle.value_types.proofs.WordTexts.{begins_ahead}
use Rattle.value_types.proofs.words.digits_at.Goals as goal

pub returns : goal.returns
returns c =
    let bytes : List ℕ = c.args.bytes.now in
    let end : ℕ = c.args.from + c.args.count in
    let text : List ℕ = slice_range bytes c.args.from end in
    let long : length text ≡ c.args.count = length-slice bytes c.args.from end (omega (arith, c.requires.few.1, c.requires.within)) ∙ omega arith in
    let begins = begins_ahead bytes c.args.from end c.word_at.result (omega arith) (omega (arith, c.requires.few.1)) c.requires.within (λ k lt. (c.type_inv.bytes k).fits) c.word_at.ensures in
    let is = c.front_number.ensures text long begins c.requires.digits in
    record { value = is.0; small = is.1 }
