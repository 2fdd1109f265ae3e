use Rattle.std.proofs.Common.{◌≡◌, ◌∙◌, ℕ, false, cond, List, [], ◌∷◌, drop, refl, ap, sym}
use Rattle.std.specs.Prelude.{◌==◌}
use Rattle.std.specs.List.{list_any}
use Rattle.std.specs.Option.{option_map_or}
use Rattle.std.proofs.lemmas.Bool.{or_parts}
use Rattle.load_options.specs.declared.options.Options.{Options}
use Rattle.load_options.specs.Request.{options_given}
use Rattle.load_options.specs.Texts.{pieces_at, put_front, word_at}
use Rattle.load_options.proofs.laws.one_null_text.Goals as goal

-- a text without a comma is its only piece
uncut : (text : List ℕ) → list_any (λ b. b == 44) text ≡ false → pieces_at 44 text ≡ text ∷ []
uncut [] none = refl
uncut (b ∷ text) none =
    let parts = or_parts (b == 44) (list_any (λ c. c == 44) text) none in
    ap (λ t. cond t ([] ∷ pieces_at 44 text) (put_front b (pieces_at 44 text))) parts.0 ∙ ap (put_front b) (uncut text parts.1)

pub returns : goal.returns
returns c = λ command words text none absent.
    let under : List (List ℕ) → Options = λ texts. record (options_given command words) { nullstr = word_at texts 0; nulls = drop 1 texts } in
    ap under (uncut text none) ∙ ap (λ o. under (option_map_or (pieces_at 44) o (text ∷ []))) (sym absent)
