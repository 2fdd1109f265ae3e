use Rattle.std.proofs.Common.{◌≡◌, ◌∙◌}
use Rattle.std.specs.Str.{IsUtf8, IsValidUpTo, valid_up_to}
use Rattle.csv_sniffer.proofs.HeaderSteps.{utf8_test}
use Rattle.db_writer.proofs.row_writer.is_utf8.Goals as goal

pub returns : goal.returns
returns c =
    let bytes = c.args.bytes.now in
    c.is_ok.ensures.value
    ∙ utf8_test c.from_utf8.result (λ s. (s.now ≡ bytes) × IsUtf8 bytes) (λ e. (IsUtf8 bytes → ⊥) × IsValidUpTo bytes (valid_up_to e)) bytes
    (λ s h. h.1) (λ e h. h.0) c.from_utf8.ensures.cases
