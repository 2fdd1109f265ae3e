use Rattle.std.proofs.Common.{[], ◌∷◌, codes, sym}
use Rattle.csv_source.specs.Line.{line_of}
use Rattle.csv_source.specs.Shown.{shown}
use Rattle.csv_writer.proofs.Bare.{shown_kind, shown_number}
use Rattle.loader_reply.proofs.laws.rejects_are_shown.Goals as goal

pub returns : goal.returns
returns c = λ r i. line_of
    (codes "error"
    ∷ sym (shown_number r.scan_id) i
    ∷ sym (shown_number r.file_id) i
    ∷ sym (shown_number r.line) i
    ∷ sym (shown_number r.line_byte_position) i
    ∷ sym (shown_number r.byte_position) i
    ∷ sym (shown_number r.column_idx) i
    ∷ shown r.column_name
    ∷ sym (shown_kind r.error_type) i
    ∷ shown r.csv_line
    ∷ shown r.error_message
    ∷ [])
