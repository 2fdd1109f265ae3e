use Rattle.std.proofs.Common.{[], ◌∷◌, ◌∙◌, ap}
use Rattle.std.specs.Option.{option_to_list}
use Rattle.reject_book.specs.Fields.{bytes, number, text}
use Rattle.npz_writer.specs.declared.scans.Marks.{Marks}
use Rattle.npz_writer.proofs.scans.scan_fields.Goals as goal

pub returns : goal.returns
returns c =
    let delim = c.mark_bytes.ensures ∙ ap (λ (m : Marks). option_to_list m.delim) c.requires in
    let quote = c.mark_bytes-2.ensures ∙ ap (λ (m : Marks). option_to_list m.quote) c.requires in
    let escape = c.mark_bytes-3.ensures ∙ ap (λ (m : Marks). option_to_list m.escape) c.requires in
    λ i. number 0 ∷ number c.args.file_id ∷ bytes c.args.file.now ∷ text (delim i) ∷ text (quote i) ∷ text (escape i) ∷ text (c.newline_bytes.ensures i) ∷ number c.args.sniffed.now.skip
    ∷ text (c.truth_text.ensures i) ∷ number (c.len.ensures i) ∷ []
