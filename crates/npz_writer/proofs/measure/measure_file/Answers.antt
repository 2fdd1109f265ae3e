use Rattle.std.proofs.Common.{◌≡◌, ◌∙◌, List, ℕ, ap, sym, length, arith, length-append}
use Rattle.std.proofs.lemmas.Grind.{common_steps}
use Rattle.zip_archive.specs.Crc.{crc_after, crc_start, crc_told}
use Rattle.zip_archive.proofs.Registers.{crc_after-append}
use Rattle.npz_writer.specs.Arrays.{element_kind}
use Rattle.npz_writer.specs.Npy.{npy_head}
use Rattle.npz_writer.specs.Sheets.{SheetView}
use Rattle.npz_writer.specs.Slots.{bytes_at, head_at, type_at}
use Rattle.npz_writer.specs.Walks.{rest}
use Rattle.npz_writer.proofs.measure.measure_file.Goals as goal

pub returns : goal.returns
returns c =
    let sheet = c.args.sheet.now in
    let head : List ℕ = head_at sheet c.args.column c.args.part in
    let bytes : List ℕ = bytes_at sheet c.args.column c.args.part in
    let column : ℕ = c.args.column in
    let ty : c.type_of.result ≡ type_at sheet column = c.type_of.ensures ∙ ap (λ (s : SheetView). type_at s column) c.sheet.view_is in
    let kind : c.kind.result.now ≡ element_kind (type_at sheet column) c.args.part = c.kind.ensures.value ∙ ap (λ ty. element_kind ty c.args.part) ty in
    let head_is : c.in_ok-head.head.items ≡ head = c.in_ok-head.ensures ∙ (λ i. npy_head (kind i) (c.in_ok-count.ensures i)) in
    let rest_is : rest c.of.result ≡ bytes = c.of.ensures ∙ ap (λ (s : SheetView). bytes_at s column c.args.part) c.sheet.view_is in
    record {
      count = c.in_ok-count.ensures;
      length = grind (arith, common_steps, c.in_ok-bytes.ensures.count, ap length rest_is, ap length head_is, length-append head bytes, c.len.ensures);
      crc =
          c.value.ensures ∙ ap crc_told (c.in_ok-bytes.ensures.crc ∙ (λ i. crc_after ((c.update.ensures ∙ (λ j. crc_after (c.new-crc.ensures j) ((c.deref.ensures.value ∙ head_is) j))) i) (rest_is i))
          ∙ sym (crc_after-append crc_start head bytes));
    }
