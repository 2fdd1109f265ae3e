use Rattle.std.proofs.Common.{◌≡◌, ◌++◌, ap, ◌∙◌, arith, to_z-of_z, w64, of_z}
use Rattle.std.proofs.lemmas.Result.{IfOk-weaker}
use Rattle.std.specs.Int.{bytes_high_first}
use Rattle.sqlite_record.specs.Serial.{serial_size, int_serial}
use Rattle.sqlite_record.proofs.SerialLemmas.{int_size}
use Rattle.db_records.proofs.values.push_integer.Goals as goal

pub push_last_bytes-requires : goal.push_last_bytes-requires
push_last_bytes-requires c =
    let serial : c.int_serial-serial.result ≡ int_serial c.args.number = grind (arith, to_z-of_z) in
    omega (arith, c.int_size-size.ensures, ap serial_size serial, (int_size c.args.number).0)

pub returns-clause-body : goal.returns-clause-body
returns-clause-body c =
    let n = c.args.number in
    let serial : c.int_serial-serial.result ≡ int_serial n = grind (arith, to_z-of_z) in
    let size : c.int_size-size.result ≡ serial_size (int_serial n) = c.int_size-size.ensures ∙ ap serial_size serial in
    let bits : c.cast_unsigned.result ≡ of_z w64 n = grind (arith, to_z-of_z) in
    IfOk-weaker c.push_last_bytes.result _ _
    (λ _ out. out ∙ ap (λ k. c.args.body.now.text ++ bytes_high_first k c.cast_unsigned.result) size ∙ ap (λ x. c.args.body.now.text ++ bytes_high_first (serial_size (int_serial n)) x) bits)
    c.push_last_bytes.ensures.ok
