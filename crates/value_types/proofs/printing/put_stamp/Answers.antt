use Rattle.std.proofs.Common.{◌≡◌, ◌∙◌, ap, sym, subst, codes, ◌++◌, to_z, of_z, w32, w64, ℤ, pos, unsigned_abs, append_assoc, take}
use Rattle.std.specs.Int.{int_div_euclid, int_rem_euclid}
use Rattle.value_types.specs.declared.types.Value.TheVariants as values
use Rattle.value_types.specs.ClockTime.{day_micros}
use Rattle.value_types.specs.Spelled.{IsSpelled}
use Rattle.value_types.specs.ValueText.{date_text, time_text}
use Rattle.value_types.proofs.PrintSteps.{spelled_stamp_bits, day_of_stamp, narrow_day_bits, micros_of_stamp}
use Rattle.value_types.proofs.printing.put_stamp.Goals as goal

pub put_parts-requires-clause-spelled : goal.put_parts-requires-clause-spelled
put_parts-requires-clause-spelled c =
    let bits : to_z w64 (of_z w64 c.args.stamp) ≡ c.args.stamp = spelled_stamp_bits c.args.stamp c.requires.spelled in
    let div : c.div_euclid-day.result ≡ int_div_euclid c.args.stamp (pos day_micros) = c.div_euclid-day.ensures ∙ ap (λ (z : ℤ). int_div_euclid z (pos day_micros)) bits in
    let spelled : IsSpelled (values.Date c.div_euclid-day.result) = subst (λ z. IsSpelled (values.Date z)) (sym div) (day_of_stamp c.args.stamp c.requires.spelled) in
    subst (λ z. IsSpelled (values.Date z)) (sym (narrow_day_bits c.div_euclid-day.result spelled)) spelled

pub returns-clause-text : goal.returns-clause-text
returns-clause-text c =
    let bits : to_z w64 (of_z w64 c.args.stamp) ≡ c.args.stamp = spelled_stamp_bits c.args.stamp c.requires.spelled in
    let div : c.div_euclid-day.result ≡ int_div_euclid c.args.stamp (pos day_micros) = c.div_euclid-day.ensures ∙ ap (λ (z : ℤ). int_div_euclid z (pos day_micros)) bits in
    let rem : c.rem_euclid-micros.result ≡ int_rem_euclid c.args.stamp (pos day_micros) = c.rem_euclid-micros.ensures.value ∙ ap (λ (z : ℤ). int_rem_euclid z (pos day_micros)) bits in
    let spelled : IsSpelled (values.Date c.div_euclid-day.result) = subst (λ z. IsSpelled (values.Date z)) (sym div) (day_of_stamp c.args.stamp c.requires.spelled) in
    let day : to_z w32 (of_z w32 (to_z w64 (of_z w64 c.div_euclid-day.result))) ≡ int_div_euclid c.args.stamp (pos day_micros) = narrow_day_bits c.div_euclid-day.result spelled ∙ div in
    let micros : to_z w64 (of_z w64 c.rem_euclid-micros.result) ≡ int_rem_euclid c.args.stamp (pos day_micros) = micros_of_stamp c.args.stamp c.requires.spelled c.rem_euclid-micros.result rem ∙ rem in
    c.put_parts.ensures.text ∙ (λ i. take c.args.at c.args.into.now ++ (date_text (day i) ++ (codes " " ++ time_text (unsigned_abs (micros i)))))
    ∙ ap (λ t. take c.args.at c.args.into.now ++ t) (sym (append_assoc (date_text (int_div_euclid c.args.stamp (pos day_micros))) (codes " ") (time_text (unsigned_abs (int_rem_euclid c.args.stamp (pos day_micros))))))
