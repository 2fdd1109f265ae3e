use Rattle.std.proofs.Common.{◌∙◌, ◌++◌, ap, append_assoc, codes, take, arith, to_z, of_z, to_z-of_z, w32}
use Rattle.std.proofs.lemmas.List.{length-set, take_more_set}
use Rattle.value_types.specs.ValueText.{date_text, time_text}
use Rattle.value_types.proofs.printing.put_parts.Goals as goal

pub put_clock-requires-clause-room : goal.put_clock-requires-clause-room
put_clock-requires-clause-room c =
    omega (arith, length-set c.put_date-end.new.into c.put_date-end.result 32, c.put_date-end.ensures.end, c.put_date-end.ensures.same, c.requires.room)

pub returns-clause-within : goal.returns-clause-within
returns-clause-within c = omega (arith, c.put_clock.ensures.within, c.put_date-end.ensures.end)

pub returns-clause-text : goal.returns-clause-text
returns-clause-text c =
    let before = take c.args.at c.args.into.now in
    let date = date_text (to_z w32 (of_z w32 c.args.day)) in
    let time = time_text c.args.micros in
    c.put_clock.ensures.text
    ∙ ap (λ xs. xs ++ time) (take_more_set c.put_date-end.new.into c.put_date-end.result 32 (omega (arith, c.put_date-end.ensures.end, c.put_date-end.ensures.same, c.requires.room)) ∙ ap (λ xs. xs ++ codes " ") c.put_date-end.ensures.text)
    ∙ append_assoc (before ++ date) (codes " ") time
    ∙ append_assoc before date (codes " " ++ time)
    ∙ ap (λ d. before ++ (date_text d ++ (codes " " ++ time))) (to_z-of_z c.ranges.day)

pub returns-clause-same : goal.returns-clause-same
returns-clause-same c = c.put_clock.ensures.same ∙ length-set c.put_date-end.new.into c.put_date-end.result 32 ∙ c.put_date-end.ensures.same
