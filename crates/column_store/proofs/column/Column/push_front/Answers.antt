use Rattle.std.proofs.Common.{◌∙◌, ◌∷◌, ◌++◌, [], ap, is_some, rules, Some, ℤ, w32, w64}
use Rattle.std.specs.Prelude.{slice_range}
use Rattle.std.specs.Option.{option_map}
use Rattle.std.proofs.lemmas.Int.{to_z-of_z}
use Rattle.value_types.specs.declared.types.Value.TheVariants as values
use Rattle.value_types.specs.Cast.{date_of, stamp_of, trimmed}
use Rattle.value_types.specs.Datum.{typed}
use Rattle.column_store.specs.Nullable.{options}
use Rattle.column_store.proofs.FrontCells.{front_pushed}
use Rattle.column_store.proofs.column.Column.push_front.Goals as goal

pub returns-in_ok-push_some-in-Some-date_front-clause-at : goal.returns-in_ok-push_some-in-Some-date_front-clause-at
returns-in_ok-push_some-in-Some-date_front-clause-at c =
    let found = c.in-Some-date_front.ensures in
    rw c.in-Date.is (record { low = found.within.0; high = found.within.1; plain = found.plain; spelled = ap (λ o. is_some (option_map typed (option_map values.Date o))) found.value })

pub returns-in_ok-push_some-in-Some-date_front-clause-ok : goal.returns-in_ok-push_some-in-Some-date_front-clause-ok
returns-in_ok-push_some-in-Some-date_front-clause-ok c =
    let found = c.in-Some-date_front in
    let old = options c.in-Date.column in
    rw c.in-Date.is (front_pushed values.Date old (options c.push_some-in-Some-date_front.new.self) found.front.day (date_of (trimmed (slice_range c.args.bytes.now c.args.from found.front.end))) found.ensures.value
    (c.in_ok-push_some-in-Some-date_front.ensures.ok ∙ ap (λ (n : ℤ). old ++ Some n ∷ []) (to_z-of_z w32 found.front.day (search rules))))

pub returns-in_ok-push_some-in-Some-stamp_front-clause-at : goal.returns-in_ok-push_some-in-Some-stamp_front-clause-at
returns-in_ok-push_some-in-Some-stamp_front-clause-at c =
    let found = c.in-Some-stamp_front.ensures in
    rw c.in-Timestamp.is (record { low = found.within.0; high = found.within.1; plain = found.plain; spelled = ap (λ o. is_some (option_map typed (option_map values.Stamp o))) found.value })

pub returns-in_ok-push_some-in-Some-stamp_front-clause-ok : goal.returns-in_ok-push_some-in-Some-stamp_front-clause-ok
returns-in_ok-push_some-in-Some-stamp_front-clause-ok c =
    let found = c.in-Some-stamp_front in
    let old = options c.in-Timestamp.column in
    rw c.in-Timestamp.is (front_pushed values.Stamp old (options c.push_some-in-Some-stamp_front.new.self) found.front.micros (stamp_of (trimmed (slice_range c.args.bytes.now c.args.from found.front.end))) found.ensures.value
    (c.in_ok-push_some-in-Some-stamp_front.ensures.ok ∙ ap (λ (n : ℤ). old ++ Some n ∷ []) (to_z-of_z w64 found.front.micros (search rules))))
