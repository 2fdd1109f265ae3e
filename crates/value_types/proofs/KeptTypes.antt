-- Values that leave the possible types of a column as they are.
use Rattle.std.proofs.Math.Bool.{or-true}
use Rattle.std.proofs.Common.{◌≡◌, ℕ, Bool, true, false, not, ◌&&◌, ◌||◌, List, length, Option, Some, None, ℤ, pos, ◌+ℤ◌, ◌*ℤ◌, refl, sym, ◌∙◌, ap, inl, inr, arith}
use Rattle.std.specs.Option.{is_some, option_map}
use Rattle.std.proofs.lemmas.Bool.{and_parts}
use Rattle.std.proofs.lemmas.Bool.Decides.{eqb_tells}
use Rattle.std.proofs.lemmas.List.{drop_all, take_all}
use Rattle.value_types.specs.declared.types.ColumnType.TheVariants as types
use Rattle.value_types.specs.declared.types.Value.TheVariants as values
use Rattle.value_types.specs.Cast.{date_of, stamp_of, time_behind_date, trimmed}
use Rattle.value_types.specs.ClockTime.{day_micros}
use Rattle.value_types.specs.OfType.{is_of_type}
use Rattle.value_types.proofs.CastSteps.{no_date_of_length, stamp_with_time}
use Rattle.value_types.specs.declared.possible_types.PossibleTypes.{PossibleTypes}
use Rattle.value_types.specs.KeptTypes.{is_settled, keeps, keeps_number, keeps_type}
use Rattle.value_types.specs.PossibleTypes.{narrowed, narrowed_by}
use Rattle.value_types.proofs.PlainNumbers.{plain_is_bigint}

-- ---- a text that spells a date spells a timestamp too

ten_bytes : (text : List ℕ) (day : ℤ) → date_of text ≡ Some day → length text ≡ 10
ten_bytes text day is = elim (eqb_tells (length text) 10) [
  | inl same ↦ same.1
  | inr apart ↦ absurd (let none : None ≡ date_of text = no_date_of_length text apart.1 in let no : ⊥ = cc in no)
]

stamp_of_date : (text : List ℕ) (day : ℤ) → date_of text ≡ Some day → stamp_of text ≡ Some ((day *ℤ pos day_micros) +ℤ pos 0)
stamp_of_date text day is =
    let ten : length text ≡ 10 = ten_bytes text day is in
    stamp_with_time text day (pos 0) (ap date_of (take_all 10 text (omega (arith, ten))) ∙ is) (ap time_behind_date (drop_all 10 text (omega (arith, ten))))

some_stamp : (text : List ℕ) (o : Option ℤ) → date_of text ≡ o → is_some (option_map values.Date o) ≡ true → is_some (option_map values.Stamp (stamp_of text)) ≡ true
some_stamp text None is h = absurd (let no : ⊥ = cc in no)
some_stamp text (Some day) is h = ap (λ s. is_some (option_map values.Stamp s)) (stamp_of_date text day is)

pub date_is_stamp : (text : List ℕ) → is_of_type text types.Date ≡ true → is_of_type text types.Timestamp ≡ true
date_is_stamp text h =
    let o : Option ℤ = date_of (trimmed text) in
    some_stamp (trimmed text) o refl h

by_date : (stamp date of : Bool) → (date ≡ true → of ≡ true) → date ≡ ((not true || date) && (not stamp || of))
by_date stamp true of law = sym (ap (λ t. not stamp || t) (law refl) ∙ or-true (not stamp))
by_date stamp false of law = refl

-- where DATE is possible, it decides
pub date_decides : (stamp : Bool) (text : List ℕ) → is_of_type text types.Date ≡ (keeps_type true text types.Date && keeps_type stamp text types.Timestamp)
date_decides stamp text = by_date stamp (is_of_type text types.Date) (is_of_type text types.Timestamp) (date_is_stamp text)

-- so a text that spells a date leaves both as they are
pub keeps_by_date : (possible : PossibleTypes) (text : List ℕ) → possible.some_value ≡ true → possible.boolean ≡ false → possible.bigint ≡ false → possible.date ≡ true → possible.time ≡ false →
    is_of_type text types.Date ≡ true → keeps possible text ≡ true
keeps_by_date possible text some no_truth no_number day no_time is =
    (λ i. some i && keeps_type (no_truth i) text types.Boolean && keeps_type (no_number i) text types.Bigint && keeps_type (no_time i) text types.Time
    && (keeps_type (day i) text types.Date && keeps_type possible.timestamp text types.Timestamp))
    ∙ sym (date_decides possible.timestamp text) ∙ is

-- ---- types that stay

stays : (possible of : Bool) → (not possible || of) ≡ true → possible ≡ (possible && of)
stays true of h = sym h
stays false of h = refl

pub kept : (possible : PossibleTypes) (text : List ℕ) → keeps possible text ≡ true → possible ≡ narrowed possible text
kept possible text h =
    let a = and_parts _ _ h in
    let days = and_parts _ _ a.1 in
    let b = and_parts _ _ a.0 in
    let c = and_parts _ _ b.0 in
    let d = and_parts _ _ c.0 in
    λ k. record {
      some_value = d.0 k;
      boolean = stays possible.boolean (is_of_type text types.Boolean) d.1 k;
      bigint = stays possible.bigint (is_of_type text types.Bigint) c.1 k;
      date = stays possible.date (is_of_type text types.Date) days.0 k;
      time = stays possible.time (is_of_type text types.Time) b.1 k;
      timestamp = stays possible.timestamp (is_of_type text types.Timestamp) days.1 k;
    }

-- a type that isn't possible stays so
none_stays : (possible of : Bool) → possible ≡ false → (not possible || of) ≡ true
none_stays true of h = absurd (let no : ⊥ = cc in no)
none_stays false of h = refl

pub settled : (possible : PossibleTypes) (value : Option (List ℕ)) → is_settled possible ≡ true → possible ≡ narrowed_by value possible
settled possible None h = refl
settled possible (Some text) h =
    let some = and_parts _ _ h in
    let no_types = by_none possible.boolean possible.bigint possible.date possible.time possible.timestamp some.1 in
    λ k. record {
      some_value = some.0 k;
      boolean = stays possible.boolean (is_of_type text types.Boolean) (none_stays _ _ no_types.0) k;
      bigint = stays possible.bigint (is_of_type text types.Bigint) (none_stays _ _ no_types.1) k;
      date = stays possible.date (is_of_type text types.Date) (none_stays _ _ no_types.2) k;
      time = stays possible.time (is_of_type text types.Time) (none_stays _ _ no_types.3) k;
      timestamp = stays possible.timestamp (is_of_type text types.Timestamp) (none_stays _ _ no_types.4) k;
    } where
      by_none : (b i d t s : Bool) → not (b || i || d || t || s) ≡ true → (b ≡ false) × (i ≡ false) × (d ≡ false) × (t ≡ false) × (s ≡ false)
      by_none false false false false false h = (refl, refl, refl, refl, refl)
      by_none true i d t s h = absurd (let no : ⊥ = cc in no)
      by_none false true d t s h = absurd (let no : ⊥ = cc in no)
      by_none false false true t s h = absurd (let no : ⊥ = cc in no)
      by_none false false false true s h = absurd (let no : ⊥ = cc in no)
      by_none false false false false true h = absurd (let no : ⊥ = cc in no)

pub number_kept : (possible : PossibleTypes) (text : List ℕ) → keeps_number possible text ≡ true → possible ≡ narrowed possible text
number_kept possible text h =
    let plain = and_parts _ _ h in
    let others = and_parts _ _ plain.0 in
    let some = and_parts _ _ others.0 in
    let no_types = by_none possible.boolean possible.date possible.time possible.timestamp others.1 in
    λ k. record {
      some_value = some.0 k;
      boolean = stays possible.boolean (is_of_type text types.Boolean) (none_stays _ _ no_types.0) k;
      bigint = stays possible.bigint (is_of_type text types.Bigint) (passes possible.bigint (is_of_type text types.Bigint) (plain_is_bigint text plain.1)) k;
      date = stays possible.date (is_of_type text types.Date) (none_stays _ _ no_types.1) k;
      time = stays possible.time (is_of_type text types.Time) (none_stays _ _ no_types.2) k;
      timestamp = stays possible.timestamp (is_of_type text types.Timestamp) (none_stays _ _ no_types.3) k;
    } where
      passes : (possible of : Bool) → of ≡ true → (not possible || of) ≡ true
      passes true of h = h
      passes false of h = refl

      by_none : (b d t s : Bool) → not (b || d || t || s) ≡ true → (b ≡ false) × (d ≡ false) × (t ≡ false) × (s ≡ false)
      by_none false false false false h = (refl, refl, refl, refl)
      by_none true d t s h = absurd (let no : ⊥ = cc in no)
      by_none false true t s h = absurd (let no : ⊥ = cc in no)
      by_none false false true s h = absurd (let no : ⊥ = cc in no)
      by_none false false false true h = absurd (let no : ⊥ = cc in no)
