-- Where two dialects read the bytes of a text alike they have the same rows, with the same fields and flaws.
use Rattle.std.proofs.Common.{◌≡◌, ℕ, suc, ◌+◌, ◌-◌, Bool, true, false, ◌&&◌, cond, List, [], ◌∷◌, ◌++◌, length, map, refl, sym, ◌∙◌, ap}
use Rattle.std.specs.Prelude.{All, None, Some, option_map, unwrap_or}
use Rattle.std.specs.List.{last_or}
use Rattle.std.proofs.lemmas.List.Elements.{All-nil, All-cons, All-head, All-tail}
use Rattle.byte_classes.specs.Class.{class_of}
use Rattle.byte_classes.specs.Dialect.{Marks}
use Rattle.quote_automaton.specs.declared.state.State.{State}
use Rattle.quote_automaton.specs.declared.state.State.TheVariants.{RowStart, FieldStart, Broken}
use Rattle.quote_automaton.specs.Automaton.{is_inside_quotes, same_state, state_after, step}
use Rattle.quote_automaton.specs.Rows.{begins_row, ends_row, row_end}
use Rattle.quote_automaton.proofs.RowLaws.{row_end-cons_zero}
use Rattle.row_fields.specs.Fields.{Field, fields, fields_from, flaw, flaw_at, inner, is_quoted, is_separator, is_sound_end, put_first, raw_fields, unescaped, value_of}
use Rattle.row_fields.specs.Reading.{broken_in}
use Rattle.row_fields.proofs.Leading.{broken_in-cons}
use Rattle.dialect_rank.proofs.AlikeBytes.{ReadsAlike, StepsAlike}
use Rattle.dialect_rank.proofs.RowSpans.{one_on, spans_of, spans-cons}

module _ (d e : Marks) (occurs : State → Bool) where
  abbrev pub AllAlike : List ℕ → Type 0
  AllAlike bytes = All (ReadsAlike d e occurs) bytes

  first : (b : ℕ) (bytes : List ℕ) → AllAlike (b ∷ bytes) → ReadsAlike d e occurs b
  first b bytes all = All-head (ReadsAlike d e occurs) b bytes all

  others : (b : ℕ) (bytes : List ℕ) → AllAlike (b ∷ bytes) → AllAlike bytes
  others b bytes all = All-tail (ReadsAlike d e occurs) b bytes all

  -- ---- rows

  ends_alike : (s : State) (bytes : List ℕ) → occurs s ≡ true → AllAlike bytes → row_end d s bytes 0 ≡ row_end e s bytes 0
  ends_alike s [] on all = refl
  ends_alike s (b ∷ bytes) on all =
      let here : StepsAlike d e occurs s b = (first b bytes all).steps s on in
      row_end-cons_zero d s b bytes
      ∙ (λ i. cond (here.ends i) 0 (suc (ends_alike (step d s b) bytes here.on (others b bytes all) i)))
      ∙ (λ i. cond (ends_row s (class_of e b)) 0 (suc (row_end e (here.to i) bytes 0)))
      ∙ sym (row_end-cons_zero e s b bytes)

  pub spans_alike : (s : State) (bytes : List ℕ) → occurs s ≡ true → AllAlike bytes → spans_of d s bytes ≡ spans_of e s bytes
  spans_alike s [] on all = refl
  spans_alike s (b ∷ bytes) on all =
      let here : StepsAlike d e occurs s b = (first b bytes all).steps s on in
      spans-cons d s b bytes
      ∙ (λ i. cond (here.begins i) ((0, ends_alike s (b ∷ bytes) on all i) ∷ []) [] ++ one_on (spans_alike (step d s b) bytes here.on (others b bytes all) i))
      ∙ (λ i. cond (begins_row s (class_of e b)) ((0, row_end e s (b ∷ bytes) 0) ∷ []) [] ++ one_on (spans_of e (here.to i) bytes))
      ∙ sym (spans-cons e s b bytes)

  -- ---- the fields of a row

  after_alike : (s : State) (bytes : List ℕ) → occurs s ≡ true → AllAlike bytes → state_after d s bytes ≡ state_after e s bytes
  after_alike s [] on all = refl
  after_alike s (b ∷ bytes) on all =
      let here : StepsAlike d e occurs s b = (first b bytes all).steps s on in
      after_alike (step d s b) bytes here.on (others b bytes all) ∙ ap (λ t. state_after e t bytes) here.to

  raws_alike : (s : State) (row : List ℕ) → occurs s ≡ true → AllAlike row → raw_fields d s row ≡ raw_fields e s row
  raws_alike s [] on all = refl
  raws_alike s (b ∷ row) on all =
      let here : StepsAlike d e occurs s b = (first b row all).steps s on in
      (λ i. put_first (same_state (here.to i) FieldStart) b (raws_alike (step d s b) row here.on (others b row all) i))
      ∙ ap (λ t. put_first (is_separator e s b) b (raw_fields e t row)) here.to

  -- the bytes of each field are read alike
  abbrev AllFields : List (List ℕ) → Type 0
  AllFields [] = Unit {0}
  AllFields (raw ∷ raws) = AllAlike raw × AllFields raws

  put_alike : (ends : Bool) (b : ℕ) (raws : List (List ℕ)) → ReadsAlike d e occurs b → AllFields raws → AllFields (put_first ends b raws)
  put_alike true b raws here all = (All-nil (ReadsAlike d e occurs), all)
  put_alike false b [] here all = (All-cons (ReadsAlike d e occurs) b [] here (All-nil (ReadsAlike d e occurs)), tt)
  put_alike false b (raw ∷ raws) here all = (All-cons (ReadsAlike d e occurs) b raw here all.0, all.1)

  in_fields : (s : State) (row : List ℕ) → AllAlike row → AllFields (raw_fields d s row)
  in_fields s [] all = (All-nil (ReadsAlike d e occurs), tt)
  in_fields s (b ∷ row) all =
      put_alike (is_separator d s b) b (raw_fields d (step d s b) row) (first b row all) (in_fields (step d s b) row (others b row all))

  quoted_alike : (raw : List ℕ) → AllAlike raw → is_quoted d raw ≡ is_quoted e raw
  quoted_alike [] all = refl
  quoted_alike (b ∷ raw) all = (first b raw all).quote

  module _ (starts : occurs FieldStart ≡ true) where
    value_alike : (raw : List ℕ) → AllAlike raw → value_of d raw ≡ value_of e raw
    value_alike [] all = refl
    value_alike (b ∷ raw) all = by_quote (is_quoted d (b ∷ raw)) refl where
      here : ReadsAlike d e occurs b
      here = first b raw all

      by_quote : (quoted : Bool) → is_quoted d (b ∷ raw) ≡ quoted → value_of d (b ∷ raw) ≡ value_of e (b ∷ raw)
      by_quote true is = λ i. cond (here.quote i && is_sound_end (after_alike FieldStart (b ∷ raw) starts all i)) (here.unescapes is (inner (b ∷ raw)) i) (b ∷ raw)
      by_quote false is =
          (λ i. cond (is i && is_sound_end (state_after d FieldStart (b ∷ raw))) (unescaped d (inner (b ∷ raw))) (b ∷ raw))
          ∙ sym (λ i. cond ((sym here.quote ∙ is) i && is_sound_end (state_after e FieldStart (b ∷ raw))) (unescaped e (inner (b ∷ raw))) (b ∷ raw))

    listed_alike : (at : ℕ) (raws : List (List ℕ)) → AllFields raws → fields_from d at raws ≡ fields_from e at raws
    listed_alike at [] all = refl
    listed_alike at (raw ∷ raws) all =
        λ i. record { at = at; quoted = quoted_alike raw all.0 i; value = value_alike raw all.0 i } ∷ listed_alike (at + length raw + 1) raws all.1 i

  broken_alike : (s : State) (row : List ℕ) → occurs s ≡ true → AllAlike row → broken_in d s row ≡ broken_in e s row
  broken_alike s [] on all = refl
  broken_alike s (b ∷ row) on all =
      let here : StepsAlike d e occurs s b = (first b row all).steps s on in
      broken_in-cons d s b row
      ∙ (λ i. cond (same_state (here.to i) Broken) (Some 0) (option_map suc (broken_alike (step d s b) row here.on (others b row all) i)))
      ∙ ap (λ t. cond (same_state (step e s b) Broken) (Some 0) (option_map suc (broken_in e t row))) here.to
      ∙ sym (broken_in-cons e s b row)

  module _ (row : List ℕ) (begins : occurs RowStart ≡ true) (starts : occurs FieldStart ≡ true) (all : AllAlike row) where
    pub fields_alike : fields d row ≡ fields e row
    fields_alike = listed_alike starts 0 (raw_fields d RowStart row) (in_fields RowStart row all) ∙ ap (fields_from e 0) (raws_alike RowStart row begins all)

    pub flaw_alike : flaw d row ≡ flaw e row
    flaw_alike = λ i. option_map (λ at. record { column = length (fields_alike i) - 1; at = at })
        (flaw_at (broken_alike RowStart row begins all i) (is_inside_quotes (after_alike RowStart row begins all i))
        (unwrap_or (last_or None (map (λ (f : Field). f.at) (fields_alike i))) 0))
