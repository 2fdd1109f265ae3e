-- A reply, against what came of the files as they were opened.
use Rattle.std.proofs.Common.{◌≡◌, ◌⊎◌, ℕ, Bool, true, false, cond, List, [], ◌∷◌, length, Option, None, Some, Ok, Err, refl, sym, ap, ◌∙◌, subst, inl, inr}
use Rattle.std.specs.Prelude.{nat_lt, option_map, unwrap_or, ⊤}
use Rattle.std.specs.Bool.{then_some}
use Rattle.std.specs.Option.{option_or}
use Rattle.std.specs.List.{filter_map}
use Rattle.csv_source.specs.Causes.{Rose}
use Rattle.load_options.specs.declared.options.Command.{Command}
use Rattle.load_options.specs.declared.options.Command.TheVariants.{Load as load_command, Sniff, Summary, Profile, Convert, Rejects, Batch, Make, Split}
use Rattle.load_options.specs.Formats.{is_npz, is_sqlite}
use Rattle.load_options.specs.declared.options.Options.{Options}
use Rattle.load_options.specs.declared.options.Request.{Request}
use Rattle.load_options.specs.declared.words.WordFault.{WordFault}
use Rattle.load_options.specs.Request.{read_words}
use Rattle.load_options.specs.Texts.{word_at}
use Rattle.csv_sniffer.specs.declared.found.Sniffed.{Sniffed}
use Rattle.csv_sniffer.specs.Explanation.{explanation}
use Rattle.csv_sniffer.specs.Input.{found, place_under}
use Rattle.part_cuts.specs.Within.{most_bytes}
use Rattle.file_split.specs.WholeFile.{cuts_of}
use Rattle.load_options.specs.declared.limits.TheConstants.{COLUMN_LIMIT as list_limit}
use Rattle.loader_reply.specs.declared.split_head.TheConstants.{HEAD_LIMIT}
use Rattle.csv_sniffer.specs.NamedTypes.{missing_name}
use Rattle.column_taps.specs.Seen.{Seen}
use Rattle.file_list.specs.BatchView.{BatchView}
use Rattle.report_text.specs.MadeText.{made_text}
use Rattle.report_text.specs.Printable.{IsPrintableBatch, IsPrintableLoad}
use Rattle.report_text.specs.declared.outcome.Loaded.{Loaded}
use Rattle.report_text.specs.declared.outcome.Mismatch.{Mismatch}
use Rattle.report_text.specs.declared.outcome.Mismatch.TheVariants.{NoColumn, TooManyColumns}
use Rattle.report_text.specs.declared.outcome.Outcome.{Outcome}
use Rattle.report_text.specs.declared.outcome.Outcome.TheVariants as outcomes
use Rattle.report_text.specs.declared.outcome.Stats.{Stats}
use Rattle.window_load.specs.declared.stop.LoadStop.{LoadStop}
use Rattle.window_load.specs.declared.stop.LoadStop.TheVariants as stops
use Rattle.loader_reply.specs.declared.answering.Answer.{Answer}
use Rattle.loader_reply.specs.declared.answering.Answer.TheVariants as answers
use Rattle.loader_reply.specs.declared.batch.Load.{Load}
use Rattle.loader_reply.specs.declared.batch.Load.TheVariants as loads
use Rattle.loader_reply.specs.declared.ending.Ending.TheVariants as endings
use Rattle.loader_reply.specs.declared.replying.Asked.{Asked}
use Rattle.loader_reply.specs.declared.replying.Asked.TheVariants as asks
use Rattle.loader_reply.specs.Batch.{batch_refusal, load_of, AreRead, IsLoadOf, IsOver, IsReadWhole, LacksOne}
use Rattle.loader_reply.specs.Replying.{IsAnswer, IsReplyBy, IsReplyTo, IsStopReply, input_limit}
use Rattle.loader_reply.specs.Fitting.{is_of_one, misfit, no_column, refusal, too_many_faults}
use Rattle.loader_reply.specs.Asking.{asked_by, asked_limit, asked_names}
use Rattle.loader_reply.specs.Reply.{Reply, reply, asked_reply, outcome_reply, inputs_reply, load_reply, loaded_of, without_spare, opened_reply, sniffed_outcome, sniffed_reply, split_reply, unless_refused, whole_or_error, whole_reply, words_names, words_reply}
use Rattle.loader_reply.specs.FurtherWords.{further_words}
use Rattle.loader_reply.specs.Splitting.{cut_rule, lies_within, split_outcome, too_many_types}
use Rattle.loader_reply.specs.SoFar.{Told}
use Rattle.loader_reply.proofs.FileSteps.{all_read, none_left, none_read, one_more_read}

-- ---- the reply to a load is an answer

whole_answers : (answer : Answer) (o : Options) (s : Sniffed) (taps : List Seen) (batch : BatchView) (stats : Stats) → (whole_reply answer o s taps batch stats).status ≡ 0
whole_answers answers.Loaded o s taps batch stats = refl
whole_answers answers.Summary o s taps batch stats = refl
whole_answers answers.Profile o s taps batch stats = refl
whole_answers answers.Written o s taps batch stats = refl
whole_answers answers.Rejects o s taps batch stats = refl
whole_answers answers.Database o s taps batch stats = refl
whole_answers answers.Arrays o s taps batch stats = refl
whole_answers answers.Batch o s taps batch stats = refl

refusal_answers : (answer : Answer) (o : Options) (s : Sniffed) (load : Load) (r : Reply) → IsAnswer r.status → IsAnswer (unless_refused r (refusal answer o s load)).status
refusal_answers answer o s load r is = by_name (missing_name o.column_types s.names) where
  by_bound : (bound : Option ℕ) → IsAnswer (unless_refused r (option_map (λ n. outcomes.TooManyFaults n) bound)).status
  by_bound None = is
  by_bound (Some bound) = inr (inr (inr (inr (inr refl))))

  by_misfit : (m : Option Mismatch) → IsAnswer (unless_refused r (option_or (option_map (λ m. outcomes.Mismatch m) m) (option_map (λ n. outcomes.TooManyFaults n) (too_many_faults o.max_errors load)))).status
  by_misfit None = by_bound (too_many_faults o.max_errors load)
  by_misfit (Some mismatch) = inr (inr (inr (inl refl)))

  by_name : (name : Option (List ℕ)) →
      IsAnswer (unless_refused r (option_or (option_map (λ m. outcomes.Mismatch m) (option_or (option_map (λ n. NoColumn n s.names) name) (misfit answer s)))
      (option_map (λ n. outcomes.TooManyFaults n) (too_many_faults o.max_errors load)))).status
  by_name None = by_misfit (misfit answer s)
  by_name (Some name) = inr (inr (inr (inl refl)))

load_answers : (answer : Answer) (o : Options) (s : Sniffed) (taps : List Seen) (load : Load) → IsAnswer (load_reply answer o s taps load).status
load_answers answer o s taps load = refusal_answers answer o s load (whole_or_error answer o s taps load) (by_load load) where
  by_load : (l : Load) → IsAnswer (whole_or_error answer o s taps l).status
  by_load (loads.Whole batch stats) = inl (whole_answers answer o s taps batch stats)
  by_load (loads.FirstError reject) = inr (inr (inl refl))
  by_load (loads.OtherHeader file) = inr (inr (inr (inl refl)))

-- ---- what came of the files

module _ (limit : ℕ) (held : Told) (names : List (List ℕ)) (left : Option (List ℕ)) (before after : ℕ) (r : Reply) where
  -- no file decides
  within_told : (to_inputs : List (List ℕ) → Reply) → IsAnswer r.status
      → AreRead limit held names left (λ opened. (batch_refusal limit opened ≡ None) × (r ≡ to_inputs (filter_map (λ input. input) opened)))
      → IsReplyBy limit (opened_reply to_inputs limit) names held left before after r
  within_told to_inputs answers read =
      inl (read.0, read.1, read.2, (answers, read.3.1 ∙ ap (unless_refused (to_inputs (filter_map (λ input. input) read.0))) (sym read.3.0)))

  pub stopped_told : (to_inputs : List (List ℕ) → Reply) (stop : LoadStop) → IsStopReply limit stop r
      → (stop ≡ stops.TooLarge → AreRead limit held names left (IsOver limit)) → (stop ≡ stops.Failed → Rose before after ⊎ LacksOne limit held names)
      → IsReplyBy limit (opened_reply to_inputs limit) names held left before after r
  stopped_told to_inputs stops.TooLarge is over failed =
      let read = over refl in
      inl (
        read.0,
        read.1,
        read.2,
        (subst (λ (q : Reply). IsAnswer q.status) (sym is) (inr (inr (inr (inr (inl refl))))), is ∙ ap (unless_refused (to_inputs (filter_map (λ input. input) read.0))) (sym read.3)),
      )
  stopped_told to_inputs stops.Failed is over failed = inr (is, failed refl)
  stopped_told to_inputs stops.NoMemory is over failed = absurd is

  pub loaded_told : (answer : Answer) (o : Options) (s : Sniffed) (taps : List Seen) (load : Load) → r ≡ load_reply answer o s taps load → AreRead limit held names left (IsLoadOf o names s load) → limit ≡ o.max_input
      → IsReplyBy limit (opened_reply (inputs_reply answer o names taps) limit) names held left before after r
  loaded_told answer o s taps load is read same =
      let inputs : List (List ℕ) = filter_map (λ input. input) read.0 in
      within_told (inputs_reply answer o names taps) (subst (λ (q : Reply). IsAnswer q.status) (sym is) (load_answers answer o s taps load)) (
        read.0,
        read.1,
        read.2,
        (
          ap (λ n. batch_refusal n read.0) same ∙ read.3.0,
          is ∙ ap (load_reply answer o s taps) read.3.2 ∙ ap (λ (t : Sniffed). load_reply answer o t taps (load_of o t names inputs)) read.3.1,
        ),
      )

-- what `sniff` tells of a file is an answer
sniffed_answers : (o : Options) (input : List ℕ) → IsAnswer (outcome_reply (sniffed_outcome o input)).status
sniffed_answers o input = by_name (missing_name o.column_types s.names) where
  s : Sniffed
  s = found o input

  told : Bool → Outcome
  told t = cond t (outcomes.Explained s (explanation o input s)) (outcomes.Sniffed s)

  by_word : (t : Bool) → IsAnswer (outcome_reply (told t)).status
  by_word true = inl refl
  by_word false = inl refl

  by_name : (name : Option (List ℕ)) → IsAnswer (outcome_reply (unwrap_or (option_map (λ m. outcomes.Mismatch m) (option_map (λ name. NoColumn name s.names) name)) (told o.explain))).status
  by_name None = by_word o.explain
  by_name (Some name) = inr (inr (inr (inl refl)))

-- what `split` tells of a file is an answer
split_answers : (o : Options) (words : List (List ℕ)) (input : List ℕ) → IsAnswer (outcome_reply (split_outcome o words input)).status
split_answers o words input = by_place (lies_within o.skip input) where
  s : Sniffed
  s = found o input

  unless_told : Option Outcome → Outcome
  unless_told before = unwrap_or before (outcomes.Split s (further_words words) (cuts_of (cut_rule o s) (place_under o s input) input))

  by_width : (t : Bool) → IsAnswer (outcome_reply (unless_told (option_map (λ m. outcomes.Mismatch m) (then_some t (TooManyColumns list_limit))))).status
  by_width true = inr (inr (inr (inl refl)))
  by_width false = inl refl

  by_name : (name : Option (List ℕ)) → IsAnswer (outcome_reply (unless_told (option_map (λ m. outcomes.Mismatch m) (option_or (option_map (λ name. NoColumn name s.names) name) (too_many_types s))))).status
  by_name None = by_width (nat_lt list_limit (length s.types))
  by_name (Some name) = inr (inr (inr (inl refl)))

  by_place : (t : Bool) → IsAnswer (outcome_reply (unless_told (cond t (option_map (λ m. outcomes.Mismatch m) (option_or (no_column o s) (too_many_types s))) (Some (outcomes.TooLarge HEAD_LIMIT))))).status
  by_place true = by_name (missing_name o.column_types s.names)
  by_place false = inr (inr (inr (inr (inl refl))))

-- the file of a command that tells something of it
module _ (limit : ℕ) (tell : List ℕ → Outcome) (answers : (input : List ℕ) → IsAnswer (outcome_reply (tell input)).status) where
  one_told : (to_inputs : List (List ℕ) → Reply) → ((input : List ℕ) → outcome_reply (tell input) ≡ to_inputs (input ∷ [])) → (held : Told) (name : List ℕ) (left : Option (List ℕ)) (before after : ℕ)
      (outcome : Outcome) (r : Reply) → r ≡ outcome_reply outcome → IsReadWhole limit held name left (λ input. outcome ≡ tell input) → IsReplyBy limit (opened_reply to_inputs limit) (name ∷ []) held left before after r
  one_told to_inputs gives held name left before after outcome r is read =
      let all : List (List ℕ) = name ∷ [] in
      within_told limit held all left before after r to_inputs (subst (λ (q : Reply). IsAnswer q.status) (sym (is ∙ ap outcome_reply read.3)) (answers read.0))
      (all_read limit held all (one_more_read limit held all name [] (none_read limit held all) left read.0 read.1 read.2) left
      (none_left limit held name left (λ input. outcome ≡ tell input) read) (λ inputs. r ≡ to_inputs inputs)
      (is ∙ (ap outcome_reply read.3 ∙ gives read.0)))

pub sniffed_told : (o : Options) (held : Told) (name : List ℕ) (left : Option (List ℕ)) (before after : ℕ) (outcome : Outcome) (r : Reply) → r ≡ outcome_reply outcome
    → IsReadWhole o.max_input held name left (λ input. outcome ≡ sniffed_outcome o input) → IsReplyBy o.max_input (opened_reply (sniffed_reply o) o.max_input) (name ∷ []) held left before after r
sniffed_told o = one_told o.max_input (sniffed_outcome o) (sniffed_answers o) (sniffed_reply o) (λ input. refl)

pub split_file_told : (o : Options) (words : List (List ℕ)) (held : Told) (name : List ℕ) (left : Option (List ℕ)) (before after : ℕ) (outcome : Outcome) (r : Reply) → r ≡ outcome_reply outcome
    → IsReadWhole most_bytes held name left (λ input. outcome ≡ split_outcome o words input) → IsReplyBy most_bytes (opened_reply (split_reply o words) most_bytes) (name ∷ []) held left before after r
split_file_told o words = one_told most_bytes (split_outcome o words) (split_answers o words) (split_reply o words) (λ input. refl)

-- ---- no file is read

pub none_told : (limit : ℕ) (reply_by : List (Option (List ℕ)) → Reply) (held : Told) (left : Option (List ℕ)) (before after : ℕ) (r : Reply) → IsAnswer r.status → r ≡ reply_by []
    → IsReplyBy limit reply_by [] held left before after r
none_told limit reply_by None left before after r answers is = inl ([], refl, tt, (answers, is))
none_told limit reply_by (Some files) left before after r answers is = inl ([], refl, (refl, tt), (answers, is))

-- ---- the words

module _ (words : List (List ℕ)) (taps : List Seen) (held : Told) (left : Option (List ℕ)) (before after : ℕ) (r : Reply) where
  pub words_told : (request : Request) → read_words words ≡ Ok request
      → (let asked = asked_by request.options request.command in IsReplyBy (asked_limit asked request.options) (asked_reply asked request words taps) (asked_names asked (word_at words 1)) held left before after r)
      → IsReplyTo words taps held left before after r
  words_told request read told =
      subst (λ asked. IsReplyBy (input_limit asked) (words_reply asked words taps) (words_names asked (word_at words 1)) held left before after r) (sym read) told

  pub refused_told : (fault : WordFault) → read_words words ≡ Err fault → r ≡ outcome_reply (outcomes.Refused fault (word_at words fault.index)) → IsReplyTo words taps held left before after r
  refused_told fault read is =
      subst (λ asked. IsReplyBy (input_limit asked) (words_reply asked words taps) (words_names asked (word_at words 1)) held left before after r) (sym read)
      (none_told 0 (words_reply (Err fault) words taps) held left before after r (subst (λ (q : Reply). IsAnswer q.status) (sym is) (inr (inl refl))) is)

-- ---- what a command asks for

-- an answer of one file alone is asked for one
abbrev IsOfOne : Asked → Type 0
IsOfOne asks.Made = ⊤
IsOfOne asks.Sniffed = ⊤
IsOfOne asks.Split = ⊤
IsOfOne (asks.Loaded answer several) = is_of_one answer ≡ true → several ≡ false

of_one : (o : Options) (command : Command) → IsOfOne (asked_by o command)
of_one o load_command = λ alone. refl
of_one o Sniff = tt
of_one o Split = tt
of_one o Summary = λ alone. refl
of_one o Profile = λ alone. refl
of_one o Convert = λ alone. refl
of_one o Rejects = λ alone. refl
of_one o Batch = by_format (is_sqlite o.to) (is_npz o.to) where
  by_format : (t u : Bool) → is_of_one (cond t answers.Database (cond u answers.Arrays answers.Batch)) ≡ true → true ≡ false
  by_format true u alone = sym alone
  by_format false true alone = sym alone
  by_format false false alone = sym alone
of_one o Make = tt

pub one_alone : (o : Options) (command : Command) (answer : Answer) (several : Bool) → asks.Loaded answer several ≡ asked_by o command → is_of_one answer ≡ true → several ≡ false
one_alone o command answer several is = subst IsOfOne (sym is) (of_one o command)

module _ (request : Request) (words : List (List ℕ)) (taps : List Seen) (held : Told) (left : Option (List ℕ)) (before after : ℕ) (r : Reply) where
  pub asked_told : (asked : Asked) (o : Options) → asked ≡ asked_by o request.command → o ≡ request.options
      → IsReplyBy (asked_limit asked o) (asked_reply asked (record request { options = o }) words taps) (asked_names asked (word_at words 1)) held left before after r
      → (let all = asked_by request.options request.command in IsReplyBy (asked_limit all request.options) (asked_reply all request words taps) (asked_names all (word_at words 1)) held left before after r)
  asked_told asked o is same told =
      subst (λ (x : Options). IsReplyBy (asked_limit (asked_by x request.command) x) (asked_reply (asked_by x request.command) (record request { options = x }) words taps) (asked_names (asked_by x request.command) (word_at words 1)) held left before after r) same
      (subst (λ a. IsReplyBy (asked_limit a o) (asked_reply a (record request { options = o }) words taps) (asked_names a (word_at words 1)) held left before after r) is told)

  pub made_told : (o : Options) → asks.Made ≡ asked_by o request.command → o ≡ request.options → r ≡ reply (endings.Answered 0 None) (made_text request.number request.rows)
      → (let all = asked_by request.options request.command in IsReplyBy (asked_limit all request.options) (asked_reply all request words taps) (asked_names all (word_at words 1)) held left before after r)
  made_told o is same made = asked_told asks.Made o is same
      (none_told o.max_input (asked_reply asks.Made (record request { options = o }) words taps) held left before after r (subst (λ (q : Reply). IsAnswer q.status) (sym made) (inl refl)) made)

-- ---- the report of the only file

pub loaded_prints : (o : Options) (s : Sniffed) (batch : BatchView) (stats : Stats) (l : Loaded) → without_spare l ≡ loaded_of o s batch stats → IsPrintableBatch s batch → IsPrintableLoad l
loaded_prints o s batch stats l is prints =
    let alone : IsPrintableLoad (loaded_of o s batch stats) = record { names = prints.names; types = prints.types; rows = prints.rows; values = prints.values } in
    let same : IsPrintableLoad (without_spare l) = subst IsPrintableLoad (sym is) alone in
    record { names = same.names; types = same.types; rows = same.rows; values = same.values }

pub loaded_whole : (o : Options) (s : Sniffed) (taps : List Seen) (batch : BatchView) (stats : Stats) (answer : Answer) (l : Loaded) (r : Reply) → answer ≡ answers.Loaded → without_spare l ≡ loaded_of o s batch stats
    → r ≡ outcome_reply (outcomes.Loaded l) → r ≡ whole_reply answer o s taps batch stats
loaded_whole o s taps batch stats answer l r named same is =
    let whole : r ≡ whole_reply answers.Loaded o s taps batch stats = is ∙ ap (λ x. outcome_reply (outcomes.Loaded x)) same in
    subst (λ a. r ≡ whole_reply a o s taps batch stats) (sym named) whole
