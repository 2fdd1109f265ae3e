-- Where the type of each column is given by its name, files are answered as under these types in a list.
use Rattle.std.proofs.Common.{◌≡◌, ℕ, List, [], ◌∷◌, map, drop, Option, None, Some, refl, sym, ap, ◌∙◌}
use Rattle.std.specs.Option.{option_map, option_or}
use Rattle.value_types.specs.declared.types.ColumnType.{ColumnType}
use Rattle.load_options.specs.declared.options.Options.{Options}
use Rattle.load_options.specs.Accepted.{IsAccepted}
use Rattle.column_taps.specs.Seen.{Seen}
use Rattle.csv_sniffer.specs.Input.{found}
use Rattle.csv_sniffer.specs.Laws.{listed}
use Rattle.csv_sniffer.specs.NamedTypes.{missing_name, type_given}
use Rattle.csv_sniffer.specs.Sample.{start_of_sample, sample_of, is_whole}
use Rattle.csv_sniffer.specs.declared.found.Sniffed.{Sniffed}
use Rattle.csv_sniffer.proofs.NamedLaws.{named_as_listed}
use Rattle.report_text.specs.declared.outcome.Mismatch.{Mismatch}
use Rattle.report_text.specs.declared.outcome.Mismatch.TheVariants.{NoColumn}
use Rattle.report_text.specs.declared.outcome.Outcome.{Outcome}
use Rattle.report_text.specs.declared.outcome.Outcome.TheVariants as outcomes
use Rattle.report_text.specs.declared.outcome.Stats.{Stats}
use Rattle.file_list.specs.BatchView.{BatchView}
use Rattle.loader_reply.specs.declared.answering.Answer.{Answer}
use Rattle.loader_reply.specs.declared.answering.Answer.TheVariants as answers
use Rattle.loader_reply.specs.declared.batch.Load.{Load}
use Rattle.loader_reply.specs.declared.batch.Load.TheVariants as loads
use Rattle.loader_reply.specs.Batch.{found_in_first, load_of}
use Rattle.loader_reply.specs.Fitting.{misfit, too_many_faults}
use Rattle.loader_reply.specs.Laws.{NamedHasSameReply}
use Rattle.loader_reply.specs.Reply.{load_reply, unless_refused, whole_or_error, whole_reply}

module _ (o : Options) (types : List ColumnType) (s : Sniffed) (taps : List Seen) where
  whole_alike : (answer : Answer) (batch : BatchView) (stats : Stats) → whole_reply answer (listed o types) s taps batch stats ≡ whole_reply answer o s taps batch stats
  whole_alike answers.Loaded batch stats = refl
  whole_alike answers.Summary batch stats = refl
  whole_alike answers.Profile batch stats = refl
  whole_alike answers.Written batch stats = refl
  whole_alike answers.Rejects batch stats = refl
  whole_alike answers.Database batch stats = refl
  whole_alike answers.Arrays batch stats = refl
  whole_alike answers.Batch batch stats = refl

  answered_alike : (answer : Answer) (load : Load) → whole_or_error answer (listed o types) s taps load ≡ whole_or_error answer o s taps load
  answered_alike answer (loads.Whole batch stats) = whole_alike answer batch stats
  answered_alike answer (loads.FirstError reject) = refl
  answered_alike answer (loads.OtherHeader file) = refl

  loaded_alike : (answer : Answer) (load : Load) → missing_name o.column_types s.names ≡ None → load_reply answer (listed o types) s taps load ≡ load_reply answer o s taps load
  loaded_alike answer load none =
      let unfit : Option Mismatch = misfit answer s in
      let faults : Option Outcome = option_map (λ bound. outcomes.TooManyFaults bound) (too_many_faults o.max_errors load) in
      let refused : Option Mismatch → Option Outcome = λ m. option_or (option_map (λ x. outcomes.Mismatch x) m) faults in
      ap (λ r. unless_refused r (refused unfit)) (answered_alike answer load)
      ∙ ap (λ name. unless_refused (whole_or_error answer o s taps load) (refused (option_or (option_map (λ n. NoColumn n s.names) name) unfit))) (sym none)

listed_is_found : (o : Options) (input : List ℕ) (types : List ColumnType) → IsAccepted o → map (type_given o.column_types) (found o input).names ≡ map Some types →
    (found (listed o types) input).header ≡ (found o input).header → found (listed o types) input ≡ found o input
listed_is_found o input types accepted given alike = let behind = drop (start_of_sample o.skip input) input in named_as_listed o (sample_of behind) (is_whole behind) types accepted given alike

first_is_found : (o : Options) (inputs : List (List ℕ)) (types : List ColumnType) → IsAccepted o → map (type_given o.column_types) (found_in_first o inputs).names ≡ map Some types →
    (found_in_first (listed o types) inputs).header ≡ (found_in_first o inputs).header → found_in_first (listed o types) inputs ≡ found_in_first o inputs
first_is_found o [] types accepted given alike = listed_is_found o [] types accepted given alike
first_is_found o (input ∷ inputs) types accepted given alike = listed_is_found o input types accepted given alike

pub named_has_same_reply : NamedHasSameReply
named_has_same_reply answer o names taps inputs types accepted given none alike =
    ap (λ (s : Sniffed). load_reply answer (listed o types) s taps (load_of (listed o types) s names inputs)) (first_is_found o inputs types accepted given alike)
    ∙ loaded_alike o types (found_in_first o inputs) taps answer (load_of o (found_in_first o inputs) names inputs) none
