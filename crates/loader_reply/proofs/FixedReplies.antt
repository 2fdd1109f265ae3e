-- With what was found given, files are answered alike.
use Rattle.std.proofs.Common.{◌≡◌, ℕ, List, [], ◌∷◌, Option, None, Some, refl, sym, subst, drop}
use Rattle.load_options.specs.declared.options.Options.{Options}
use Rattle.load_options.specs.Accepted.{IsAccepted}
use Rattle.column_taps.specs.Seen.{Seen}
use Rattle.csv_sniffer.specs.Fixed.{fixed}
use Rattle.csv_sniffer.specs.Input.{found}
use Rattle.csv_sniffer.specs.Noticed.{noticed_again}
use Rattle.csv_sniffer.specs.Sample.{start_of_sample, sample_of, is_whole}
use Rattle.csv_sniffer.specs.declared.found.Sniffed.{Sniffed}
use Rattle.csv_sniffer.proofs.FixedLaws.{sniffed_again}
use Rattle.report_text.specs.declared.outcome.Outcome.{Outcome}
use Rattle.report_text.specs.declared.outcome.Stats.{Stats}
use Rattle.file_list.specs.BatchView.{BatchView}
use Rattle.db_writer.specs.Database as databases
use Rattle.loader_reply.specs.declared.answering.Answer.{Answer}
use Rattle.loader_reply.specs.declared.answering.Answer.TheVariants as answers
use Rattle.loader_reply.specs.declared.batch.Load.{Load}
use Rattle.loader_reply.specs.declared.batch.Load.TheVariants as loads
use Rattle.loader_reply.specs.Batch.{found_in_first, load_of}
use Rattle.loader_reply.specs.Laws.{IsSameReply, FixedHasSameReply}
use Rattle.loader_reply.specs.Fitting.{refusal}
use Rattle.loader_reply.specs.Reply.{Reply, inputs_reply, load_reply, outcome_reply, unless_refused, whole_or_error, whole_reply}

same : (r : Reply) → IsSameReply r r
same r = record { status = refl; text = refl }

-- without the hints at another delimiter and at the quote
abbrev unhinted : Sniffed → Sniffed
unhinted s = record s { noticed = noticed_again s.noticed }

unless_alike : (a b : Reply) (before : Option Outcome) → IsSameReply a b → IsSameReply (unless_refused a before) (unless_refused b before)
unless_alike a b None is = is
unless_alike a b (Some outcome) is = same (outcome_reply outcome)

module _ (o : Options) (s : Sniffed) (taps : List Seen) where
  whole_alike : (answer : Answer) (batch : BatchView) (stats : Stats) → IsSameReply (whole_reply answer (fixed o s) (unhinted s) taps batch stats) (whole_reply answer o s taps batch stats)
  unfolding databases.database
  whole_alike answers.Loaded batch stats = record { status = refl; text = refl }
  whole_alike answers.Summary batch stats = record { status = refl; text = refl }
  whole_alike answers.Profile batch stats = record { status = refl; text = refl }
  whole_alike answers.Written batch stats = record { status = refl; text = refl }
  whole_alike answers.Rejects batch stats = record { status = refl; text = refl }
  whole_alike answers.Database batch stats = record { status = refl; text = refl }
  whole_alike answers.Arrays batch stats = record { status = refl; text = refl }
  whole_alike answers.Batch batch stats = record { status = refl; text = refl }

  answered_alike : (answer : Answer) (load : Load) → IsSameReply (whole_or_error answer (fixed o s) (unhinted s) taps load) (whole_or_error answer o s taps load)
  answered_alike answer (loads.Whole batch stats) = whole_alike answer batch stats
  answered_alike answer (loads.FirstError reject) = record { status = refl; text = refl }
  answered_alike answer (loads.OtherHeader file) = record { status = refl; text = refl }

  loaded_alike : (answer : Answer) (load : Load) → IsSameReply (load_reply answer (fixed o s) (unhinted s) taps load) (load_reply answer o s taps load)
  loaded_alike answer load = unless_alike _ _ (refusal answer o s load) (answered_alike answer load)

found_again : (o : Options) (input : List ℕ) → IsAccepted o → found (fixed o (found o input)) input ≡ unhinted (found o input)
found_again o input accepted = let behind = drop (start_of_sample o.skip input) input in sniffed_again o (sample_of behind) (is_whole behind) accepted

first_again : (o : Options) (inputs : List (List ℕ)) → IsAccepted o → found_in_first (fixed o (found_in_first o inputs)) inputs ≡ unhinted (found_in_first o inputs)
first_again o [] accepted = found_again o [] accepted
first_again o (input ∷ inputs) accepted = found_again o input accepted

pub fixed_has_same_reply : FixedHasSameReply
fixed_has_same_reply answer o names taps inputs accepted =
    let s = found_in_first o inputs in
    let again = fixed o s in
    subst (λ (t : Sniffed). IsSameReply (load_reply answer again t taps (load_of again t names inputs)) (inputs_reply answer o names taps inputs))
    (sym (first_again o inputs accepted)) (loaded_alike o s taps answer (load_of o s names inputs))
