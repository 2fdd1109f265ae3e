-- A reply that is written is all that a run owes, and so is want of memory before anything is written.
use Rattle.std.proofs.Common.{◌≡◌, ◌≢◌, ◌⊎◌, ◌≤◌, ℕ, List, Option, None, Some, refl, ap, ◌∙◌, subst, sym, inl, inr, arith}
use Rattle.csv_source.specs.Causes.{Rose}
use Rattle.column_taps.specs.Seen.{Seen}
use Rattle.loader_reply.specs.Ending.{ending_code}
use Rattle.loader_reply.specs.Reply.{Reply, reply_of}
use Rattle.loader_reply.specs.Replying.{IsAnswer, IsEndingOf, IsReplyTo, IsWritten, ReadsFile}
use Rattle.loader_reply.specs.declared.ending.Ending.{Ending}
use Rattle.loader_reply.specs.declared.ending.Ending.TheVariants.{NoMemory}
use Rattle.csv_loader.specs.Headline.{IsReplyOrNoMemory, IsRun, IsStatus, RunsTo, SinkState, SourceState}
use Rattle.csv_loader.proofs.Headlines.{IsToldReply, answers, ends_as, ends_some, leaves_written, not_five, reads_fault, stays_steady, told_by, writes_part, writes_some}

-- the status of a reply is an answer or a read fault
replies : (told : Option Reply) (before after : ℕ) (r : Reply) → IsToldReply told before after r → IsAnswer r.status ⊎ (r.status ≡ 2)
replies told before after r (inl fault) = inr (ap (λ q. q.status) fault.0)
replies told before after r (inr tell) = inl tell.0

not_six : (status : ℕ) → IsAnswer status → status ≢ 6
not_six status (inl is) six = omega arith
not_six status (inr (inl is)) six = omega arith
not_six status (inr (inr (inl is))) six = omega arith
not_six status (inr (inr (inr (inl is)))) six = omega arith
not_six status (inr (inr (inr (inr (inl is))))) six = omega arith
not_six status (inr (inr (inr (inr (inr is))))) six = omega arith

module _ (r : Reply) (faults faults_after : ℕ) (taken taken_after : Option (List ℕ)) (status : ℕ) (status_is : IsAnswer r.status ⊎ (r.status ≡ 2)) where
  is_status : IsWritten r faults faults_after taken taken_after status → IsStatus status
  is_status (inl whole) = by_reply status_is where
    by_reply : IsAnswer r.status ⊎ (r.status ≡ 2) → IsStatus status
    by_reply (inl is) = inl (subst IsAnswer (sym whole.0) is)
    by_reply (inr two) = inr (inl (whole.0 ∙ two))
  is_status (inr failed) = inr (inr (inl failed.0))

  never_six : IsWritten r faults faults_after taken taken_after status → status ≢ 6
  never_six (inl whole) six = by_reply status_is where
    by_reply : IsAnswer r.status ⊎ (r.status ≡ 2) → ⊥
    by_reply (inl is) = not_six r.status is (sym whole.0 ∙ six)
    by_reply (inr two) = omega (arith, whole.0, six, two)
  never_six (inr failed) six = omega (arith, failed.0, six)

  five_rose : IsWritten r faults faults_after taken taken_after status → status ≡ 5 → Rose faults faults_after
  five_rose (inl whole) five = by_reply status_is where
    by_reply : IsAnswer r.status ⊎ (r.status ≡ 2) → Rose faults faults_after
    by_reply (inl is) = absurd (not_five r.status is (sym whole.0 ∙ five))
    by_reply (inr two) = absurd (omega (arith, whole.0, five, two))
  five_rose (inr failed) five = failed.1

  two_reads : (A : Type 0) → (r.status ≡ 2 → A) → IsWritten r faults faults_after taken taken_after status → status ≡ 2 → A
  two_reads A reads (inl whole) two = reads (sym whole.0 ∙ two)
  two_reads A reads (inr failed) two = absurd (omega (arith, failed.0, two))

-- a reply that is written is all that a run owes
module _ (taps : List Seen) (words : List (List ℕ)) (source source_after : SourceState) (sink sink_after : SinkState) (r : Reply)
    (reply_is : IsReplyTo words taps source.held source_after.left source.faults source_after.faults r) (reads : r.status ≡ 2 → ReadsFile words)
    (held_is : source_after.held ≡ source.held) (source_rose : source.faults ≤ source_after.faults) (sink_rose : sink.faults ≤ sink_after.faults) where
  told_is : IsToldReply (reply_of words source.held taps) source.faults source_after.faults r
  told_is = told_by words taps source.held source_after.left source.faults source_after.faults r reply_is

  status_is : IsAnswer r.status ⊎ (r.status ≡ 2)
  status_is = replies (reply_of words source.held taps) source.faults source_after.faults r told_is

  module _ (status : ℕ) (written : IsWritten r sink.faults sink_after.faults sink.taken sink_after.taken status) where
    runs_to : RunsTo taps words source source_after sink sink_after status
    runs_to = record {
      answer = answers (reply_of words source.held taps) source.faults source_after.faults sink.faults sink_after.faults sink.taken sink_after.taken r status told_is written;
      some_files = writes_some words taps source.held source_after.left source.faults source_after.faults r reply_is sink.faults sink_after.faults sink.taken sink_after.taken status written;
      read_fault = reads_fault (reply_of words source.held taps) source.faults source_after.faults sink.faults sink_after.faults sink.taken sink_after.taken r status told_is written;
      read_fault_of_file = two_reads r sink.faults sink_after.faults sink.taken sink_after.taken status status_is (ReadsFile words) reads written;
      write_fault = five_rose r sink.faults sink_after.faults sink.taken sink_after.taken status status_is written;
      write_fault_text = writes_part (reply_of words source.held taps) source.faults source_after.faults sink.faults sink_after.faults sink.taken sink_after.taken r status told_is written;
      no_memory = λ six. absurd (never_six r sink.faults sink_after.faults sink.taken sink_after.taken status status_is written six);
      no_other = is_status r sink.faults sink_after.faults sink.taken sink_after.taken status status_is written;
      steady = stays_steady (reply_of words source.held taps) source.faults source_after.faults sink.faults sink_after.faults sink.taken sink_after.taken r status told_is written;
      rest = λ reads_file is. leaves_written words taps source.held source_after.left source.faults source_after.faults r reply_is sink.faults sink_after.faults sink.taken sink_after.taken status written is;
      held = held_is;
      source_count = source_rose;
      sink_count = sink_rose;
    }

  pub is_run : (end : Ending) → IsEndingOf r end → IsWritten r sink.faults sink_after.faults sink.taken sink_after.taken (ending_code end) → IsRun taps words source source_after sink sink_after end
  is_run end ends written = record {
    run = runs_to (ending_code end) written;
    ending = ends_as (reply_of words source.held taps) source.faults source_after.faults r end told_is ends;
    some_ending = ends_some words taps source.held source_after.left source.faults source_after.faults r reply_is sink.faults sink_after.faults sink.taken sink_after.taken end ends written;
  }

-- so is want of memory, before anything is written
wants : (told : Option Reply) → IsReplyOrNoMemory told 6
wants None = tt
wants (Some r) = inr refl

pub no_run : (taps : List Seen) (words : List (List ℕ)) (source source_after : SourceState) (sink : SinkState) → source_after.held ≡ source.held → source.faults ≤ source_after.faults
    → IsRun taps words source source_after sink sink NoMemory
no_run taps words source source_after sink held_is source_rose = record {
  run = record {
    answer = λ is. absurd (not_six 6 is refl);
    some_files = λ is. absurd (not_six 6 is refl);
    read_fault = λ two. absurd (omega (arith, two));
    read_fault_of_file = λ two. absurd (omega (arith, two));
    write_fault = λ five. absurd (omega (arith, five));
    write_fault_text = λ five. absurd (omega (arith, five));
    no_memory = λ six. refl;
    no_other = inr (inr (inr refl));
    steady = λ quiet_source quiet_sink. wants _;
    rest = λ reads is. absurd (not_six 6 is refl);
    held = held_is;
    source_count = source_rose;
    sink_count = omega arith;
  };
  ending = λ is. absurd (not_six 6 is refl);
  some_ending = λ is. absurd (not_six 6 is refl);
}
