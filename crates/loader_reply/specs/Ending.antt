-- How a run ends, as a value with what was found out, and as an exit status (this loader's profile).
use Rattle.std.specs.Prelude.{ℕ, Some}
use Rattle.report_text.specs.declared.outcome.Outcome.{Outcome}
use Rattle.report_text.specs.declared.outcome.Outcome.TheVariants as outcomes
use Rattle.report_text.specs.Report.{faults_in}
use Rattle.loader_reply.specs.declared.ending.Ending.{Ending}
use Rattle.loader_reply.specs.declared.ending.Ending.TheVariants as endings
use Rattle.loader_reply.specs.declared.status.Status.{Status}
use Rattle.loader_reply.specs.declared.status.Status.TheVariants.{Answered, Refused, ReadFault, FirstError, Mismatch, WriteFault, NoMemory, TooLarge, TooManyFaults}

-- the exit statuses of the program
abbrev pub status_code : Status → ℕ
status_code Answered = 0
status_code Refused = 1
status_code ReadFault = 2
status_code FirstError = 3
status_code Mismatch = 4
status_code WriteFault = 5
status_code NoMemory = 6
status_code TooLarge = 7
status_code TooManyFaults = 9

-- the status of an ending, without what was found out
abbrev pub ending_status : Ending → Status
ending_status (endings.Answered faults noticed) = Answered
ending_status (endings.Refused fault) = Refused
ending_status endings.ReadFault = ReadFault
ending_status (endings.FirstError s reject) = FirstError
ending_status (endings.Mismatch mismatch) = Mismatch
ending_status endings.WriteFault = WriteFault
ending_status endings.NoMemory = NoMemory
ending_status (endings.TooLarge limit) = TooLarge
ending_status (endings.TooManyFaults bound) = TooManyFaults

abbrev pub ending_code : Ending → ℕ
ending_code ending = status_code (ending_status ending)

-- the ending that goes with an outcome, once its report is written
abbrev pub ending_of : Outcome → Ending
ending_of (outcomes.Refused fault word) = endings.Refused fault
ending_of outcomes.ReadFault = endings.ReadFault
ending_of (outcomes.TooLarge limit) = endings.TooLarge limit
ending_of (outcomes.Mismatch mismatch) = endings.Mismatch mismatch
ending_of (outcomes.TooManyFaults bound) = endings.TooManyFaults bound
ending_of (outcomes.Sniffed s) = endings.Answered (faults_in (outcomes.Sniffed s)) (Some s.noticed)
ending_of (outcomes.Explained s e) = endings.Answered (faults_in (outcomes.Explained s e)) (Some s.noticed)
ending_of (outcomes.Split s words cuts) = endings.Answered (faults_in (outcomes.Split s words cuts)) (Some s.noticed)
ending_of (outcomes.Loaded l) = endings.Answered (faults_in (outcomes.Loaded l)) (Some l.sniffed.noticed)
ending_of (outcomes.Summary l tap_lines) = endings.Answered (faults_in (outcomes.Summary l tap_lines)) (Some l.sniffed.noticed)
ending_of (outcomes.Batch s batch store stats) = endings.Answered (faults_in (outcomes.Batch s batch store stats)) (Some s.noticed)
ending_of (outcomes.FirstError s reject) = endings.FirstError s reject
