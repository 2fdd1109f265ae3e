-- Want of memory before anything was read or written is an ending that a run may have.
use Rattle.std.proofs.Common.{ℕ, List, refl, arith}
use Rattle.column_taps.specs.Seen.{Seen}
use Rattle.csv_loader.specs.Headline.{IsRun, SourceState, SinkState}
use Rattle.csv_loader.proofs.Runs as runs
use Rattle.loader_reply.specs.declared.ending.Ending.TheVariants.{NoMemory}

pub no_run : (taps : List Seen) (words : List (List ℕ)) (source : SourceState) (sink : SinkState) → IsRun taps words source source sink sink NoMemory
no_run taps words source sink = runs.no_run taps words source source sink refl (omega arith)
