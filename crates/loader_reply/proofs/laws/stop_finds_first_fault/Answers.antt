use Rattle.std.specs.Prelude.{None, take}
use Rattle.byte_classes.specs.LineEnds.{line_ends}
use Rattle.csv_sniffer.specs.Input.{place_under}
use Rattle.loader_reply.specs.Reading.{schema_of, file_reading}
use Rattle.loader_reply.proofs.GroupReading.{reading_is_of_part, first_fault_found}
use Rattle.loader_reply.proofs.laws.stop_finds_first_fault.Goals as goal

pub returns : goal.returns
returns c = λ o s file_id input some k before read.
    first_fault_found file_id s.dialect (schema_of o s) input (place_under o s input) o.range_size some (file_reading o s file_id input) (line_ends None (take (place_under o s input) input)) (reading_is_of_part o s file_id input) k before read
