-- Rejects as CSV text.
use Rattle.std.specs.Prelude.{ℕ, List, ◌++◌, map, flat_map}
use Rattle.csv_writer.specs.WrittenTable.{line_of_fields, names_line, text_field}
use Rattle.reject_book.specs.declared.reject.Reject.{Reject}
use Rattle.reject_book.specs.Fields.{field_names, fields_of}
use Rattle.csv_writer.specs.WrittenField.{plain_field}

-- the fields of a reject, numbers in decimal digits and bytes as they are
abbrev pub reject_fields : Reject → List (List ℕ)
reject_fields r = map plain_field (fields_of r)

-- the line of a reject, each field quoted as a text of a table is
abbrev pub reject_line : Reject → List ℕ
reject_line r = line_of_fields (map text_field (reject_fields r))

-- a line for the names, and one for each reject
abbrev pub written_rejects : List Reject → List ℕ
written_rejects rejects = names_line field_names ++ flat_map reject_line rejects
