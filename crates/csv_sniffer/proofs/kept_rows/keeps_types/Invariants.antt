use Rattle.std.proofs.Common.{◌≡◌, ◌<◌, ◌≤◌, ℕ, length, get_or}
use Rattle.row_fields.specs.Fields.{fields}
use Rattle.row_fields.specs.Split.{row_from}
use Rattle.row_fields.proofs.FirstFields.{HasRest}
use Rattle.load_options.specs.declared.options.Options.{Options}
use Rattle.value_types.specs.declared.possible_types.PossibleTypes.{PossibleTypes}
use Rattle.value_types.specs.PossibleTypes.{narrowed_by}
use Rattle.csv_sniffer.specs.PossibleTypes.{column_value}
use Rattle.csv_sniffer.proofs.kept_rows.keeps_types.Given as goal

-- the columns so far are kept, and the rest of the row begins here
abbrev pub invariant-loop-column : goal.invariant-loop-column
invariant-loop-column l = record {
  within : l.from ≤ length l.rows.sample.now;
  rest : HasRest l.rows.dialect l.rows.sample.now (fields l.rows.dialect (row_from l.rows.dialect l.rows.sample.now l.start)) l.column l.from;
  kept : (o : Options) (k : ℕ) (other : PossibleTypes) → k < l.column →
      get_or l.possible k other ≡ narrowed_by (column_value o (fields l.rows.dialect (row_from l.rows.dialect l.rows.sample.now l.start)) k) (get_or l.possible k other);
}
