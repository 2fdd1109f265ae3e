use Rattle.std.proofs.Common.{◌≡◌, ◌-◌, ℕ, List, ◌++◌, map, reverse, length}
use Rattle.std.specs.Prelude.{IfSome}
use Rattle.std.specs.List.{range_with_len}
use Rattle.std.specs.Option.{option_copied}
use Rattle.byte_classes.specs.Dialect.{Marks}
use Rattle.row_fields.specs.Split.{IsSplit}
use Rattle.load_options.specs.Texts.{is_among}
use Rattle.csv_sniffer.specs.ColumnNames.{is_key, NumbersAreTaken, wanted_name, made_different, detected_names}
use Rattle.csv_sniffer.proofs.detected_names.names_by.Given as goal

-- the names so far, and those of the columns that are left; the keys of the set are the names so far, and the numbers' names are taken up to them
abbrev pub invariant-loop-column : goal.invariant-loop-column
invariant-loop-column l =
    let row = option_copied l.row in record {
      names : (d : Marks) → IfSome l.row (λ bytes. IsSplit d bytes.now l.fields) →
          l.names ++ made_different (reverse l.names) (map (wanted_name d row) (range_with_len l.column (l.columns - l.column))) ≡ detected_names d l.columns row;
      keys : (name : List ℕ) → is_key l.taken.keys (λ key. key.items) name ≡ is_among (reverse l.names) name;
      noted : NumbersAreTaken l.taken.keys l.numbers.entries (λ key. key.items);
      count : length l.taken.keys ≡ length l.names;
      column : length l.names ≡ l.column;
    }
