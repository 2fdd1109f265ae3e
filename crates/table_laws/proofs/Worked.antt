-- Worked example: a table of three rows, the options that say how it is written, and that it reads back under them.
use Rattle.std.proofs.Common.{◌≡◌, ℕ, ◌≤◌, ◌+◌, List, [], ◌∷◌, length, refl, arith, true}
use Rattle.std.specs.Prelude.{All, codes, pos}
use Rattle.std.specs.Str.{is_utf8, chars}
use Rattle.std.specs.Str.Lossy.{utf8_valid_len}
use Rattle.std.specs.Fmt.{digits}
use Rattle.std.proofs.lemmas.List.Elements.{All-from_recursion}
use lib.Utf8.{encode}
use Rattle.value_types.specs.declared.types.ColumnType.{ColumnType}
use Rattle.value_types.specs.declared.types.ColumnType.TheVariants.{Bigint, Varchar}
use Rattle.value_types.specs.declared.types.Value.TheVariants.{Int}
use Rattle.value_types.specs.Datum.{Datum, null, typed, text}
use Rattle.value_types.specs.OfType.{fit_all}
use Rattle.value_types.specs.Spelled.{IsSpelled}
use Rattle.load_options.specs.declared.options.Options.{Options}
use Rattle.load_options.specs.declared.options.Command.TheVariants.{Load}
use Rattle.load_options.specs.Request.{options_given}
use Rattle.csv_sniffer.specs.Sample.{sample_limit}
use Rattle.csv_writer.specs.Writable.{IsReadableCell}
use Rattle.csv_writer.specs.WrittenTable.{names_line, row_line, written_table}
use Rattle.table_laws.specs.Laws.{ReadsWritten, is_header_name, IsReadable, FitsLimits, ReadsAs}
use Rattle.table_laws.proofs.WrittenReading.{written_table_reads_back}

abbrev names : List (List ℕ)
names = codes "column0" ∷ codes "column1" ∷ []

abbrev types : List ColumnType
types = Bigint ∷ Varchar ∷ []

-- a comma in a text, an empty text beside nulls
abbrev rows : List (List Datum)
rows = (typed (Int (pos 1)) ∷ text (codes "a,b") ∷ []) ∷ (null ∷ text [] ∷ []) ∷ (typed (Int (pos 3)) ∷ null ∷ []) ∷ []

abbrev options : Options
options = options_given Load (codes "delim=," ∷ codes "quote=\"" ∷ codes "escape=\"" ∷ codes "header=true" ∷ codes "allow_quoted_nulls=false" ∷ codes "types=BIGINT,VARCHAR" ∷ [])

says_how : ReadsWritten options types
unfolding digits is_utf8 chars encode utf8_valid_len
says_how = record {
  delim = refl;
  quote = refl;
  escape = refl;
  comment = refl;
  header = refl;
  skip = refl;
  nullstr = refl;
  nulls = refl;
  quoted_texts = refl;
  typed = refl;
  names = refl;
  types = refl;
  column_types = refl;
  sampled = (let default : options.sample_size ≡ 20480 = refl in omega (arith, default));
}

one : IsSpelled (Int (pos 1))
unfolding digits
one = (codes "1", Bigint, refl)

three : IsSpelled (Int (pos 3))
unfolding digits
three = (codes "3", Bigint, refl)

readable : IsReadable names types rows
unfolding is_utf8 chars encode utf8_valid_len
readable = record {
  columns = record { some = omega arith; names = refl; rows = All-from_recursion (λ cells. fit_all types cells ≡ true) rows (refl, (refl, (refl, tt))) };
  headed = All-from_recursion (λ name. is_header_name name ≡ true) names (refl, (refl, tt));
  different = refl;
  cells =
      let first = All-from_recursion IsReadableCell (typed (Int (pos 1)) ∷ text (codes "a,b") ∷ []) (one, (refl, tt)) in
      let second = All-from_recursion IsReadableCell (null ∷ text [] ∷ []) (tt, (refl, tt)) in
      let third = All-from_recursion IsReadableCell (typed (Int (pos 3)) ∷ null ∷ []) (three, (tt, tt)) in
      All-from_recursion (λ cells. All IsReadableCell cells) rows (first, (second, (third, tt)));
}

within : FitsLimits options names rows
unfolding digits
within =
    let names_length : length (names_line names) ≡ 16 = refl in
    let sample : sample_limit ≡ 4194304 = refl in
    let most : options.max_line_size ≡ 2097152 = refl in
    let first : length (row_line (typed (Int (pos 1)) ∷ text (codes "a,b") ∷ [])) ≡ 8 = refl in
    let second : length (row_line (null ∷ text [] ∷ [])) ≡ 4 = refl in
    let third : length (row_line (typed (Int (pos 3)) ∷ null ∷ [])) ≡ 3 = refl in
    record {
      names = omega (arith, names_length, sample);
      rows = All-from_recursion (λ cells. length (row_line cells) ≤ options.max_line_size + 1) rows (omega (arith, first, most), (omega (arith, second, most), (omega (arith, third, most), tt)));
    }

three_rows : ReadsAs options (written_table names rows) names types rows
three_rows = written_table_reads_back options names types rows says_how readable within

its_text : written_table names rows ≡ codes "column0,column1\n1,\"a,b\"\n,\"\"\n3,\n"
unfolding digits
its_text = refl
