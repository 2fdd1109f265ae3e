-- Where the data of a text begin under what was found in another one (this loader's profile).
use Rattle.std.specs.Prelude.{ℕ, ◌&&◌, Bool, List}
use Rattle.load_options.specs.declared.options.Options.{Options}
use Rattle.dialect_rank.specs.Sampled.{sampled_spans}
use Rattle.csv_sniffer.specs.declared.found.Sniffed.{Sniffed}
use Rattle.csv_sniffer.specs.Sniffed.{behind_row, first_if, has_whole_row}

-- behind the first sampled row where a header was found, but never behind a row that is cut
abbrev pub start_under : Options → Sniffed → List ℕ → Bool → ℕ
start_under o s sample whole = let spans = sampled_spans s.dialect sample whole o.sample_size in
    behind_row sample (first_if (has_whole_row sample whole spans && s.header) spans)
