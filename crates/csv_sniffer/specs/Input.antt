-- What is found in an input, and where its data begin.
use Rattle.std.specs.Prelude.{ℕ, ◌+◌, Bool, List, drop}
use Rattle.load_options.specs.declared.options.Options.{Options}
use Rattle.csv_sniffer.specs.declared.found.Sniffed.{Sniffed}
use Rattle.csv_sniffer.specs.Sample.{start_of_sample, sample_of, is_whole}
use Rattle.csv_sniffer.specs.Sniffed.{sniffed}
use Rattle.csv_sniffer.specs.LaterStart.{start_under}
use Rattle.csv_sniffer.specs.LaterHeader.{begins_alike}

-- what the sniffer finds in the input's sample
abbrev pub found : Options → List ℕ → Sniffed
found o input = let behind = drop (start_of_sample o.skip input) input in sniffed o (sample_of behind) (is_whole behind)

-- the place of the input where the data begin
abbrev pub data_place : Options → List ℕ → Sniffed → ℕ
data_place o input s = start_of_sample o.skip input + s.data_start

-- the place of the input where the data begin, under what was found in it or in another one
abbrev pub place_under : Options → Sniffed → List ℕ → ℕ
place_under o s input = let start = start_of_sample o.skip input in let behind = drop start input in
    start + start_under o s (sample_of behind) (is_whole behind)

-- whether the input begins with the header that was found in another one
abbrev pub has_same_header : Options → Sniffed → List ℕ → Bool
has_same_header o s input = let behind = drop (start_of_sample o.skip input) input in begins_alike o s (sample_of behind) (is_whole behind)
