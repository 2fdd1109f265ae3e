-- Why a file was found to be as it is (this loader's profile).
use Rattle.std.specs.Prelude.{ℕ, Bool, List, take, drop, flat_map}
use Rattle.load_options.specs.declared.options.Options.{Options}
use Rattle.dialect_rank.specs.Sampled.{sampled_spans}
use Rattle.dialect_rank.specs.Scored.{in_rank_order, scored_candidates}
use Rattle.csv_sniffer.specs.Columns.{column_samples}
use Rattle.csv_sniffer.specs.ExplanationView.{ExplanationView}
use Rattle.csv_sniffer.specs.Fixed.{fixes_types}
use Rattle.csv_sniffer.specs.Hints.{hints_of}
use Rattle.csv_sniffer.specs.Sample.{start_of_sample, sample_of, is_whole}
use Rattle.csv_sniffer.specs.Sniffed.{behind_first_if}
use Rattle.csv_sniffer.specs.Whys.{whys_of}
use Rattle.csv_sniffer.specs.declared.found.Sniffed.{Sniffed}

-- the explanation of what was found in a sample, before which the file has some bytes
abbrev pub explanation_in : Options → List ℕ → List ℕ → Bool → Sniffed → ExplanationView
explanation_in o front sample whole s =
    let spans = sampled_spans s.dialect sample whole o.sample_size in
    let columns = column_samples o s front sample (behind_first_if s.header spans) in record {
      candidates = in_rank_order (scored_candidates o sample whole);
      fixes_types = fixes_types o s;
      whys = flat_map whys_of columns;
      hints = hints_of o s sample columns;
    }

-- the explanation of what was found in an input
abbrev pub explanation : Options → List ℕ → Sniffed → ExplanationView
explanation o input s =
    let start = start_of_sample o.skip input in
    let behind = drop start input in
    explanation_in o (take start input) (sample_of behind) (is_whole behind) s
