use Rattle.std.proofs.Common.{◌≡◌, ℕ, Bool, List, take, drop, refl, ◌∙◌}
use Rattle.std.proofs.lemmas.List.{take_rest}
use Rattle.load_options.specs.declared.options.Options.{Options}
use Rattle.csv_sniffer.specs.Explanation.{explanation, explanation_in}
use Rattle.csv_sniffer.specs.Sample.{start_of_sample, sample_of, is_whole}
use Rattle.csv_sniffer.specs.declared.found.Sniffed.{Sniffed}
use Rattle.csv_sniffer.proofs.Answered.{ok_equal}
use Rattle.csv_sniffer.proofs.explaining.explanation.explain.Goals as goal

explained : (o : Options) (s : Sniffed) (input behind sample : List ℕ) (start : ℕ) (whole : Bool) → sample ≡ sample_of behind → whole ≡ is_whole behind → behind ≡ drop start input → start ≡ start_of_sample o.skip input →
    explanation_in o (take start input) sample whole s ≡ explanation o input s
explained o s input behind sample start whole sampled all rest at =
    (λ i. explanation_in o (take start input) (sampled i) (all i) s)
    ∙ (λ i. explanation_in o (take start input) (sample_of (rest i)) (is_whole (rest i)) s)
    ∙ (λ i. explanation_in o (take (at i) input) (sample_of (drop (at i) input)) (is_whole (drop (at i) input)) s)

pub returns : goal.returns
returns c =
    let o = c.args.options.now in
    let s = c.args.sniffed.now in
    let input : List ℕ = c.args.input.now in
    ok_equal c.explain_sample.result _ (explanation o input s) c.explain_sample.ensures
    (explained o s input _ c.sample_of.result.now c.sample_start-start.result _ c.sample_of.ensures.value refl (take_rest input c.sample_start-start.result) c.sample_start-start.ensures.value)
