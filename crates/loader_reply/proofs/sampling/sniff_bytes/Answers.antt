use Rattle.std.proofs.Common.{◌≡◌, ◌≤◌, length}
use Rattle.std.specs.Prelude.{IfOk}
use Rattle.std.specs.declared.result.Result.{Result}
use Rattle.std.specs.declared.result.Result.TheVariants.{Ok, Err}
use Rattle.csv_sniffer.specs.declared.finding.Finding.{Finding}
use Rattle.csv_sniffer.specs.Input.{found, place_under}
use Rattle.loader_reply.specs.Loading.{IsFinding}
use Rattle.loader_reply.proofs.sampling.sniff_bytes.Goals as goal

-- what holds of an answer by three facts of it
all_three : {T E : Type 0} (result : Result T E) (P Q R S : T → Type 0) → ((x : T) → P x → Q x → R x → S x) → IfOk result P → IfOk result Q → IfOk result R → IfOk result S
all_three (Ok x) P Q R S gives p q r = gives x p q r
all_three (Err e) P Q R S gives p q r = tt

pub returns-clause-ok : goal.returns-clause-ok
returns-clause-ok c =
    let o = c.args.options.now in
    let bytes = c.args.bytes.now in
    all_three c.sniff_input.result (λ (f : Finding). f.sniffed ≡ found o bytes) (λ f. f.data_start ≡ place_under o f.sniffed bytes) (λ f. f.data_start ≤ length bytes) (IsFinding o bytes)
    (λ f sniffed place within. record { sniffed = sniffed; place = place; within = within }) c.sniff_input.ensures.ok c.sniff_input.ensures.value c.sniff_input.ensures.within
