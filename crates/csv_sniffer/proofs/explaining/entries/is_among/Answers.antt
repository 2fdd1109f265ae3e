use Rattle.std.proofs.Common.{true, false, sym, ◌∙◌, ap, arith}
use Rattle.std.proofs.lemmas.List.{drop_all}
use Rattle.std.specs.Str.{bytes_eq}
use Rattle.load_options.specs.Texts.{is_among}
use Rattle.csv_sniffer.proofs.ListWalks.{any_on}
use Rattle.csv_sniffer.proofs.explaining.entries.is_among.Goals as goal

pub returns-then-is_same : goal.returns-then-is_same
returns-then-is_same c =
    any_on (bytes_eq c.args.name.now) c.args.names.now c.loop-place.place c.get.result.now true _ c.get.ensures (sym c.is_same.ensures ∙ c.if-is_same.true) c.loop-place.invariant

pub loop-place-preserved : goal.loop-place-preserved
loop-place-preserved c =
    any_on (bytes_eq c.args.name.now) c.args.names.now c.loop-place.place c.get.result.now false _ c.get.ensures (sym c.is_same.ensures ∙ c.if-is_same.false) c.loop-place.invariant

pub returns : goal.returns
returns c =
    ap (λ ns. is_among ns c.args.name.now) (sym (drop_all c.loop-place.place c.args.names.now (omega arith))) ∙ c.loop-place.invariant
