use Rattle.std.proofs.Common.{Err, ◌≡◌, ◌≤◌, ◌∙◌, ap, sym, subst, rules}
use Rattle.std.specs.Prelude.{IfOk}
use Rattle.range_scan.specs.Scanned.{HasColumns}
use Rattle.window_load.specs.Window.{WindowView, reach}
use Rattle.window_load.specs.declared.stop.LoadStop.TheVariants as stops
use Rattle.csv_sniffer.specs.declared.finding.Finding.{Finding}
use Rattle.loader_reply.specs.Loading.{IsFinding, IsSniffedHead}
use Rattle.loader_reply.specs.Reading.{schema_of}
use Rattle.loader_reply.proofs.ReadOn.{goes_over, sniffed_on}
use Rattle.loader_reply.proofs.loader.Loader.sniff_on.Goals as goal

pub returns-in_ok-found_in-in-Ok-clause-ok : goal.returns-in_ok-found_in-in-Ok-clause-ok
returns-in_ok-found_in-in-Ok-clause-ok g c =
    let o = c.args.self.now.options.now in
    let head = c.args.head.now in
    let next = c.sniff_beside-found.new.next in
    let before = g.S.Source.left c.args.source.now in
    let after = g.S.Source.left c.sniff_beside-found.new.source in
    let read = c.in_ok-found_in-in-Ok.field-0 in
    let is = c.in_ok-found_in-in-Ok.ensures.ok in
    let fits : reach next ≤ next.most = search rules in
    subst (λ (h : WindowView). IsSniffedHead o before after head (record { finding = read.finding; head = h })) (sym is.1)
    (sniffed_on o before after head c.copy_rest.new.self next c.requires.head c.requires.going
    c.in_ok-copy_rest.ensures.ok c.sniff_beside-found.ensures.moved c.sniff_beside-found.ensures.same.0 c.sniff_beside-found.ensures.same.1 read.finding fits c.sniff_beside-found.ensures.within
    (subst (λ f. IfOk f (IsFinding o head.kept)) is.0 c.sniff_beside-found.ensures.ok))

pub returns-in_ok-found_in-in-Ok-clause-columns : goal.returns-in_ok-found_in-in-Ok-clause-columns
returns-in_ok-found_in-in-Ok-clause-columns g c =
    subst (λ f. IfOk f (λ (finding : Finding). HasColumns (schema_of c.args.self.now.options.now finding.sniffed))) c.in_ok-found_in-in-Ok.ensures.ok.0 c.sniff_beside-found.ensures.columns

pub returns-in_ok-found_in-in-Ok-clause-at_end : goal.returns-in_ok-found_in-in-Ok-clause-at_end
returns-in_ok-found_in-in-Ok-clause-at_end g c = λ ended. c.sniff_beside-found.ensures.at_end (ap (λ (w : WindowView). w.ended) (sym c.in_ok-found_in-in-Ok.ensures.ok.1) ∙ ended)

pub returns-in-Err-clause-too_large : goal.returns-in-Err-clause-too_large
returns-in-Err-clause-too_large g c = λ e.
    let same : c.in-Err.stop ≡ stops.TooLarge = cc in
    goes_over c.args.self.now.options.now (g.S.Source.left c.args.source.now) (g.S.Source.left c.sniff_beside-found.new.source) c.args.head.now c.copy_rest.new.self c.sniff_beside-found.new.next c.requires.head c.requires.going
    c.in_ok-copy_rest.ensures.ok c.sniff_beside-found.ensures.moved c.sniff_beside-found.ensures.same.0 c.sniff_beside-found.ensures.same.1 (c.sniff_beside-found.ensures.too_large (c.in-Err.is ∙ ap (λ s. Err s) same))
