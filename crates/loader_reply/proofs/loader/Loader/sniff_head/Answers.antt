use Rattle.std.proofs.Common.{◌∙◌, [], ap, sym, subst, append-nil, arith}
use Rattle.std.specs.Prelude.{IfOk}
use Rattle.std.proofs.KnownBytes.{Consumes-nil}
use Rattle.range_scan.specs.Scanned.{HasColumns}
use Rattle.window_load.specs.Window.{WindowView}
use Rattle.csv_sniffer.specs.declared.finding.Finding.{Finding}
use Rattle.loader_reply.specs.Loading.{IsFinding, IsSniffedHead}
use Rattle.loader_reply.specs.Reading.{schema_of}
use Rattle.loader_reply.proofs.loader.Loader.sniff_head.Goals as goal

pub returns-clause-ok : goal.returns-clause-ok
returns-clause-ok g c =
    let o = c.args.self.now.options.now in
    let head = c.args.head in
    let left = g.S.Source.left c.args.source.now in
    let read = c.in_ok-found_in.field-0 in
    let is = c.in_ok-found_in.ensures.ok in
    subst (λ (h : WindowView). IsSniffedHead o left left head (record { finding = read.finding; head = h })) (sym is.1) (record {
      head = c.requires.head;
      finding = subst (λ f. IfOk f (IsFinding o head.kept)) is.0 c.sniff_kept-found.ensures.ok;
      moved = ([], sym (append-nil head.kept), Consumes-nil left);
      within = omega arith;
    })

pub returns-clause-columns : goal.returns-clause-columns
returns-clause-columns g c =
    subst (λ f. IfOk f (λ (finding : Finding). HasColumns (schema_of c.args.self.now.options.now finding.sniffed))) c.in_ok-found_in.ensures.ok.0 c.sniff_kept-found.ensures.columns

pub returns-clause-at_end : goal.returns-clause-at_end
returns-clause-at_end g c = λ ended. c.requires.at_end (ap (λ (w : WindowView). w.ended) (sym c.in_ok-found_in.ensures.ok.1) ∙ ended)
