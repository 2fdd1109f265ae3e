use Rattle.std.proofs.Common.{◌-◌, sym, ap, ◌∙◌}
use Rattle.std.proofs.lemmas.Result.{on_ok_weaker}
use Rattle.column_store.specs.TableView.{TableView}
use Rattle.range_scan.specs.Scanned.{scanned}
use Rattle.range_scan.proofs.GrownParts.{adds_grown}
use Rattle.range_scan.proofs.joined.Joined.grow.Goals as goal

pub returns : goal.returns
returns g c =
    let old = c.args.self.now in
    let span = c.args.span.now in
    let front = c.open-front.result.0 in
    let last = c.open-front.result.1 in record {
      ok = on_ok_weaker c.count_again.result
          (adds_grown (scanned c.args.scanner.now.context.now c.args.view.now.bytes.now c.args.view.now.base span old.end) c.args.first (span.to - span.from)
          front last c.in_ok-grown.grown c.in_ok-self.field-0 c.append_book.new.book c.in_ok-self-2.field-0 c.is_again-again.result old c.count_again.new.self
          c.in_ok-grown.ensures (sym c.open-front.ensures.rows ∙ ap (λ (t : TableView). t.rows) c.replace-table.ensures.value) c.requires.types
          c.in_ok-self.ensures c.in_ok-append_book.ensures.ok c.in_ok-self-2.ensures.ok c.is_again-again.ensures)
          c.count_again.ensures.ok;
    }
