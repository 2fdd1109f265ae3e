use Rattle.std.proofs.Common.{◌≡◌, ◌<◌, ◌^◌, ◌∙◌, Some, Err, length, sym, subst, ap, rules}
use Rattle.csv_sniffer.specs.declared.found.Sniffed.{Sniffed}
use Rattle.csv_sniffer.proofs.LaterHeaders.{few_found}
use Rattle.range_scan.specs.Scanned.{HasColumns}
use Rattle.window_load.specs.DataRead.{ComesOver}
use Rattle.window_load.specs.declared.stop.LoadStop.TheVariants as stops
use Rattle.loader_reply.specs.Batch.{no_files, with_load}
use Rattle.loader_reply.specs.Reading.{schema_of}
use Rattle.loader_reply.specs.SoFar.{ReadsNext}
use Rattle.loader_reply.specs.declared.batch.LoadedFiles.{LoadedFiles}
use Rattle.loader_reply.proofs.FileSteps.{first_joins, reads_first}
use Rattle.loader_reply.proofs.HeadFiles.{over_file}
use Rattle.loader_reply.proofs.ReadOn.{first_over, first_whole}
use Rattle.loader_reply.proofs.loader.Loader.load_first.Goals as goal

pub returns-in_err-finding-clause-too_large : goal.returns-in_err-finding-clause-too_large
returns-in_err-finding-clause-too_large g c = λ e.
    let over : ComesOver (g.S.Source.left c.open_head.new.source) (g.S.Source.left c.sniff_head.new.source) c.in_ok-head.head = search rules in
    over_file c.args.self.now.options.now.max_input (g.S.Source.held c.args.source.now) c.args.name.now (g.S.Source.left c.open_head.new.source) (g.S.Source.left c.sniff_head.new.source) c.in_ok-head.head c.in_ok-head.ensures.ok.0.limit c.in_ok-head.ensures.ok.1
    over

pub returns-in-Err-clause-too_large : goal.returns-in-Err-clause-too_large
returns-in-Err-clause-too_large g c = λ e.
    let same : c.in-Err.stop ≡ stops.TooLarge = cc in
    let left = g.S.Source.left in
    first_over c.args.self.now.options.now (g.S.Source.held c.args.source.now) c.args.name.now (left c.open_head.new.source) (left c.sniff_head.new.source) (left c.load_data.new.source)
    c.in_ok-head.head c.in_ok-finding.field-0 c.in_ok-head.ensures.ok.1 c.in_ok-finding.ensures.ok (c.load_data.ensures.too_large (c.in-Err.is ∙ ap (λ s. Err s) same))

pub of_one-requires : goal.of_one-requires
of_one-requires g c =
    let o = c.args.self.now.options.now in
    let held = g.S.Source.held c.args.source.now in
    let left = g.S.Source.left in
    record {
      types = first_joins o c.in_ok-finding.field-0.finding.sniffed held c.args.name.now (left c.load_data.new.source) c.in-Ok.load
          (first_whole o held c.args.name.now (left c.open_head.new.source) (left c.sniff_head.new.source) (left c.load_data.new.source) c.in_ok-head.head c.in_ok-finding.field-0
          c.in_ok-head.ensures.ok.1 c.in_ok-finding.ensures.ok c.in-Ok.load c.in-Ok.ensures.ok);
    }

pub returns-in_ok-of_one-in-Ok : goal.returns-in_ok-of_one-in-Ok
returns-in_ok-of_one-in-Ok g c =
    let o = c.args.self.now.options.now in
    let held = g.S.Source.held c.args.source.now in
    let left = g.S.Source.left in
    let s = c.in_ok-finding.field-0.finding.sniffed in
    let load = c.in-Ok.load in
    let named : c.in_ok-file.file ≡ c.args.name.now = c.in_ok-file.ensures ∙ c.as_bytes.ensures.value in
    let same : c.in_ok-of_one-in-Ok.field-0 ≡ record { sniffed = s; load = with_load (no_files s.types) c.args.name.now (Some load) } =
    c.in_ok-of_one-in-Ok.ensures.ok ∙ ap (λ n. record { sniffed = s; load = with_load (no_files s.types) n (Some load) }) named in record {
      ok = subst (λ (files : LoadedFiles). ReadsNext o files.sniffed held c.args.name.now 0 (no_files files.sniffed.types) files.load (left c.load_data.new.source)) (sym same)
          (reads_first o s held c.args.name.now (left c.load_data.new.source) load
          (first_whole o held c.args.name.now (left c.open_head.new.source) (left c.sniff_head.new.source) (left c.load_data.new.source) c.in_ok-head.head c.in_ok-finding.field-0
          c.in_ok-head.ensures.ok.1 c.in_ok-finding.ensures.ok load c.in-Ok.ensures.ok));
      columns = subst (λ (files : LoadedFiles). HasColumns (schema_of o files.sniffed)) (sym same) c.in_ok-finding.ensures.columns;
      few = subst (λ (files : LoadedFiles). length files.sniffed.names < 2 ^ 63) (sym same)
          (subst (λ (t : Sniffed). length t.names < 2 ^ 63) (sym c.in_ok-finding.ensures.ok.finding.sniffed) (few_found o c.in_ok-finding.field-0.head.kept c.requires.accepted));
      too_large = λ e. absurd (let no : ⊥ = cc in no);
      failed = λ e. absurd (let no : ⊥ = cc in no);
      held = search rules;
      count = search rules;
    }
