use Rattle.std.proofs.Common.{rules, ◌≡◌, List, ap, length, option_map, subst, sym, ◌∙◌, All}
use Rattle.csv_sniffer.specs.declared.found.Sniffed.{Sniffed}
use Rattle.npz_writer.specs.Members.{sheets}
use Rattle.npz_writer.specs.Sheets.{IsTold, SheetView}
use Rattle.npz_writer.proofs.LongNames.{length-keys}
use Rattle.npz_writer.proofs.Told.{told}
use Rattle.npz_writer.proofs.sheets.sheets_of.Goals as goal

pub labels-requires : goal.labels-requires
labels-requires c = ap length c.in_ok-keys.ensures.keys ∙ length-keys c.args.findings.now.sniffed.now.names ∙ c.requires.names

pub returns-clause-told : goal.returns-clause-told
returns-clause-told c =
    let s : Sniffed = c.args.findings.now.sniffed.now in
    let files = option_map (λ files. files.now) c.args.findings.now.files in
    let made : List SheetView = c.match-findings.sheets.items in
    let is : made ≡ sheets s c.args.table.rows files = search rules in
    subst (All IsTold) (sym is) (told s c.args.table.rows files c.requires.names c.requires.keys c.in_ok-keys.ensures.few)
