use Rattle.std.proofs.Common.{◌≡◌, Some, None, ◌&&◌, not, false, ap, sym, cond, ◌∙◌}
use Rattle.csv_sniffer.specs.Input.{has_same_header, place_under}
use Rattle.loader_reply.specs.Loading.{is_headed_otherwise}
use Rattle.loader_reply.proofs.loader.Loader.later_start.Goals.{else-options-via-then-options+in_ok-has_same_header+else-not-branch, else-options-via-else-options}
use Rattle.loader_reply.proofs.loader.Loader.later_start.Goals as goal

pub returns-clause-ok : goal.returns-clause-ok
returns-clause-ok g c =
    let o = c.args.self.now.options.now in
    let s = c.args.sniffed.now in
    let head = c.args.head.now in
    let alike : is_headed_otherwise o s head ≡ false = elim c.else-options.branch [
      | else-options-via-then-options+in_ok-has_same_header+else-not-branch w ↦ ap (λ t. t && not (has_same_header o s head)) w.if-options.true ∙ ap not (sym w.in_ok-has_same_header.ensures ∙ w.if-not-branch.false)
      | else-options-via-else-options w ↦ ap (λ t. t && not (has_same_header o s head)) w.if-options.false
    ] in
    ap (λ place. Some place) c.in_ok-place_under.ensures.ok ∙ ap (λ t. cond t None (Some (place_under o s head))) (sym alike)
