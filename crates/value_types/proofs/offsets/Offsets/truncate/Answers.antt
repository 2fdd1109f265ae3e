use Rattle.std.proofs.Common.{◌∙◌, ap, map, sym}
use Rattle.std.proofs.lemmas.List.{take-map}
use Rattle.value_types.proofs.offsets.Offsets.truncate.Goals as goal

pub returns : goal.returns
returns g c =
    let s = c.args.self.now in
    ap (map _) c.truncate.ensures.items ∙ sym (take-map _ c.args.count s.over.items)
