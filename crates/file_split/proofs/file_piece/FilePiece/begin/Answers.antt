use Rattle.std.proofs.Common.{◌≡◌, List, ℕ, None, ap, take, length, arith}
use Rattle.std.proofs.lemmas.List.{length-take-le}
use Rattle.byte_classes.proofs.LineEndLaws.{line_ends-le}
use Rattle.file_split.proofs.file_piece.FilePiece.begin.Goals as goal

pub new-requires-clause-fits : goal.new-requires-clause-fits
new-requires-clause-fits c =
    let head : List ℕ = take c.args.start c.as_slice.result.now in
    let same : length c.as_slice.result.now ≡ length c.args.self.now.bytes = ap length c.as_slice.ensures in
    omega (arith, c.count_line_ends-lines.ensures, line_ends-le None head, length-take-le c.args.start c.as_slice.result.now (omega (arith, same, c.requires.place)))
