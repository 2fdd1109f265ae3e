use Rattle.std.proofs.Common.{Some, ◌≡◌, take, sym, ap, ◌∙◌, arith}
use Rattle.std.specs.List.{fold}
use Rattle.value_types.specs.Datum.{datum_of}
use Rattle.value_types.specs.Views.{view_cells}
use Rattle.column_profile.specs.Folded.{kept_with}
use Rattle.column_profile.specs.Kept.{kept_apart}
use Rattle.column_profile.proofs.ApartSteps.{more_kept, too_many}
use Rattle.column_profile.proofs.different.Different.add_cells.Goals as goal

pub returns-then-not-are_within : goal.returns-then-not-are_within
returns-then-not-are_within c =
    too_many (Some (kept_apart c.args.self.now)) (view_cells c.args.column.now) c.loop-row.row (datum_of c.get.result) (kept_apart c.loop-row.self) (kept_apart c.add.new.self)
    c.get.ensures c.loop-row.invariant c.in_ok-add.ensures c.are_within.result c.are_within.ensures c.if-not-are_within.true c.args.rows c.loop-row-test.true

pub loop-row-preserved : goal.loop-row-preserved
loop-row-preserved c =
    more_kept (Some (kept_apart c.args.self.now)) (view_cells c.args.column.now) c.loop-row.row (datum_of c.get.result) (kept_apart c.loop-row.self) (kept_apart c.add.new.self)
    c.get.ensures c.loop-row.invariant c.in_ok-add.ensures c.are_within.result c.are_within.ensures c.if-not-are_within.false

pub returns : goal.returns
returns c =
    let all : c.args.rows ≡ c.loop-row.row = omega arith in
    ap (λ n. fold kept_with (Some (kept_apart c.args.self.now)) (take n (view_cells c.args.column.now))) all ∙ sym c.loop-row.invariant
