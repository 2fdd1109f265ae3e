use Rattle.std.proofs.Common.{◌≡◌, ◌∙◌, ◌+◌, ◌++◌, sym, arith, ap, length, get_or, take, refl}
use Rattle.std.proofs.lemmas.List.{get_or_default, get_or-map, length-map, take_all, take_at}
use Rattle.column_store.specs.declared.column.Column.{Column}
use Rattle.column_store.specs.ColumnCells.{cells_of, type_of}
use Rattle.column_store.specs.ColumnChanges.{IsAppended, KeepsFront}
use Rattle.column_store.proofs.ColumnLoops.{one_more, so_far_weaker, those_at_least}
use Rattle.column_store.proofs.columns.append_some.Goals as goal

pub append-requires : goal.append-requires
append-requires c =
    let place = c.loop-place.place in
    let was = c.index-columns-place.result in
    let same = c.requires in
    let twins : length c.args.columns.now ≡ length c.args.others.now = sym (length-map c.args.columns.now type_of) ∙ ap length same ∙ length-map c.args.others.now type_of in
    ap type_of (c.loop-place.invariant.behind place was (omega arith))
    ∙ sym (get_or-map type_of c.args.columns.now place was (type_of was) (omega (arith, c.loop-place.invariant.count)))
    ∙ ap (λ tys. get_or tys place (type_of was)) same
    ∙ get_or-map type_of c.args.others.now place c.index-others-place.result (type_of was) (omega (arith, c.loop-place.invariant.count, twins))
    ∙ ap type_of (sym c.index-others-place.is)

pub returns-in_err-append-clause-front : goal.returns-in_err-append-clause-front
returns-in_err-append-clause-front c =
    let done = c.append.ensures in
    those_at_least (λ _. KeepsFront) (c.loop-place.place + 1) c.args.columns.now _
    (one_more (λ _. KeepsFront) c.loop-place.place c.args.columns.now c.loop-place.columns c.index-columns-place.result c.append.new.self
    (so_far_weaker (IsAppended c.args.others.now) (λ _. KeepsFront) (λ _ _ _ r. r.keeps) c.loop-place.place c.args.columns.now c.loop-place.columns c.loop-place.invariant) (omega arith)
    (record {
      ty = done.ty;
      cells = ap (take (length (cells_of (get_or c.loop-place.columns c.loop-place.place c.index-columns-place.result)))) c.in_err-append.ensures.err
          ∙ take_all (length (cells_of (get_or c.loop-place.columns c.loop-place.place c.index-columns-place.result))) (cells_of (get_or c.loop-place.columns c.loop-place.place c.index-columns-place.result)) (omega arith);
      room = done.room;
    }))
    (λ _ column. record { ty = refl; cells = take_all (length (cells_of column)) (cells_of column) (omega arith); room = omega arith })

pub loop-place-preserved : goal.loop-place-preserved
loop-place-preserved c =
    let place = c.loop-place.place in
    let old : Column = get_or c.loop-place.columns place c.index-columns-place.result in
    let done = c.in_ok-append.ensures in
    let twins : length c.args.columns.now ≡ length c.args.others.now = sym (length-map c.args.columns.now type_of) ∙ ap length c.requires ∙ length-map c.args.others.now type_of in
    let twin : c.index-others-place.result ≡ get_or c.args.others.now place old =
    c.index-others-place.is ∙ get_or_default c.args.others.now place c.index-others-place.result old (omega (arith, c.loop-place.invariant.count, twins)) in
    one_more (IsAppended c.args.others.now) place c.args.columns.now c.loop-place.columns c.index-columns-place.result c.append.new.self c.loop-place.invariant (omega arith)
    (record {
      keeps = record { ty = done.ty; cells = ap (take (length (cells_of old))) done.ok ∙ take_at (cells_of old) (cells_of c.index-others-place.result) (length (cells_of old)) refl; room = done.room };
      cells = done.ok ∙ ap (λ o. cells_of old ++ cells_of o) twin;
    })
