use Rattle.std.proofs.Common.{◌≡◌, ℕ, ◌≤◌, List, [], ◌∷◌, length, Some, map, arith, ◌∙◌, refl, sym, ap, subst, ◌+◌}
use Rattle.std.specs.Prelude.{All, Ok}
use Rattle.value_types.specs.declared.views.ColumnView.{ColumnView}
use Rattle.value_types.specs.Views.{view_cells, row_at}
use Rattle.column_taps.specs.declared.kind.Tapped.{Tapped}
use Rattle.column_taps.specs.declared.text_columns.TextColumn.{TextColumn}
use Rattle.column_taps.specs.Pairs.{Pair, pairs_with}
use Rattle.column_taps.specs.KeptPairs.{pairs_in}
use Rattle.column_taps.specs.TextColumns.{texts_among, HasTexts, pairs_with_texts}
use Rattle.column_taps.specs.Seen.{told_apart, step}
use Rattle.column_taps.specs.Taken.{TakenAs}
use Rattle.column_taps.proofs.ShownSteps.{many, all_went, row_goes_in, row_is_over_in}
use Rattle.column_taps.proofs.TextSteps.{texts_alone, all_have_texts, no_texts_go}
use Rattle.column_taps.proofs.distinct.DistinctTapRowTap.take_columns.Goals as goal

-- the row's pairs are those of its texts
alone : {texts : List TextColumn} (pairs : List Pair) (columns : List ColumnView) (row : ℕ) → texts ≡ texts_among 0 columns
    → pairs_with 0 pairs (row_at (map view_cells columns) row) ≡ pairs_with_texts row pairs texts
alone pairs columns row are = texts_alone row 0 pairs columns ∙ ap (pairs_with_texts row pairs) (sym are)

empty : (texts : List TextColumn) → length texts ≡ 0 → texts ≡ []
empty [] none = refl
empty (t ∷ texts) none = absurd (let no : ⊥ = omega (arith, none) in no)

pub returns-then-len-self : goal.returns-then-len-self
returns-then-len-self c =
    let texts = c.in_ok-texts.texts in
    let none : length texts.items ≡ 0 = grind (arith, c.if-is_empty.ensures, texts.ok) in
    let few : length (pairs_in c.args.self.now.pairs) ≤ c.args.self.now.most = omega (arith, c.len.ensures, c.if-len-self.true) in
    no_texts_go c.args.self.now.most c.args.rows (pairs_in c.args.self.now.pairs) c.args.columns.now few (sym c.in_ok-texts.ensures ∙ empty texts.items none)

pub take_texts-requires : goal.take_texts-requires
take_texts-requires c =
    let row = c.loop-row.row in
    subst (All (HasTexts (row + 1))) (sym (c.deref.ensures.value ∙ c.in_ok-texts.ensures)) (all_have_texts (row + 1) c.args.rows 0 c.args.columns.now (omega arith) c.requires.long)

pub returns-in-Ok-Over : goal.returns-in-Ok-Over
returns-in-Ok-Over c =
    let t = c.loop-row.self in
    let u = c.take_texts.new.self in
    let old = c.args.self.now in
    let before = told_apart t.most (pairs_in t.pairs) in
    let after = told_apart u.most (pairs_in u.pairs) in
    let row = row_at (map view_cells c.args.columns.now) c.loop-row.row in
    let over = subst (λ (t : Tapped). TakenAs before row (Ok t) after) c.in-Ok-Over.field-0-is (c.in-Ok-Over.ensures row (alone (pairs_in t.pairs) c.args.columns.now c.loop-row.row (c.deref.ensures.value ∙ c.in_ok-texts.ensures))) in
    row_is_over_in c.args.columns.now c.args.rows (told_apart old.most (pairs_in old.pairs)) before after c.loop-row.row row (omega arith) refl c.loop-row.invariant over.0 over.1

pub returns-in-Err : goal.returns-in-Err
returns-in-Err c =
    let long = many c.args.columns.now c.args.rows in
    let k = c.loop-row.row in
    let same = c.in-Err.ensures (row_at (map view_cells c.args.columns.now) k) (alone (pairs_in c.loop-row.self.pairs) c.args.columns.now k (c.deref.ensures.value ∙ c.in_ok-texts.ensures)) in
    (k, omega (arith, long), (λ i. (k, same i)) ∙ c.loop-row.invariant)

pub loop-row-preserved : goal.loop-row-preserved
loop-row-preserved c =
    let t = c.loop-row.self in
    let u = c.take_texts.new.self in
    let old = c.args.self.now in
    let before = told_apart t.most (pairs_in t.pairs) in
    let after = told_apart u.most (pairs_in u.pairs) in
    let row = row_at (map view_cells c.args.columns.now) c.loop-row.row in
    let goes : step before row ≡ Some after = subst (λ (t : Tapped). TakenAs before row (Ok t) after) c.in-Ok-Goes.field-0-is (c.in-Ok-Goes.ensures row (alone (pairs_in t.pairs) c.args.columns.now c.loop-row.row (c.deref.ensures.value ∙ c.in_ok-texts.ensures))) in
    row_goes_in c.args.columns.now c.args.rows (told_apart old.most (pairs_in old.pairs)) before after c.loop-row.row row (omega arith) refl c.loop-row.invariant goes

pub returns : goal.returns
returns c =
    let t = c.loop-row.self in
    let old = c.args.self.now in
    all_went c.args.columns.now c.args.rows (told_apart old.most (pairs_in old.pairs)) (told_apart t.most (pairs_in t.pairs)) c.loop-row.row (omega arith) (omega arith) c.loop-row.invariant
