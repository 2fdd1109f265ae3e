use Rattle.std.proofs.Common.{◌≡◌, ◌+◌, ◌<◌, ℕ, false, List, length, map, get_or, ap, sym, subst, ◌∙◌, arith}
use Rattle.std.specs.Prelude.{All}
use Rattle.std.specs.Vec.{with_items}
use Rattle.std.proofs.lemmas.List.{with_items_is}
use Rattle.column_profile.specs.declared.column.Column.{Column}
use Rattle.column_profile.specs.Kept.{tally_in}
use Rattle.column_profile.specs.Parts.{rows_of, TakesIn}
use Rattle.column_profile.specs.Profile.{ProfileView, Continues}
use Rattle.column_profile.proofs.ProfileSteps.{continues}
use Rattle.column_profile.proofs.profile.Profile.take_in.Goals as goal

pub returns : goal.returns
returns g c =
    let more = c.args.table.now.rows in
    let inside = c.self.inside in
    let olds : List Column = inside.columns.items in
    let left : List Column = c.take_all.new.columns in
    let news : List Column = (with_items inside.columns left).items in
    let value : c.deref_mut.result.now ≡ olds = c.deref_mut.ensures.value in
    let long : length left ≡ length olds = c.take_all.auto.columns ∙ ap length value in
    let are : news ≡ left = with_items_is inside.columns left (omega (arith, long, inside.columns.ok.0)) in
    let rows : rows_of c.deref.result.now ≡ more = ap rows_of c.deref.ensures.value ∙ c.in_ok-parts.ensures.rows in
    let takes : (k : ℕ) (d : Column) → k < length olds → TakesIn k more (get_or olds k d) (get_or news k d) = λ k d below.
    subst (λ (columns : List Column). TakesIn k more (get_or olds k d) (get_or columns k d)) (sym are)
    (subst (λ rows. TakesIn k rows (get_or olds k d) (get_or left k d)) rows
    (subst (λ (columns : List Column). TakesIn k (rows_of c.deref.result.now) (get_or columns k d) (get_or left k d)) value
    (c.take_all.ensures k d (let len = ap length value in omega (arith, below, len))))) in
    let whole : All (λ column. column.is_wanting ≡ false) news = subst (λ (columns : List Column). All (λ column. column.is_wanting ≡ false) columns) c.deref-2.ensures.value (c.are_whole.ensures c.if-not-are_whole.false) in
    let grown : c.in-Some.rows ≡ inside.rows + length more = omega (arith, c.in-Some.ensures, c.rows-count.ensures) in
    subst (λ (old : ProfileView). Continues old more (record { types = inside.types; rows = c.in-Some.rows; tallies = map tally_in news })) c.self.view_is
    (continues inside.types olds news more c.self.invariant.0 (ap length are ∙ long) takes whole inside.rows c.in-Some.rows grown)
