use Rattle.std.proofs.Common.{ℕ, ◌<◌, get_or, sym, subst}
use Rattle.std.specs.Prelude.{◌≡◌}
use Rattle.std.specs.Int.{bit_at}
use Rattle.byte_classes.specs.Dialect.{is_byte}
use Rattle.byte_classes.specs.Masks.{HasBits}
use Rattle.quote_automaton.specs.Counted.{IsCounted, bit_behind}
use Rattle.quote_automaton.proofs.CountedLaws.{block_counted}
use Rattle.quote_automaton.proofs.counted.count_quotes.Goals as goal

pub returns : goal.returns
returns c =
    let d = c.args.dialect.now in
    let place = c.args.place in
    let block = c.args.block.now in
    let quotes = c.places_of_some-quotes.result in
    let ends = c.separators-ends.result in
    let comments = c.places_of_some-comments.result in
    subst (λ t. IsCounted d place block c.behind-inside.result (record { inside = t; last = get_or block 63 0 })) (sym c.last_bit.ensures)
    (block_counted d place block quotes ends comments c.parities-odd.result c.behind-inside.result c.behind-behind_quotes.result c.behind-behind_ends.result c.misplaced-wrong.result c.untold-blind.result
    (subst (λ o. HasBits (is_byte o) block quotes) c.quote.ensures.value c.places_of_some-quotes.ensures) c.separators-ends.ensures
    (subst (λ o. HasBits (is_byte o) block comments) c.comment.ensures c.places_of_some-comments.ensures) c.behind-inside.ensures
    (subst (λ t. (i : ℕ) → i < 64 → bit_at c.behind-behind_quotes.result i ≡ bit_behind t quotes i) c.is_quote.ensures c.behind-behind_quotes.ensures)
    (subst (λ t. (i : ℕ) → i < 64 → bit_at c.behind-behind_ends.result i ≡ bit_behind t ends i) c.is_separator.ensures c.behind-behind_ends.ensures)
    c.misplaced-wrong.ensures c.untold-blind.ensures c.if-wrong-ne0.false c.if-blind-ne0.false c.if-odd-inside.false c.quote.ensures.sound c.told-block)
