-- The reading of a field between doubled quotes, from one quote to the next.
use Rattle.std.proofs.Common.{◌≡◌, ℕ, ◌+◌, ◌<◌, ◌≤◌, Bool, true, false, List, length, get_or, sym, subst, arith}
use Rattle.std.specs.Prelude.{◌==◌, slice_range}
use Rattle.std.proofs.lemmas.Bool.{true≢false}
use Rattle.byte_classes.specs.declared.class.Class.TheVariants as class
use Rattle.byte_classes.specs.Class.{class_of}
use Rattle.byte_classes.specs.Dialect.{IsDialect, Marks}
use Rattle.byte_classes.specs.Places.{first_place}
use Rattle.byte_classes.specs.Special.{is_special, next_special}
use Rattle.byte_classes.proofs.PlaceLaws.{first_place-within}
use Rattle.quote_automaton.specs.Automaton.{IsDoubling}
use Rattle.row_fields.specs.declared.field.Ending.TheVariants as ending
use Rattle.row_fields.specs.declared.field.Role.TheVariants as role
use Rattle.row_fields.specs.Reading.{HasRole, ReadsField, StandsForItself}
use Rattle.row_fields.proofs.Doubling.{closing_role, doubled_role, found_quote, is_quote}
use Rattle.row_fields.proofs.QuotedReading.{ReadInside, closes, goes_on, opens, run_stands}

module _ (d : Marks) (bytes : List ℕ) (from : ℕ) (sound : IsDialect d) (within : from < length bytes) (doubles : IsDoubling d (get_or bytes from 0)) where
  abbrev q : ℕ
  q = get_or bytes from 0

  -- the first place from `at` on at which the quote stands, or the length
  abbrev pub IsNextQuote : ℕ → ℕ → Type 0
  IsNextQuote at r = r ≡ first_place (λ k. get_or bytes k 0 == q) at bytes

  special : (at r : ℕ) → IsNextQuote at r → r ≡ next_special d bytes at true
  special at r is = found_quote d q sound doubles bytes at r is

  -- the bytes before it stand for themselves
  pub next_stands : (at r : ℕ) → at ≤ length bytes → IsNextQuote at r → (at ≤ r) × StandsForItself d (slice_range bytes at r)
  next_stands at r le is = run_stands d bytes from sound within doubles.quote at r le (special at r is)

  pub next_within : (at r : ℕ) → at ≤ length bytes → IsNextQuote at r → (at ≤ r) × (r ≤ length bytes)
  next_within at r le is = ((next_stands at r le is).0, subst (λ n. n ≤ length bytes) (sym is) (first_place-within (λ k. get_or bytes k 0 == q) at bytes))

  -- ---- the field up to a quote, or to the end

  pub opened : (r : ℕ) → IsNextQuote (from + 1) r → ReadInside d bytes from r false
  opened r is = opens d bytes from sound within doubles.quote r (special (from + 1) r is)

  -- whether a pair was read is left open
  pub either_way : (at : ℕ) → ReadInside d bytes from at false → ReadInside d bytes from at true
  either_way at read = record { low = read.low; high = read.high; leads = read.leads; plain = λ none. absurd (true≢false none); special = read.special }

  quote_at : (at : ℕ) (escaped : Bool) → ReadInside d bytes from at escaped → at < length bytes → class_of d (get_or bytes at 0) ≡ class.Quote
  quote_at at escaped read lt = is_quote d q sound doubles (get_or bytes at 0) (read.special lt)

  -- a doubled quote
  pub pair_at : (at : ℕ) → ReadInside d bytes from at true → at + 1 < length bytes → get_or bytes (at + 1) 0 ≡ q → HasRole d bytes at (role.Pair true)
  pair_at at read lt behind = doubled_role d q sound doubles bytes at (quote_at at true read (omega (arith, lt))) lt behind

  pub paired : (at r : ℕ) → ReadInside d bytes from at true → at + 1 < length bytes → get_or bytes (at + 1) 0 ≡ q → IsNextQuote (at + 2) r → ReadInside d bytes from r true
  paired at r read lt behind is = goes_on d bytes from sound within doubles.quote at r true true read (pair_at at read lt behind) (special (at + 2) r is)

  -- a closing quote
  pub closed : (at : ℕ) (escaped : Bool) → ReadInside d bytes from at escaped → at + 1 < length bytes → is_special false (class_of d (get_or bytes (at + 1) 0)) ≡ true →
      ReadsField d bytes from (record { at = at + 1; ending = ending.Closed escaped })
  closed at escaped read lt stops =
      let inside : at < length bytes = omega (arith, lt) in
      closes d bytes from sound within doubles.quote at escaped read inside (closing_role d q sound doubles bytes at (quote_at at escaped read inside) inside (λ _. stops))
