-- Keys that are looked up and added.
use Rattle.std.proofs.Common.{◌≡◌, ℕ, zero, suc, Some, Bool, true, false, List, [], ◌∷◌, ◌++◌, map, refl, sym, ap, ◌∙◌}
use Rattle.std.specs.Prelude.{slice_get, if◌then◌else◌, ◌||◌}
use Rattle.std.proofs.Math.Bool.{or-true}
use Rattle.std.specs.List.{list_any}
use Rattle.std.proofs.lemmas.List.{map-append}
use Rattle.indexmap.specs.IndexSet.{insert_key}
use Rattle.column_taps.specs.declared.pairs.Key.{Key}
use Rattle.column_taps.specs.KeptPairs.{pair_of}
use Rattle.column_taps.specs.Pairs.{Pair, is_pair, pairs_and}

module _ (eq : Key → Key → Bool) (same : (a b : Key) → eq a b ≡ is_pair a.column a.text.items (pair_of b)) where
  any_same : (k : Key) (keys : List Key) → list_any (eq k) keys ≡ list_any (is_pair k.column k.text.items) (map pair_of keys)
  any_same k [] = refl
  any_same k (x ∷ keys) = λ i. same k x i || any_same k keys i

  either_way : (k : Key) (keys : List Key) (there : Bool) → map pair_of (if there then keys else keys ++ k ∷ []) ≡ (if there then map pair_of keys else map pair_of keys ++ pair_of k ∷ [])
  either_way k keys true = refl
  either_way k keys false = map-append pair_of keys (k ∷ [])

  -- a key is added that may be there
  pub key_added : (k : Key) (keys new : List Key) (text : List ℕ) → new ≡ insert_key eq keys k → k.text.items ≡ text → map pair_of new ≡ pairs_and (map pair_of keys) k.column text
  key_added k keys new text told is =
      ap (map pair_of) told ∙ either_way k keys (list_any (eq k) keys)
      ∙ ap (λ there. if there then map pair_of keys else map pair_of keys ++ pair_of k ∷ []) (any_same k keys)
      ∙ ap (pairs_and (map pair_of keys) k.column) is

  -- a key is there
  pub key_there : (k : Key) (keys : List Key) (text : List ℕ) → list_any (eq k) keys ≡ true → k.text.items ≡ text → map pair_of keys ≡ pairs_and (map pair_of keys) k.column text
  key_there k keys text there is =
      ap (λ (t : Bool). if t then map pair_of keys else map pair_of keys ++ pair_of k ∷ []) (sym (sym (any_same k keys) ∙ there))
      ∙ ap (pairs_and (map pair_of keys) k.column) is

-- a pair that stands at a place is there
pub pair_at : (column : ℕ) (text : List ℕ) (keys : List Key) (place : ℕ) (key : Key) → slice_get keys place ≡ Some key → is_pair column text (pair_of key) ≡ true → list_any (is_pair column text) (map pair_of keys) ≡ true
pair_at column text [] place key at is = absurd (let no : ⊥ = cc in no)
pair_at column text (k ∷ keys) zero key at is =
    let same : k ≡ key = cc in
    ap (λ (b : Bool). b || list_any (is_pair column text) (map pair_of keys)) (ap (λ (j : Key). is_pair column text (pair_of j)) same ∙ is)
pair_at column text (k ∷ keys) (suc place) key at is =
    ap (λ (b : Bool). is_pair column text (pair_of k) || b) (pair_at column text keys place key at is) ∙ or-true (is_pair column text (pair_of k))

-- nothing is added for a pair that is there
pub none_added : (pairs : List Pair) (column : ℕ) (text : List ℕ) → list_any (is_pair column text) pairs ≡ true → pairs ≡ pairs_and pairs column text
none_added pairs column text there = ap (λ (t : Bool). if t then pairs else pairs ++ record { column = column; text = text } ∷ []) (sym there)
