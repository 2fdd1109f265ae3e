-- Runs of bytes that pass a test, found 16 lanes at a time.
use Rattle.std.proofs.Common.{◌≡◌, ℕ, zero, suc, ◌+◌, ◌-◌, ◌<◌, ◌≤◌, Bool, true, false, cond, List, [], ◌∷◌, length, take, drop, refl, sym, ◌∙◌, ap, arith, length-drop}
use Rattle.std.specs.List.{prefix_len}
use Rattle.std.proofs.lemmas.List.{drop-drop, take_all}

module _ {X : Type 0} (p : X → Bool) where
  -- a front that passes whole is a part of the run
  pub run_on : (n : ℕ) (xs : List X) → prefix_len p (take n xs) ≡ n → prefix_len p xs ≡ n + prefix_len p (drop n xs)
  run_on zero xs h = omega arith
  run_on (suc n) [] h = absurd (let no : ⊥ = omega (arith, h) in no)
  run_on (suc n) (x ∷ xs) h =
      (elim (p x) as (λ b. cond b (1 + prefix_len p (take n xs)) 0 ≡ suc n → cond b (1 + prefix_len p xs) 0 ≡ suc n + prefix_len p (drop n xs)) [
        | true ↦ λ e. (let rest = run_on n xs (omega (arith, e)) in omega (arith, rest))
        | false ↦ λ e. absurd (let no : ⊥ = omega (arith, e) in no)
      ]) h

  -- a run that ends in a front
  pub run_ends : (n : ℕ) (xs : List X) → n ≤ length xs → prefix_len p (take n xs) < n → prefix_len p xs ≡ prefix_len p (take n xs)
  run_ends zero xs le h = absurd (let no : ⊥ = omega (arith, h) in no)
  run_ends (suc n) [] le h = absurd (let no : ⊥ = omega (arith, le) in no)
  run_ends (suc n) (x ∷ xs) le h =
      (elim (p x) as (λ b. cond b (1 + prefix_len p (take n xs)) 0 < suc n → cond b (1 + prefix_len p xs) 0 ≡ cond b (1 + prefix_len p (take n xs)) 0) [
        | true ↦ λ lt. ap (λ k. 1 + k) (run_ends n xs (omega (arith, le)) (omega (arith, lt)))
        | false ↦ λ lt. refl
      ]) h

  -- the run from a place on, by the 16 bytes there
  pub run_in_lanes : (bytes : List X) (at run : ℕ) → 16 ≤ length bytes - at → run ≡ prefix_len p (take 16 (drop at bytes)) → run < 16 → run ≡ prefix_len p (drop at bytes)
  run_in_lanes bytes at run room is lt =
      let count = length-drop at bytes in
      is ∙ sym (run_ends 16 (drop at bytes) (omega (arith, count, room)) (omega (arith, sym is, lt)))

  pub run_past_lanes : (bytes : List X) (at run : ℕ) → run ≡ prefix_len p (take 16 (drop at bytes)) → run ≡ 16 → prefix_len p (drop at bytes) ≡ 16 + prefix_len p (drop (at + 16) bytes)
  run_past_lanes bytes at run is full = run_on 16 (drop at bytes) (sym is ∙ full) ∙ ap (λ xs. 16 + prefix_len p xs) (drop-drop 16 at bytes)

  -- or by the last 16 bytes, of which some are passed over
  pub run_in_last : (bytes : List X) (at last : ℕ) → last + 16 ≡ length bytes → last ≤ at → prefix_len p (drop (at - last) (take 16 (drop last bytes))) ≡ prefix_len p (drop at bytes)
  run_in_last bytes at last is behind =
      let place : last + (at - last) ≡ at = omega (arith, behind) in
      ap (λ xs. prefix_len p (drop (at - last) xs)) (take_all 16 (drop last bytes) (omega (arith, length-drop last bytes, is)))
      ∙ ap (prefix_len p) (drop-drop (at - last) last bytes ∙ ap (λ k. drop k bytes) place)
