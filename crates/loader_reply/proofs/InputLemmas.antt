-- What is read of a file, from the opening on.
use Rattle.std.proofs.Common.{◌≡◌, ◌≤◌, ◌<◌, ◌⊎◌, ℕ, ◌+◌, List, [], ◌++◌, Option, None, Some, length, take, drop, sym, ap, ◌∙◌, arith, inl, inr, append-nil}
use Rattle.std.proofs.Math.Seq.{take-append_seam, drop-append_seam}
use Rattle.std.proofs.lemmas.List.{take_all, drop_all}
use Rattle.std.specs.Io.KnownBytes.{Consumes, IsAtEnd}
use Rattle.csv_source.specs.Files.{Opens}
use Rattle.window_load.specs.DataRead.{ComesWhole, ComesOver}
use Rattle.window_load.specs.Window.{no_bytes}
use Rattle.loader_reply.specs.Loading.{IsInput}

-- bytes that were cut at a limit, or are all and below it
cut : (limit : ℕ) (input bytes rest : List ℕ) → input ≡ bytes ++ rest → (length bytes ≡ limit) ⊎ ((rest ≡ []) × (length bytes < limit))
    → (bytes ≡ take limit input) × (rest ≡ drop limit input)
cut limit input bytes rest split (inl full) = (
  sym (ap (take limit) split ∙ ap (λ n. take n (bytes ++ rest)) (sym full) ∙ take-append_seam bytes rest),
  sym (ap (drop limit) split ∙ ap (λ n. drop n (bytes ++ rest)) (sym full) ∙ drop-append_seam bytes rest),
)
cut limit input bytes rest split (inr all) =
    let same : input ≡ bytes = split ∙ ap (λ xs. bytes ++ xs) all.0 ∙ append-nil bytes in
    let short : length input ≤ limit = omega (arith, ap length same, all.1) in
    (sym (take_all limit input short ∙ same), all.0 ∙ sym (drop_all limit input short))

-- all of a file came, or one byte over its limit
input_cut : (limit : ℕ) (held : Option (List (List ℕ × List ℕ))) (name : List ℕ) (opened left : Option (List ℕ)) (came : List ℕ)
    → Opens held name opened → Consumes opened left came → (length came ≡ limit + 1) ⊎ (IsAtEnd left × (length came < limit + 1)) → IsInput limit held name came left
input_cut limit None name opened left came opens taken end = tt
input_cut limit (Some files) name None left came opens taken end = absurd (let no : ⊥ = cc in no)
input_cut limit (Some files) name (Some input) None came opens taken end = absurd taken
input_cut limit (Some files) name (Some input) (Some rest) came opens taken end =
    let parts = cut (limit + 1) input came rest taken (elim end [ inl full ↦ inl full | inr all ↦ inr (all.0, all.1) ]) in
    (input, sym opens.1, parts.0, ap (λ xs. Some xs) parts.1)

module _ (limit : ℕ) (held : Option (List (List ℕ × List ℕ))) (name : List ℕ) (opened left : Option (List ℕ)) (opens : Opens held name opened) where
  pub input_whole : (Holds : List ℕ → Type 0) → ComesWhole opened left (no_bytes limit) Holds → (bytes : List ℕ) × IsInput limit held name bytes left × (length bytes ≤ limit) × Holds bytes
  input_whole Holds c = (c.0, input_cut limit held name opened left c.0 opens c.1 (inr (c.2, (let fits : length c.0 ≤ limit = c.4 in omega (arith, fits)))), c.4, c.5)

  pub input_over : ComesOver opened left (no_bytes limit) → (bytes : List ℕ) × IsInput limit held name bytes left × (length bytes ≡ limit + 1)
  input_over c = (c.0, input_cut limit held name opened left c.0 opens c.1 (inl c.2), c.2)
