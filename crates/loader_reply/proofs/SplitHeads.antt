-- The head of a file that is split tells what is found in the whole file.
use Rattle.std.proofs.Common.{◌≡◌, ◌⊎◌, inl, inr, ℕ, ◌+◌, ◌-◌, ◌≤◌, Bool, true, false, ◌||◌, List, [], ◌++◌, length, take, Option, refl, sym, ◌∙◌, ap, ap₂, arith, append-nil, length-append}
use Rattle.std.specs.Prelude.{nat_le}
use Rattle.std.specs.Io.KnownBytes.{Consumes}
use Rattle.std.proofs.KnownBytes.{Consumes-trans}
use Rattle.std.proofs.Math.Seq.{take-append_seam, take-append-add}
use Rattle.std.proofs.lemmas.Bool.{le-leb, lt-leb}
use Rattle.load_options.specs.declared.options.Options.{Options}
use Rattle.csv_sniffer.specs.declared.finding.Finding.{Finding}
use Rattle.csv_sniffer.specs.declared.found.Sniffed.{Sniffed}
use Rattle.csv_sniffer.specs.Input.{found, place_under}
use Rattle.csv_sniffer.specs.Sample.{sample_limit, start_of_sample}
use Rattle.part_cuts.specs.Reading.{Reading}
use Rattle.part_cuts.specs.Within.{most_bytes}
use Rattle.file_split.specs.declared.file_piece.FilePiece.{FilePiece}
use Rattle.file_split.specs.WholeFile.{cuts_of, ComesAll, ComesMore}
use Rattle.window_load.specs.DataRead.{ComesWhole, ComesOver}
use Rattle.window_load.specs.Window.{no_bytes}
use Rattle.loader_reply.specs.declared.split_head.TheConstants.{HEAD_LIMIT}
use Rattle.loader_reply.specs.Batch.{IsOpened, IsReadWhole, IsReadOver}
use Rattle.loader_reply.specs.Loading.{GoesBehindSample, IsFinding}
use Rattle.loader_reply.specs.Splitting.{cut_rule, lies_within, split_outcome, split_told, IsSplitHead}
use Rattle.loader_reply.proofs.HeadLaws.{found_in_head, start-more}
use Rattle.loader_reply.proofs.InputLemmas.{input_whole, input_over}

or-true : (t : Bool) → t || true ≡ true
or-true true = refl
or-true false = refl

module _ (skip : ℕ) (held : FilePiece) (came : List ℕ) (quiet : held.ended ≡ true → came ≡ []) where
  abbrev input : List ℕ
  input = held.bytes ++ came

  abbrev front : List ℕ
  front = take (HEAD_LIMIT + 1) input

  -- a head from which the sample can be told
  suffices : IsSplitHead skip held true → (came ≡ []) ⊎ GoesBehindSample skip held.bytes
  suffices (within, inl ended) = inl (quiet ended.0)
  suffices (within, inr far) = inr far

  front_of : length held.bytes ≤ HEAD_LIMIT + 1 → front ≡ held.bytes ++ take (HEAD_LIMIT + 1 - length held.bytes) came
  front_of within = take_behind (HEAD_LIMIT + 1) held.bytes came within where
    take_behind : (n : ℕ) (xs ys : List ℕ) → length xs ≤ n → take n (xs ++ ys) ≡ xs ++ take (n - length xs) ys
    take_behind n xs ys le =
        let same : n ≡ length xs + (n - length xs) = omega (arith, le) in
        ap (λ k. take k (xs ++ ys)) same ∙ take-append-add xs ys (n - length xs)

  within_head : IsSplitHead skip held true → lies_within skip input ≡ true
  within_head (within, inl ended) =
      let all : input ≡ held.bytes = ap (λ (l : List ℕ). held.bytes ++ l) (quiet ended.0) ∙ append-nil held.bytes in
      ap (λ t. t || nat_le (start_of_sample skip front + sample_limit) HEAD_LIMIT) (le-leb (length input) HEAD_LIMIT (omega (arith, ap length all, ended.1)))
  within_head (within, inr far) =
      let start : start_of_sample skip front ≡ start_of_sample skip held.bytes =
      ap (start_of_sample skip) (front_of within) ∙ start-more skip held.bytes (take (HEAD_LIMIT + 1 - length held.bytes) came) far in
      ap (λ t. nat_le (length input) HEAD_LIMIT || t) (le-leb (start_of_sample skip front + sample_limit) HEAD_LIMIT (omega (arith, start, far, within)))
      ∙ or-true (nat_le (length input) HEAD_LIMIT)

  behind_head : IsSplitHead skip held false → lies_within skip input ≡ false
  behind_head (full, short) =
      let same : front ≡ held.bytes = ap (λ n. take n input) (sym full) ∙ take-append_seam held.bytes came in
      let start : start_of_sample skip front ≡ start_of_sample skip held.bytes = ap (start_of_sample skip) same in
      ap₂ (λ t u. t || u) (lt-leb (length input) HEAD_LIMIT (omega (arith, full, length-append held.bytes came)))
      (lt-leb (start_of_sample skip front + sample_limit) HEAD_LIMIT (omega (arith, start, full, short)))

pub head_short : (skip : ℕ) (held : FilePiece) (lies : Bool) → IsSplitHead skip held lies → length held.bytes ≤ most_bytes
head_short skip held true (within, holds) = omega (arith, within)
head_short skip held false (full, short) = omega (arith, full)

-- what is told by what was found in the head is told of the whole file
module _ (o : Options) (words : List (List ℕ)) (held : FilePiece) (finding : Finding) (found_here : IsFinding o held.bytes finding) (came : List ℕ) (quiet : held.ended ≡ true → came ≡ []) where
  abbrev whole : List ℕ
  whole = held.bytes ++ came

  abbrev told_in : Bool → Sniffed → ℕ → Reading → Type 0
  told_in lies s start cuts = split_told o words lies s (cuts_of (cut_rule o s) start whole) ≡ split_outcome o words whole

  pub told_in_all : (lies : Bool) (cuts : Reading) → IsSplitHead o.skip held lies → cuts ≡ cuts_of (cut_rule o finding.sniffed) finding.data_start whole →
      split_told o words lies finding.sniffed cuts ≡ split_outcome o words whole
  told_in_all true cuts head is =
      let same = found_in_head o held.bytes came (suffices o.skip held came quiet head) in
      let s : finding.sniffed ≡ found o whole = found_here.sniffed ∙ sym same.0 in
      let start : finding.data_start ≡ place_under o finding.sniffed whole = found_here.place ∙ sym (same.2 finding.sniffed) in
      ap (split_told o words true finding.sniffed) (is ∙ ap (λ n. cuts_of (cut_rule o finding.sniffed) n whole) start)
      ∙ (ap (λ (t : Sniffed). split_told o words true t (cuts_of (cut_rule o t) (place_under o t whole) whole)) s
      ∙ ap (λ lies. split_told o words lies (found o whole) (cuts_of (cut_rule o (found o whole)) (place_under o (found o whole) whole) whole)) (sym (within_head o.skip held came quiet head)))
  told_in_all false cuts head is =
      ap (λ lies. split_told o words lies (found o whole) (cuts_of (cut_rule o (found o whole)) (place_under o (found o whole) whole) whole)) (sym (behind_head o.skip held came quiet head))

-- a file that is read by its head and what comes behind it
module _ (limit : ℕ) (held : Option (List (List ℕ × List ℕ))) (name : List ℕ) (before after : Option (List ℕ)) (head : FilePiece)
    (opened : IsOpened held name (λ first. Consumes first before head.bytes)) where
  pub all_read : (Holds : List ℕ → Type 0) → ComesAll before after head limit Holds → IsReadWhole limit held name after Holds
  all_read Holds c =
      let came : ComesWhole opened.0 after (no_bytes limit) Holds = (
        head.bytes ++ c.0,
        Consumes-trans opened.0 before after head.bytes c.0 opened.2 c.1,
        c.2,
        λ ended. absurd (let wrong : ⊥ = cc in wrong),
        c.4,
        c.5,
      ) in input_whole limit held name opened.0 after opened.1 Holds came

  pub more_read : ComesMore before after head limit → IsReadOver limit held name after
  more_read c =
      let came : ComesOver opened.0 after (no_bytes limit) = (head.bytes ++ c.0, Consumes-trans opened.0 before after head.bytes c.0 opened.2 c.1, c.2) in
      input_over limit held name opened.0 after opened.1 came
