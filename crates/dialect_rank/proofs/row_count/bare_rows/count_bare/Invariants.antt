use Rattle.std.proofs.Common.{◌≡◌, ℕ, ◌-◌, ◌<◌, ◌≤◌, false, take, length, get_or}
use Rattle.std.specs.Prelude.{◌==◌, count_by}
use Rattle.byte_classes.specs.Special.{is_one_of}
use Rattle.dialect_rank.proofs.row_count.bare_rows.count_bare.Given as goal

-- no byte so far is a line end or the quote, and so many are delimiters
abbrev pub invariant-blocks-2 : goal.invariant-blocks-2
invariant-blocks-2 l = record {
  within : l.at ≤ length l.bytes;
  few : l.delims ≤ l.at;
  bare : (k : ℕ) → k < l.at → is_one_of 10 13 l.quote (get_or l.bytes k 0) ≡ false;
  counted : l.delims ≡ count_by (λ b. b == l.delim) (take l.at l.bytes);
}

abbrev pub decreases-blocks-2 : goal.decreases-blocks-2
decreases-blocks-2 l = length l.bytes - l.at
