-- What a range's rows come to that stand behind those before them.
use Rattle.std.proofs.Common.{◌≡◌, ℕ, ◌+◌, Bool, cond, List, ◌++◌, refl, sym, ap, ◌∙◌}
use Rattle.std.proofs.lemmas.List.{append_assoc}
use Rattle.quote_automaton.specs.declared.state.State.{State}
use Rattle.column_store.specs.ChunkView.{ChunkView}
use Rattle.column_store.specs.Stacked.{rows_in}
use Rattle.column_store.specs.TableView.{TableView}
use Rattle.reject_book.specs.BookView.{BookView}
use Rattle.reject_book.specs.Kept.{joined as books_joined}
use Rattle.range_guess.specs.Rescans.{is_again}
use Rattle.range_scan.specs.declared.joined.Joined.{Joined}
use Rattle.range_scan.specs.declared.grown.Grown.{Grown}
use Rattle.range_scan.specs.Grown.{IsGrownBy}
use Rattle.range_scan.specs.Joined.{AddsRange}
use Rattle.range_scan.specs.Scanned.{Scanned}

-- the next range is added, where the last chunk grew by it
pub adds_grown : (part : Scanned) (first : State) (bytes : ℕ) (front : List ChunkView) (last : ChunkView) (grown : Grown) (table : TableView) (book : BookView) (lines : ℕ) (again : Bool) (old new : Joined) →
    IsGrownBy part last grown → rows_in front ++ last.rows ≡ old.table.rows → old.table.types ≡ part.types →
    table ≡ record { types = grown.chunk.types; rows = rows_in front ++ grown.chunk.rows; spare = grown.chunk.spare } →
    book ≡ books_joined old.line_ends old.book grown.book → lines ≡ old.line_ends + grown.line_ends → again ≡ is_again first old.end →
    new ≡ record { end = grown.end; table = table; book = book; line_ends = lines; rescans = old.rescans + cond again 1 0; rescanned = old.rescanned + cond again bytes 0 } →
    AddsRange part first bytes old new
adds_grown part first bytes front last grown table book lines again old new is before types table_is book_is lines_are again_is new_is = record {
  next = record {
    end = part.end;
    table = record { types = part.types; rows = part.rows; spare = 0 };
    book = part.book;
    line_ends = part.line_ends;
    rescans = cond (is_again first old.end) 1 0;
    rescanned = cond (is_again first old.end) bytes 0;
  };
  of = record { end = refl; types = refl; rows = refl; book = refl; line_ends = refl; rescans = refl; rescanned = refl };
  adds = record {
    end = ap (λ (j : Joined). j.end) new_is ∙ is.end;
    types = ap (λ (j : Joined). j.table.types) new_is ∙ ap (λ (t : TableView). t.types) table_is ∙ is.types ∙ sym types;
    rows = ap (λ (j : Joined). j.table.rows) new_is ∙ ap (λ (t : TableView). t.rows) table_is ∙ ap (λ rs. rows_in front ++ rs) is.rows ∙ sym (append_assoc (rows_in front) last.rows part.rows)
        ∙ ap (λ rs. rs ++ part.rows) before;
    book = ap (λ (j : Joined). j.book) new_is ∙ book_is ∙ ap (books_joined old.line_ends old.book) is.book;
    line_ends = ap (λ (j : Joined). j.line_ends) new_is ∙ lines_are ∙ ap (λ n. old.line_ends + n) is.line_ends;
    rescans = ap (λ (j : Joined). j.rescans) new_is ∙ ap (λ b. old.rescans + cond b 1 0) again_is;
    rescanned = ap (λ (j : Joined). j.rescanned) new_is ∙ ap (λ b. old.rescanned + cond b bytes 0) again_is;
  };
}
