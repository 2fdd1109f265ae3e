-- A row that is found where it begins, counted at the front of the bytes from there on or read by its place.
use Rattle.std.proofs.Common.{◌≡◌, ℕ, ◌+◌, ◌<◌, ◌≤◌, true, false, List, drop, length, get_or, refl, sym, ◌∙◌, ap}
use Rattle.std.proofs.lemmas.List.{drop_more}
use Rattle.byte_classes.specs.declared.class.Class.{Class}
use Rattle.byte_classes.specs.Class.{class_of, same_class}
use Rattle.byte_classes.specs.Dialect.{Marks}
use Rattle.quote_automaton.specs.declared.state.State.TheVariants.{RowStart}
use Rattle.quote_automaton.specs.RowEnd.{row_len}
use Rattle.quote_automaton.specs.Rows.{begins_comment, begins_row}
use Rattle.row_fields.specs.Split.{IsSplit, Split, row_from}
use Rattle.dialect_rank.specs.declared.shape.RowShape.{RowShape}
use Rattle.dialect_rank.specs.Sampled.{span_bytes}
use Rattle.dialect_rank.specs.Score.{closed_fields}
use Rattle.dialect_rank.specs.Shape.{closed_in, shape_in, shape_of}
use Rattle.dialect_rank.specs.Walk.{IsRowAt}
use Rattle.dialect_rank.proofs.Shapes.{closed-is, shape-is}
use Rattle.byte_classes.specs.declared.class.Class.TheVariants as class

-- ---- a row begins where no comment does

begins_no_comment : (c : Class) → begins_row RowStart c ≡ true → same_class c class.Comment ≡ false
begins_no_comment class.Lf begins = refl
begins_no_comment class.Cr begins = refl
begins_no_comment class.Delim begins = refl
begins_no_comment class.Quote begins = refl
begins_no_comment class.Escape begins = refl
begins_no_comment class.Comment begins = absurd (let no : ⊥ = cc in no)
begins_no_comment class.Other begins = refl

pub no_comment : (d : Marks) (sample : List ℕ) (at : ℕ) → at < length sample → begins_row RowStart (class_of d (get_or sample at 0)) ≡ true → begins_comment d (drop at sample) ≡ false
no_comment d sample at below begins = ap (begins_comment d) (drop_more sample at 0 below) ∙ begins_no_comment (class_of d (get_or sample at 0)) begins

-- ---- what it counts for

pub read_at : (d : Marks) (sample : List ℕ) (at end : ℕ) (shape : RowShape) (closed : ℕ) (split : Split) → end ≡ at + row_len d sample at → end ≤ length sample → IsSplit d (row_from d sample at) split →
    shape ≡ shape_in split → closed ≡ closed_in split → IsRowAt d sample at (record { from = at; end = end; shape = shape; closed = closed })
read_at d sample at end shape closed split is high reads shape_is closed_is =
    let same : row_from d sample at ≡ span_bytes sample (at, end) = ap (λ n. span_bytes sample (at, n)) (sym is) in
    record {
      from = refl;
      end = is;
      high = high;
      counts = record {
        shape = shape_is ∙ shape-is d (row_from d sample at) split reads ∙ ap (shape_of d) same;
        closed = closed_is ∙ closed-is d (row_from d sample at) split reads ∙ ap (closed_fields d) same;
      };
    }
