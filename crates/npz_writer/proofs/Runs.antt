-- A run of rows whose bytes come in blocks.
use Rattle.std.proofs.Common.{◌≡◌, ℕ, ◌+◌, ◌-◌, ◌<◌, ◌≤◌, true, List, [], ◌++◌, length, map, take, drop, sym, ap, ◌∙◌, subst, arith, append_assoc, length-drop, length-take}
use Rattle.std.specs.Prelude.{flat_map, slice_range}
use Rattle.std.proofs.lemmas.List.Concat.{flat_map-append}
use Rattle.std.proofs.lemmas.Slice.{between_is}
use Rattle.value_types.specs.Datum.{Datum}
use Rattle.value_types.specs.declared.types.ColumnType.{ColumnType}
use Rattle.value_types.specs.Views.{HasRows, view_cells}
use Rattle.column_store.specs.ViewTypes.{type_of_view}
use Rattle.npz_writer.specs.declared.part.Part.{Part}
use Rattle.npz_writer.specs.declared.part.Part.TheVariants.{Values}
use Rattle.npz_writer.specs.declared.run.Run.{Run}
use Rattle.npz_writer.specs.Arrays.{bytes_from, cell_bytes}
use Rattle.npz_writer.specs.Blocks.{end_of}
use Rattle.npz_writer.specs.Walks.{Fills, IsRun, run_bytes, run_cells, takes_texts}
use Rattle.npz_writer.proofs.Parts.{bytes_from-append, bytes_of_slices, cut_at}
use Rattle.npz_writer.proofs.TextSteps.{flat}
use Rattle.npz_writer.proofs.ViewLengths.{cells_of_rows}

pub length-run_cells : (run : Run) → HasRows run.rows run.view → length (run_cells run) ≡ run.rows - run.row
length-run_cells run long =
    let cells : List Datum = view_cells run.view in
    omega (arith, length-drop run.row (take run.rows cells), length-take run.rows cells, cells_of_rows run.rows run.view long)

-- rows up to a place have come out, in so many bytes
module _ (part : Part) (old new : Run) (count : ℕ) (block : List ℕ) (is : IsRun part old) (view : new.view ≡ old.view) (rows : new.rows ≡ old.rows) (more : old.row < new.row) (within : new.row ≤ old.rows)
    (none_old : old.pending.now ≡ []) (none_new : new.pending.now ≡ []) (room : count ≤ length block)
    (bytes : take count block ≡ bytes_from (type_of_view old.view) part old.begin (slice_range (view_cells old.view) old.row new.row))
    (later_bytes : (later : List Datum) → bytes_from (type_of_view old.view) part new.begin later ≡ bytes_from (type_of_view old.view) part (end_of old.begin (slice_range (view_cells old.view) old.row new.row)) later) where
  ty : ColumnType
  ty = type_of_view old.view

  cells : List Datum
  cells = view_cells old.view

  long_new : HasRows new.rows new.view
  long_new = subst (λ (n : ℕ). HasRows n new.view) (sym rows) (subst (HasRows old.rows) (sym view) is.long)

  cells_cut : run_cells old ≡ slice_range (view_cells old.view) old.row new.row ++ run_cells new
  cells_cut = cut_at (view_cells old.view) old.row new.row old.rows (omega (arith, more)) within ∙ (λ i. slice_range (view_cells old.view) old.row new.row ++ drop new.row (take (sym rows i) (view_cells (sym view i))))

  all_bytes : (later : List Datum) → run_bytes part old later ≡ take count block ++ run_bytes part new later
  all_bytes later =
      let t : ColumnType = type_of_view old.view in
      let done : List Datum = slice_range (view_cells old.view) old.row new.row in
      let rest : List Datum = run_cells new ++ later in
      ap (λ p. p ++ bytes_from t part old.begin (run_cells old ++ later)) none_old
      ∙ ap (λ cs. bytes_from t part old.begin (cs ++ later)) cells_cut ∙ ap (bytes_from t part old.begin) (append_assoc done (run_cells new) later)
      ∙ bytes_from-append t part old.begin done rest
      ∙ (λ i. sym bytes i ++ sym (later_bytes rest) i)
      ∙ (λ i. take count block ++ (sym none_new i ++ bytes_from (type_of_view (sym view i)) part new.begin rest))

  pub filled : Fills part old new count block
  filled = record {
    is = record { long = long_new; within = omega (arith, within, rows); pending = λ _. none_new };
    view = view;
    rows = rows;
    within = room;
    bytes = all_bytes;
    moved = omega (arith, length-run_cells old is.long, length-run_cells new long_new, rows, more, within);
  }

-- texts up to a place have come out, the last one perhaps in part, in so many bytes
module _ (old new : Run) (count : ℕ) (block : List ℕ) (texts : List (List ℕ)) (is : IsRun Values old) (view : new.view ≡ old.view) (rows : new.rows ≡ old.rows) (begin : new.begin ≡ old.begin)
    (kind : takes_texts Values (type_of_view old.view) ≡ true) (within : new.row ≤ old.rows) (room : count ≤ length block)
    (column : map (cell_bytes (type_of_view old.view)) (view_cells old.view) ≡ map (λ text. text) texts)
    (bytes : old.pending.now ++ flat (slice_range texts old.row old.rows) ≡ take count block ++ (new.pending.now ++ flat (slice_range texts new.row old.rows)))
    (moved : old.rows - new.row < old.rows - old.row + count) where
  texts_long : HasRows new.rows new.view
  texts_long = subst (λ (n : ℕ). HasRows n new.view) (sym rows) (subst (HasRows old.rows) (sym view) is.long)

  -- the bytes of the rows behind one
  row_bytes : (row : ℕ) → flat (slice_range texts row old.rows) ≡ flat_map (cell_bytes (type_of_view old.view)) (drop row (take old.rows (view_cells old.view)))
  row_bytes row =
      bytes_of_slices (cell_bytes (type_of_view old.view)) (λ text. text) (view_cells old.view) texts row old.rows column
      ∙ ap (flat_map (cell_bytes (type_of_view old.view))) (between_is (view_cells old.view) row old.rows)

  text_bytes : (later : List Datum) → run_bytes Values old later ≡ take count block ++ run_bytes Values new later
  text_bytes later =
      let f : Datum → List ℕ = cell_bytes (type_of_view old.view) in
      let rest : List ℕ = flat_map f later in
      let cells_new : List Datum = drop new.row (take old.rows (view_cells old.view)) in
      ap (λ xs. old.pending.now ++ xs) (flat_map-append f (run_cells old) later ∙ ap (λ xs. xs ++ rest) (sym (row_bytes old.row)))
      ∙ sym (append_assoc old.pending.now (flat (slice_range texts old.row old.rows)) rest)
      ∙ ap (λ xs. xs ++ rest) (bytes ∙ ap (λ xs. take count block ++ (new.pending.now ++ xs)) (row_bytes new.row))
      ∙ append_assoc (take count block) (new.pending.now ++ flat_map f cells_new) rest
      ∙ ap (λ xs. take count block ++ xs) (append_assoc new.pending.now (flat_map f cells_new) rest ∙ ap (λ xs. new.pending.now ++ xs) (sym (flat_map-append f cells_new later)))
      ∙ (λ i. take count block ++ (new.pending.now ++ flat_map (cell_bytes (type_of_view (sym view i))) (drop new.row (take (sym rows i) (view_cells (sym view i))) ++ later)))

  pub filled_texts : Fills Values old new count block
  filled_texts = record {
    is = record { long = texts_long; within = omega (arith, within, rows); pending = λ no. absurd (let wrong : ⊥ = cc (ap (λ (v : _). takes_texts Values (type_of_view v)) view, no, kind) in wrong) };
    view = view;
    rows = rows;
    within = room;
    bytes = text_bytes;
    moved = omega (arith, length-run_cells old is.long, length-run_cells new texts_long, rows, within, moved);
  }
