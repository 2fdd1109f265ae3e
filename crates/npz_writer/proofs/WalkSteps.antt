-- The next block of a walk.
use Rattle.std.proofs.Common.{◌≡◌, ℕ, ◌+◌, ◌<◌, ◌≤◌, List, [], ◌∷◌, ◌++◌, length, take, get_or, Some, refl, sym, ap, ◌∙◌, subst, arith, length-append, length-take}
use Rattle.std.specs.Prelude.{All, slice_get}
use Rattle.std.proofs.lemmas.Option.{slice_get_within}
use Rattle.std.proofs.lemmas.List.{drop_all, map-append, nil_from_length}
use Rattle.std.proofs.lemmas.List.Elements.{All-head, All-tail}
use Rattle.value_types.specs.Datum.{Datum, null}
use Rattle.value_types.specs.declared.types.ColumnType.{ColumnType}
use Rattle.value_types.specs.Views.{view_cells}
use Rattle.column_store.specs.ChunkView.{ChunkView}
use Rattle.column_store.specs.TableView.{column_of}
use Rattle.column_store.specs.ViewTypes.{type_of_view}
use Rattle.npz_writer.specs.declared.part.Part.{Part}
use Rattle.npz_writer.specs.declared.part.Part.TheVariants.{Values, Ends, Nulls}
use Rattle.npz_writer.specs.declared.run.Run.{Run}
use Rattle.npz_writer.specs.Arrays.{bytes_from}
use Rattle.npz_writer.specs.Walks.{Fills, HasColumn, IsRun, IsWalk, Steps, WalkView, rest, run_bytes, run_cells}

abbrev pub view_of : Part → Run → List Datum → ℕ → WalkView
view_of part run later chunks = record { ty = type_of_view run.view; part = part; pending = run.pending.now; begin = run.begin; cells = run_cells run ++ later; chunks = chunks }

-- a run fills a block
pub filled_step : (part : Part) (old new : Run) (count : ℕ) (block : List ℕ) (later : List Datum) (chunks : ℕ) → Fills part old new count block → Steps (view_of part old later chunks) (view_of part new later chunks) count block
filled_step part old new count block later chunks fills =
    let whole : run_bytes part old later ≡ take count block ++ run_bytes part new later = fills.bytes later in
    let size : length (run_bytes part old later) ≡ length (take count block) + length (run_bytes part new later) = ap length whole ∙ length-append (take count block) (run_bytes part new later) in
    record {
      within = fills.within;
      bytes = whole;
      fewer = omega (arith, size, fills.within, fills.moved, length-take count block, length-append (run_cells old) later, length-append (run_cells new) later);
    }

module _ (run : Run) (ended : run.rows ≤ run.row) where
  pub no_cells : run_cells run ≡ []
  no_cells = drop_all run.row (take run.rows (view_cells run.view)) (omega (arith, ended, length-take run.rows (view_cells run.view)))

-- no byte of no cell
pub no_bytes : (ty : ColumnType) (part : Part) (begin : ℕ) → bytes_from ty part begin [] ≡ []
no_bytes ty Values begin = refl
no_bytes ty Ends begin = refl
no_bytes ty Nulls begin = refl

-- a chunk comes behind a run that has ended
pub chunk_step : (part : Part) (old new : Run) (column : ℕ) (chunk_rows rows rest_rows : List (List Datum)) (chunks fewer : ℕ) (block : List ℕ) → old.rows ≤ old.row → length old.pending.now ≡ 0
    → type_of_view new.view ≡ type_of_view old.view → new.pending.now ≡ [] → new.begin ≡ old.begin → run_cells new ≡ column_of chunk_rows column → rows ≡ chunk_rows ++ rest_rows → fewer < chunks
    → Steps (view_of part old (column_of rows column) chunks) (view_of part new (column_of rest_rows column) fewer) 0 block
chunk_step part old new column chunk_rows rows rest_rows chunks fewer block ended none ty pending begin cells rows_are less =
    let cells_same : run_cells old ++ column_of rows column ≡ run_cells new ++ column_of rest_rows column =
    ap (λ cs. cs ++ column_of rows column) (no_cells old ended) ∙ ap (λ rs. column_of rs column) rows_are
    ∙ map-append (λ (row : List Datum). get_or row column null) chunk_rows rest_rows ∙ ap (λ cs. cs ++ column_of rest_rows column) (sym cells) in
    let same : rest (view_of part old (column_of rows column) chunks) ≡ rest (view_of part new (column_of rest_rows column) fewer) =
    λ i. (nil_from_length old.pending.now none ∙ sym pending) i ++ bytes_from (sym ty i) part (sym begin i) (cells_same i) in
    record {
      within = omega arith;
      bytes = same;
      fewer = omega (arith, ap length same, ap length cells_same, less);
    }

-- nothing comes any more
pub walk_ends : (part : Part) (run : Run) (column chunks : ℕ) (rows : List (List Datum)) → run.rows ≤ run.row → length run.pending.now ≡ 0 → rows ≡ [] → rest (view_of part run (column_of rows column) chunks) ≡ []
walk_ends part run column chunks rows ended none no_rows =
    (λ i. nil_from_length run.pending.now none i ++ bytes_from (type_of_view run.view) part run.begin (no_cells run ended i ++ column_of (no_rows i) column)) ∙ no_bytes (type_of_view run.view) part run.begin

-- ---- what stays of a walk

same_type : {A : Type 0} (types : List A) (column : ℕ) (a b : A) → slice_get types column ≡ Some a → slice_get types column ≡ Some b → b ≡ a
same_type types column a b one two = cc

module _ (part : Part) (old new : Run) (column : ℕ) (chunks rest_chunks : List ChunkView) (chunk last : ChunkView) (walk : IsWalk part old column chunks last) where
  -- the first chunk that is to come has come
  module _ (is : chunks ≡ chunk ∷ rest_chunks) (ty : slice_get chunk.types column ≡ Some (type_of_view new.view)) where
    pub first_type : type_of_view new.view ≡ type_of_view old.view
    first_type =
        same_type chunk.types column (type_of_view old.view) (type_of_view new.view)
        (All-head (HasColumn column (type_of_view old.view)) chunk rest_chunks (subst (All (HasColumn column (type_of_view old.view))) is walk.later)) ty

    pub first_walk : IsRun part new → IsWalk part new column rest_chunks last
    first_walk run = record {
      run = run;
      later =
          subst (λ t. All (HasColumn column t) rest_chunks) (sym first_type)
          (All-tail (HasColumn column (type_of_view old.view)) chunk rest_chunks (subst (All (HasColumn column (type_of_view old.view))) is walk.later));
      last = subst (λ t. HasColumn column t last) (sym first_type) walk.last;
    }

  pub last_within : column < length last.types
  last_within = slice_get_within last.types column (type_of_view old.view) walk.last

  pub last_type : slice_get last.types column ≡ Some (type_of_view new.view) → type_of_view new.view ≡ type_of_view old.view
  last_type ty = same_type last.types column (type_of_view old.view) (type_of_view new.view) walk.last ty
