-- Words that give the texts that stand for null (this loader's profile; `nullstr` of DuckDB's manual, "CSV Import").
use Rattle.std.specs.Prelude.{ℕ, ◌&&◌, not, nat_le, Bool, List, [], ◌∷◌, codes, length, unwrap_or}
use Rattle.std.specs.Option.{option_map_or}
use Rattle.std.specs.Str.{byte}
use Rattle.load_options.specs.declared.limits.TheConstants.{NULLS_LIMIT}
use Rattle.load_options.specs.Given.{given}
use Rattle.csv_source.specs.Lists.{is_empty}
use Rattle.load_options.specs.Texts.{all_different, pieces_at}

-- texts cut at each comma: not the empty one alone, not too many, all different
abbrev pub is_null_list : List ℕ → Bool
is_null_list text = let pieces = pieces_at (byte ",") text in
    not (is_empty text) && nat_le (length pieces) NULLS_LIMIT && all_different pieces

-- the texts that stand for null: those of `nulls`, else the one of `nullstr`, else the empty one
abbrev pub null_texts : List (List ℕ) → List (List ℕ)
null_texts words = option_map_or (pieces_at (byte ",")) (given words (codes "nulls")) (unwrap_or (given words (codes "nullstr")) [] ∷ [])
