-- The lines of an explanation (this loader's profile).
use Rattle.std.specs.Prelude.{ℕ, Bool, true, false, List, [], ◌∷◌, ◌++◌, flat_map, codes, Some}
use Rattle.std.specs.Fmt.{decimal}
use Rattle.std.specs.Str.{byte}
use Rattle.csv_source.specs.Line.{line_of}
use Rattle.csv_source.specs.Shown.{shown, shown_option}
use Rattle.value_types.specs.declared.types.ColumnType.{ColumnType}
use Rattle.value_types.specs.TypeName.{name_of_type}
use Rattle.value_types.specs.ValueText.{truth_text}
use Rattle.dialect_rank.specs.declared.scored.Scored.{Scored}
use Rattle.csv_sniffer.specs.ExplanationView.{ExplanationView}
use Rattle.csv_sniffer.specs.declared.explaining.hints.Hint.{Hint}
use Rattle.csv_sniffer.specs.declared.explaining.hints.Hint.TheVariants.{Delim, Comment, Skip, Quote, Varchar, NullText}
use Rattle.csv_sniffer.specs.declared.explaining.whys.Why.{Why}
use Rattle.csv_sniffer.specs.declared.found.Sniffed.{Sniffed}

-- place, bytes and counts of a candidate
abbrev pub candidate_line : Scored → List ℕ
candidate_line c = line_of
    (codes "candidate"
    ∷ decimal c.place
    ∷ shown_option (Some c.dialect.delim)
    ∷ shown_option c.dialect.quote
    ∷ shown_option c.dialect.escape
    ∷ decimal c.score.rows
    ∷ decimal c.score.mode
    ∷ decimal c.score.agree
    ∷ decimal c.score.closed
    ∷ decimal c.score.flawed
    ∷ [])

-- the name of a type behind another one, and the names of types with commas between
abbrev pub further_type : ColumnType → List ℕ
further_type ty = byte "," ∷ name_of_type ty

abbrev pub type_names : List ColumnType → List ℕ
type_names [] = []
type_names (ty ∷ tys) = name_of_type ty ++ flat_map further_type tys

-- the types in a part of their own; none where they can't be given
abbrev pub types_part : Bool → Sniffed → List (List ℕ)
types_part false s = []
types_part true s = (codes "types=" ++ type_names s.types) ∷ []

-- the words that fix what was found, behind the name of their line
abbrev pub fixing_words : Bool → Sniffed → List (List ℕ)
fixing_words fixes_types s =
    codes "words"
    ∷ (codes "delim=" ++ shown_option (Some s.dialect.delim))
    ∷ (codes "quote=" ++ shown_option s.dialect.quote)
    ∷ (codes "escape=" ++ shown_option s.dialect.escape)
    ∷ (codes "header=" ++ truth_text s.header)
    ∷ types_part fixes_types s

abbrev pub words_line : Bool → Sniffed → List ℕ
words_line fixes_types s = line_of (fixing_words fixes_types s)

-- column, type, line and value
abbrev pub why_line : Why → List ℕ
why_line w = line_of (codes "why" ∷ decimal w.column ∷ name_of_type w.ty ∷ decimal w.line ∷ shown w.value ∷ [])

-- the word that gives a column of a name the type VARCHAR
abbrev pub varchar_word : List ℕ → List ℕ
varchar_word name = codes "column_types=" ++ shown name ++ codes ":VARCHAR"

-- the word that may be worth a try
abbrev pub hint_text : Hint → List ℕ
hint_text (Delim delim) = codes "delim=" ++ shown_option (Some delim)
hint_text Comment = codes "comment=#"
hint_text Skip = codes "skip=1"
hint_text Quote = codes "quote="
hint_text (Varchar name) = varchar_word name
hint_text (NullText text) = codes "nulls=," ++ shown text

abbrev pub hint_line : Hint → List ℕ
hint_line hint = line_of (codes "hint" ∷ hint_text hint ∷ [])

-- the candidates, the words that fix what was found, why columns are of no other type, and hints
abbrev pub explanation_lines : Sniffed → ExplanationView → List ℕ
explanation_lines s e =
    flat_map candidate_line e.candidates ++ words_line e.fixes_types s ++ flat_map why_line e.whys ++ flat_map hint_line e.hints
