-- The words of a part of a file beside those that fix what was found (this loader's profile).
use Rattle.std.specs.Prelude.{ℕ, ◌||◌, Bool, not, List, codes, drop, filter}
use Rattle.std.specs.Str.{bytes_eq}
use Rattle.load_options.specs.Given.{option_part}

-- whether what was found stands for an option: for a part of the file it is told in this one's place
abbrev pub is_found_option : List ℕ → Bool
is_found_option option =
    bytes_eq option (codes "delim") || bytes_eq option (codes "quote") || bytes_eq option (codes "escape") || bytes_eq option (codes "header")
    || bytes_eq option (codes "types") || bytes_eq option (codes "column_types") || bytes_eq option (codes "all_varchar")

-- whether an option is one of the whole file: by what it is cut, and where its parts are told
abbrev pub is_whole_option : List ℕ → Bool
is_whole_option option = bytes_eq option (codes "size") || bytes_eq option (codes "output")

-- whether a part needs the word that gives an option
abbrev pub is_further : List ℕ → Bool
is_further word = not (is_found_option (option_part word) || is_whole_option (option_part word))

-- the words behind the command and the file that each part needs, in their order
abbrev pub further_words : List (List ℕ) → List (List ℕ)
further_words words = filter is_further (drop 2 words)
