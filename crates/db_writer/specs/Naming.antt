-- The names of columns in a database (SQLite, "SQL Language Expressions": names are compared without ASCII case; how equal ones are made different is this writer's profile).
use Rattle.std.specs.Prelude.{◌≡◌, ℕ, ◌+◌, ◌<◌, ◌==◌, true, Bool, if◌then◌else◌, List, [], ◌∷◌, ◌++◌, length, map, codes}
use Rattle.std.specs.Char.{to_ascii_lowercase}
use Rattle.std.specs.Str.{byte}
use Rattle.std.specs.Fmt.{decimal}
use Rattle.load_options.specs.Texts.{is_among}
use Rattle.csv_sniffer.specs.ColumnNames.{first_free, is_key, number_of}

-- a name with ASCII capitals as small letters
abbrev pub folded : List ℕ → List ℕ
folded name = map to_ascii_lowercase name

-- a name with each NUL byte, which would end it, as `_`
abbrev pub clean_name : List ℕ → List ℕ
clean_name name = map (λ b. if b == 0 then byte "_" else b) name

-- whether an earlier name is the same without ASCII case
abbrev pub is_same_name : List (List ℕ) → List ℕ → Bool
is_same_name earlier name = is_among (map folded earlier) (folded name)

-- the same, where the earlier names are keys of a set, folded
abbrev pub is_taken : {K : Type 0} → List K → (K → List ℕ) → List ℕ → Bool
is_taken keys text name = is_key keys text (folded name)

-- a folded name is taken with each number from 1 to this one
abbrev pub IsTakenTo : {K : Type 0} → List K → (K → List ℕ) → List ℕ → ℕ → Type 0
IsTakenTo keys text name number = (n : ℕ) → n < number → is_key keys text (name ++ folded (codes "_" ++ decimal (n + 1))) ≡ true

-- each folded name is taken up to the number that is noted for it
abbrev pub NumbersAreTaken : {K : Type 0} → List K → List (K × ℕ) → (K → List ℕ) → Type 0
NumbersAreTaken {K} keys numbers text = (name : K) → IsTakenTo keys text (text name) (number_of numbers text name)

-- names made different without ASCII case, from left to right, behind earlier ones: a name, or the first of the name with `_1`, `_2` and so on
abbrev pub names_apart : List (List ℕ) → List (List ℕ) → List (List ℕ)
names_apart earlier [] = []
names_apart earlier (name ∷ names) =
    let free = first_free (is_same_name earlier) (length earlier) name in free ∷ names_apart (free ∷ earlier) names

abbrev pub database_names : List (List ℕ) → List (List ℕ)
database_names names = names_apart [] (map clean_name names)
