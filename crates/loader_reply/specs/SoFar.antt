-- How far the reading of several files has come, one after another.
use Rattle.std.specs.Prelude.{◌≡◌, ℕ, zero, suc, ◌+◌, ◌≤◌, List, [], ◌∷◌, ◌++◌, length, drop, map, Option, None, Some, ⊤}
use Rattle.csv_source.specs.Files.{file_of}
use Rattle.load_options.specs.declared.options.Options.{Options}
use Rattle.csv_sniffer.specs.declared.found.Sniffed.{Sniffed}
use Rattle.csv_sniffer.specs.Input.{found}
use Rattle.loader_reply.specs.declared.batch.Load.{Load}
use Rattle.loader_reply.specs.declared.batch.Load.TheVariants as loads
use Rattle.window_load.specs.declared.data_read.WindowRead.{WindowRead}
use Rattle.loader_reply.specs.Batch.{batch_error, batch_of, batch_stats, other_header_in}
use Rattle.loader_reply.specs.Loading.{IsFileLoad, IsLaterLoad}

-- the files, where they are told
abbrev pub Told : Type 0
Told = Option (List (List ℕ × List ℕ))

-- nothing is left, where files are told
abbrev pub LeavesNone : Told → Option (List ℕ) → Type 0
LeavesNone None left = ⊤
LeavesNone (Some files) left = left ≡ Some []

-- ---- the files that were read

-- none is over the limit
abbrev pub AreShort : ℕ → List (List ℕ) → Type 0
AreShort limit [] = ⊤
AreShort limit (input ∷ inputs) = (length input ≤ limit) × AreShort limit inputs

-- the files are these, where they are told
abbrev pub AreOf : Told → List (List ℕ) → List (List ℕ) → Type 0
AreOf None names inputs = ⊤
AreOf (Some files) names inputs = map (file_of files) names ≡ map (λ input. Some input) inputs

-- of all names the later ones are left
pub record AreSoFar (limit : ℕ) (held : Told) (all later : List (List ℕ)) : Type 0 where
  pub names : List (List ℕ)
  pub inputs : List (List ℕ)
  pub split : all ≡ names ++ later
  pub as_many : length names ≡ length inputs
  pub short : AreShort limit inputs
  pub of : AreOf held names inputs

-- ---- with what they come to

-- what was found was found in the first
abbrev pub IsFoundIn : Options → Sniffed → List (List ℕ) → Type 0
IsFoundIn o s [] = ⊤
IsFoundIn o s (input ∷ inputs) = s ≡ found o input

-- what a file comes to: the first one's header is its own
abbrev pub IsNextLoad : Options → Sniffed → ℕ → List ℕ → Option WindowRead → Type 0
IsNextLoad o s zero input None = ⊥
IsNextLoad o s zero input (Some read) = IsFileLoad o s 0 input read
IsNextLoad o s (suc n) input load = IsLaterLoad o s (suc n) input load

-- the later ones of some files begin with another header
abbrev pub other_so_far : Options → Sniffed → List (List ℕ) → List (List ℕ) → Option (List ℕ)
other_so_far o s names inputs = other_header_in o s (drop 1 names) (drop 1 inputs)

-- all of the files so far, or the first error where it ends the load, or the first one that begins with another header
abbrev pub IsSoFarLoad : Options → Sniffed → List (List ℕ) → List (List ℕ) → Load → Type 0
IsSoFarLoad o s names inputs (loads.Whole batch stats) =
    (other_so_far o s names inputs ≡ None) × (batch_error o s inputs ≡ None) × (batch ≡ batch_of o s names inputs) × (stats ≡ batch_stats o s inputs)
IsSoFarLoad o s names inputs (loads.FirstError reject) = (other_so_far o s names inputs ≡ None) × (batch_error o s inputs ≡ Some reject)
IsSoFarLoad o s names inputs (loads.OtherHeader name) = other_so_far o s names inputs ≡ Some name

pub record IsSoFar (o : Options) (s : Sniffed) (held : Told) (all later : List (List ℕ)) (number : ℕ) (load : Load) : Type 0 where
  pub read : AreSoFar o.max_input held all later
  pub numbered : number ≡ length read.inputs
  pub found_in : IsFoundIn o s read.inputs
  pub loads : IsSoFarLoad o s read.names read.inputs load

-- a file was read: wherever it comes next in the reading of some files, these are so far with it, and nothing of it is left
abbrev pub ReadsNext : Options → Sniffed → Told → List ℕ → ℕ → Load → Load → Option (List ℕ) → Type 0
ReadsNext o s held name number load load_after left =
    ((all later : List (List ℕ)) → IsSoFar o s held all (name ∷ later) number load → IsSoFar o s held all later (number + 1) load_after) × LeavesNone held left
