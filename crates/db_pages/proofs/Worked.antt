-- Worked pages.
use Rattle.std.specs.Prelude.{◌≡◌, [], ◌∷◌, length, refl}
use Rattle.db_pages.specs.Numbers.{number_of}
use Rattle.db_pages.specs.Image.{first_page}

first_size : length (first_page 5 5) ≡ 4096
unfolding first_page
first_size = refl

skips_the_locks : (number_of 262143 ∷ number_of 262144 ∷ []) ≡ (262144 ∷ 262146 ∷ [])
skips_the_locks = refl
