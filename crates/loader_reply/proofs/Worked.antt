-- Worked examples of what the text of a run doesn't show.
use Rattle.std.specs.Prelude.{◌≡◌, [], ◌∷◌, true, false, codes, Some, refl}
use Rattle.csv_sniffer.specs.Pairs.{parts_pair}
use Rattle.loader_reply.specs.Batch.{last_read}

-- the first file over the limit is the last one that is read
over_the_limit : last_read 5 (Some (codes "1") ∷ Some (codes "123456") ∷ Some (codes "1") ∷ []) ≡ Some (codes "123456")
over_the_limit = refl

-- where a place parts a CR LF pair
in_pair : parts_pair (codes "a\r\nb") 2 ≡ true
in_pair = refl

behind_pair : (parts_pair (codes "a\r\nb") 3 ≡ false) × (parts_pair (codes "a\r\nb") 1 ≡ false)
behind_pair = (refl, refl)

two_ends : (parts_pair (codes "a\r\rb") 2 ≡ false) × (parts_pair (codes "a\n\nb") 2 ≡ false) × (parts_pair (codes "\na") 0 ≡ false)
two_ends = (refl, refl, refl)
