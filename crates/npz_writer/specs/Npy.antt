-- The file of one array (NumPy's manual, "numpy.lib.format", version 1.0): one dimension, in C order.
use Rattle.std.specs.Prelude.{ℕ, ◌+◌, ◌-◌, ◌%◌, List, [], ◌∷◌, ◌++◌, codes, length, replicate}
use Rattle.std.specs.Fmt.{decimal}
use Rattle.std.specs.Int.{w16, to_le_bytes}

-- a format and a version come before the header: so many bytes with the header's length
abbrev pub front_size : ℕ
front_size = 10

-- the elements' kind, the order, and how many elements there are
abbrev pub header_text : List ℕ → ℕ → List ℕ
header_text descr count = codes "{'descr': '" ++ descr ++ codes "', 'fortran_order': False, 'shape': (" ++ decimal count ++ codes ",), }"

-- as many spaces as make the whole head a multiple of 64 bytes, with the LF that ends it
abbrev pub padded : List ℕ → List ℕ
padded text = text ++ replicate (63 - (front_size + length text) % 64) 32 ++ 10 ∷ []

-- the magic bytes, version 1.0, the header's length, the header
abbrev pub head_of : List ℕ → List ℕ
head_of header = 147 ∷ codes "NUMPY" ++ 1 ∷ 0 ∷ to_le_bytes w16 (length header) ++ header

unfoldable pub npy_head : List ℕ → ℕ → List ℕ
npy_head descr count = head_of (padded (header_text descr count))

-- the file of so many elements of a kind, by their bytes
abbrev pub npy : List ℕ → ℕ → List ℕ → List ℕ
npy descr count bytes = npy_head descr count ++ bytes
