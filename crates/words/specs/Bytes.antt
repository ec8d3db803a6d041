-- Numbers of two and four bytes, the highest byte first. Assumes nothing.
use Rattle.std.specs.Prelude.{ℕ, ◌+◌, ◌*◌, List, slice_index}

-- the number that begins at byte i
abbrev pub big16 : List ℕ → ℕ → ℕ
big16 bs i = slice_index bs i * 256 + slice_index bs (i + 1)

abbrev pub big32 : List ℕ → ℕ → ℕ
big32 bs i = slice_index bs i * 16777216 + slice_index bs (i + 1) * 65536 + slice_index bs (i + 2) * 256 + slice_index bs (i + 3)
