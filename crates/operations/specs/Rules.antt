-- Pairing rules: which class of release is paired with which class of acquire. Assumes nothing.
use Rattle.std.specs.Prelude.{ℕ, ◌+◌, ◌/◌, ◌%◌, ◌^◌, Bool, ◌&&◌, List, ◌==◌, nat_lt, slice_index}

-- classes are numbered below this
abbrev pub most_classes : ℕ
most_classes = 16

-- what a rule answers: a class that is too high pairs with none
abbrev pub pairing : (ℕ → ℕ → Bool) → ℕ → ℕ → Bool
pairing pairs release acquire = (nat_lt release most_classes && nat_lt acquire most_classes) && pairs release acquire

-- the release's class is even, and the acquire's is one more
abbrev pub step_pairs : ℕ → ℕ → Bool
step_pairs release acquire = release % 2 == 0 && acquire == release + 1

-- bit d of row c, counted from the lowest; a missing row reads as 0
abbrev pub matrix_pairs : List ℕ → ℕ → ℕ → Bool
matrix_pairs rows release acquire = slice_index rows release / 2 ^ acquire % 2 == 1
