-- Whether two words mean the same. Assumes nothing.
use Rattle.std.specs.Cmp.Lexicographic.{pointwise}
use Rattle.std.specs.Prelude.{Bool, List, ℤ}
use Rattle.std.specs.Ordering.{int_eq}

abbrev pub same_word : List ℤ → List ℤ → Bool
same_word = pointwise int_eq
