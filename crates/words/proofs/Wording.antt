-- The test for equal words says yes exactly when the meanings are equal. Assumes nothing.
use Rattle.std.proofs.Common.{◌≡◌, List, ℤ, Decides}
use Rattle.std.specs.Cmp.Rules.{signed_items}
use Rattle.words.specs.Words.{same_word}

pub word_decides : (xs ys : List ℤ) → Decides (same_word xs ys) (xs ≡ ys)
word_decides = signed_items
