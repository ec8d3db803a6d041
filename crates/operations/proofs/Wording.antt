-- The test of a read's word, once its source is known. Assumes nothing.
use Rattle.std.proofs.Common.{◌≡◌, ℕ, Bool, not, ◌||◌, List, ℤ, Decides, ap, ◌∙◌}
use Rattle.std.proofs.lemmas.Bool.Decides.{same_from_decides}
use Rattle.words.specs.Words.{same_word}
use Rattle.words.proofs.Wording.{word_decides}
use Rattle.operations.specs.Kinds.{reads}
use Rattle.operations.specs.Events.{Event}
use Rattle.operations.specs.Sources.{latest_write, word_from, fits_source}

pub read_fits : (start : List ℤ) (op : ℕ → Event) (n : ℕ) (e : Event) (w : List ℤ) (r : Bool) → w ≡ word_from start op (latest_write op e.location n) → Decides r (e.word ≡ w) → (not (reads e.kind) || r) ≡ fits_source start op n e
read_fits start op n e w r word d =
    ap (λ b. not (reads e.kind) || b) (same_from_decides r (same_word e.word w) d (word_decides e.word w) ∙ ap (same_word e.word) word)
