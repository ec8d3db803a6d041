-- The word types of a record file. Assumes nothing.
use Rattle.std.specs.Prelude.{ℕ, cond, Some, None, Option, ◌==◌}
use Rattle.record_file.specs.declared.word_type.WordType.{WordType}
use Rattle.record_file.specs.declared.word_type.WordType.TheVariants.{Count, Edge}

-- the word type that a number stands for
abbrev pub word_type_of : ℕ → Option WordType
word_type_of code =
    cond (code == 1) (Some Count)
    (cond (code == 2) (Some Edge) None)
