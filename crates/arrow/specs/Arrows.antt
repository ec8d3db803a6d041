-- The numbers and marks of an arrow keeper, and what they mean. Assumes nothing.
use Rattle.std.specs.Prelude.{◌≡◌, ℕ, zero, suc, ◌+◌, ◌*◌, ◌/◌, ◌<◌, min, cond, List, length, Some, None, Option, nat_le, nat_lt, slice_index, slice_set}
use Rattle.keepers.specs.Meaning.{Meaning, empty, most_held}
use Rattle.keepers.specs.Adding.{added}

-- Each operation has two numbers: its processor and its giver.

-- the processor of operation k
abbrev pub processor_of : List ℕ → ℕ → ℕ
processor_of xs k = slice_index xs (2 * k)

-- the giver of operation k: a number that is not below k stands for none
abbrev pub giver_of : List ℕ → ℕ → Option ℕ
giver_of xs k = cond (nat_lt (slice_index xs (2 * k + 1)) k) (Some (slice_index xs (2 * k + 1))) None

-- the number that is stored for a giver; that for none is no operation's
abbrev pub stored : Option ℕ → ℕ
stored None = 65535
stored (Some g) = g

-- how many operations a keeper can hold over so many lent numbers and marks
abbrev pub arrow_room : ℕ → ℕ → ℕ
arrow_room numbers marks = min (min most_held (numbers / 2)) marks

-- the meaning of the first n operations, added in turn, out of those that there is space for
abbrev pub arrows : List ℕ → ℕ → ℕ → ℕ → Meaning
arrows xs m zero capacity = empty m capacity
arrows xs m (suc n) capacity = added (arrows xs m n capacity) (processor_of xs n) (giver_of xs n)

-- each of the first n operations is of one of the m processors
abbrev pub Admitted : List ℕ → ℕ → ℕ → Type 0
Admitted xs m n = (k : ℕ) → k < n → processor_of xs k < m

-- every mark is 0
abbrev pub Clear : List ℕ → Type 0
Clear ms = (k : ℕ) → k < length ms → slice_index ms k ≡ 0

-- the marks with one more, that of a giver that is not below a
abbrev pub with_giver : List ℕ → ℕ → Option ℕ → List ℕ
with_giver ms a None = ms
with_giver ms a (Some g) = cond (nat_le a g) (slice_set ms g 1) ms
