-- The rows of a clock keeper, and what they mean. Assumes nothing.
use Rattle.std.specs.Prelude.{ℕ, zero, suc, ◌+◌, ◌-◌, ◌*◌, ◌/◌, ◌<◌, ◌≤◌, min, max, Bool, cond, not, ◌&&◌, List, map, Option, ◌==◌, nat_le, nat_lt, slice_index}
use Rattle.std.specs.List.{range_with_len}
use Rattle.std.specs.Option.{option_map_or}
use Rattle.keepers.specs.Meaning.{Meaning, most_held}

-- A keeper for m processors has a row of m + 1 numbers for each operation: the operation's processor, and then
-- for each processor how many of its operations are before this one or are this one.

-- the processor of operation k
abbrev pub processor_of : List ℕ → ℕ → ℕ → ℕ
processor_of xs m k = slice_index xs (k * (m + 1))

-- operation k's count of the processor q
abbrev pub count_of : List ℕ → ℕ → ℕ → ℕ → ℕ
count_of xs m k q = slice_index xs (k * (m + 1) + (q + 1))

-- operation k's count of its own processor
abbrev pub own_count : List ℕ → ℕ → ℕ → ℕ
own_count xs m k = count_of xs m k (processor_of xs m k)

-- the count of q by the latest of the first n operations that is q's, or 0
abbrev pub latest_count : List ℕ → ℕ → ℕ → ℕ → ℕ
latest_count xs m q zero = 0
latest_count xs m q (suc n) = cond (processor_of xs m n == q) (count_of xs m n q) (latest_count xs m q n)

-- each of the first n operations is of one of the m processors
abbrev pub Admitted : List ℕ → ℕ → ℕ → Type 0
Admitted xs m n = (k : ℕ) → k < n → processor_of xs m k < m

-- each counts itself
abbrev pub Counted : List ℕ → ℕ → ℕ → Type 0
Counted xs m n = (k : ℕ) → k < n → 0 < own_count xs m k

-- none counts more of a processor than the latest operation of that processor does
abbrev pub LatestMost : List ℕ → ℕ → ℕ → Type 0
LatestMost xs m n = (k q : ℕ) → k < n → q < m → count_of xs m k q ≤ latest_count xs m q n

-- no count exceeds the number of operations
abbrev pub AtMostHeld : List ℕ → ℕ → ℕ → Type 0
AtMostHeld xs m n = (k q : ℕ) → k < n → q < m → count_of xs m k q ≤ n

-- what the first n rows keep
abbrev pub Sound : List ℕ → ℕ → ℕ → Type 0
Sound xs m n = Admitted xs m n × Counted xs m n × LatestMost xs m n × AtMostHeld xs m n

-- b counts a: b's count of a's processor is at least a's own
abbrev pub counts : List ℕ → ℕ → ℕ → ℕ → Bool
counts xs m a b = not (a == b) && nat_le (own_count xs m a) (count_of xs m b (processor_of xs m a))

-- which of the first n operations is before which
abbrev pub clock_before : List ℕ → ℕ → ℕ → ℕ → ℕ → Bool
clock_before xs m n a b = (nat_lt a n && nat_lt b n) && counts xs m a b

-- how many operations a keeper for m processors can hold over so many lent numbers
abbrev pub clock_room : ℕ → ℕ → ℕ
clock_room m lent = min most_held (lent / (m + 1))

-- the meaning of n rows, out of those that there is space for
abbrev pub clock : List ℕ → ℕ → ℕ → ℕ → Meaning
clock xs m n capacity = record {
  admits = λ p. nat_lt p m;
  processors = map (processor_of xs m) (range_with_len 0 n);
  before = clock_before xs m n;
  room = capacity - n;
}

-- the count of q by an operation that may be absent
abbrev pub count_from : List ℕ → ℕ → Option ℕ → ℕ → ℕ
count_from xs m o q = option_map_or (λ k. count_of xs m k q) o 0

-- what a new operation of the processor p counts of q: the more of what its processor's latest operation and its
-- giver count, and itself
abbrev pub new_count : List ℕ → ℕ → ℕ → Option ℕ → Option ℕ → ℕ → ℕ
new_count xs m p latest giver q = max (count_from xs m latest q) (count_from xs m giver q) + cond (q == p) 1 0
