-- Lists in which each processor number stands once. Assumes nothing.
use Rattle.std.specs.Prelude.{◌≡◌, ℕ, ◌<◌, cond, List, Some, None, Option, ◌==◌, nat_lt, slice_index}
use Rattle.std.specs.List.{count_by, position_or_len}
use Rattle.keepers.specs.Meaning.{most_processors}

-- how often q stands in a list
unfoldable pub times : ℕ → List ℕ → ℕ
times q = count_by (λ x. x == q)

-- each processor number stands once
abbrev pub Once : List ℕ → Type 0
Once xs = (q : ℕ) → q < most_processors → times q xs ≡ 1

-- the first place at which q stands, or the length
abbrev pub place : List ℕ → ℕ → ℕ
place xs q = position_or_len (λ x. x == q) xs

-- entry p of a list
abbrev pub entry_of : List ℕ → ℕ → Option ℕ
entry_of xs p = cond (nat_lt p most_processors) (Some (slice_index xs p)) None
