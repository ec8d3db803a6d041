-- A clock keeper's bounds: at most 4,096 operations, of processors 0 to 15. Assumes nothing.
use Rattle.std.specs.Prelude.{◌≡◌, ℕ, ◌+◌, ◌<◌, ◌≤◌, true, List}
use Rattle.std.proofs.Common.{arith}
use Rattle.std.proofs.lemmas.List.FromFn.{length-map-range_with_len}
use Rattle.std.proofs.lemmas.Bool.{ltb-true}
use Rattle.keepers.specs.Meaning.{held, most_held, most_processors}
use Rattle.clock.specs.Rows.{clock, processor_of}

pub clock_bounded : (xs : List ℕ) (m n capacity : ℕ) → n ≤ capacity → capacity ≤ most_held → held (clock xs m n capacity) + (clock xs m n capacity).room ≤ most_held
clock_bounded xs m n capacity h f = omega (arith, length-map-range_with_len (processor_of xs m) 0 n)

pub clock_numbered : (xs : List ℕ) (m n capacity : ℕ) → m ≤ most_processors → (p : ℕ) → (clock xs m n capacity).admits p ≡ true → p < most_processors
clock_numbered xs m n capacity h p e = omega (arith, ltb-true p m e)
