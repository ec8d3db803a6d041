-- An arrow keeper's bounds: at most 4,096 operations, of processors 0 to 15. Assumes nothing.
use Rattle.std.specs.Prelude.{◌≡◌, ℕ, zero, suc, ◌+◌, ◌-◌, ◌<◌, ◌≤◌, true, List, nat_lt, refl}
use Rattle.std.proofs.Common.{arith, sym, ◌∙◌}
use Rattle.std.proofs.lemmas.List.{length_push}
use Rattle.std.proofs.lemmas.Bool.{ltb-true}
use Rattle.keepers.specs.Meaning.{held, most_held, most_processors}
use Rattle.arrow.specs.Arrows.{arrows, processor_of}

pub arrows_admits : (xs : List ℕ) (m n capacity p : ℕ) → (arrows xs m n capacity).admits p ≡ nat_lt p m
arrows_admits xs m zero capacity p = refl
arrows_admits xs m (suc n) capacity p = arrows_admits xs m n capacity p

pub arrows_held : (xs : List ℕ) (m n capacity : ℕ) → held (arrows xs m n capacity) ≡ n
arrows_held xs m zero capacity = refl
arrows_held xs m (suc n) capacity = omega (arith, arrows_held xs m n capacity, length_push (arrows xs m n capacity).processors (processor_of xs n))

pub arrows_room : (xs : List ℕ) (m n capacity : ℕ) → (arrows xs m n capacity).room ≡ capacity - n
arrows_room xs m zero capacity = omega arith
arrows_room xs m (suc n) capacity = omega (arith, arrows_room xs m n capacity)

pub arrows_bounded : (xs : List ℕ) (m n capacity : ℕ) → n ≤ capacity → capacity ≤ most_held → held (arrows xs m n capacity) + (arrows xs m n capacity).room ≤ most_held
arrows_bounded xs m n capacity h f = omega (arith, arrows_held xs m n capacity, arrows_room xs m n capacity)

pub arrows_numbered : (xs : List ℕ) (m n capacity : ℕ) → m ≤ most_processors → (p : ℕ) → (arrows xs m n capacity).admits p ≡ true → p < most_processors
arrows_numbered xs m n capacity h p e = omega (arith, ltb-true p m (sym (arrows_admits xs m n capacity p) ∙ e))
