-- The numbers that an examination keeps. Assumes nothing.
use Rattle.std.specs.Prelude.{ℕ, zero, suc, ◌+◌, Bool, cond, Some, None, Option, ◌==◌}
use Rattle.operations.specs.Events.{Event}
use Rattle.operations.specs.Races.{racing_partner}

-- how many operations were admitted, how many of them with a racing partner, and the first such pair: the
-- partner, and the operation that it races with
pub record Tally : Type 0 where
  pub admitted : ℕ
  pub racing : ℕ
  pub first : Option (ℕ × ℕ)

abbrev pub no_operation : Tally
no_operation = record { admitted = 0; racing = 0; first = None }

-- one operation more, with its racing partner if it has one
abbrev pub noted : Tally → Option ℕ → Tally
noted t None = record { admitted = t.admitted + 1; racing = t.racing; first = t.first }
noted t (Some a) = record { admitted = t.admitted + 1; racing = t.racing + 1; first = cond (t.racing == 0) (Some (a, t.admitted)) t.first }

-- the numbers after the first n operations, by a given order
abbrev pub tally_of : (ℕ → ℕ → Bool) → (ℕ → Event) → ℕ → Tally
tally_of before op zero = no_operation
tally_of before op (suc n) = noted (tally_of before op n) (racing_partner before op n)
