-- Conflicts, and the racing partner of an operation by a given order. Assumes nothing.
use Rattle.std.specs.Prelude.{ℕ, Bool, not, ◌&&◌, ◌||◌, Option, ◌==◌}
use Rattle.operations.specs.Kinds.{writes, data_kind}
use Rattle.operations.specs.Events.{Event}
use Rattle.operations.specs.Sources.{last_such}

-- two operations share a location, and at least one writes
abbrev pub conflict : Event → Event → Bool
conflict a b = a.location == b.location && (writes a.kind || writes b.kind)

-- they conflict, and at least one is a data operation: a data race, if neither is before the other
abbrev pub may_race : Event → Event → Bool
may_race a b = conflict a b && (data_kind a.kind || data_kind b.kind)

abbrev pub unordered : (ℕ → ℕ → Bool) → ℕ → ℕ → Bool
unordered before a b = not (before a b) && not (before b a)

abbrev pub races : (ℕ → ℕ → Bool) → (ℕ → Event) → ℕ → ℕ → Bool
races before op a b = may_race (op a) (op b) && unordered before a b

-- the latest operation earlier than n in a data race with it
abbrev pub racing_partner : (ℕ → ℕ → Bool) → (ℕ → Event) → ℕ → Option ℕ
racing_partner before op n = last_such (λ k. races before op k n) n
