-- How the code's races are read. Assumes nothing.
use Rattle.std.specs.Prelude.{ℕ, Some, None, Option}
use Rattle.examination.specs.declared.races.Races.{Races}
use Rattle.examination.specs.declared.races.RacingPair.{RacingPair}

-- how many operations have a racing partner
abbrev pub racing : Option Races → ℕ
racing None = 0
racing (Some r) = r.count

-- the first of them with its partner, if there is one
abbrev pub first_race : Option Races → Option RacingPair
first_race None = None
first_race (Some r) = Some r.first
