-- What closing says. Assumes nothing.
use Rattle.std.specs.Prelude.{ℕ, cond, Some, None, Option, ◌==◌}
use Rattle.laws.specs.Tally.{Tally}
use Rattle.examination.specs.declared.closing.Verdict.{Verdict}
use Rattle.examination.specs.declared.closing.Verdict.TheVariants.{RaceFree, Racy}

-- the number of operations; and of a racy run how many have a racing partner, and the first pair
pub data Said : Type 0 where
  race_free : ℕ → Said
  racy : ℕ → ℕ → ℕ × ℕ → Said

-- an examination has a first pair as soon as an operation had a partner
abbrev pub pair_or_none : Option (ℕ × ℕ) → ℕ × ℕ
pair_or_none None = (0, 0)
pair_or_none (Some p) = p

abbrev pub closing : Tally → Said
closing t = cond (t.racing == 0) (race_free t.admitted) (racy t.admitted t.racing (pair_or_none t.first))

abbrev pub said : Verdict → Said
said (RaceFree s) = race_free s.admitted
said (Racy s) = racy s.admitted s.races.count (s.races.first.partner, s.races.first.operation)
