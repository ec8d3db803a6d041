-- What the examination's lent parts are read as, and that they stay lent. Assumes nothing.
use Rattle.std.specs.Prelude.{◌≡◌}
use Rattle.keepers.specs.Meaning.{Meaning}
use Rattle.reader.specs.declared.admitting.Admitting.{Admitting}
use Rattle.reader.specs.Examining.{reading}
use Rattle.reader.specs.Reading.{Reading}

abbrev pub worked_on : {W K R : Type 0} → (K → Meaning) → Admitting W K R → Reading W
worked_on meaning a = reading a.log.now (meaning a.keeper.now) a.exam.now a.partners.now

-- the same parts are lent, and the rule is the same
pub record KeepsLoans {W K R : Type 0} (old new : Admitting W K R) : Type 0 where
  pub exam : new.exam.ghost_name ≡ old.exam.ghost_name
  pub log : new.log.ghost_name ≡ old.log.ghost_name
  pub keeper : new.keeper.ghost_name ≡ old.keeper.ghost_name
  pub partners : new.partners.ghost_name ≡ old.partners.ghost_name
  pub rule : new.rule ≡ old.rule
