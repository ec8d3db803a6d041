-- How a keeper's refusals are reported: the number, and the layer that refused. Assumes nothing.
use Rattle.keepers.specs.declared.refusal.Adds.TheVariants.{KeeperLayer}
use Rattle.keepers.specs.declared.refusal.Refusal.{Refusal}
use Rattle.keepers.specs.declared.fault.KeeperFault.{KeeperFault}
use Rattle.keepers.specs.declared.fault.KeeperFault.TheVariants.{Unfit, NotAdmitted, GiverNotHeld, NoRoom, NotHeld}

abbrev pub keeper_refusal : KeeperFault → Refusal
-- a processor count that is 0 or over 16, or a list without each of 0 to 15 once
keeper_refusal Unfit = record { number = 1; adds = KeeperLayer }
-- a processor that is not admitted
keeper_refusal NotAdmitted = record { number = 2; adds = KeeperLayer }
-- a giver that is not held
keeper_refusal GiverNotHeld = record { number = 3; adds = KeeperLayer }
-- a room of 0
keeper_refusal NoRoom = record { number = 4; adds = KeeperLayer }
-- an order question about a number that is not held
keeper_refusal NotHeld = record { number = 5; adds = KeeperLayer }
