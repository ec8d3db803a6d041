-- What is checked before a keeper is made. Assumes nothing.
use Rattle.std.specs.Prelude.{ℕ, cond, ◌&&◌, Ok, Err, Result, nat_le, nat_lt}
use Rattle.keepers.specs.declared.fault.KeeperFault.{KeeperFault}
use Rattle.keepers.specs.declared.fault.KeeperFault.TheVariants.{Unfit}
use Rattle.keepers.specs.Meaning.{most_processors}

-- a processor count: 1 to 16
abbrev pub processor_count : ℕ → Result ℕ KeeperFault
processor_count m = cond (nat_lt 0 m && nat_le m most_processors) (Ok m) (Err Unfit)
