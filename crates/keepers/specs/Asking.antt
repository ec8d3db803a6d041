-- What a keeper answers to an order question. Assumes nothing.
use Rattle.std.specs.Prelude.{ℕ, Bool, cond, ◌&&◌, Ok, Err, Result, nat_lt}
use Rattle.keepers.specs.Meaning.{Meaning, held}
use Rattle.keepers.specs.declared.fault.KeeperFault.{KeeperFault}
use Rattle.keepers.specs.declared.fault.KeeperFault.TheVariants.{NotHeld}

abbrev pub order : Meaning → ℕ → ℕ → Result Bool KeeperFault
order m a b = cond (nat_lt a (held m) && nat_lt b (held m)) (Ok (m.before a b)) (Err NotHeld)
