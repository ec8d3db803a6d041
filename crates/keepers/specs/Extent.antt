-- How a keeper over lent memory fills: n operations held, of those that there are places for. Assumes nothing.
use Rattle.std.specs.Prelude.{ℕ, ◌+◌, cond, ◌&&◌, Ok, Err, Result, nat_lt}
use Rattle.keepers.specs.declared.fault.KeeperFault.{KeeperFault}
use Rattle.keepers.specs.declared.fault.KeeperFault.TheVariants.{NoRoom, NotHeld}

-- the number of the next operation, if there is room
abbrev pub next_number : ℕ → ℕ → Result ℕ KeeperFault
next_number capacity n = cond (nat_lt n capacity) (Ok n) (Err NoRoom)

-- how many are held then
abbrev pub next_count : ℕ → ℕ → ℕ
next_count capacity n = cond (nat_lt n capacity) (n + 1) n

-- whether an order question about a and b is answered
abbrev pub question : ℕ → ℕ → ℕ → Result (Unit {0}) KeeperFault
question n a b = cond (nat_lt a n && nat_lt b n) (Ok tt) (Err NotHeld)
