-- What an examination answers to an order question. Assumes nothing.
use Rattle.std.specs.Prelude.{ℕ, Bool, cond, Ok, Err, Result, ◌==◌}
use Rattle.keepers.specs.declared.fault.KeeperFault.{KeeperFault}
use Rattle.keepers.specs.Asking.{order}
use Rattle.keepers.specs.Meaning.{Meaning, held}
use Rattle.examination.specs.declared.fault.ExamFault.{ExamFault}
use Rattle.examination.specs.declared.fault.ExamFault.TheVariants.{Keeper, CountDiffers}

-- a keeper's answer, its fault inside
abbrev pub from_keeper : Result Bool KeeperFault → Result Bool ExamFault
from_keeper (Ok b) = Ok b
from_keeper (Err f) = Err (Keeper f)

-- a keeper that does not hold as many operations as were admitted is refused first
abbrev pub order_answer : Meaning → ℕ → ℕ → ℕ → Result Bool ExamFault
order_answer m n a b = cond (held m == n) (from_keeper (order m a b)) (Err CountDiffers)
