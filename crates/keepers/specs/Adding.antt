-- What an addition does to a keeper's meaning. Assumes nothing.
use Rattle.std.specs.Prelude.{ℕ, zero, suc, ◌-◌, ◌<◌, Bool, true, false, cond, ◌&&◌, ◌||◌, [], ◌∷◌, ◌++◌, Some, None, Ok, Err, Option, Result, ◌==◌, nat_lt, slice_index}
use Rattle.keepers.specs.Meaning.{Meaning, held}
use Rattle.keepers.specs.declared.fault.KeeperFault.{KeeperFault}
use Rattle.keepers.specs.declared.fault.KeeperFault.TheVariants.{NotAdmitted, GiverNotHeld, NoRoom}

-- the latest of the first n operations that is p's, where `processor` gives the processor of each
abbrev pub latest_of : (ℕ → ℕ) → ℕ → ℕ → Option ℕ
latest_of processor p zero = None
latest_of processor p (suc n) = cond (processor n == p) (Some n) (latest_of processor p n)

-- the operation that is given, if any, is among the first n
abbrev pub Among : Option ℕ → ℕ → Type 0
Among None n = Unit {0}
Among (Some k) n = k < n

-- the latest operation held that is p's
abbrev pub latest : Meaning → ℕ → Option ℕ
latest m p = latest_of (λ k. slice_index m.processors k) p (held m)

-- a is the operation that is given, or is before it
abbrev pub reaches : Meaning → ℕ → Option ℕ → Bool
reaches m a None = false
reaches m a (Some b) = a == b || m.before a b

-- the meaning once the operation is added: an operation held is before the new one when it is the giver or
-- the latest of the same processor, or is before either; the new one is before none
abbrev pub added : Meaning → ℕ → Option ℕ → Meaning
added m p giver = record {
  admits = m.admits;
  processors = m.processors ++ (p ∷ []);
  before = λ a b. nat_lt a (held m) && cond (b == held m) (reaches m a giver || reaches m a (latest m p)) (m.before a b);
  room = m.room - 1;
}

abbrev pub giver_held : Meaning → Option ℕ → Bool
giver_held m None = true
giver_held m (Some g) = nat_lt g (held m)

-- what an addition answers: the new number, or the first check that fails
abbrev pub addition : Meaning → ℕ → Option ℕ → Result ℕ KeeperFault
addition m p giver =
    cond (m.admits p)
    (cond (giver_held m giver) (cond (nat_lt 0 m.room) (Ok (held m)) (Err NoRoom)) (Err GiverNotHeld))
    (Err NotAdmitted)

-- the meaning after an answer: a refusal changes nothing
abbrev pub answered : Meaning → ℕ → Option ℕ → Result ℕ KeeperFault → Meaning
answered m p giver (Ok n) = added m p giver
answered m p giver (Err f) = m

abbrev pub after_addition : Meaning → ℕ → Option ℕ → Meaning
after_addition m p giver = answered m p giver (addition m p giver)

-- whether it is accepted, without the number
abbrev pub outcome : Result ℕ KeeperFault → Result (Unit {0}) KeeperFault
outcome (Ok n) = Ok tt
outcome (Err f) = Err f
