-- Keepers that were given the same operations. Assumes nothing.
use Rattle.std.specs.Prelude.{◌≡◌, ℕ, Bool, false, not, ◌&&◌, ◌||◌, List, [], ◌∷◌, Ok, Err, Option, Result, ◌==◌}
use Rattle.keepers.specs.declared.fault.KeeperFault.{KeeperFault}
use Rattle.keepers.specs.Adding.{addition, after_addition}
use Rattle.keepers.specs.Meaning.{Meaning, held}
use Rattle.keepers.specs.Refusals.{keeper_refusal}

-- an operation that is added: its processor, and its giver if it has one
pub record Addition : Type 0 where
  pub processor : ℕ
  pub giver : Option ℕ

-- the answers to a list of additions, and the meaning after them; refused ones included
abbrev pub answers : Meaning → List Addition → List (Result ℕ KeeperFault)
answers m [] = []
answers m (x ∷ xs) = addition m x.processor x.giver ∷ answers (after_addition m x.processor x.giver) xs

abbrev pub after_all : Meaning → List Addition → Meaning
after_all m [] = m
after_all m (x ∷ xs) = after_all (after_addition m x.processor x.giver) xs

-- both started empty, were asked to add the same operations, and answered each alike
pub record GivenTheSame (m m' : Meaning) : Type 0 where
  pub start : Meaning
  pub start' : Meaning
  pub empty : held start ≡ 0
  pub empty' : held start' ≡ 0
  pub additions : List Addition
  pub alike : answers start additions ≡ answers start' additions
  pub leads : after_all start additions ≡ m
  pub leads' : after_all start' additions ≡ m'

-- both started empty, admitting the same processors and with the same room, and were asked to add the same operations
pub record MadeAlike (m m' : Meaning) : Type 0 where
  pub start : Meaning
  pub start' : Meaning
  pub empty : held start ≡ 0
  pub empty' : held start' ≡ 0
  pub admits : (p : ℕ) → start.admits p ≡ start'.admits p
  pub room : start.room ≡ start'.room
  pub additions : List Addition
  pub leads : after_all start additions ≡ m
  pub leads' : after_all start' additions ≡ m'

-- the same yes or no, or the same refusal
abbrev pub same_answer : Result Bool KeeperFault → Result Bool KeeperFault → Bool
same_answer (Ok a) (Ok b) = (a && b) || (not a && not b)
same_answer (Ok a) (Err g) = false
same_answer (Err f) (Ok b) = false
same_answer (Err f) (Err g) = (keeper_refusal f).number == (keeper_refusal g).number
