-- What an accepted addition, or a check of one that passes, shows of a keeper. Assumes nothing.
use Rattle.std.proofs.Common.{◌≡◌, ℕ, ◌<◌, Bool, true, false, cond, ltb, Some, None, Ok, Err, Option, Result, refl, arith}
use Rattle.std.proofs.lemmas.Bool.{ltb-true}
use Rattle.keepers.specs.Meaning.{Meaning, held}
use Rattle.keepers.specs.Adding.{Among, addition, giver_held, outcome}
use Rattle.keepers.specs.declared.fault.KeeperFault.{KeeperFault}
use Rattle.keepers.specs.declared.fault.KeeperFault.TheVariants.{NotAdmitted, GiverNotHeld, NoRoom}

pub record Accepted (m : Meaning) (p : ℕ) (giver : Option ℕ) (k : ℕ) : Type 0 where
  pub admitted : m.admits p ≡ true
  pub given : giver_held m giver ≡ true
  pub room : 0 < m.room
  pub number : k ≡ held m

pub accepted : (m : Meaning) (p : ℕ) (giver : Option ℕ) (k : ℕ) → addition m p giver ≡ Ok k → Accepted m p giver k
accepted m p giver k e = go (m.admits p) (giver_held m giver) (ltb 0 m.room) refl refl refl e
  where
    go : (a b c : Bool) → m.admits p ≡ a → giver_held m giver ≡ b → ltb 0 m.room ≡ c
        → ◌≡◌ {A = Result ℕ KeeperFault} (cond a (cond b (cond c (Ok (held m)) (Err NoRoom)) (Err GiverNotHeld)) (Err NotAdmitted)) (Ok k) → Accepted m p giver k
    go true true true ea eb ec e = record { admitted = ea; given = eb; room = ltb-true 0 m.room ec; number = (cc) }
    go true true false ea eb ec e = absurd (let z : ◌≡◌ {A = ℕ} 0 1 = cc in omega arith)
    go true false c ea eb ec e = absurd (let z : ◌≡◌ {A = ℕ} 0 1 = cc in omega arith)
    go false b c ea eb ec e = absurd (let z : ◌≡◌ {A = ℕ} 0 1 = cc in omega arith)

-- a giver that is held
pub given_among : (m : Meaning) (giver : Option ℕ) → giver_held m giver ≡ true → Among giver (held m)
given_among m None e = tt
given_among m (Some g) e = ltb-true g (held m) e

passed_number : (r : Result ℕ KeeperFault) → Ok tt ≡ outcome r → (k : ℕ) × (r ≡ Ok k)
passed_number (Ok k) e = (k, refl)
passed_number (Err f) e = absurd (let z : ◌≡◌ {A = ℕ} 0 1 = cc in omega arith)

-- a check that passes
pub passed : (m : Meaning) (p : ℕ) (giver : Option ℕ) → Ok tt ≡ outcome (addition m p giver) → (addition m p giver ≡ Ok (held m)) × Accepted m p giver (held m)
passed m p giver e =
    let r = passed_number (addition m p giver) e in
    let a = accepted m p giver r.0 r.1 in
    let f : addition m p giver ≡ Ok (held m) = (let n = a.number in let s = r.1 in cc) in
    (f, accepted m p giver (held m) f)
