-- What a keeper over lent memory answers, by its extent. Assumes nothing.
use Rattle.std.proofs.Common.{◌≡◌, ℕ, ◌+◌, ◌-◌, ◌<◌, Bool, true, false, cond, ◌&&◌, ltb, Ok, Err, Option, Result, sym, refl, ap, ◌∙◌, subst, arith}
use Rattle.std.proofs.lemmas.Bool.{lt-ltb, ltb-true}
use Rattle.keepers.specs.Meaning.{Meaning, held}
use Rattle.keepers.specs.Adding.{Among, addition, outcome}
use Rattle.keepers.specs.Asking.{order}
use Rattle.keepers.specs.Extent.{next_number, next_count, question}
use Rattle.keepers.proofs.Accepting.{given_among, passed}
use Rattle.keepers.specs.declared.fault.KeeperFault.{KeeperFault}
use Rattle.keepers.specs.declared.fault.KeeperFault.TheVariants.{NoRoom, NotHeld}

-- the check, and the answer, by whether both operations are held
abbrev checked : Bool → Result (Unit {0}) KeeperFault
checked x = cond x (Ok tt) (Err NotHeld)

abbrev answer : Bool → Bool → Result Bool KeeperFault
answer x r = cond x (Ok r) (Err NotHeld)

both_held : (a b n : ℕ) (x y : Bool) → ltb a n ≡ x → ltb b n ≡ y → Ok tt ≡ checked (x && y) → (a < n) × (b < n)
both_held a b n true true p q e = (ltb-true a n p, ltb-true b n q)
both_held a b n true false p q e = cc
both_held a b n false y p q e = cc

answered : (x r : Bool) → Ok tt ≡ checked x → Ok r ≡ answer x r
answered true r e = refl
answered false r e = cc

refused : (x r : Bool) (f : KeeperFault) → Err f ≡ checked x → Err f ≡ answer x r
refused true r f e = cc
refused false r f e = cc

-- the meaning of a keeper that admits the processors 0 to m - 1, and holds n operations where there are so many
-- places
pub record Spans (M : Meaning) (m n capacity : ℕ) : Type 0 where
  pub admits : (p : ℕ) → M.admits p ≡ ltb p m
  pub size : held M ≡ n
  pub room : M.room ≡ capacity - n

-- what a check of an addition that passes says of it
pub record Passes (M : Meaning) (m n capacity p : ℕ) (giver : Option ℕ) : Type 0 where
  pub answer : addition M p giver ≡ Ok n
  pub admitted : p < m
  pub given : Among giver n
  pub room : n < capacity

module _ (M : Meaning) (m n capacity : ℕ) (s : Spans M m n capacity) where
  pub passes : (p : ℕ) (giver : Option ℕ) → Ok tt ≡ outcome (addition M p giver) → Passes M m n capacity p giver
  passes p giver e =
      let a = passed M p giver e in
      record {
        answer = a.0 ∙ ap Ok s.size;
        admitted = ltb-true p m (sym (s.admits p) ∙ a.1.admitted);
        given = subst (Among giver) s.size (given_among M giver a.1.given);
        room = omega (arith, s.room, a.1.room);
      }

  -- both operations of a question that passes are held
  pub question_held : (a b : ℕ) → Ok tt ≡ question n a b → (a < n) × (b < n)
  question_held a b e = both_held a b n (ltb a n) (ltb b n) refl refl e

  pub question_answered : (a b : ℕ) (r : Bool) → Ok tt ≡ question n a b → r ≡ M.before a b → Ok r ≡ order M a b
  question_answered a b r e h = rw (s.size, h) (answered (ltb a n && ltb b n) (M.before a b) e)

  pub question_refused : (a b : ℕ) (f : KeeperFault) → Err f ≡ question n a b → Err f ≡ order M a b
  question_refused a b f e = rw s.size (refused (ltb a n && ltb b n) (M.before a b) f e)

-- with room, one more is held
pub number_with_room : (capacity n : ℕ) → n < capacity → next_number capacity n ≡ Ok n
number_with_room capacity n h = ap (λ t. cond t (Ok n) (Err NoRoom)) (lt-ltb n capacity h)

pub count_with_room : (capacity n : ℕ) → n < capacity → next_count capacity n ≡ n + 1
count_with_room capacity n h = ap (λ t. cond t (n + 1) n) (lt-ltb n capacity h)
