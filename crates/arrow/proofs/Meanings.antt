-- What an arrow keeper's meaning answers, and what one more operation makes of it. Assumes nothing.
use Rattle.std.proofs.Common.{◌≡◌, ℕ, zero, suc, ◌+◌, ◌*◌, ◌<◌, ◌≤◌, true, false, cond, ltb, List, length, get_or, set, Some, None, Option, refl, ap, ◌∙◌, subst, ⊎_elim, add-one, arith, length-set, get_or-set_other, get_or-set_same}
use Rattle.std.specs.List.{SameBelow}
use Rattle.std.proofs.lemmas.Bool.{cases_lt, lt-ltb, le-ltb}
use Rattle.keepers.specs.Meaning.{Meaning, most_held}
use Rattle.keepers.specs.Adding.{Among, added}
use Rattle.keepers.proofs.Extents.{Spans}
use Rattle.arrow.specs.Arrows.{processor_of, giver_of, stored, arrows, Admitted}
use Rattle.arrow.specs.Bounds.{arrows_admits, arrows_held, arrows_room}

-- a write past the first n numbers
pub set_same : (xs ys : List ℕ) (i v n : ℕ) → n ≤ i → SameBelow xs ys n → SameBelow xs (set ys i v) n
set_same xs ys i v n h same = λ j d l. get_or-set_other ys i j v d (omega arith) ∙ same j d l

-- two lists with the same first n operations
pub arrows_same : (xs ys : List ℕ) (m n capacity : ℕ) → SameBelow xs ys (2 * n) → arrows ys m n capacity ≡ arrows xs m n capacity
arrows_same xs ys m zero capacity h = refl
arrows_same xs ys m (suc n) capacity h =
    let e = arrows_same xs ys m n capacity (λ i d b. h i d (omega arith)) in
    let p : processor_of ys n ≡ processor_of xs n = h (2 * n) 0 (omega arith) in
    let g : giver_of ys n ≡ giver_of xs n = ap (λ z. cond (ltb z n) (Some z) None) (h (2 * n + 1) 0 (omega arith)) in
    ap (λ r. added r (processor_of ys n) (giver_of ys n)) e ∙ ap (λ q. added (arrows xs m n capacity) q (giver_of ys n)) p ∙ ap (λ o. added (arrows xs m n capacity) (processor_of xs n) o) g

pub admitted_same : (xs ys : List ℕ) (m n : ℕ) → SameBelow xs ys (2 * n) → Admitted xs m n → Admitted ys m n
admitted_same xs ys m n same a k h = omega (arith, same (2 * k) 0 (omega arith), a k h)

pub admitted_more : (xs : List ℕ) (m n : ℕ) → Admitted xs m n → processor_of xs n < m → Admitted xs m (n + 1)
admitted_more xs m n a h k l = ⊎_elim (λ b. a k b) (λ b. let e : n ≡ k = omega arith in subst (λ z. processor_of xs z < m) e h) (cases_lt k n)

-- a stored giver is read back
stored_giver : (o : Option ℕ) (n v : ℕ) → Among o n → n ≤ most_held → v ≡ stored o → cond (ltb v n) (Some v) None ≡ o
stored_giver None n v h l e = let t : ltb v n ≡ false = le-ltb v n (omega arith) in simp t
stored_giver (Some g) n v h l e = let t : ltb v n ≡ true = lt-ltb v n (omega arith) in simp t (ap Some e)

module _ (xs : List ℕ) (m n capacity : ℕ) where
  abbrev M : Meaning
  M = arrows xs m n capacity

  pub arrows_spans : Spans M m n capacity
  arrows_spans = record { admits = arrows_admits xs m n capacity; size = arrows_held xs m n capacity; room = arrows_room xs m n capacity }

  -- one more operation, once its two numbers are written
  module _ (p v : ℕ) (within : 2 * n + 2 ≤ length xs) where
    abbrev one : List ℕ
    one = set xs (2 * n) p

    abbrev both : List ℕ
    both = set one (2 * n + 1) v

    same : SameBelow xs both (2 * n)
    same = set_same xs one (2 * n + 1) v (2 * n) (omega arith) (set_same xs xs (2 * n) p (2 * n) (omega arith) (λ i d b. refl))

    here : processor_of both n ≡ p
    here = get_or-set_other one (2 * n + 1) (2 * n) v 0 (omega arith) ∙ get_or-set_same xs (2 * n) p 0 (omega arith)

    there : get_or both (2 * n + 1) 0 ≡ v
    there = get_or-set_same one (2 * n + 1) v 0 (omega (arith, length-set xs (2 * n) p))

    pub admitted_added : Admitted xs m n → p < m → Admitted both m (n + 1)
    admitted_added a h = admitted_more both m n (admitted_same xs both m n same a) (omega (arith, here))

    pub added_is : (o : Option ℕ) → n ≤ most_held → Among o n → v ≡ stored o → arrows both m (n + 1) capacity ≡ added M p o
    added_is o few h e =
        ap (λ k. arrows both m k capacity) (add-one n)
        ∙ ap (λ r. added r (processor_of both n) (giver_of both n)) (arrows_same xs both m n capacity same)
        ∙ ap (λ q. added M q (giver_of both n)) here
        ∙ ap (λ g. added M p g) (stored_giver o n (get_or both (2 * n + 1) 0) h few (there ∙ e))
