-- Two keepers that were given the same operations hold the same ones in the same order. Assumes nothing.
use Rattle.std.proofs.Common.{◌≡◌, ℕ, ◌+◌, ◌-◌, ◌<◌, cond, ◌||◌, eqb, ltb, List, [], ◌∷◌, ◌++◌, length, get_or, Some, None, Ok, Err, Option, Result, sym, refl, ap, ◌∙◌, subst, ap₂, arith}
use Rattle.std.proofs.lemmas.List.{length_push, nil_from_length}
use Rattle.std.proofs.lemmas.Bool.Decides.{nat_tests}
use Rattle.keepers.specs.declared.fault.KeeperFault.{KeeperFault}
use Rattle.keepers.specs.Adding.{Among, latest_of, latest, reaches, added, addition, answered, after_addition, giver_held}
use Rattle.keepers.specs.Asking.{order}
use Rattle.keepers.specs.Meaning.{Meaning, held}
use Rattle.keepers.proofs.Accepting.{accepted, given_among}
use Rattle.keepers.proofs.Latest.{latest_among}
use Rattle.agreement.specs.Agreement.{Addition, answers, after_all, GivenTheSame, MadeAlike}

-- the same operations, in the same order
pub record Alike (m m' : Meaning) : Type 0 where
  pub processors : m.processors ≡ m'.processors
  pub order : (a b : ℕ) → a < held m → b < held m → m.before a b ≡ m'.before a b

module _ (m m' : Meaning) (alike : Alike m m') (p : ℕ) (giver : Option ℕ) (given : Among giver (held m)) where
  same_held : held m ≡ held m'
  same_held = ap length alike.processors

  same_reaches : (a : ℕ) → a < held m → (o : Option ℕ) → Among o (held m) → reaches m a o ≡ reaches m' a o
  same_reaches a h None k = refl
  same_reaches a h (Some b) k = ap (λ t. eqb a b || t) (alike.order a b h k)

  same_latest : latest m p ≡ latest m' p
  same_latest = ap (λ l. latest_of (λ k. get_or l k 0) p (length l)) alike.processors

  into_new : (a : ℕ) → a < held m → (reaches m a giver || reaches m a (latest m p)) ≡ (reaches m' a giver || reaches m' a (latest m' p))
  into_new a h = ap₂ (λ x y. x || y) (same_reaches a h giver given) (same_reaches a h (latest m p) (latest_among (λ k. get_or m.processors k 0) p (held m)) ∙ ap (reaches m' a) same_latest)

  by_place : (a b : ℕ) → a < held m → b < held m + 1 → cond (eqb b (held m)) (reaches m a giver || reaches m a (latest m p)) (m.before a b) ≡ cond (eqb b (held m)) (reaches m' a giver || reaches m' a (latest m' p)) (m'.before a b)
  by_place a b h k = let into = into_new a h in grind (arith, nat_tests, alike.order a b h)

  added_order : (a b : ℕ) → a < held m + 1 → b < held m + 1 → (added m p giver).before a b ≡ (added m' p giver).before a b
  added_order a b h k = let same = same_held in grind (arith, nat_tests, by_place a b)

  pub added_alike : Alike (added m p giver) (added m' p giver)
  added_alike = record {
    processors = ap (λ l. l ++ (p ∷ [])) alike.processors;
    order = λ a b h k. let n = length_push m.processors p in added_order a b (omega arith) (omega arith);
  }

after_alike : (m m' : Meaning) → Alike m m' → (p : ℕ) (giver : Option ℕ) → addition m p giver ≡ addition m' p giver → Alike (after_addition m p giver) (after_addition m' p giver)
after_alike m m' alike p giver e = go (addition m p giver) refl (sym e)
  where
    go : (r : Result ℕ KeeperFault) → addition m p giver ≡ r → addition m' p giver ≡ addition m p giver → Alike (answered m p giver r) (answered m' p giver (addition m' p giver))
    go (Ok k) is same = subst (λ x. Alike (added m p giver) (answered m' p giver x)) (sym (same ∙ is)) (added_alike m m' alike p giver (given_among m giver (accepted m p giver k is).given))
    go (Err f) is same = subst (λ x. Alike m (answered m' p giver x)) (sym (same ∙ is)) alike

all_alike : (m m' : Meaning) → Alike m m' → (xs : List Addition) → answers m xs ≡ answers m' xs → Alike (after_all m xs) (after_all m' xs)
all_alike m m' alike [] e = alike
all_alike m m' alike (x ∷ xs) e =
    let first : addition m x.processor x.giver ≡ addition m' x.processor x.giver = cc in
    let rest : answers (after_addition m x.processor x.giver) xs ≡ answers (after_addition m' x.processor x.giver) xs = cc in
    all_alike (after_addition m x.processor x.giver) (after_addition m' x.processor x.giver) (after_alike m m' alike x.processor x.giver first) xs rest

empty_alike : (m m' : Meaning) → held m ≡ 0 → held m' ≡ 0 → Alike m m'
empty_alike m m' e e' = record { processors = nil_from_length m.processors e ∙ sym (nil_from_length m'.processors e'); order = λ a b h k. absurd (omega arith) }

alike_order : (m m' : Meaning) → Alike m m' → (a b : ℕ) → order m a b ≡ order m' a b
alike_order m m' alike a b =
    let same : held m ≡ held m' = ap length alike.processors in
    grind (arith, nat_tests, alike.order a b)

pub given_order : (m m' : Meaning) → GivenTheSame m m' → (a b : ℕ) → order m a b ≡ order m' a b
given_order m m' g a b =
    let alike : Alike (after_all g.start g.additions) (after_all g.start' g.additions) =
    all_alike g.start g.start' (empty_alike g.start g.start' g.empty g.empty') g.additions g.alike in
    let here : Alike m m' = subst (λ x. Alike x m') g.leads (subst (Alike (after_all g.start g.additions)) g.leads' alike) in
    alike_order m m' here a b

-- keepers that were made alike answer additions alike
record Same (m m' : Meaning) : Type 0 where
  alike : Alike m m'
  admits : (p : ℕ) → m.admits p ≡ m'.admits p
  room : m.room ≡ m'.room

same_given : (m m' : Meaning) → held m ≡ held m' → (o : Option ℕ) → giver_held m o ≡ giver_held m' o
same_given m m' e None = refl
same_given m m' e (Some g) = ap (ltb g) e

same_addition : (m m' : Meaning) → Same m m' → (p : ℕ) (giver : Option ℕ) → addition m p giver ≡ addition m' p giver
same_addition m m' s p giver =
    let count : held m ≡ held m' = ap length s.alike.processors in
    let given = same_given m m' count giver in
    grind (arith, nat_tests, s.admits p)

after_same : (m m' : Meaning) → Same m m' → (p : ℕ) (giver : Option ℕ) → Same (after_addition m p giver) (after_addition m' p giver)
after_same m m' s p giver = go (addition m p giver) (sym (same_addition m m' s p giver)) (after_alike m m' s.alike p giver (same_addition m m' s p giver))
  where
    go : (r : Result ℕ KeeperFault) → addition m' p giver ≡ r → Alike (answered m p giver r) (answered m' p giver (addition m' p giver)) → Same (answered m p giver r) (answered m' p giver (addition m' p giver))
    go (Ok k) is alike = subst (λ x. Same (added m p giver) (answered m' p giver x)) (sym is) (record {
      alike = subst (λ x. Alike (added m p giver) (answered m' p giver x)) is alike;
      admits = s.admits;
      room = ap (λ n. n - 1) s.room;
    })
    go (Err f) is alike = subst (λ x. Same m (answered m' p giver x)) (sym is) s

same_answers : (m m' : Meaning) → Same m m' → (xs : List Addition) → answers m xs ≡ answers m' xs
same_answers m m' s [] = refl
same_answers m m' s (x ∷ xs) = ap₂ (λ r rs. r ∷ rs) (same_addition m m' s x.processor x.giver) (same_answers (after_addition m x.processor x.giver) (after_addition m' x.processor x.giver) (after_same m m' s x.processor x.giver) xs)

pub made_same : (m m' : Meaning) → MadeAlike m m' → GivenTheSame m m'
made_same m m' g = record {
  start = g.start;
  start' = g.start';
  empty = g.empty;
  empty' = g.empty';
  additions = g.additions;
  alike = same_answers g.start g.start' (record { alike = empty_alike g.start g.start' g.empty g.empty'; admits = g.admits; room = g.room }) g.additions;
  leads = g.leads;
  leads' = g.leads';
}
