-- What a clock keeper's meaning answers, and what a new row makes of it. Assumes nothing.
use Rattle.std.proofs.Common.{◌≡◌, ℕ, ◌+◌, ◌-◌, ◌*◌, ◌<◌, ◌≤◌, max, Bool, true, false, cond, not, ◌&&◌, ◌||◌, eqb, ltb, leb, ◌⊎◌, List, [], ◌∷◌, ◌++◌, map, get_or, Some, None, Option, sym, refl, ap, ◌∙◌, subst, inl, inr, ⊎_elim, le_refl, arith}
use mathlib.Core.Path.{fun_ext}
use Rattle.std.proofs.Math.Bool.{and-false}
use Rattle.std.specs.List.{range_with_len, SameBelow}
use Rattle.std.proofs.lemmas.List.FromFn.{length-map-range_with_len, get_or-map-range_with_len, map-range_with_len_more, fill_by_all}
use Rattle.std.proofs.lemmas.Bool.{cases_lt, cases_eq, lt-ltb, le-ltb, eq-eqb, ne_eqb}
use Rattle.std.proofs.lemmas.Bool.Decides.{nat_tests}
use Rattle.keepers.specs.Meaning.{Meaning, held}
use Rattle.keepers.specs.Adding.{latest_of, Among, latest, reaches, added}
use Rattle.keepers.proofs.Latest.{latest_among, latest_same}
use Rattle.keepers.proofs.Extents.{Spans}
use Rattle.clock.specs.Rows.{processor_of, count_of, own_count, latest_count, Sound, counts, clock_before, clock, count_from, new_count}
use Rattle.clock.proofs.Clocks.{same_processor, same_count, same_own, latest_counts, own_new}

-- tests on numbers: reaching no operation, and reaching operation k
none_reaches : (a n o : ℕ) → (a < n → 0 < o) → false ≡ (ltb a n && leb o 0)
none_reaches a n o h = grind (arith, nat_tests)

some_reaches : (a k n o s : ℕ) → k < n → (a ≡ k → o ≤ s) → (eqb a k || ((ltb a n && ltb k n) && (not (eqb a k) && leb o s))) ≡ (ltb a n && leb o s)
some_reaches a k n o s h e = grind (arith, nat_tests)

-- tests on numbers: a held operation and the new one, the new one and any other, two held operations,
-- one past the new one
to_new : (a n o l g c : ℕ) → a < n → (c ≡ 0) ⊎ (o ≤ l) → ((ltb a (n + 1) && ltb n (n + 1)) && (not (eqb a n) && leb o (max l g + c))) ≡ ((ltb a n && leb o g) || (ltb a n && leb o l))
to_new a n o l g c h e = grind (arith, nat_tests)

from_past : (a b n o s : ℕ) → n ≤ a → (a ≡ n → b < n → s < o) → ((ltb a (n + 1) && ltb b (n + 1)) && (not (eqb a b) && leb o s)) ≡ false
from_past a b n o s h e = grind (arith, nat_tests)

both_held : (a b n o s : ℕ) → a < n → b < n → ((ltb a (n + 1) && ltb b (n + 1)) && (not (eqb a b) && leb o s)) ≡ ((ltb a n && ltb b n) && (not (eqb a b) && leb o s))
both_held a b n o s h l = grind (arith, nat_tests)

not_held : (a b n : ℕ) (x y : Bool) → n ≤ b → (b ≡ n → ⊥) → ((ltb a (n + 1) && ltb b (n + 1)) && x) ≡ ((ltb a n && ltb b n) && y)
not_held a b n x y l ne =
    let t : ltb b (n + 1) ≡ false = le-ltb b (n + 1) (omega arith) in
    let u : ltb b n ≡ false = le-ltb b n l in
    ap (λ z. (ltb a (n + 1) && z) && x) t ∙ ap (λ z. z && x) (and-false (ltb a (n + 1))) ∙ sym (ap (λ z. (ltb a n && z) && y) u ∙ ap (λ z. z && y) (and-false (ltb a n)))

module _ (xs : List ℕ) (m n capacity : ℕ) where
  abbrev M : Meaning
  M = clock xs m n capacity

  pub held_is : held M ≡ n
  held_is = length-map-range_with_len (processor_of xs m) 0 n

  pub latest_is : (p : ℕ) → latest M p ≡ latest_of (processor_of xs m) p n
  latest_is p =
      ap (latest_of (λ k. get_or M.processors k 0) p) held_is
      ∙ latest_same _ (processor_of xs m) p n (λ k h. get_or-map-range_with_len (processor_of xs m) 0 n k k 0 h (omega arith))

  pub clock_spans : Spans M m n capacity
  clock_spans = record { admits = λ p. refl; size = held_is; room = refl }

  -- which of two held operations is before the other
  pub held_before : (a b : ℕ) → a < n → b < n → counts xs m a b ≡ M.before a b
  held_before a b h k = let t : ltb a n ≡ true = lt-ltb a n h in let u : ltb b n ≡ true = lt-ltb b n k in simp (t, u)

  -- a is before the operation that is given or is it, when that operation counts a
  pub reaches_is : Sound xs m n → (a : ℕ) (o : Option ℕ) → Among o n → reaches M a o ≡ (ltb a n && leb (own_count xs m a) (count_from xs m o (processor_of xs m a)))
  reaches_is s a None h = none_reaches a n (own_count xs m a) (s.1 a)
  reaches_is s a (Some k) h = some_reaches a k n (own_count xs m a) (count_of xs m k (processor_of xs m a)) h (λ e. subst (λ z. own_count xs m a ≤ count_of xs m z (processor_of xs m a)) e (le_refl _))

-- rows ys are rows xs and one more, of the processor p with a giver
module _ (xs ys : List ℕ) (m n capacity p : ℕ) (giver : Option ℕ) (s : Sound xs m n) (given : Among giver n) (admitted : p < m) (same : SameBelow xs ys (n * (m + 1))) (named : processor_of ys m n ≡ p) (joined : (q : ℕ) → q < m → count_of ys m n q ≡ new_count xs m p (latest_of (processor_of xs m) p n) giver q) where
  abbrev old : Meaning
  old = clock xs m n capacity

  abbrev last : Option ℕ
  last = latest_of (processor_of xs m) p n

  last_among : Among last n
  last_among = latest_among (processor_of xs m) p n

  reached : (a : ℕ) → (reaches old a giver || reaches old a last) ≡ ((ltb a n && leb (own_count xs m a) (count_from xs m giver (processor_of xs m a))) || (ltb a n && leb (own_count xs m a) (count_from xs m last (processor_of xs m a))))
  reached a =
      ap (λ x. x || reaches old a last) (reaches_is xs m n capacity s a giver given)
      ∙ ap (λ x. (ltb a n && leb (own_count xs m a) (count_from xs m giver (processor_of xs m a))) || x) (reaches_is xs m n capacity s a last last_among)

  -- an operation of the same processor is counted by the latest of them
  own_counted : (a : ℕ) → a < n → processor_of xs m a ≡ p → own_count xs m a ≤ count_from xs m last (processor_of xs m a)
  own_counted a h e =
      let t : own_count xs m a ≤ latest_count xs m (processor_of xs m a) n = s.2 a (processor_of xs m a) h (s.0 a h) in
      subst (λ q. count_of xs m a q ≤ count_from xs m last q) (sym e) (omega (arith, latest_counts xs m p n, subst (λ q. count_of xs m a q ≤ latest_count xs m q n) e t))

  -- a held operation and the new one
  at_new : (a : ℕ) → a < n → clock_before ys m (n + 1) a n ≡ (reaches old a giver || reaches old a last)
  at_new a h =
      let q = processor_of xs m a in
      let b : q < m = s.0 a h in
      let f : count_of ys m n (processor_of ys m a) ≡ new_count xs m p last giver q = ap (count_of ys m n) (same_processor xs ys m n same a h) ∙ joined q b in
      let o : own_count ys m a ≡ own_count xs m a = same_own xs ys m n same a h b in
      ap (λ x. (ltb a (n + 1) && ltb n (n + 1)) && (not (eqb a n) && leb x (count_of ys m n (processor_of ys m a)))) o
      ∙ ap (λ x. (ltb a (n + 1) && ltb n (n + 1)) && (not (eqb a n) && leb (own_count xs m a) x)) f
      ∙ to_new a n (own_count xs m a) (count_from xs m last q) (count_from xs m giver q) (cond (eqb q p) 1 0) h (⊎_elim (λ e. inr (own_counted a h e)) (λ ne. inl (ap (λ t. cond t 1 0) (ne_eqb q p ne))) (cases_eq q p))
      ∙ sym (reached a)

  -- two held operations
  at_held : (a b : ℕ) → a < n → b < n → clock_before ys m (n + 1) a b ≡ clock_before xs m n a b
  at_held a b h l =
      let o : own_count ys m a ≡ own_count xs m a = same_own xs ys m n same a h (s.0 a h) in
      let f : count_of ys m b (processor_of ys m a) ≡ count_of xs m b (processor_of xs m a) = ap (count_of ys m b) (same_processor xs ys m n same a h) ∙ same_count xs ys m n same b (processor_of xs m a) l (s.0 a h) in
      ap (λ x. (ltb a (n + 1) && ltb b (n + 1)) && (not (eqb a b) && leb x (count_of ys m b (processor_of ys m a)))) o
      ∙ ap (λ x. (ltb a (n + 1) && ltb b (n + 1)) && (not (eqb a b) && leb (own_count xs m a) x)) f
      ∙ both_held a b n (own_count xs m a) (count_of xs m b (processor_of xs m a)) h l

  -- no held operation counts the new one
  uncounted : (b : ℕ) → b < n → count_of ys m b (processor_of ys m n) < own_count ys m n
  uncounted b h = subst (λ q. count_of ys m b q < own_count ys m n) (sym named) (omega (arith, own_new xs ys m n p giver s given admitted same named joined, same_count xs ys m n same b p h admitted, s.2 b p h admitted))

  -- so the new one is before none
  at_past : (a b : ℕ) → n ≤ a → clock_before ys m (n + 1) a b ≡ false
  at_past a b l = from_past a b n (own_count ys m a) (count_of ys m b (processor_of ys m a)) l (λ e k. subst (λ z. count_of ys m b (processor_of ys m z) < own_count ys m z) (sym e) (uncounted b k))

  -- a held operation and any other
  at_any : (a b : ℕ) → a < n → clock_before ys m (n + 1) a b ≡ cond (eqb b n) (reaches old a giver || reaches old a last) (clock_before xs m n a b)
  at_any a b h =
      ⊎_elim
      (λ e. subst (λ z. clock_before ys m (n + 1) a z ≡ (reaches old a giver || reaches old a last)) (sym e) (at_new a h) ∙ sym (ap (λ x. cond x (reaches old a giver || reaches old a last) (clock_before xs m n a b)) (eq-eqb b n e)))
      (λ ne.
      ⊎_elim (λ l. at_held a b h l) (λ l. not_held a b n (counts ys m a b) (counts xs m a b) l ne) (cases_lt b n)
      ∙ sym (ap (λ x. cond x (reaches old a giver || reaches old a last) (clock_before xs m n a b)) (ne_eqb b n ne)))
      (cases_eq b n)

  -- which operation is before which, once the row is written
  added_before : (a b : ℕ) → clock_before ys m (n + 1) a b ≡ (ltb a n && cond (eqb b n) (reaches old a giver || reaches old a last) (clock_before xs m n a b))
  added_before a b =
      ⊎_elim
      (λ l. at_any a b l ∙ sym (ap (λ x. x && cond (eqb b n) (reaches old a giver || reaches old a last) (clock_before xs m n a b)) (lt-ltb a n l)))
      (λ l. at_past a b l ∙ sym (ap (λ x. x && cond (eqb b n) (reaches old a giver || reaches old a last) (clock_before xs m n a b)) (le-ltb a n l)))
      (cases_lt a n)

  added_processors : map (processor_of ys m) (range_with_len 0 (n + 1)) ≡ map (processor_of xs m) (range_with_len 0 n) ++ (p ∷ [])
  added_processors =
      map-range_with_len_more (processor_of ys m) 0 n n (omega arith)
      ∙ ap (λ l. l ++ (processor_of ys m n ∷ [])) (fill_by_all (processor_of xs m) _ n 0 (length-map-range_with_len (processor_of ys m) 0 n) (λ k h. get_or-map-range_with_len (processor_of ys m) 0 n k k 0 h (omega arith) ∙ same_processor xs ys m n same k h))
      ∙ ap (λ q. map (processor_of xs m) (range_with_len 0 n) ++ (q ∷ [])) named

  added_order : clock_before ys m (n + 1) ≡ (added old p giver).before
  added_order = fun_ext (λ a. fun_ext (λ b.
      added_before a b
      ∙ ap (λ k. ltb a k && cond (eqb b k) (reaches old a giver || reaches old a last) (clock_before xs m n a b)) (sym (held_is xs m n capacity))
      ∙ ap (λ l. ltb a (held old) && cond (eqb b (held old)) (reaches old a giver || reaches old a l) (clock_before xs m n a b)) (sym (latest_is xs m n capacity p))))

  added_room : capacity - (n + 1) ≡ (capacity - n) - 1
  added_room = omega arith

  pub added_is : clock ys m (n + 1) capacity ≡ added old p giver
  added_is = λ i. record { admits = λ q. ltb q m; processors = added_processors i; before = added_order i; room = added_room i }
