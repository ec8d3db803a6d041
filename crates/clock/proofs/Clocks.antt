-- Rows that stay sound: as they are, and with one more. Assumes nothing.
use Rattle.std.proofs.Common.{◌≡◌, ℕ, zero, suc, ◌+◌, ◌*◌, ◌<◌, ◌≤◌, max, true, false, cond, eqb, List, ◌++◌, length, get_or, Some, None, Option, sym, refl, ap, ◌∙◌, subst, ⊎_elim, zero-le, le_refl, add-one, arith}
use lib.Arith.{digits_lt}
use Rattle.std.specs.List.{SameBelow}
use Rattle.std.proofs.lemmas.List.{get_or_append_left, get_or-append-add}
use Rattle.std.proofs.lemmas.Bool.{cases_lt, cases_eq, eq-eqb, ne_eqb}
use Rattle.keepers.specs.Adding.{latest_of, Among}
use Rattle.keepers.proofs.Latest.{latest_among, latest_same}
use Rattle.clock.specs.Rows.{processor_of, count_of, own_count, latest_count, Sound, count_from, new_count}

-- two lists with the same first n rows
module _ (xs ys : List ℕ) (m n : ℕ) (same : SameBelow xs ys (n * (m + 1))) where
  pub same_processor : (k : ℕ) → k < n → processor_of ys m k ≡ processor_of xs m k
  same_processor k h = same (k * (m + 1)) 0 (omega (arith, digits_lt {q = k} {m = n} {r = 0} {c = m + 1} h (omega arith)))

  pub same_count : (k q : ℕ) → k < n → q < m → count_of ys m k q ≡ count_of xs m k q
  same_count k q h b = same (k * (m + 1) + (q + 1)) 0 (digits_lt {q = k} {m = n} {r = q + 1} {c = m + 1} h (omega arith))

  pub same_own : (k : ℕ) → k < n → processor_of xs m k < m → own_count ys m k ≡ own_count xs m k
  same_own k h b = ap (count_of ys m k) (same_processor k h) ∙ same_count k (processor_of xs m k) h b

  pub same_latest : (q j : ℕ) → j ≤ n → q < m → latest_count ys m q j ≡ latest_count xs m q j
  same_latest q zero h b = refl
  same_latest q (suc j) h b =
      let f : j < n = omega arith in
      let p = same_processor j f in
      let s = same_count j q f b in
      let t = same_latest q j (omega arith) b in
      cc

  pub kept_sound : Sound xs m n → Sound ys m n
  kept_sound s = (
    λ k h. omega (arith, same_processor k h, s.0 k h),
    λ k h. omega (arith, same_own k h (s.0 k h), s.1 k h),
    λ k q h b. omega (arith, same_count k q h b, same_latest q n (le_refl n) b, s.2 k q h b),
    λ k q h b. omega (arith, same_count k q h b, s.3 k q h b),
  )

-- what the latest operation of p counts of p
pub latest_counts : (xs : List ℕ) (m p n : ℕ) → count_from xs m (latest_of (processor_of xs m) p n) p ≡ latest_count xs m p n
latest_counts xs m p zero = refl
latest_counts xs m p (suc n) =
    elim (eqb (processor_of xs m n) p) as (λ b. count_from xs m (cond b (Some n) (latest_of (processor_of xs m) p n)) p ≡ cond b (count_of xs m n p) (latest_count xs m p n)) [ true ↦ refl | false ↦ latest_counts xs m p n ]

-- what an operation that may be absent counts
pub from_latest : (xs : List ℕ) (m n : ℕ) → Sound xs m n → (o : Option ℕ) → Among o n → (q : ℕ) → q < m → count_from xs m o q ≤ latest_count xs m q n
from_latest xs m n s None h q b = zero-le
from_latest xs m n s (Some k) h q b = s.2 k q h b

pub from_small : (xs : List ℕ) (m n : ℕ) → Sound xs m n → (o : Option ℕ) → Among o n → (q : ℕ) → q < m → count_from xs m o q ≤ n
from_small xs m n s None h q b = zero-le
from_small xs m n s (Some k) h q b = s.3 k q h b

pub from_same : (xs ys : List ℕ) (m n : ℕ) → SameBelow xs ys (n * (m + 1)) → (o : Option ℕ) → Among o n → (q : ℕ) → q < m → count_from ys m o q ≡ count_from xs m o q
from_same xs ys m n same None h q b = refl
from_same xs ys m n same (Some k) h q b = same_count xs ys m n same k q h b

-- rows ys are rows xs and one more, of the processor p with a giver
module _ (xs ys : List ℕ) (m n p : ℕ) (giver : Option ℕ) (s : Sound xs m n) (given : Among giver n) (admitted : p < m) (same : SameBelow xs ys (n * (m + 1))) (named : processor_of ys m n ≡ p) (joined : (q : ℕ) → q < m → count_of ys m n q ≡ new_count xs m p (latest_of (processor_of xs m) p n) giver q) where
  abbrev last : Option ℕ
  last = latest_of (processor_of xs m) p n

  last_among : Among last n
  last_among = latest_among (processor_of xs m) p n

  -- what the new operation counts of its own processor
  pub own_new : own_count ys m n ≡ max (latest_count xs m p n) (count_from xs m giver p) + 1
  own_new = ap (count_of ys m n) named ∙ joined p admitted ∙ (let e = latest_counts xs m p n in let o : eqb p p ≡ true = eq-eqb p p refl in cc)

  count_other : (q : ℕ) → q < m → (p ≡ q → ⊥) → count_of ys m n q ≡ max (count_from xs m last q) (count_from xs m giver q)
  count_other q b ne = let o : eqb q p ≡ false = ne_eqb q p (λ e. ne (sym e)) in joined q b ∙ ap (λ t. max (count_from xs m last q) (count_from xs m giver q) + cond t 1 0) o ∙ omega arith

  latest_own : (q : ℕ) → p ≡ q → latest_count ys m q (suc n) ≡ count_of ys m n q
  latest_own q e = let o : eqb (processor_of ys m n) q ≡ true = eq-eqb _ _ (named ∙ e) in ap (λ t. cond t (count_of ys m n q) (latest_count ys m q n)) o

  latest_other : (q : ℕ) → q < m → (p ≡ q → ⊥) → latest_count ys m q (suc n) ≡ latest_count xs m q n
  latest_other q b ne = let o : eqb (processor_of ys m n) q ≡ false = ne_eqb _ _ (λ e. ne (sym named ∙ e)) in ap (λ t. cond t (count_of ys m n q) (latest_count ys m q n)) o ∙ same_latest xs ys m n same q n (le_refl n) b

  next_latest : (k q : ℕ) → k < suc n → q < m → count_of ys m k q ≤ latest_count ys m q (suc n)
  next_latest k q h b =
      ⊎_elim
      (λ e. ⊎_elim (λ l. subst (λ z. count_of ys m k z ≤ latest_count ys m z (suc n)) e (omega (arith, latest_own p refl, ap (count_of ys m n) named, own_new, same_count xs ys m n same k p l admitted, s.2 k p l admitted)))
      (λ l. let f : k ≡ n = omega arith in subst (λ z. count_of ys m z q ≤ latest_count ys m q (suc n)) (sym f) (omega (arith, latest_own q e))) (cases_lt k n))
      (λ ne. ⊎_elim (λ l. omega (arith, latest_other q b ne, same_count xs ys m n same k q l b, s.2 k q l b))
      (λ l. let f : k ≡ n = omega arith in subst (λ z. count_of ys m z q ≤ latest_count ys m q (suc n)) (sym f) (omega (arith, latest_other q b ne, count_other q b ne, from_latest xs m n s last last_among q b, from_latest xs m n s giver given q b))) (cases_lt k n))
      (cases_eq p q)

  new_small : (q : ℕ) → q < m → new_count xs m p last giver q ≤ n + 1
  new_small q b =
      let f = from_small xs m n s last last_among q b in
      let g = from_small xs m n s giver given q b in
      elim (eqb q p) as (λ t. max (count_from xs m last q) (count_from xs m giver q) + cond t 1 0 ≤ n + 1) [ true ↦ omega arith | false ↦ omega arith ]

  next_rows : Sound ys m (suc n)
  next_rows = (
    λ k h. ⊎_elim (λ l. omega (arith, same_processor xs ys m n same k l, s.0 k l)) (λ l. let f : k ≡ n = omega arith in subst (λ z. processor_of ys m z < m) (sym f) (omega (arith, named))) (cases_lt k n),
    λ k h. ⊎_elim (λ l. omega (arith, same_own xs ys m n same k l (s.0 k l), s.1 k l)) (λ l. let f : k ≡ n = omega arith in subst (λ z. 0 < own_count ys m z) (sym f) (omega (arith, own_new))) (cases_lt k n),
    next_latest,
    λ k q h b. ⊎_elim (λ l. omega (arith, same_count xs ys m n same k q l b, s.3 k q l b)) (λ l. let f : k ≡ n = omega arith in subst (λ z. count_of ys m z q ≤ suc n) (sym f) (omega (arith, joined q b, new_small q b))) (cases_lt k n),
  )

  pub next_sound : Sound ys m (n + 1)
  next_sound = subst (λ k. Sound ys m k) (sym (add-one n)) next_rows

-- rows xs, copied to the front of ys, and one more row that is written from the copy
pub record RowAdded (xs ys : List ℕ) (m n p : ℕ) (giver : Option ℕ) : Type 0 where
  pub same : SameBelow xs ys (n * (m + 1))
  pub named : processor_of ys m n ≡ p
  pub joined : (q : ℕ) → q < m → count_of ys m n q ≡ new_count xs m p (latest_of (processor_of xs m) p n) giver q

module _ (xs held free : List ℕ) (m n k width p : ℕ) (giver : Option ℕ) (count : k ≡ n) (wide : width ≡ m + 1) (same : SameBelow xs held (k * width)) where
  abbrev first : ℕ
  first = n * (m + 1)

  used : k * width ≡ first
  used = cc

  pub same_held : SameBelow xs held first
  same_held = subst (SameBelow xs held) used same

  free_at : (i j : ℕ) → length held ≡ k * width → i ≡ first + j → get_or (held ++ free) i 0 ≡ get_or free j 0
  free_at i j size e = rw (e ∙ ap (λ l. l + j) (sym (size ∙ used))) (get_or-append-add held free j 0)

  pub row_added : length held ≡ k * width → Among giver n → get_or free 0 0 ≡ p → ((q : ℕ) → q < m → get_or free (q + 1) 0 ≡ new_count held m p (latest_of (processor_of held m) p n) giver q) → RowAdded xs (held ++ free) m n p giver
  row_added size given named counted = record {
    same = λ i d h. get_or_append_left held free d i (omega (arith, used)) ∙ same_held i d h;
    named = free_at first 0 size (omega arith) ∙ named;
    joined = λ q b.
        let r : get_or (held ++ free) (first + (q + 1)) 0 ≡ get_or free (q + 1) 0 = free_at (first + (q + 1)) (q + 1) size (omega arith) in
        let l = latest_same (processor_of held m) (processor_of xs m) p n (same_processor xs held m n same_held) in
        let f = from_same xs held m n same_held (latest_of (processor_of xs m) p n) (latest_among (processor_of xs m) p n) q b in
        let g = from_same xs held m n same_held giver given q b in
        let c = counted q b in
        cc;
  }
