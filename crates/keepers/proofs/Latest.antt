-- The latest operation of a processor, and operations that may be absent. Assumes nothing.
use Rattle.std.proofs.Common.{◌≡◌, ℕ, zero, suc, ◌<◌, true, false, cond, eqb, Some, None, Option, refl, ap, arith}
use Rattle.std.proofs.lemmas.Bool.{eq-eqb, ne_eqb}
use Rattle.keepers.specs.Adding.{latest_of, Among}

among_more : (o : Option ℕ) (n : ℕ) → Among o n → Among o (suc n)
among_more None n h = h
among_more (Some k) n h = omega arith

pub latest_among : (f : ℕ → ℕ) (p n : ℕ) → Among (latest_of f p n) n
latest_among f p zero = tt
latest_among f p (suc n) =
    elim (eqb (f n) p) as (λ b. Among (cond b (Some n) (latest_of f p n)) (suc n)) [ true ↦ omega arith | false ↦ among_more (latest_of f p n) n (latest_among f p n) ]

-- of the first n operations, those that are p's by f are q's by g
pub latest_like : (f g : ℕ → ℕ) (p q n : ℕ) → ((k : ℕ) → k < n → eqb (f k) p ≡ eqb (g k) q) → latest_of f p n ≡ latest_of g q n
latest_like f g p q zero h = refl
latest_like f g p q (suc n) h =
    let e = h n (omega arith) in
    let r = latest_like f g p q n (λ k b. h k (omega arith)) in
    cc

-- the first n operations are of the same processors
pub latest_same : (f g : ℕ → ℕ) (p n : ℕ) → ((k : ℕ) → k < n → f k ≡ g k) → latest_of f p n ≡ latest_of g p n
latest_same f g p n h = latest_like f g p p n (λ k b. ap (λ z. eqb z p) (h k b))

-- operation n is p's, or not
pub latest_here : (f : ℕ → ℕ) (p n : ℕ) → f n ≡ p → latest_of f p (suc n) ≡ Some n
latest_here f p n e = ap (λ t. cond t (Some n) (latest_of f p n)) (eq-eqb (f n) p e)

pub latest_earlier : (f : ℕ → ℕ) (p n : ℕ) → (f n ≡ p → ⊥) → latest_of f p (suc n) ≡ latest_of f p n
latest_earlier f p n ne = ap (λ t. cond t (Some n) (latest_of f p n)) (ne_eqb (f n) p ne)
