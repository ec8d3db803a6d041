-- A chain of arrows leads forwards, inside the run, and has a last arrow. Assumes nothing.
use Rattle.std.proofs.Common.{◌≡◌, ℕ, ◌<◌, ◌⊎◌, refl, subst, inl, inr, ⊎_elim, arith}
use Rattle.operations.specs.History.{History, Arrow, Before, arrow, chain}

arrow_forwards : {H : History} {a b : ℕ} → Arrow H a b → a < b
arrow_forwards (inl p) = p.later
arrow_forwards (inr p) = p.source.earlier

arrow_inside : {H : History} {a b : ℕ} → Arrow H a b → b < H.size
arrow_inside (inl p) = p.inside
arrow_inside (inr p) = p.inside

pub forwards : {H : History} {a b : ℕ} → Before H a b → a < b
forwards (arrow p) = arrow_forwards p
forwards (chain p q) = let f = forwards p in let g = forwards q in omega arith

pub inside : {H : History} {a b : ℕ} → Before H a b → b < H.size
inside (arrow p) = arrow_inside p
inside (chain p q) = inside q

-- the last arrow of a chain, and what leads to it
pub last_arrow : {H : History} {a b : ℕ} → Before H a b → (c : ℕ) × Arrow H c b × ((a ≡ c) ⊎ Before H a c)
last_arrow {a = a} (arrow p) = (a, p, inl refl)
last_arrow {H} {a} (chain {b = b} p q) =
    let r = last_arrow q in
    (r.0, r.1, inr (⊎_elim (λ (e : b ≡ r.0). subst (λ c. Before H a c) e p) (λ (s : Before H b r.0). chain p s) r.2))
