-- The latest operation of a processor, as a search of the numbers below n from the back finds it. Assumes nothing.
use Rattle.std.proofs.Common.{◌≡◌, ℕ, zero, suc, ◌+◌, ◌-◌, ◌<◌, ◌≤◌, Bool, true, false, eqb, Some, None, Option, Bor, refl, ap, sym, subst, ◌∙◌, ⊎_elim, arith, MatchOption, IfSome, IsSomeAnd}
use denote.Param.Members.{Mut}
use Rattle.std.specs.Bool.{IsTrue}
use Rattle.std.specs.Option.{option_map}
use Rattle.std.specs.Fn.{CalledAt}
use Rattle.std.specs.Iterator.Runs.{Run, ItemsCountDown, NoItemPasses, EndsAtFirstPassing, CallKeepsClosure}
use Rattle.std.proofs.lemmas.Bool.{cases_lt}
use Rattle.keepers.specs.Adding.{latest_of}

module _ (f : ℕ → ℕ) (p : ℕ) where
  -- operation w is p's, and no later one is
  latest_is : (n w : ℕ) → w < n → eqb (f w) p ≡ true → ((v : ℕ) → w < v → v < n → eqb (f v) p ≡ false) → latest_of f p n ≡ Some w
  latest_is zero w h e later = absurd (omega arith)
  latest_is (suc n) w h e later =
      ⊎_elim
      (λ (b : w < n). let miss = later n b (omega arith) in let rest = latest_is n w b e (λ v l u. later v l (omega (arith, u))) in cc)
      (λ (b : n ≤ w). let last : n ≡ w = omega arith in let hit : eqb (f n) p ≡ true = subst (λ k. eqb (f k) p ≡ true) (sym last) e in cc)
      (cases_lt w n)

  -- none is p's
  latest_is_none : (n : ℕ) → ((v : ℕ) → v < n → eqb (f v) p ≡ false) → latest_of f p n ≡ None
  latest_is_none zero h = refl
  latest_is_none (suc n) h =
      let miss = h n (omega arith) in
      let rest = latest_is_none n (λ v b. h v (omega (arith, b))) in
      cc

-- what holds of the item at a place, where the item is known
known : (P : ℕ → Type 0) (o : Option ℕ) (x : ℕ) → option_map (λ y. y) o ≡ Some x → IfSome o P → P x
known P None x e h = absurd (let z : ◌≡◌ {A = Option ℕ} None (Some x) = e in cc)
known P (Some y) x e h = subst P (let z : ◌≡◌ {A = Option ℕ} (Some y) (Some x) = e in cc) h

if_some : (P : ℕ → Type 0) (o : Option ℕ) → IsSomeAnd o P → IfSome o P
if_some P None h = absurd h
if_some P (Some y) h = h

-- the closure g, which keeps its state, tells whether an operation is p's; a run u counts down from n, until g answers true
module _ {S F : Type 0} {steps : S → Option ℕ → S → Type 0} (g : Mut F (Bor ℕ × Unit {0}) Bool) (state : F) (f : ℕ → ℕ) (p n : ℕ) (u : Run steps) (keeps : CallKeepsClosure g state) (down : ItemsCountDown u 0 n) (tells : (x : ℕ) (b : Bool) → x < n → CalledAt g state x b state → b ≡ eqb (f x) p) where
  -- what g answered at an item of the run
  told : (b : Bool) (v : ℕ) → v < n → n - 1 - v < u.len → IfSome (u.at (n - 1 - v)) (λ x. CalledAt g state x b state) → eqb (f v) p ≡ b
  told b v below l h =
      let back : n - 1 - (n - 1 - v) ≡ v = omega arith in
      sym (tells v b below (known (λ x. CalledAt g state x b state) (u.at (n - 1 - v)) v (down.3 (n - 1 - v) l ∙ ap Some back) h))

  pub searched : (r : Option ℕ) → MatchOption r (IsTrue u.whole × NoItemPasses u g state) (EndsAtFirstPassing u g state) → r ≡ latest_of f p n
  searched None h =
      let all : u.len ≡ n - 0 = down.1 h.0 in
      sym (latest_is_none f p n (λ v b. told false v b (omega arith) (h.1 keeps (n - 1 - v))))
  searched (Some w) h =
      let there : (w + h.0 + 1 ≡ n) × (0 ≤ w) = known _ (u.at h.0) w (ap (option_map (λ y. y)) h.2) (down.2 h.0) in
      let found = h.3 keeps in
      sym (latest_is f p n w (omega (arith, there.0)) (sym (tells w true (omega (arith, there.0)) found.0))
      (λ v l b. told false v b (omega (arith, there.0, h.1)) (if_some _ (u.at (n - 1 - v)) (found.1 (n - 1 - v) (omega (arith, there.0))))))
