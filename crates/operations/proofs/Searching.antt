-- The last number that passes a test: one step of a search, and searches with equal tests. Assumes nothing.
use Rattle.std.proofs.Common.{◌≡◌, ℕ, zero, suc, ◌-◌, ◌<◌, ◌≤◌, Bool, true, false, cond, ◌&&◌, List, length, get_or, ℤ, Some, None, Option, sym, refl, ap, ◌∙◌, subst, ⊎_elim, arith, [], ◌∷◌, MatchOption, IfSome}
use Rattle.std.specs.Bool.{then_some}
use Rattle.std.proofs.lemmas.List.{get_or-map}
use Rattle.std.proofs.lemmas.Bool.{cases_lt}
use Rattle.operations.specs.declared.operation.Operation.{Operation}
use Rattle.operations.specs.Events.{Event, event, events, at, nothing}
use Rattle.operations.specs.Sources.{last_such, writes_to, latest_write, if_paired, release_for}
use Rattle.operations.specs.Kinds.{acquire_kind, release_kind}

less_one : (k : ℕ) → suc k - 1 ≡ k
less_one k = omega arith

-- one step of a walk down
pub such_hit : (t : ℕ → Bool) (k : ℕ) → 0 < k → t (k - 1) ≡ true → last_such t k ≡ Some (k - 1)
such_hit t zero h e = absurd (omega arith)
such_hit t (suc k) h e = rw (less_one k) (rw (rw (less_one k) at e) refl)

pub such_miss : (t : ℕ → Bool) (k : ℕ) → 0 < k → t (k - 1) ≡ false → last_such t k ≡ last_such t (k - 1)
such_miss t zero h e = refl
such_miss t (suc k) h e = rw (less_one k) (rw (rw (less_one k) at e) refl)

-- tests that agree below n
pub such_agree : (t u : ℕ → Bool) (n : ℕ) → ((k : ℕ) → k < n → t k ≡ u k) → last_such t n ≡ last_such u n
such_agree t u zero h = refl
such_agree t u (suc n) h =
    let e = h n (omega arith) in
    let r = such_agree t u n (λ k b. h k (omega arith)) in
    cc

-- a number that passes where no later one does is the last such
pub such_is : (t : ℕ → Bool) (n w : ℕ) → w < n → t w ≡ true → ((v : ℕ) → w < v → v < n → t v ≡ false) → last_such t n ≡ Some w
such_is t zero w h e later = absurd (omega arith)
such_is t (suc n) w h e later =
    ⊎_elim
    (λ (b : w < n). let miss = later n b (omega arith) in let rest = such_is t n w b e (λ v l u. later v l (omega (arith, u))) in cc)
    (λ (b : n ≤ w). let last : n ≡ w = omega arith in let hit : t n ≡ true = subst (λ k. t k ≡ true) (sym last) e in cc)
    (cases_lt w n)

pub such_is_none : (t : ℕ → Bool) (n : ℕ) → ((v : ℕ) → v < n → t v ≡ false) → last_such t n ≡ None
such_is_none t zero h = refl
such_is_none t (suc n) h =
    let miss = h n (omega arith) in
    let rest = such_is_none t n (λ v b. h v (omega (arith, b))) in
    cc

-- what is found passes the test and nothing later does; where nothing is found nothing passes
pub such_found : (t : ℕ → Bool) (n w : ℕ) → last_such t n ≡ Some w → (w < n) × (t w ≡ true) × ((v : ℕ) → w < v → v < n → t v ≡ false)
such_found t zero w e = absurd (let z : ◌≡◌ {A = ℕ} 0 1 = cc in omega arith)
such_found t (suc n) w e = go (t n) refl (λ rest. such_found t n w rest)
  where
    go : (b : Bool) → t n ≡ b → (last_such t n ≡ Some w → (w < n) × (t w ≡ true) × ((v : ℕ) → w < v → v < n → t v ≡ false)) → (w < suc n) × (t w ≡ true) × ((v : ℕ) → w < v → v < suc n → t v ≡ false)
    go true is below =
        let same : n ≡ w = cc in
        (omega arith, subst (λ k. t k ≡ true) same is, λ v l u. absurd (omega arith))
    go false is below =
        let rest : last_such t n ≡ Some w = cc in
        let r = below rest in
        (omega (arith, r.0), r.1, λ v l u. ⊎_elim (λ (b : v < n). r.2 v l b) (λ (b : n ≤ v). subst (λ k. t k ≡ false) (let same : n ≡ v = omega arith in same) is) (cases_lt v n))

pub such_none : (t : ℕ → Bool) (n : ℕ) → last_such t n ≡ None → (v : ℕ) → v < n → t v ≡ false
such_none t zero e v h = absurd (omega arith)
such_none t (suc n) e v h = go (t n) refl (λ rest. such_none t n rest v)
  where
    go : (b : Bool) → t n ≡ b → (last_such t n ≡ None → v < n → t v ≡ false) → t v ≡ false
    go true is below = absurd (let z : ◌≡◌ {A = ℕ} 0 1 = cc in omega arith)
    go false is below =
        let rest : last_such t n ≡ None = cc in
        ⊎_elim (λ (b : v < n). below rest b) (λ (b : n ≤ v). subst (λ k. t k ≡ false) (let same : n ≡ v = omega arith in same) is) (cases_lt v n)

-- an operation of the code, by its number
pub at_events : {W : Type 0} (value : W → List ℤ) (xs : List (Operation W)) (k : ℕ) (x : Operation W) → k < length xs → x ≡ get_or xs k x → at (events value xs) k ≡ event value x
at_events value xs k x h is = get_or-map (event value) xs k x nothing h ∙ ap (event value) (sym is)

-- the latest write to a location, by what a search of the record as it is says of it
module _ {W : Type 0} (value : W → List ℤ) (l : ℕ) where
  written : (b : Bool) (xs : List (Operation W)) (k : ℕ) → k < length xs → ((d : Operation W) → writes_to (event value (get_or xs k d)) l ≡ b) → writes_to (at (events value xs) k) l ≡ b
  written b [] k h is = absurd (omega arith)
  written b (y ∷ ys) k h is = ap (λ e. writes_to e l) (get_or-map (event value) (y ∷ ys) k y nothing h) ∙ is y

  pub latest_is :
      (xs : List (Operation W)) (r : Option ℕ)
      → MatchOption r ((k : ℕ) → k < length xs → (d : Operation W) → writes_to (event value (get_or xs k d)) l ≡ false) (λ w. Unit {0})
      → IfSome r (λ w. w < length xs)
      → IfSome r (λ w. (d : Operation W) → writes_to (event value (get_or xs w d)) l ≡ true)
      → IfSome r (λ w. (k : ℕ) → w < k → k < length xs → (d : Operation W) → writes_to (event value (get_or xs k d)) l ≡ false)
      → r ≡ latest_write (at (events value xs)) l (length xs)
  latest_is xs None none bound hit miss = sym (such_is_none (λ k. writes_to (at (events value xs) k) l) (length xs) (λ k h. written false xs k h (none k h)))
  latest_is xs (Some w) none bound hit miss =
      sym (such_is (λ k. writes_to (at (events value xs) k) l) (length xs) w bound (written true xs w bound hit) (λ k b h. written false xs k h (miss k b h)))

-- the release paired with an acquire, once its source is known
module _ (pairs : ℕ → ℕ → Bool) (op : ℕ → Event) (n : ℕ) (e : Event) (k : ℕ) (x : Event) (acquires : acquire_kind e.kind ≡ true) (found : latest_write op e.location n ≡ Some k) (is : op k ≡ x) where
  pub release_at : release_for pairs op n e ≡ then_some (release_kind x.kind && pairs x.class e.class) k
  release_at =
      ap (λ (c : Bool). cond c (if_paired pairs op e (latest_write op e.location n)) None) acquires
      ∙ ap (if_paired pairs op e) found
      ∙ ap (λ (y : Event). cond (release_kind y.kind && pairs y.class e.class) (Some k) None) is
      ∙ chosen (release_kind x.kind && pairs x.class e.class)
    where
      chosen : (b : Bool) → ◌≡◌ {A = Option ℕ} (cond b (Some k) None) (then_some b k)
      chosen true = refl
      chosen false = refl
