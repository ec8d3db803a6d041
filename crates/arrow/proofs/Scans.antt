-- Whether one of the first numbers passes two tests, and how the answer follows a change. Assumes nothing.
use Rattle.std.proofs.Common.{◌≡◌, ℕ, zero, suc, ◌<◌, Bool, true, false, ◌&&◌, ◌||◌, sym, refl, ap, ◌∙◌, subst, ⊎_elim, arith}
use Rattle.std.proofs.lemmas.Bool.{cases_eq, and_left, and_right}

-- one of the first n numbers passes both tests
abbrev pub scan : (ℕ → Bool) → (ℕ → Bool) → ℕ → Bool
scan t r zero = false
scan t r (suc k) = (t k && r k) || scan t r k

or_swap : (x y z : Bool) → (x || (y || z)) ≡ (y || (x || z))
or_swap x y z = grind arith

or_again : (e r s : Bool) → (r || s) ≡ (r || ((e && r) || s))
or_again e r s = grind arith

or_less : (e g r s : Bool) → ((e && (g || r)) || s) ≡ ((e && (g || r)) || ((e && r) || s))
or_less e g r s = grind arith

-- the same tests
pub scan_same : (t u r s : ℕ → Bool) (n : ℕ) → ((k : ℕ) → k < n → t k ≡ u k) → ((k : ℕ) → k < n → r k ≡ s k) → scan t r n ≡ scan u s n
scan_same t u r s zero h l = refl
scan_same t u r s (suc n) h l =
    let e = h n (omega arith) in
    let f = l n (omega arith) in
    let i = scan_same t u r s n (λ k b. h k (omega arith)) (λ k b. l k (omega arith)) in
    cc

-- no number passes the first test, or the second
pub scan_first : (t r : ℕ → Bool) (n : ℕ) → ((k : ℕ) → k < n → t k ≡ false) → scan t r n ≡ false
scan_first t r zero h = refl
scan_first t r (suc n) h = ap (λ z. z || scan t r n) (and_left (t n) (r n) (h n (omega arith))) ∙ scan_first t r n (λ k l. h k (omega arith))

pub scan_second : (t r : ℕ → Bool) (n : ℕ) → ((k : ℕ) → k < n → r k ≡ false) → scan t r n ≡ false
scan_second t r zero h = refl
scan_second t r (suc n) h = ap (λ z. z || scan t r n) (and_right (t n) (r n) (h n (omega arith))) ∙ scan_second t r n (λ k l. h k (omega arith))

-- the number x passes the first test too
pub scan_more : (t u r : ℕ → Bool) (x n : ℕ) → x < n → u x ≡ true → ((k : ℕ) → (k ≡ x → ⊥) → u k ≡ t k) → scan u r n ≡ (r x || scan t r n)
scan_more t u r x zero h e f = absurd (omega arith)
scan_more t u r x (suc n) h e f =
    ⊎_elim
    (λ q.
    subst (λ z. ((u n && r n) || scan u r n) ≡ (r z || ((t n && r n) || scan t r n))) (sym q)
    (ap (λ z. (z && r n) || scan u r n) (ap u (sym q) ∙ e) ∙ ap (λ z. r n || z) (scan_same u t r r n (λ k b. f k (λ w. omega arith)) (λ k b. refl)) ∙ or_again (t n) (r n) (scan t r n)))
    (λ ne. ap (λ z. (z && r n) || scan u r n) (f n (λ w. ne (sym w))) ∙ ap (λ z. (t n && r n) || z) (scan_more t u r x n (omega arith) e f) ∙ or_swap (t n && r n) (r x) (scan t r n))
    (cases_eq x n)

-- the second test is weaker at x
pub scan_weaker : (t r s : ℕ → Bool) (g : Bool) (x n : ℕ) → x < n → s x ≡ (g || r x) → ((k : ℕ) → (k ≡ x → ⊥) → s k ≡ r k) → scan t s n ≡ ((t x && s x) || scan t r n)
scan_weaker t r s g x zero h e f = absurd (omega arith)
scan_weaker t r s g x (suc n) h e f =
    ⊎_elim
    (λ q.
    let w : s n ≡ (g || r n) = subst (λ z. s z ≡ (g || r z)) q e in
    subst (λ z. ((t n && s n) || scan t s n) ≡ ((t z && s z) || ((t n && r n) || scan t r n))) (sym q)
    (ap (λ z. (t n && s n) || z) (scan_same t t s r n (λ k b. refl) (λ k b. f k (λ v. omega arith)))
    ∙ subst (λ z. ((t n && z) || scan t r n) ≡ ((t n && z) || ((t n && r n) || scan t r n))) (sym w) (or_less (t n) g (r n) (scan t r n))))
    (λ ne. ap (λ z. (t n && z) || scan t s n) (f n (λ w. ne (sym w))) ∙ ap (λ z. (t n && r n) || z) (scan_weaker t r s g x n (omega arith) e f) ∙ or_swap (t n && r n) (t x && s x) (scan t r n))
    (cases_eq x n)
