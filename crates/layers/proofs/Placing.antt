-- Where a number stands in a list that has it once. Assumes nothing.
use Rattle.std.proofs.Common.{◌≡◌, ℕ, zero, suc, ◌+◌, ◌<◌, ◌≤◌, cond, eqb, ltb, List, [], ◌∷◌, length, get_or, take, drop, sym, refl, ap, ◌∙◌, ⊎_elim, arith, length-drop}
use Rattle.std.proofs.lemmas.List.{get_or-take, length-take-le}
use Rattle.std.proofs.lemmas.List.Sums.{sum_by-cons, sum_by-take-drop, sum_by-drop_more, get_or-le-sum_by, count_by-le-length, position_or_len_is, passes_at_first}
use Rattle.std.proofs.lemmas.Bool.{cases_lt, eq-eqb, eqb-true, ne_eqb, le-ltb}
use Rattle.std.proofs.lemmas.Bool.Decides.{nat_tests}
use Rattle.std.specs.List.{count_by}
use Rattle.layers.specs.Renumbering.{times, Once, place}

-- 1 at q, and 1 below n
abbrev at : ℕ → ℕ → ℕ
at q x = cond (eqb x q) 1 0

abbrev under : ℕ → ℕ → ℕ
under n x = cond (ltb x n) 1 0

-- q stands at k and at p, so it stands more than once
twice : (xs : List ℕ) (q k p : ℕ) → k < p → p < length xs → get_or xs k 0 ≡ q → get_or xs p 0 ≡ q → 1 < times q xs
unfolding times
twice xs q k p b h d e =
    let one : at q (get_or xs k 0) ≡ 1 = ap (λ t. cond t 1 0) (eq-eqb _ _ d) in
    let other : at q (get_or xs p 0) ≡ 1 = ap (λ t. cond t 1 0) (eq-eqb _ _ e) in
    let first : at q (get_or (take p xs) k 0) ≡ 1 = ap (at q) (get_or-take p xs k 0 b) ∙ one in
    let long : length (take p xs) ≡ p = length-take-le p xs (omega arith) in
    omega (arith, sum_by-take-drop (at q) xs p, sum_by-drop_more (at q) xs p 0 h, get_or-le-sum_by (at q) (take p xs) k 0 (omega arith))

pub place_at : (xs : List ℕ) (q p : ℕ) → p < length xs → place xs q ≡ p → get_or xs p 0 ≡ q
place_at xs q p h e = eqb-true (get_or xs p 0) q (ap (λ k. eqb (get_or xs k 0) q) (sym e) ∙ passes_at_first (λ x. eqb x q) xs 0 (omega arith))

pub place_only : (xs : List ℕ) (q p : ℕ) → p < length xs → get_or xs p 0 ≡ q → times q xs ≡ 1 → place xs q ≡ p
place_only xs q p h e o =
    position_or_len_is (λ x. eqb x q) xs p 0 (omega arith) (λ k b. ne_eqb _ _ (λ (d : get_or xs k 0 ≡ q). omega (arith, twice xs q k p b h d e))) (λ _. eq-eqb _ _ e)

-- how many entries are below n
below_zero : (xs : List ℕ) → count_by (λ x. ltb x 0) xs ≡ 0
below_zero [] = omega arith
below_zero (x ∷ xs) = omega (arith, sum_by-cons (under 0) x xs, below_zero xs, ap {B = ℕ} (λ t. cond t 1 0) (le-ltb x 0 (omega arith)))

step : (x n : ℕ) → at n x + under n x ≡ under (suc n) x
step x n = grind (arith, nat_tests)

below_more : (n : ℕ) (xs : List ℕ) → count_by (λ x. ltb x (suc n)) xs ≡ times n xs + count_by (λ x. ltb x n) xs
unfolding times
below_more n [] = omega arith
below_more n (x ∷ xs) = omega (arith, sum_by-cons (under (suc n)) x xs, sum_by-cons (at n) x xs, sum_by-cons (under n) x xs, step x n, below_more n xs)

below_once : (n : ℕ) (xs : List ℕ) → ((q : ℕ) → q < n → times q xs ≡ 1) → count_by (λ x. ltb x n) xs ≡ n
below_once zero xs h = below_zero xs
below_once (suc n) xs h = omega (arith, below_more n xs, h n (omega arith), below_once n xs (λ q b. h q (omega arith)))

missed : (n : ℕ) (xs : List ℕ) (p : ℕ) → p < length xs → n ≤ get_or xs p 0 → count_by (λ x. ltb x n) xs < length xs
missed n xs p h b =
    let none : under n (get_or xs p 0) ≡ 0 = ap (λ t. cond t 1 0) (le-ltb _ _ b) in
    let front : length (take p xs) ≡ p = length-take-le p xs (omega arith) in
    omega (arith, sum_by-take-drop (under n) xs p, sum_by-drop_more (under n) xs p 0 h, count_by-le-length (λ x. ltb x n) (take p xs), count_by-le-length (λ x. ltb x n) (drop (p + 1) xs), length-drop (p + 1) xs)

-- each entry is one of 0 to 15
pub entry_small : (xs : List ℕ) → length xs ≡ 16 → Once xs → (p : ℕ) → p < 16 → get_or xs p 0 < 16
entry_small xs l o p h = ⊎_elim (λ k. k) (λ k. absurd (omega (arith, below_once 16 xs o, missed 16 xs p (omega arith) k))) (cases_lt (get_or xs p 0) 16)

pub place_entry : (xs : List ℕ) → length xs ≡ 16 → Once xs → (p : ℕ) → p < 16 → place xs (get_or xs p 0) ≡ p
place_entry xs l o p h = place_only xs (get_or xs p 0) p (omega arith) refl (o (get_or xs p 0) (entry_small xs l o p h))

-- q stands at p: the test by place, and the test by entry
pub same_test : (xs : List ℕ) → length xs ≡ 16 → Once xs → (q p : ℕ) → p < 16 → eqb (place xs q) p ≡ eqb q (get_or xs p 0)
same_test xs l o q p h = grind (arith, nat_tests, place_at, place_entry)
