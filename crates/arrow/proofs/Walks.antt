-- What following the arrows backwards from one operation to another finds. Assumes nothing.
use Rattle.std.proofs.Common.{◌≡◌, ℕ, zero, suc, ◌+◌, ◌*◌, ◌<◌, ◌≤◌, Bool, true, false, cond, ◌&&◌, ◌||◌, eqb, ltb, ◌⊎◌, List, length, get_or, set, Some, None, Option, sym, refl, ap, ◌∙◌, subst, inl, inr, ⊎_elim, arith, length-set, get_or-set_other, get_or-set_same}
use Rattle.std.proofs.Math.Bool.{or-false}
use Rattle.std.proofs.lemmas.List.{get_or_append_left, get_or_push}
use Rattle.std.proofs.lemmas.Bool.{cases_lt, cases_eq, le-leb, lt-leb, lt-ltb, le-ltb, eq-eqb, ne_eqb, and_left}
use Rattle.keepers.specs.Meaning.{Meaning, held, most_processors}
use Rattle.keepers.specs.Adding.{latest_of, Among, latest, reaches}
use Rattle.keepers.proofs.Latest.{latest_among, latest_same, latest_here, latest_earlier}
use Rattle.arrow.specs.Arrows.{processor_of, giver_of, arrows, Clear, with_giver}
use Rattle.arrow.specs.Bounds.{arrows_held}
use Rattle.arrow.proofs.Scans.{scan, scan_same, scan_first, scan_second, scan_more, scan_weaker}

-- the giver of operation k is below k
giver_number : (v k : ℕ) → Among (cond (ltb v k) (Some v) None) k
giver_number v k = ⊎_elim (λ l. let t : ltb v k ≡ true = lt-ltb v k l in simp t l) (λ l. let t : ltb v k ≡ false = le-ltb v k l in simp t tt) (cases_lt v k)

pub giver_among : (xs : List ℕ) (k : ℕ) → Among (giver_of xs k) k
giver_among xs k = giver_number (get_or xs (2 * k + 1) 0) k

-- what stands at k among the processors
processors_at : (xs : List ℕ) (m n capacity k : ℕ) → k < n → get_or (arrows xs m n capacity).processors k 0 ≡ processor_of xs k
processors_at xs m zero capacity k h = absurd (omega arith)
processors_at xs m (suc n) capacity k h =
    ⊎_elim
    (λ l. get_or_append_left (arrows xs m n capacity).processors _ 0 k (omega (arith, arrows_held xs m n capacity)) ∙ processors_at xs m n capacity k l)
    (λ l. let e : n ≡ k = omega arith in get_or_push (arrows xs m n capacity).processors (processor_of xs n) 0 k (arrows_held xs m n capacity ∙ e) ∙ ap (processor_of xs) e)
    (cases_lt k n)

-- the order among the first operations
module _ (xs : List ℕ) (m capacity : ℕ) where
  abbrev at : ℕ → Meaning
  at n = arrows xs m n capacity

  latest_is : (n p : ℕ) → latest (at n) p ≡ latest_of (processor_of xs) p n
  latest_is n p = ap (latest_of (λ k. get_or (at n).processors k 0) p) (arrows_held xs m n capacity) ∙ latest_same _ (processor_of xs) p n (processors_at xs m n capacity)

  -- an operation that is not held is before none
  past : (n a b : ℕ) → n ≤ a → (at n).before a b ≡ false
  past zero a b h = refl
  past (suc n) a b h = and_left (ltb a (held (at n))) _ (le-ltb a (held (at n)) (omega (arith, arrows_held xs m n capacity)))

  here : (n a b : ℕ) → a < n → (at (suc n)).before a b ≡ cond (eqb b (held (at n))) (reaches (at n) a (giver_of xs n) || reaches (at n) a (latest (at n) (processor_of xs n))) ((at n).before a b)
  here n a b h = ap (λ z. z && cond (eqb b (held (at n))) (reaches (at n) a (giver_of xs n) || reaches (at n) a (latest (at n) (processor_of xs n))) ((at n).before a b)) (lt-ltb a (held (at n)) (omega (arith, arrows_held xs m n capacity)))

  older : (n a b : ℕ) → (b ≡ n → ⊥) → (at (suc n)).before a b ≡ (at n).before a b
  older n a b ne =
      ⊎_elim
      (λ l.
      here n a b l
      ∙ ap (λ z. cond z (reaches (at n) a (giver_of xs n) || reaches (at n) a (latest (at n) (processor_of xs n))) ((at n).before a b)) (ne_eqb b (held (at n)) (λ e. ne (e ∙ arrows_held xs m n capacity))))
      (λ l. and_left (ltb a (held (at n))) _ (le-ltb a (held (at n)) (omega (arith, arrows_held xs m n capacity))) ∙ sym (past n a b l))
      (cases_lt a n)

  newest : (n a : ℕ) → a < n → (at (suc n)).before a n ≡ (reaches (at n) a (giver_of xs n) || reaches (at n) a (latest_of (processor_of xs) (processor_of xs n) n))
  newest n a h =
      here n a n h
      ∙ ap (λ z. cond z (reaches (at n) a (giver_of xs n) || reaches (at n) a (latest (at n) (processor_of xs n))) ((at n).before a n)) (eq-eqb n (held (at n)) (sym (arrows_held xs m n capacity)))
      ∙ ap (λ o. reaches (at n) a (giver_of xs n) || reaches (at n) a o) (latest_is n (processor_of xs n))

  -- an operation is before later ones only
  pub forward : (n a b : ℕ) → b ≤ a → (at n).before a b ≡ false
  forward zero a b h = refl
  forward (suc n) a b h =
      ⊎_elim
      (λ l. older n a b (λ e. omega arith) ∙ forward n a b h)
      (λ l. and_left (ltb a (held (at n))) _ (le-ltb a (held (at n)) (omega (arith, arrows_held xs m n capacity))))
      (cases_lt a n)

  -- later additions leave older answers
  stable : (N n a b : ℕ) → b < n → n ≤ N → (at N).before a b ≡ (at n).before a b
  stable zero n a b h l = absurd (omega arith)
  stable (suc N) n a b h l =
      ⊎_elim (λ e. subst (λ z. (at z).before a b ≡ (at n).before a b) e refl) (λ ne. older N a b (λ e. ne (omega arith)) ∙ stable N n a b h (omega arith)) (cases_eq n (suc N))

  reach_stable : (N n a : ℕ) (o : Option ℕ) → Among o n → n ≤ N → reaches (at n) a o ≡ reaches (at N) a o
  reach_stable N n a None h l = refl
  reach_stable N n a (Some k) h l = ap (λ z. eqb a k || z) (sym (stable N n a k h l))

  -- one arrow back from operation k
  back : (N a k : ℕ) → a < k → k < N → (at N).before a k ≡ (reaches (at N) a (giver_of xs k) || reaches (at N) a (latest_of (processor_of xs) (processor_of xs k) k))
  back N a k l h =
      stable N (suc k) a k (omega arith) (omega arith)
      ∙ newest k a l
      ∙ ap (λ z. z || reaches (at k) a (latest_of (processor_of xs) (processor_of xs k) k)) (reach_stable N k a (giver_of xs k) (giver_among xs k) (omega arith))
      ∙ ap (λ z. reaches (at N) a (giver_of xs k) || z) (reach_stable N k a _ (latest_among (processor_of xs) (processor_of xs k) k) (omega arith))

-- marks: operation k is marked
abbrev pub is_marked : List ℕ → ℕ → Bool
is_marked ms k = eqb (get_or ms k 0) 1

-- a processor is reached
abbrev pub is_reached : List Bool → ℕ → Bool
is_reached fs p = get_or fs p false

-- the marks below a, and those from n on, are 0
abbrev pub ClearOutside : List ℕ → ℕ → ℕ → Type 0
ClearOutside ms a n = (i : ℕ) → i < length ms → (i < a) ⊎ (n ≤ i) → get_or ms i 0 ≡ 0

-- tests on what is found
and_true : (x : Bool) → ((x && true) || false) ≡ x
and_true x = grind arith

both_arrows : (g l s t u v : Bool) → (u || v) ≡ true → ((g || s) || (l || t)) ≡ (((u && (g || l)) || s) || ((v && (g || l)) || t))
both_arrows g l s t u v h = grind arith

-- following the arrows backwards to operation a, where N operations are held
module _ (xs : List ℕ) (m N capacity a : ℕ) where
  abbrev M : Meaning
  M = arrows xs m N capacity

  -- a is operation x or before it
  abbrev from : ℕ → Bool
  from x = reaches M a (Some x)

  -- a is the latest of the first n operations that is p's, or before that one
  abbrev from_latest : ℕ → ℕ → Bool
  from_latest n p = reaches M a (latest_of (processor_of xs) p n)

  -- what is still to be found among the first n operations
  abbrev pub found : List ℕ → List Bool → ℕ → Bool
  found ms fs n = scan (is_marked ms) from n || scan (is_reached fs) (from_latest n) most_processors

  from_later : (k : ℕ) → a < k → from k ≡ M.before a k
  from_later k h = ap (λ z. z || M.before a k) (ne_eqb a k (λ e. omega arith))

  from_earlier : (k : ℕ) → k < a → from k ≡ false
  from_earlier k h = ap (λ z. z || M.before a k) (ne_eqb a k (λ e. omega arith)) ∙ forward xs m capacity N a k (omega arith)

  reaches_earlier : (o : Option ℕ) → Among o a → reaches M a o ≡ false
  reaches_earlier None h = refl
  reaches_earlier (Some k) h = from_earlier k h

  marked_one : (ms : List ℕ) (x n : ℕ) → x < n → x < length ms → scan (is_marked (set ms x 1)) from n ≡ (from x || scan (is_marked ms) from n)
  marked_one ms x n h l =
      scan_more (is_marked ms) (is_marked (set ms x 1)) from x n h (ap (λ z. eqb z 1) (get_or-set_same ms x 1 0 l)) (λ k ne. ap (λ z. eqb z 1) (get_or-set_other ms x k 1 0 ne))

  -- the mark of operation n taken
  marked_less : (ms : List ℕ) (n : ℕ) → scan (is_marked (set ms n 0)) from n ≡ scan (is_marked ms) from n
  marked_less ms n = scan_same _ _ from from n (λ k h. ap (λ z. eqb z 1) (get_or-set_other ms n k 0 0 (λ e. omega arith))) (λ k h. refl)

  -- the mark of a giver
  marked_giver : (ms : List ℕ) (o : Option ℕ) (n : ℕ) → Among o n → n ≤ length ms → scan (is_marked (with_giver ms a o)) from n ≡ (reaches M a o || scan (is_marked ms) from n)
  marked_giver ms None n h l = refl
  marked_giver ms (Some x) n h l =
      ⊎_elim
      (λ b. ap (λ t. scan (is_marked (cond t (set ms x 1) ms)) from n) (lt-leb a x b) ∙ sym (ap (λ z. z || scan (is_marked ms) from n) (from_earlier x b)))
      (λ b. ap (λ t. scan (is_marked (cond t (set ms x 1) ms)) from n) (le-leb a x b) ∙ marked_one ms x n h (omega arith))
      (cases_lt x a)

  reached_one : (fs : List Bool) (p n : ℕ) → length fs ≡ most_processors → p < most_processors → scan (is_reached (set fs p true)) (from_latest n) most_processors ≡ (from_latest n p || scan (is_reached fs) (from_latest n) most_processors)
  reached_one fs p n e h =
      scan_more (is_reached fs) (is_reached (set fs p true)) (from_latest n) p most_processors h (get_or-set_same fs p true false (omega arith)) (λ k ne. get_or-set_other fs p k true false ne)

  -- the latest operations among one more
  latest_more : (fs : List Bool) (k : ℕ) (g : Bool) → processor_of xs k < most_processors → from k ≡ (g || from_latest k (processor_of xs k)) → scan (is_reached fs) (from_latest (suc k)) most_processors ≡ ((is_reached fs (processor_of xs k) && from k) || scan (is_reached fs) (from_latest k) most_processors)
  latest_more fs k g h e =
      let o : from_latest (suc k) (processor_of xs k) ≡ from k = ap (reaches M a) (latest_here (processor_of xs) (processor_of xs k) k refl) in
      scan_weaker (is_reached fs) (from_latest k) (from_latest (suc k)) g (processor_of xs k) most_processors h (o ∙ e) (λ q ne. ap (reaches M a) (latest_earlier (processor_of xs) q k (λ w. ne (sym w))))
      ∙ ap (λ z. (is_reached fs (processor_of xs k) && z) || scan (is_reached fs) (from_latest k) most_processors) o

  -- at the start, only operation b is marked
  pub found_start : (ms : List ℕ) (fs : List Bool) (b : ℕ) → a < b → b < length ms → Clear ms → ((p : ℕ) → p < most_processors → is_reached fs p ≡ false) → found (set ms b 1) fs (suc b) ≡ M.before a b
  found_start ms fs b h l c f =
      ap (λ z. scan (is_marked (set ms b 1)) from (suc b) || z) (scan_first (is_reached fs) (from_latest (suc b)) most_processors f)
      ∙ or-false (scan (is_marked (set ms b 1)) from (suc b))
      ∙ marked_one ms b (suc b) (omega arith) l
      ∙ ap (λ z. from b || z) (scan_first (is_marked ms) from (suc b) (λ k g. ap (λ z. eqb z 1) (c k (omega arith))))
      ∙ or-false (from b)
      ∙ from_later b h

  -- what is found from operation k on
  found_at : (ms : List ℕ) (fs : List Bool) (k : ℕ) → a < k → k < N → processor_of xs k < most_processors → found ms fs (suc k) ≡ (((is_marked ms k && from k) || scan (is_marked ms) from k) || ((is_reached fs (processor_of xs k) && from k) || scan (is_reached fs) (from_latest k) most_processors))
  found_at ms fs k h b q =
      ap (λ z. ((is_marked ms k && from k) || scan (is_marked ms) from k) || z) (latest_more fs k (reaches M a (giver_of xs k)) q (from_later k h ∙ back xs m capacity N a k h b))

  -- operation k is not reached
  pub found_no : (ms : List ℕ) (fs : List Bool) (k : ℕ) → a < k → k < N → processor_of xs k < most_processors → is_marked ms k ≡ false → is_reached fs (processor_of xs k) ≡ false → found (set ms k 0) fs k ≡ found ms fs (suc k)
  found_no ms fs k h b q u v =
      ap (λ z. z || scan (is_reached fs) (from_latest k) most_processors) (marked_less ms k)
      ∙ sym (found_at ms fs k h b q
      ∙ ap (λ z. ((z && from k) || scan (is_marked ms) from k) || ((is_reached fs (processor_of xs k) && from k) || scan (is_reached fs) (from_latest k) most_processors)) u
      ∙ ap (λ z. scan (is_marked ms) from k || ((z && from k) || scan (is_reached fs) (from_latest k) most_processors)) v)

  -- operation k is reached: so are its giver and its processor
  pub found_yes : (ms : List ℕ) (fs : List Bool) (k : ℕ) → a < k → k < N → processor_of xs k < most_processors → k ≤ length ms → length fs ≡ most_processors → (is_marked ms k || is_reached fs (processor_of xs k)) ≡ true → found (with_giver (set ms k 0) a (giver_of xs k)) (set fs (processor_of xs k) true) k ≡ found ms fs (suc k)
  found_yes ms fs k h b q l e w =
      let p = processor_of xs k in
      let g = reaches M a (giver_of xs k) in
      let s = scan (is_marked ms) from k in
      let t = scan (is_reached fs) (from_latest k) most_processors in
      ap (λ z. z || scan (is_reached (set fs p true)) (from_latest k) most_processors)
      (marked_giver (set ms k 0) (giver_of xs k) k (giver_among xs k) (omega (arith, length-set ms k 0)) ∙ ap (λ z. g || z) (marked_less ms k))
      ∙ ap (λ z. (g || s) || z) (reached_one fs p k e q)
      ∙ both_arrows g (from_latest k p) s t (is_marked ms k) (is_reached fs p) w
      ∙ sym (found_at ms fs k h b q ∙ ap (λ z. ((is_marked ms k && z) || s) || ((is_reached fs p && z) || t)) (from_later k h ∙ back xs m capacity N a k h b))

  -- at the end, operation a itself is left
  pub found_end : (ms : List ℕ) (fs : List Bool) → processor_of xs a < most_processors → found ms fs (suc a) ≡ (is_marked ms a || is_reached fs (processor_of xs a))
  found_end ms fs q =
      let p = processor_of xs a in
      let o : from a ≡ true = ap (λ z. z || M.before a a) (eq-eqb a a refl) in
      let s : scan (is_marked ms) from a ≡ false = scan_second (is_marked ms) from a from_earlier in
      let t : scan (is_reached fs) (from_latest a) most_processors ≡ false = scan_second (is_reached fs) (from_latest a) most_processors (λ r h. reaches_earlier _ (latest_among (processor_of xs) r a)) in
      ap (λ z. ((is_marked ms a && from a) || scan (is_marked ms) from a) || z) (latest_more fs a true q o)
      ∙ ap (λ z. ((is_marked ms a && z) || scan (is_marked ms) from a) || ((is_reached fs p && z) || scan (is_reached fs) (from_latest a) most_processors)) o
      ∙ ap (λ z. ((is_marked ms a && true) || z) || ((is_reached fs p && true) || scan (is_reached fs) (from_latest a) most_processors)) s
      ∙ ap (λ z. ((is_marked ms a && true) || false) || ((is_reached fs p && true) || z)) t
      ∙ ap (λ z. z || ((is_reached fs p && true) || false)) (and_true (is_marked ms a))
      ∙ ap (λ z. is_marked ms a || z) (and_true (is_reached fs p))

-- which marks are 0: at the start, and after operation k
pub outside_start : (ms : List ℕ) (a b : ℕ) → a < b → Clear ms → ClearOutside (set ms b 1) a (suc b)
outside_start ms a b h c i l o = get_or-set_other ms b i 1 0 (λ e. ⊎_elim (λ f. omega arith) (λ f. omega arith) o) ∙ c i (omega (arith, length-set ms b 1))

pub outside_less : (ms : List ℕ) (a k : ℕ) → k < length ms → ClearOutside ms a (suc k) → ClearOutside (set ms k 0) a k
outside_less ms a k h c i l o =
    ⊎_elim
    (λ e. subst (λ z. get_or (set ms k 0) z 0 ≡ 0) (sym e) (get_or-set_same ms k 0 0 h))
    (λ ne. get_or-set_other ms k i 0 0 ne ∙ c i (omega (arith, length-set ms k 0)) (⊎_elim (λ f. inl f) (λ f. inr (omega arith)) o))
    (cases_eq i k)

pub outside_giver : (ms : List ℕ) (a k : ℕ) (o : Option ℕ) → Among o k → ClearOutside ms a k → ClearOutside (with_giver ms a o) a k
outside_giver ms a k None h c = c
outside_giver ms a k (Some x) h c =
    ⊎_elim
    (λ b. subst (λ t. ClearOutside (cond t (set ms x 1) ms) a k) (sym (lt-leb a x b)) c)
    (λ b. subst (λ t. ClearOutside (cond t (set ms x 1) ms) a k) (sym (le-leb a x b)) (λ i l o. get_or-set_other ms x i 1 0 (λ e. ⊎_elim (λ f. omega arith) (λ f. omega arith) o) ∙ c i (omega (arith, length-set ms x 1)) o))
    (cases_lt x a)
