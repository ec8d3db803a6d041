-- A keeper that is given each operation of a run with its paired release tells the run's order. Assumes nothing.
use Rattle.std.proofs.Common.{◌≡◌, ℕ, suc, ◌<◌, ◌≤◌, true, false, ◌||◌, eqb, ltb, ◌⊎◌, [], ◌∷◌, get_or, Some, None, Decides, Option, sym, refl, ap, ◌∙◌, subst, inl, inr, ⊎_elim, arith}
use Rattle.std.proofs.lemmas.List.{get_or_append_left, get_or_push, length_push}
use Rattle.std.proofs.lemmas.Bool.{false≢true, cases_lt, lt-ltb, le-ltb, eq-eqb, ne_eqb}
use Rattle.std.proofs.lemmas.Bool.Decides.{Decides-eqb, Decides-or, Decides-like, Decides-at}
use Rattle.operations.specs.Events.{Event}
use Rattle.operations.specs.Sources.{release_for}
use Rattle.operations.specs.History.{History, Paired, Next, Arrow, Before, arrow, chain}
use Rattle.keepers.specs.Meaning.{Meaning, held}
use Rattle.keepers.specs.Adding.{latest_of, latest, reaches, added, giver_held}
use Rattle.laws.specs.Exact.{Keeps}
use Rattle.laws.proofs.Orders.{forwards, last_arrow}
use Rattle.laws.proofs.Agreeing.{Agree, agree_flip, before_agree}
use Rattle.laws.proofs.Finding.{release_found, release_named, release_earlier, release_agree, next_found, next_named}
use Rattle.keepers.proofs.Latest.{latest_same as latest_agree}

pub empty_keeps : (H : History) (m : Meaning) → H.size ≡ 0 → held m ≡ 0 → Keeps H m
empty_keeps H m z e = record {
  count = e ∙ sym z;
  processors = (λ k h. absurd (omega arith));
  order = λ a b h k. absurd (omega arith);
}

-- H' is H with one operation more
pub record Grows (H H' : History) : Type 0 where
  pub size : H'.size ≡ suc H.size
  pub same : (k : ℕ) → k < H.size → H'.op k ≡ H.op k
  pub rule : (c d : ℕ) → H'.pairs c d ≡ H.pairs c d

pub grows_agree : {H H' : History} → Grows H H' → Agree H.size H H'
grows_agree g = record { ops = λ k h. sym (g.same k h); rule = λ c d. sym (g.rule c d) }

-- the release that is paired with an operation after a run
abbrev pub giver : History → Event → Option ℕ
giver H e = release_for H.pairs H.op H.size e

pub giver_is_held : (H : History) (m : Meaning) (e : Event) → held m ≡ H.size → giver_held m (giver H e) ≡ true
giver_is_held H m e count = go (giver H e) (λ a is. release_earlier H.pairs H.op H.size e a is)
  where
    go : (o : Option ℕ) → ((a : ℕ) → o ≡ Some a → a < H.size) → giver_held m o ≡ true
    go None below = refl
    go (Some a) below = let h = below a refl in lt-ltb a (held m) (omega arith)

-- the keeper's meaning with the operation added
abbrev pub grown : Meaning → History → Event → Meaning
grown m H e = added m e.processor (giver H e)

-- what holds below n and at n holds below n + 1
up_to : (P : ℕ → Type 0) (n : ℕ) → ((k : ℕ) → k < n → P k) → P n → (k : ℕ) → k < suc n → P k
up_to P n below here k h = ⊎_elim (λ (l : k < n). below k l) (λ (l : n ≤ k). subst P (let e : n ≡ k = omega arith in e) here) (cases_lt k n)

-- an operation is the one that is named, or is before it
module _ (H : History) (m : Meaning) (keeps : Keeps H m) (P : ℕ → Type 0) (a : ℕ) (h : a < H.size) where
  reaches_decides : (o : Option ℕ) → ((c : ℕ) → o ≡ Some c → P c) → ((c : ℕ) → P c → o ≡ Some c) → ((c : ℕ) → P c → c < H.size)
      → Decides (reaches m a o) ((c : ℕ) × P c × ((a ≡ c) ⊎ Before H a c))
  reaches_decides None found named earlier = ((λ e. absurd (false≢true e)), (λ r. let n = named r.0 r.1 in absurd (let z : ◌≡◌ {A = ℕ} 0 1 = cc in omega arith)))
  reaches_decides (Some g) found named earlier =
      Decides-like (eqb a g || m.before a g)
      (λ s. (g, found g refl, s))
      (λ r. let n = named r.0 r.1 in subst (λ c. (a ≡ c) ⊎ Before H a c) (let e : r.0 ≡ g = cc in e) r.2)
      (Decides-or (eqb a g) (m.before a g) (Decides-eqb a g) (keeps.order a g h (earlier g (found g refl))))

module _ (H H' : History) (m : Meaning) (grows : Grows H H') (keeps : Keeps H m) where
  abbrev new : Event
  new = H'.op H.size

  abbrev n : ℕ
  n = H.size

  abbrev m' : Meaning
  m' = grown m H new

  agree : Agree n H H'
  agree = grows_agree grows

  -- the order that is kept
  pub grown_old : (a b : ℕ) → a < H.size → b < H.size → (grown m H (H'.op H.size)).before a b ≡ m.before a b
  grown_old a b h k =
      let e = keeps.count in
      let s : ltb a (held m) ≡ true = lt-ltb a (held m) (omega arith) in
      let t : eqb b (held m) ≡ false = ne_eqb b (held m) (omega arith) in
      cc

  grown_new : (a : ℕ) → a < n → m'.before a n ≡ (reaches m a (giver H new) || reaches m a (latest m new.processor))
  grown_new a h =
      let e = keeps.count in
      let s : ltb a (held m) ≡ true = lt-ltb a (held m) (omega arith) in
      let t : eqb n (held m) ≡ true = eq-eqb n (held m) (omega arith) in
      cc

  grown_none : (b : ℕ) → m'.before n b ≡ false
  grown_none b =
      let e = keeps.count in
      let s : ltb n (held m) ≡ false = le-ltb n (held m) (omega arith) in
      cc

  -- the two arrows to the new operation
  giver_same : giver H new ≡ release_for H'.pairs H'.op n new
  giver_same = release_agree n H H' agree new

  latest_same : latest m new.processor ≡ latest_of (λ k. (H'.op k).processor) new.processor n
  latest_same =
      ap (latest_of (λ k. get_or m.processors k 0) new.processor) keeps.count
      ∙ latest_agree (λ k. get_or m.processors k 0) (λ k. (H'.op k).processor) new.processor n
      (λ k h. keeps.processors k h ∙ ap (λ (o : Event). o.processor) (agree.ops k h))

  n_inside : n < H'.size
  n_inside = let s = grows.size in omega arith

  new_decides : (a : ℕ) → a < n → Decides (m'.before a n) (Before H' a n)
  new_decides a h =
      Decides-at (m'.before a n) (reaches m a (giver H new) || reaches m a (latest m new.processor)) (grown_new a h)
      (Decides-like (reaches m a (giver H new) || reaches m a (latest m new.processor)) to from
      (Decides-or (reaches m a (giver H new)) (reaches m a (latest m new.processor))
      (reaches_decides H m keeps (λ c. Paired H' c n) a h (giver H new)
      (λ c e. release_found H' n n_inside c (sym giver_same ∙ e))
      (λ c p. giver_same ∙ release_named H' n c p)
      (λ c p. p.source.earlier))
      (reaches_decides H m keeps (λ c. Next H' c n) a h (latest m new.processor)
      (λ c e. next_found H' n n_inside c (sym latest_same ∙ e))
      (λ c p. latest_same ∙ next_named H' n c p)
      (λ c p. p.later))))
    where
      through : (c : ℕ) → Arrow H' c n → (a ≡ c) ⊎ Before H a c → Before H' a n
      through c p (inl e) = subst (λ x. Before H' x n) (sym e) (arrow p)
      through c p (inr q) = chain (before_agree n H H' agree (forwards {H = H'} (arrow p)) (let s = n_inside in omega arith) q) (arrow p)

      to : ((c : ℕ) × Paired H' c n × ((a ≡ c) ⊎ Before H a c)) ⊎ ((c : ℕ) × Next H' c n × ((a ≡ c) ⊎ Before H a c)) → Before H' a n
      to (inl r) = through r.0 (inr r.1) r.2
      to (inr r) = through r.0 (inl r.1) r.2

      back : (c : ℕ) → c < n → (a ≡ c) ⊎ Before H' a c → (a ≡ c) ⊎ Before H a c
      back c l (inl e) = inl e
      back c l (inr q) = inr (before_agree n H' H (agree_flip agree) l (omega arith) q)

      split : (c : ℕ) → Arrow H' c n → (a ≡ c) ⊎ Before H' a c → ((c : ℕ) × Paired H' c n × ((a ≡ c) ⊎ Before H a c)) ⊎ ((c : ℕ) × Next H' c n × ((a ≡ c) ⊎ Before H a c))
      split c (inl p) q = inr (c, p, back c p.later q)
      split c (inr p) q = inl (c, p, back c p.source.earlier q)

      from : Before H' a n → ((c : ℕ) × Paired H' c n × ((a ≡ c) ⊎ Before H a c)) ⊎ ((c : ℕ) × Next H' c n × ((a ≡ c) ⊎ Before H a c))
      from p = let r = last_arrow p in split r.0 r.1 r.2

  order_grown : (a b : ℕ) → a < suc n → b < suc n → Decides (m'.before a b) (Before H' a b)
  order_grown a b h k = up_to (λ y. Decides (m'.before a y) (Before H' a y)) n old at_new b k
    where
      none : (y : ℕ) → y < suc n → Decides (m'.before n y) (Before H' n y)
      none y l = ((λ e. absurd (false≢true (sym (grown_none y) ∙ e))), (λ p. absurd (let f = forwards p in omega arith)))

      old : (y : ℕ) → y < n → Decides (m'.before a y) (Before H' a y)
      old y l = up_to (λ x. Decides (m'.before x y) (Before H' x y)) n
          (λ x u. Decides-at (m'.before x y) (m.before x y) (grown_old x y u l)
          (Decides-like (m.before x y)
          (λ p. before_agree n H H' agree l (let s = n_inside in omega arith) p)
          (λ p. before_agree n H' H (agree_flip agree) l (omega arith) p)
          (keeps.order x y u l)))
          (none y (omega arith)) a h

      at_new : Decides (m'.before a n) (Before H' a n)
      at_new = up_to (λ x. Decides (m'.before x n) (Before H' x n)) n new_decides (none n (omega arith)) a h

  processors_grown : (k : ℕ) → k < suc n → get_or m'.processors k 0 ≡ (H'.op k).processor
  processors_grown = up_to (λ k. get_or m'.processors k 0 ≡ (H'.op k).processor) n
      (λ k h. get_or_append_left m.processors (new.processor ∷ []) 0 k (let e = keeps.count in omega arith)
      ∙ keeps.processors k h
      ∙ ap (λ (o : Event). o.processor) (agree.ops k h))
      (get_or_push m.processors new.processor 0 n keeps.count)

  pub grown_keeps : Keeps H' (grown m H (H'.op H.size))
  grown_keeps =
      let s = grows.size in
      record {
        count = length_push m.processors new.processor ∙ (let e = keeps.count in omega arith);
        processors = (λ k h. processors_grown k (omega arith));
        order = λ a b h k. order_grown a b (omega arith) (omega arith);
      }
