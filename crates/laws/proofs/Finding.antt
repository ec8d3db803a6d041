-- The computed searches find what the relations say: writes, releases, operations of a processor, races. Assumes nothing.
use Rattle.std.proofs.Common.{◌≡◌, ℕ, zero, suc, ◌<◌, Bool, true, false, cond, not, ◌&&◌, ◌||◌, eqb, ◌≢◌, ◌⊎◌, Some, None, Decides, Option, sym, refl, ap, ◌∙◌, subst, inl, inr, ⊎_elim, arith}
use Rattle.std.proofs.lemmas.Bool.{both_ways, cases_order, and_parts, and_from, eqb-true, eq-eqb}
use Rattle.std.proofs.lemmas.Bool.Decides.{Decides-eqb, Decides-and, Decides-or, Decides-not, Decides-like}
use Rattle.operations.specs.Kinds.{writes, data_kind, acquire_kind, release_kind}
use Rattle.operations.specs.Events.{Event}
use Rattle.operations.specs.Sources.{last_such, writes_to, latest_write, if_paired, release_for}
use Rattle.operations.specs.Races.{conflict, may_race, unordered, races}
use Rattle.operations.specs.History.{History, Writes, LatestWrite, Paired, Next, Before, Race}
use Rattle.operations.proofs.Searching.{such_agree, such_found, such_none}
use Rattle.keepers.specs.Adding.{latest_of}
use Rattle.laws.proofs.Agreeing.{Agree}

-- an answer is none, or names a number
pub cases_option : (o : Option ℕ) → (o ≡ None) ⊎ ((w : ℕ) × (o ≡ Some w))
cases_option None = inl refl
cases_option (Some w) = inr (w, refl)

pub itself : (b : Bool) → Decides b (b ≡ true)
itself b = (λ e. e, λ e. e)

-- the latest write
pub latest_write_one : (H : History) (l m v w : ℕ) → LatestWrite H l m v → LatestWrite H l m w → v ≡ w
latest_write_one H l m v w p q =
    ⊎_elim
    (λ (e : v ≡ w). e)
    (λ (s : (v < w) ⊎ (w < v)).
    ⊎_elim
    (λ (u : v < w). absurd (p.none_later w u q.earlier q.write q.there))
    (λ (u : w < v). absurd (q.none_later v u p.earlier p.write p.there))
    s)
    (cases_order v w)

module _ (H : History) (l m : ℕ) where
  here : (v : ℕ) → Writes H v → (H.op v).location ≡ l → writes_to (H.op v) l ≡ true
  here v w e = and_from (writes (H.op v).kind) (eqb (H.op v).location l) w (eq-eqb (H.op v).location l e)

  pub latest_write_found : (w : ℕ) → latest_write H.op l m ≡ Some w → LatestWrite H l m w
  latest_write_found w e =
      let r = such_found (λ k. writes_to (H.op k) l) m w e in
      let b = and_parts (writes (H.op w).kind) (eqb (H.op w).location l) r.1 in
      record {
        earlier = r.0;
        write = b.0;
        there = eqb-true (H.op w).location l b.1;
        none_later = λ v a u c d. both_ways (writes_to (H.op v) l) (r.2 v a u) (here v c d);
      }

  pub latest_write_none : latest_write H.op l m ≡ None → (w : ℕ) → LatestWrite H l m w → ⊥
  latest_write_none e w s = both_ways (writes_to (H.op w) l) (such_none (λ k. writes_to (H.op k) l) m e w s.earlier) (here w s.write s.there)

  pub latest_write_named : (w : ℕ) → LatestWrite H l m w → latest_write H.op l m ≡ Some w
  latest_write_named w s =
      ⊎_elim
      (λ (e : latest_write H.op l m ≡ None). absurd (latest_write_none e w s))
      (λ (r : (v : ℕ) × (latest_write H.op l m ≡ Some v)). r.1 ∙ ap Some (latest_write_one H l m r.0 w (latest_write_found r.0 r.1) s))
      (cases_option (latest_write H.op l m))

-- the paired release
passes : (b : Bool) (v a : ℕ) → ◌≡◌ {A = Option ℕ} (cond b (Some v) None) (Some a) → (b ≡ true) × (v ≡ a)
passes true v a e = (refl, cc)
passes false v a e = absurd (let z : ◌≡◌ {A = ℕ} 0 1 = cc in omega arith)

acquires : (b : Bool) (o : Option ℕ) (a : ℕ) → ◌≡◌ {A = Option ℕ} (cond b o None) (Some a) → (b ≡ true) × (o ≡ Some a)
acquires true o a e = (refl, e)
acquires false o a e = absurd (let z : ◌≡◌ {A = ℕ} 0 1 = cc in omega arith)

if_paired_found : (pairs : ℕ → ℕ → Bool) (op : ℕ → Event) (e : Event) (o : Option ℕ) (a : ℕ) → if_paired pairs op e o ≡ Some a → (o ≡ Some a) × ((release_kind (op a).kind && pairs (op a).class e.class) ≡ true)
if_paired_found pairs op e None a is = absurd (let z : ◌≡◌ {A = ℕ} 0 1 = cc in omega arith)
if_paired_found pairs op e (Some v) a is =
    let r = passes (release_kind (op v).kind && pairs (op v).class e.class) v a is in
    (ap Some r.1, subst (λ k. (release_kind (op k).kind && pairs (op k).class e.class) ≡ true) r.1 r.0)

pub paired_one : (H : History) (a c b : ℕ) → Paired H a b → Paired H c b → a ≡ c
paired_one H a c b p q = latest_write_one H (H.op b).location b a c p.source q.source

module _ (H : History) (b : ℕ) where
  pub release_found : b < H.size → (a : ℕ) → release_for H.pairs H.op b (H.op b) ≡ Some a → Paired H a b
  release_found h a e =
      let r = acquires (acquire_kind (H.op b).kind) (if_paired H.pairs H.op (H.op b) (latest_write H.op (H.op b).location b)) a e in
      let s = if_paired_found H.pairs H.op (H.op b) (latest_write H.op (H.op b).location b) a r.1 in
      let t = and_parts (release_kind (H.op a).kind) (H.pairs (H.op a).class (H.op b).class) s.1 in
      record {
        inside = h;
        release = t.0;
        acquire = r.0;
        source = latest_write_found H (H.op b).location b a s.0;
        rule = t.1;
      }

  pub release_named : (a : ℕ) → Paired H a b → release_for H.pairs H.op b (H.op b) ≡ Some a
  release_named a p =
      ap (λ (c : Bool). cond c (if_paired H.pairs H.op (H.op b) (latest_write H.op (H.op b).location b)) None) p.acquire
      ∙ ap (if_paired H.pairs H.op (H.op b)) (latest_write_named H (H.op b).location b a p.source)
      ∙ ap (λ (c : Bool). cond c (Some a) None) (and_from (release_kind (H.op a).kind) (H.pairs (H.op a).class (H.op b).class) p.release p.rule)

  pub release_none : release_for H.pairs H.op b (H.op b) ≡ None → (a : ℕ) → Paired H a b → ⊥
  release_none e a p = let n = release_named a p in let z : ◌≡◌ {A = ℕ} 0 1 = cc in omega arith

pub release_earlier : (pairs : ℕ → ℕ → Bool) (op : ℕ → Event) (n : ℕ) (e : Event) (a : ℕ) → release_for pairs op n e ≡ Some a → a < n
release_earlier pairs op n e a is =
    let r = acquires (acquire_kind e.kind) (if_paired pairs op e (latest_write op e.location n)) a is in
    let s = if_paired_found pairs op e (latest_write op e.location n) a r.1 in
    (such_found (λ k. writes_to (op k) e.location) n a s.0).0

-- in two runs that agree below n, the same release is found for an operation after the first n
module _ (n : ℕ) (H H' : History) (g : Agree n H H') (e : Event) where
  if_paired_agree : (o : Option ℕ) → ((w : ℕ) → o ≡ Some w → w < n) → if_paired H.pairs H.op e o ≡ if_paired H'.pairs H'.op e o
  if_paired_agree None below = refl
  if_paired_agree (Some w) below =
      ap (λ (x : Event). cond (release_kind x.kind && H.pairs x.class e.class) (Some w) None) (g.ops w (below w refl))
      ∙ ap (λ (c : Bool). cond (release_kind (H'.op w).kind && c) (Some w) None) (g.rule (H'.op w).class e.class)

  pub release_agree : release_for H.pairs H.op n e ≡ release_for H'.pairs H'.op n e
  release_agree =
      ap (λ (o : Option ℕ). cond (acquire_kind e.kind) o None)
      (if_paired_agree (latest_write H.op e.location n) (λ w is. (such_found (λ k. writes_to (H.op k) e.location) n w is).0)
      ∙ ap (if_paired H'.pairs H'.op e)
      (such_agree (λ k. writes_to (H.op k) e.location) (λ k. writes_to (H'.op k) e.location) n (λ k h. ap (λ (x : Event). writes_to x e.location) (g.ops k h))))

-- the previous operation of a processor
latest_such : (f : ℕ → ℕ) (p n : ℕ) → latest_of f p n ≡ last_such (λ k. eqb (f k) p) n
latest_such f p zero = refl
latest_such f p (suc n) = ap (λ (o : Option ℕ). cond (eqb (f n) p) (Some n) o) (latest_such f p n)

pub next_one : (H : History) (a c b : ℕ) → Next H a b → Next H c b → a ≡ c
next_one H a c b p q =
    ⊎_elim
    (λ (e : a ≡ c). e)
    (λ (s : (a < c) ⊎ (c < a)).
    ⊎_elim
    (λ (u : a < c). absurd (p.none_between c u q.later q.same))
    (λ (u : c < a). absurd (q.none_between a u p.later p.same))
    s)
    (cases_order a c)

module _ (H : History) (b : ℕ) where
  pub next_found : b < H.size → (a : ℕ) → latest_of (λ k. (H.op k).processor) (H.op b).processor b ≡ Some a → Next H a b
  next_found h a e =
      let r = such_found (λ k. eqb (H.op k).processor (H.op b).processor) b a (sym (latest_such (λ k. (H.op k).processor) (H.op b).processor b) ∙ e) in
      record {
        later = r.0;
        inside = h;
        same = eqb-true (H.op a).processor (H.op b).processor r.1;
        none_between = λ c l u s. both_ways (eqb (H.op c).processor (H.op b).processor) (r.2 c l u) (eq-eqb (H.op c).processor (H.op b).processor s);
      }

  pub next_none : latest_of (λ k. (H.op k).processor) (H.op b).processor b ≡ None → (a : ℕ) → Next H a b → ⊥
  next_none e a p =
      both_ways (eqb (H.op a).processor (H.op b).processor)
      (such_none (λ k. eqb (H.op k).processor (H.op b).processor) b (sym (latest_such (λ k. (H.op k).processor) (H.op b).processor b) ∙ e) a p.later)
      (eq-eqb (H.op a).processor (H.op b).processor p.same)

  pub next_named : (a : ℕ) → Next H a b → latest_of (λ k. (H.op k).processor) (H.op b).processor b ≡ Some a
  next_named a p =
      ⊎_elim
      (λ (e : latest_of (λ k. (H.op k).processor) (H.op b).processor b ≡ None). absurd (next_none e a p))
      (λ (r : (v : ℕ) × (latest_of (λ k. (H.op k).processor) (H.op b).processor b ≡ Some v)). r.1 ∙ ap Some (next_one H r.0 a b (next_found p.inside r.0 r.1) p))
      (cases_option (latest_of (λ k. (H.op k).processor) (H.op b).processor b))

-- races
pub races_decides : (H : History) (before : ℕ → ℕ → Bool) (a b : ℕ) → a ≢ b → Decides (before a b) (Before H a b) → Decides (before b a) (Before H b a) → Decides (races before H.op a b) (Race H a b)
races_decides H before a b two to from =
    Decides-like (races before H.op a b)
    (λ r. record {
      conflict = record { two = two; shared = r.0.0.0; one_writes = r.0.0.1 };
      one_data = r.0.1;
      not_before = r.1.0;
      not_after = r.1.1;
    })
    (λ r. (((r.conflict.shared, r.conflict.one_writes), r.one_data), (r.not_before, r.not_after)))
    (Decides-and (may_race (H.op a) (H.op b)) (unordered before a b)
    (Decides-and (conflict (H.op a) (H.op b)) (data_kind (H.op a).kind || data_kind (H.op b).kind)
    (Decides-and (eqb (H.op a).location (H.op b).location) (writes (H.op a).kind || writes (H.op b).kind)
    (Decides-eqb (H.op a).location (H.op b).location)
    (Decides-or (writes (H.op a).kind) (writes (H.op b).kind) (itself (writes (H.op a).kind)) (itself (writes (H.op b).kind))))
    (Decides-or (data_kind (H.op a).kind) (data_kind (H.op b).kind) (itself (data_kind (H.op a).kind)) (itself (data_kind (H.op b).kind))))
    (Decides-and (not (before a b)) (not (before b a)) (Decides-not (before a b) to) (Decides-not (before b a) from)))
