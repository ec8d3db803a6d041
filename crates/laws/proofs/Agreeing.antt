-- Two runs that agree below m tell the same below m. Assumes nothing.
use Rattle.std.proofs.Common.{◌≡◌, ℕ, ◌<◌, ◌≤◌, true, ◌⊎◌, sym, ap, ◌∙◌, subst, inl, inr, ⊎_elim, arith}
use Rattle.operations.specs.Kinds.{reads, writes, data_kind, acquire_kind, release_kind}
use Rattle.operations.specs.Events.{Event}
use Rattle.operations.specs.History.{History, Reads, Writes, IsData, LatestWrite, Source, Paired, Next, Arrow, Before, arrow, chain, Conflict, Race, RaceFree}
use Rattle.laws.proofs.Orders.{forwards}

pub record Agree (m : ℕ) (H H' : History) : Type 0 where
  pub ops : (k : ℕ) → k < m → H.op k ≡ H'.op k
  pub rule : (c d : ℕ) → H.pairs c d ≡ H'.pairs c d

pub agree_flip : {m : ℕ} {H H' : History} → Agree m H H' → Agree m H' H
agree_flip g = record { ops = λ k h. sym (g.ops k h); rule = λ c d. sym (g.rule c d) }

pub agree_less : {m l : ℕ} {H H' : History} → l ≤ m → Agree m H H' → Agree l H H'
agree_less h g = record { ops = λ k b. g.ops k (omega arith); rule = g.rule }

module _ (m : ℕ) (H H' : History) (g : Agree m H H') where
  pub writes_agree : (k : ℕ) → k < m → Writes H k → Writes H' k
  writes_agree k h w = subst (λ (o : Event). writes o.kind ≡ true) (g.ops k h) w

  writes_back : (k : ℕ) → k < m → Writes H' k → Writes H k
  writes_back k h w = subst (λ (o : Event). writes o.kind ≡ true) (sym (g.ops k h)) w

  pub reads_agree : (k : ℕ) → k < m → Reads H k → Reads H' k
  reads_agree k h w = subst (λ (o : Event). reads o.kind ≡ true) (g.ops k h) w

  pub data_agree : (k : ℕ) → k < m → IsData H k → IsData H' k
  data_agree k h w = subst (λ (o : Event). data_kind o.kind ≡ true) (g.ops k h) w

  location_agree : (k : ℕ) → k < m → (H.op k).location ≡ (H'.op k).location
  location_agree k h = ap (λ (o : Event). o.location) (g.ops k h)

  processor_agree : (k : ℕ) → k < m → (H.op k).processor ≡ (H'.op k).processor
  processor_agree k h = ap (λ (o : Event). o.processor) (g.ops k h)

  pub latest_agree : (l t w : ℕ) → t ≤ m → LatestWrite H l t w → LatestWrite H' l t w
  latest_agree l t w h s =
      let w< : w < m = let e = s.earlier in omega arith in
      record {
        earlier = s.earlier;
        write = writes_agree w w< s.write;
        there = sym (location_agree w w<) ∙ s.there;
        none_later = λ v a b c d. s.none_later v a b (writes_back v (omega arith) c) (location_agree v (omega arith) ∙ d);
      }

  pub source_agree : (r w : ℕ) → r < m → Source H r w → Source H' r w
  source_agree r w h s = subst (λ l. LatestWrite H' l r w) (location_agree r h) (latest_agree (H.op r).location r w (omega arith) s)

  pub paired_agree : (a b : ℕ) → b < m → b < H'.size → Paired H a b → Paired H' a b
  paired_agree a b h k p =
      let a< : a < m = let e = p.source.earlier in omega arith in
      record {
        inside = k;
        release = subst (λ (o : Event). release_kind o.kind ≡ true) (g.ops a a<) p.release;
        acquire = subst (λ (o : Event). acquire_kind o.kind ≡ true) (g.ops b h) p.acquire;
        source = source_agree b a h p.source;
        rule =
            sym (g.rule (H'.op a).class (H'.op b).class)
            ∙ subst (λ (o : Event). H.pairs o.class (H'.op b).class ≡ true) (g.ops a a<)
            (subst (λ (o : Event). H.pairs (H.op a).class o.class ≡ true) (g.ops b h) p.rule);
      }

  pub next_agree : (a b : ℕ) → b < m → b < H'.size → Next H a b → Next H' a b
  next_agree a b h k p =
      let a< : a < m = let e = p.later in omega arith in
      record {
        later = p.later;
        inside = k;
        same = sym (processor_agree a a<) ∙ p.same ∙ processor_agree b h;
        none_between = λ c l u e. p.none_between c l u (processor_agree c (omega arith) ∙ e ∙ sym (processor_agree b h));
      }

  pub arrow_agree : (a b : ℕ) → b < m → b < H'.size → Arrow H a b → Arrow H' a b
  arrow_agree a b h k (inl p) = inl (next_agree a b h k p)
  arrow_agree a b h k (inr p) = inr (paired_agree a b h k p)

  pub before_agree : {a b : ℕ} → b < m → m ≤ H'.size → Before H a b → Before H' a b
  before_agree {a} {b} h k (arrow p) = arrow (arrow_agree a b h (omega arith) p)
  before_agree h k (chain p q) = chain (before_agree (let f = forwards q in omega arith) k p) (before_agree h k q)

  pub conflict_agree : (a b : ℕ) → a < m → b < m → Conflict H a b → Conflict H' a b
  conflict_agree a b h k c = record {
    two = c.two;
    shared = sym (location_agree a h) ∙ c.shared ∙ location_agree b k;
    one_writes = ⊎_elim (λ (w : Writes H a). inl (writes_agree a h w)) (λ (w : Writes H b). inr (writes_agree b k w)) c.one_writes;
  }

  pub one_data_agree : (a b : ℕ) → a < m → b < m → IsData H a ⊎ IsData H b → IsData H' a ⊎ IsData H' b
  one_data_agree a b h k p = ⊎_elim (λ (w : IsData H a). inl (data_agree a h w)) (λ (w : IsData H b). inr (data_agree b k w)) p

pub race_agree : (m : ℕ) (H H' : History) → Agree m H H' → m ≤ H.size → (a b : ℕ) → a < m → b < m → Race H a b → Race H' a b
race_agree m H H' g s a b h k r = record {
  conflict = conflict_agree m H H' g a b h k r.conflict;
  one_data = one_data_agree m H H' g a b h k r.one_data;
  not_before = (λ p. r.not_before (before_agree m H' H (agree_flip g) k s p));
  not_after = (λ p. r.not_after (before_agree m H' H (agree_flip g) h s p));
}

-- a run that agrees with a race-free one as far as it goes is race-free
pub free_agree : (H H' : History) → Agree H.size H H' → H.size ≤ H'.size → RaceFree H' → RaceFree H
free_agree H H' g s free a b h k r = free a b (omega arith) (omega arith) (race_agree H.size H H' g (omega arith) a b h k r)
