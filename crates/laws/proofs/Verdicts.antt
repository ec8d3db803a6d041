-- The numbers that an examination keeps show a run's data races exactly. Assumes nothing.
use Rattle.std.proofs.Common.{◌≡◌, ℕ, zero, suc, ◌+◌, ◌<◌, ◌≤◌, Bool, true, false, cond, eqb, ltb, ◌⊎◌, is_some, Some, None, Decides, Option, sym, refl, ap, ◌∙◌, subst, ap₂, inl, inr, ⊎_elim, arith}
use Rattle.std.proofs.lemmas.Bool.{both_ways, cases_lt, ltb-true, cases_order, lt-ltb, ne_eqb}
use Rattle.operations.specs.Events.{Event}
use Rattle.operations.specs.Races.{races, racing_partner}
use Rattle.operations.specs.History.{History, Race, RaceFree}
use Rattle.operations.proofs.Searching.{such_agree, such_found, such_none}
use Rattle.keepers.specs.Meaning.{Meaning}
use Rattle.laws.specs.Tally.{Tally, noted, tally_of}
use Rattle.laws.specs.Exact.{Keeps, RacesEarlier, LatestRace, IsPartner, Counts, none, one_more, no_more, RacyAs}
use Rattle.laws.proofs.Finding.{races_decides}
use Rattle.laws.proofs.Kept.{Grows, grown, grown_old}

pub race_flip : {H : History} {a b : ℕ} → Race H a b → Race H b a
race_flip r = record {
  conflict = record { two = (λ e. r.conflict.two (sym e)); shared = sym r.conflict.shared; one_writes = ⊎_elim inr inl r.conflict.one_writes };
  one_data = ⊎_elim inr inl r.one_data;
  not_before = r.not_after;
  not_after = r.not_before;
}

-- a run whose operations race with no earlier one is race-free
pub free_from : (H : History) → ((b : ℕ) → b < H.size → RacesEarlier H b → ⊥) → RaceFree H
free_from H clear a b h k r =
    ⊎_elim
    (λ (e : a ≡ b). r.conflict.two e)
    (λ (s : (a < b) ⊎ (b < a)). ⊎_elim (λ (u : a < b). clear b k (a, u, r)) (λ (u : b < a). clear a h (b, u, race_flip r)) s)
    (cases_order a b)

-- the racing partner that a keeper's order gives is the run's
module _ (H : History) (m : Meaning) (keeps : Keeps H m) (b : ℕ) (inside : b < H.size) where
  decided : (a : ℕ) → a < b → Decides (races m.before H.op a b) (Race H a b)
  decided a h = races_decides H m.before a b (omega arith) (keeps.order a b (omega arith) inside) (keeps.order b a inside (omega arith))

  partner_of : (o : Option ℕ) → racing_partner m.before H.op b ≡ o → IsPartner H b o
  partner_of None e = λ r. both_ways (races m.before H.op r.0 b) (such_none (λ k. races m.before H.op k b) b e r.0 r.1) ((decided r.0 r.1).1 r.2)
  partner_of (Some a) e =
      let s = such_found (λ k. races m.before H.op k b) b a e in
      record {
        earlier = s.0;
        race = (decided a s.0).0 s.1;
        none_later = λ c l u r. both_ways (races m.before H.op c b) (s.2 c l u) ((decided c u).1 r);
      }

  pub partner_exact : IsPartner H b (racing_partner m.before H.op b)
  partner_exact = partner_of (racing_partner m.before H.op b) refl

-- orders and operations that agree below n give the same numbers
module _ (before before' : ℕ → ℕ → Bool) (op op' : ℕ → Event) where
  races_agree : (a b : ℕ) → before a b ≡ before' a b → before b a ≡ before' b a → op a ≡ op' a → op b ≡ op' b → races before op a b ≡ races before' op' a b
  races_agree a b p q x y = cc

  pub tally_agree : (n : ℕ) → ((a b : ℕ) → a < n → b < n → before a b ≡ before' a b) → ((k : ℕ) → k < n → op k ≡ op' k) → tally_of before op n ≡ tally_of before' op' n
  tally_agree zero orders ops = refl
  tally_agree (suc n) orders ops =
      ap₂ noted
      (tally_agree n (λ a b h k. orders a b (omega arith) (omega arith)) (λ k h. ops k (omega arith)))
      (such_agree (λ k. races before op k n) (λ k. races before' op' k n) n
      (λ k h. races_agree k n (orders k n (omega arith) (omega arith)) (orders n k (omega arith) (omega arith)) (ops k (omega arith)) (ops n (omega arith))))

pub tally_grown : (H H' : History) (m : Meaning) → Grows H H' → Keeps H m
    → tally_of (grown m H (H'.op H.size)).before H'.op (suc H.size) ≡ noted (tally_of m.before H.op H.size) (racing_partner (grown m H (H'.op H.size)).before H'.op H.size)
tally_grown H H' m grows keeps =
    ap (λ (t : Tally). noted t (racing_partner (grown m H (H'.op H.size)).before H'.op H.size))
    (tally_agree (grown m H (H'.op H.size)).before m.before H'.op H.op H.size (grown_old H H' m grows keeps) grows.same)

-- whatever the order: how many were admitted, and a first pair is shown just when some operation has a partner
noted_admitted : (t : Tally) (o : Option ℕ) → (noted t o).admitted ≡ suc t.admitted
noted_admitted t None = omega arith
noted_admitted t (Some a) = omega arith

noted_tied : (t : Tally) (o : Option ℕ) → is_some t.first ≡ ltb 0 t.racing → is_some (noted t o).first ≡ ltb 0 (noted t o).racing
noted_tied t None e = e
noted_tied t (Some a) e = go t.racing t.first e
  where
    go : (r : ℕ) (f : Option (ℕ × ℕ)) → is_some f ≡ ltb 0 r → is_some (cond (eqb r 0) (Some (a, t.admitted)) f) ≡ ltb 0 (r + 1)
    go zero f e = refl
    go (suc r) f e =
        ap (λ (c : Bool). is_some (cond c (Some (a, t.admitted)) f)) (ne_eqb (suc r) 0 (omega arith))
        ∙ e ∙ lt-ltb 0 (suc r) (omega arith) ∙ sym (lt-ltb 0 (suc r + 1) (omega arith))

module _ (before : ℕ → ℕ → Bool) (op : ℕ → Event) where
  pub tally_admitted : (n : ℕ) → (tally_of before op n).admitted ≡ n
  tally_admitted zero = refl
  tally_admitted (suc n) = noted_admitted (tally_of before op n) (racing_partner before op n) ∙ ap suc (tally_admitted n)

  pub tally_tied : (n : ℕ) → is_some (tally_of before op n).first ≡ ltb 0 (tally_of before op n).racing
  tally_tied zero = refl
  tally_tied (suc n) = noted_tied (tally_of before op n) (racing_partner before op n) (tally_tied n)

  pub tally_none : (n : ℕ) → (tally_of before op n).racing ≡ 0 → (tally_of before op n).first ≡ None
  tally_none n z = go (tally_of before op n).first (tally_tied n ∙ ap (ltb 0) z)
    where
      go : (f : Option (ℕ × ℕ)) → is_some f ≡ ltb 0 0 → f ≡ None
      go None e = refl
      go (Some p) e = absurd (both_ways true e refl)

  pub tally_some : (n : ℕ) (p : ℕ × ℕ) → (tally_of before op n).first ≡ Some p → 0 < (tally_of before op n).racing
  tally_some n p e = ltb-true 0 (tally_of before op n).racing (sym (tally_tied n) ∙ ap is_some e)

-- what is shown of the first k operations: with no first pair none races with an earlier one, and a first pair is the
-- first operation that does, with its partner
abbrev Shows : History → ℕ → Option (ℕ × ℕ) → Type 0
Shows H k None = (d : ℕ) → d < k → RacesEarlier H d → ⊥
Shows H k (Some p) = (p.1 < k) × LatestRace H p.1 p.0 × ((d : ℕ) → d < p.1 → RacesEarlier H d → ⊥)

module _ (H : History) (k : ℕ) where
  shows_alone : (f : Option (ℕ × ℕ)) → Shows H k f → (RacesEarlier H k → ⊥) → Shows H (suc k) f
  shows_alone None s alone = λ d h r. ⊎_elim (λ (l : d < k). s d l r) (λ (l : k ≤ d). alone (subst (RacesEarlier H) (let e : d ≡ k = omega arith in e) r)) (cases_lt d k)
  shows_alone (Some p) s alone = (let l = s.0 in omega arith, s.1, s.2)

  shows_partner : (a r : ℕ) (f : Option (ℕ × ℕ)) → is_some f ≡ ltb 0 r → Shows H k f → LatestRace H k a → Shows H (suc k) (cond (eqb r 0) (Some (a, k)) f)
  shows_partner a zero None tied s l = (omega arith, l, s)
  shows_partner a zero (Some p) tied s l = absurd (both_ways true tied refl)
  shows_partner a (suc r) None tied s l = absurd (both_ways false refl (tied ∙ lt-ltb 0 (suc r) (omega arith)))
  shows_partner a (suc r) (Some p) tied s l =
      let kept : Shows H (suc k) (Some p) = (let b = s.0 in omega arith, s.1, s.2) in
      subst (λ (c : Bool). Shows H (suc k) (cond c (Some (a, k)) (Some p))) (sym (ne_eqb (suc r) 0 (omega arith))) kept

-- one operation more
noted_shows : (H : History) (k : ℕ) (t : Tally) (o : Option ℕ) → t.admitted ≡ k → is_some t.first ≡ ltb 0 t.racing → IsPartner H k o → Shows H k t.first → Shows H (suc k) (noted t o).first
noted_shows H k t None at tied is s = shows_alone H k t.first s is
noted_shows H k t (Some a) at tied is s =
    subst (λ j. Shows H (suc k) (cond (eqb t.racing 0) (Some (a, j)) t.first)) (sym at) (shows_partner H k a t.racing t.first tied s is)

noted_counts : (H : History) (k : ℕ) (t : Tally) (o : Option ℕ) → IsPartner H k o → Counts (RacesEarlier H) k t.racing → Counts (RacesEarlier H) (suc k) (noted t o).racing
noted_counts H k t None is c = no_more is c
noted_counts H k t (Some a) is c = subst (Counts (RacesEarlier H) (suc k)) (let e : suc t.racing ≡ t.racing + 1 = omega arith in e) (one_more (a, is.earlier, is.race) c)

-- by the order of a keeper that keeps the run
module _ (H : History) (m : Meaning) (keeps : Keeps H m) where
  shows_up_to : (k : ℕ) → k ≤ H.size → Shows H k (tally_of m.before H.op k).first
  shows_up_to zero h = λ d l r. absurd (omega arith)
  shows_up_to (suc k) h =
      noted_shows H k (tally_of m.before H.op k) (racing_partner m.before H.op k)
      (tally_admitted m.before H.op k)
      (tally_tied m.before H.op k)
      (partner_exact H m keeps k (omega arith))
      (shows_up_to k (omega arith))

  counts_up_to : (k : ℕ) → k ≤ H.size → Counts (RacesEarlier H) k (tally_of m.before H.op k).racing
  counts_up_to zero h = none
  counts_up_to (suc k) h = noted_counts H k (tally_of m.before H.op k) (racing_partner m.before H.op k) (partner_exact H m keeps k (omega arith)) (counts_up_to k (omega arith))

  shown : Shows H H.size (tally_of m.before H.op H.size).first
  shown = shows_up_to H.size (omega arith)

  pub tally_counts : Counts (RacesEarlier H) H.size (tally_of m.before H.op H.size).racing
  tally_counts = counts_up_to H.size (omega arith)

  pub tally_clear : (tally_of m.before H.op H.size).first ≡ None → RaceFree H
  tally_clear e = free_from H (subst (Shows H H.size) e shown)

  pub tally_racy : (a b : ℕ) → (tally_of m.before H.op H.size).first ≡ Some (a, b) → RacyAs H (tally_of m.before H.op H.size).racing a b
  tally_racy a b e =
      let s = subst (Shows H H.size) e shown in
      record { counts = tally_counts; first = record { inside = s.0; latest = s.1; none_before = s.2 } }

  -- a race-free run shows no pair
  pub tally_free : RaceFree H → (tally_of m.before H.op H.size).first ≡ None
  tally_free free = go (tally_of m.before H.op H.size).first shown
    where
      go : (f : Option (ℕ × ℕ)) → Shows H H.size f → f ≡ None
      go None s = refl
      go (Some p) s = absurd (free p.0 p.1 (let l = s.0 in let u = s.1.earlier in omega arith) s.0 s.1.race)
