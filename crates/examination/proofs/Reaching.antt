-- Wherever a run leads, the keeper tells the order exactly and the numbers tell the races exactly. Assumes nothing.
use Rattle.std.proofs.Common.{◌≡◌, ℕ, suc, ◌<◌, Bool, true, false, cond, eqb, List, [], ◌∷◌, length, is_some, Some, None, Decides, Option, Result, sym, refl, ap, ◌∙◌, subst, ⊎_elim, arith}
use Rattle.std.proofs.lemmas.List.{get_or-set_same, get_or-set_other}
use Rattle.std.proofs.lemmas.Bool.{cases_eq, lt-ltb, eq-eqb, ne_eqb, false≢true}
use Rattle.operations.specs.Events.{Event, at, nothing}
use Rattle.operations.specs.History.{History, Before}
use Rattle.operations.specs.Races.{racing_partner}
use Rattle.keepers.specs.Meaning.{Meaning, held}
use Rattle.laws.specs.Exact.{Keeps, RacyAs}
use Rattle.laws.specs.Tally.{Tally, noted, tally_of}
use Rattle.laws.proofs.Kept.{Grows, empty_keeps, grown_keeps}
use Rattle.laws.proofs.Kept as kept
use Rattle.laws.proofs.Verdicts.{partner_exact, tally_grown, tally_none, tally_tied, tally_clear, tally_racy}
use Rattle.examination.specs.declared.fault.ExamFault.{ExamFault}
use Rattle.examination.specs.declared.admission.Admitted.{Admitted}
use Rattle.examination.specs.Admission.{Setting, Exam, partner_of, events_with, keeper_with, admission, after_admission}
use Rattle.examination.specs.Asking.{order_answer}
use Rattle.examination.specs.Closing.{Said, race_free, racy, closing, pair_or_none}
use Rattle.examination.specs.Runs.{Call, admit, ask, after, run, Opened, Reached, history, OrderExact, Partnered, AdmissionExact, Holds, VerdictExact}
use Rattle.examination.proofs.Admitting.{Taken, Refused, cases_admission, noted_admitted, next_exam}

pub record Sound (G : Setting) (E : Exam) : Type 0 where
  pub keeps : Keeps (history G E) E.keeper
  pub numbers : E.numbers ≡ tally_of E.keeper.before (at E.events) E.numbers.admitted

opened_sound : (G : Setting) (E : Exam) → Opened E → Sound G E
opened_sound G E o =
    let none : E.numbers.admitted ≡ 0 = ap (λ t. t.admitted) o.numbers in
    record {
      keeps = empty_keeps (history G E) E.keeper none o.empty;
      numbers = o.numbers ∙ ap (tally_of E.keeper.before (at E.events)) (sym none);
    }

module _ (G : Setting) (E : Exam) (e : Event) (place : E.numbers.admitted < length E.events) (sound : Sound G E) where
  abbrev n : ℕ
  n = E.numbers.admitted

  -- the run with the operation
  abbrev grown_run : History
  grown_run = record { size = suc n; op = at (events_with E e); pairs = G.pairs }

  newest : at (events_with E e) n ≡ e
  newest = get_or-set_same E.events n e nothing place

  grows : Grows (history G E) grown_run
  grows = record {
    size = refl;
    same = (λ k h. get_or-set_other E.events n k e nothing (omega arith));
    rule = λ c d. refl;
  }

  next_keeps : Keeps grown_run (keeper_with G E e)
  next_keeps = subst (λ x. Keeps grown_run (kept.grown E.keeper (history G E) x)) newest (grown_keeps (history G E) grown_run E.keeper grows sound.keeps)

  next_tally : noted E.numbers (partner_of G E e) ≡ tally_of (keeper_with G E e).before (at (events_with E e)) (suc n)
  next_tally =
      ap (λ t. noted t (partner_of G E e)) sound.numbers
      ∙ sym (subst (λ x. tally_of (kept.grown E.keeper (history G E) x).before (at (events_with E e)) (suc n) ≡ noted (tally_of E.keeper.before (at E.events) n) (racing_partner (kept.grown E.keeper (history G E) x).before (at (events_with E e)) n)) newest (tally_grown (history G E) grown_run E.keeper grows sound.keeps))

  next_size : suc n ≡ (noted E.numbers (partner_of G E e)).admitted
  next_size = sym (noted_admitted E.numbers (partner_of G E e))

  pub next_sound : Sound G (next_exam G E e)
  next_sound = record {
    keeps = subst (λ k. Keeps (record { size = k; op = at (events_with E e); pairs = G.pairs }) (keeper_with G E e)) next_size next_keeps;
    numbers = next_tally ∙ ap (tally_of (keeper_with G E e).before (at (events_with E e))) next_size;
  }

admission_sound : (G : Setting) (E : Exam) (e : Event) → Sound G E → Sound G (after_admission G E e)
admission_sound G E e s = ⊎_elim
    (λ (t : Taken G E e). subst (Sound G) (sym t.after) (next_sound G E e t.passes.place s))
    (λ (r : Refused G E e). subst (Sound G) (sym r.after) s)
    (cases_admission G E e)

after_sound : (G : Setting) (E : Exam) (c : Call) → Sound G E → Sound G (after G E c)
after_sound G E (admit e) s = admission_sound G E e s
after_sound G E (ask a b) s = s

run_sound : (G : Setting) (E : Exam) (cs : List Call) → Sound G E → Sound G (run G E cs)
run_sound G E [] s = s
run_sound G E (c ∷ cs) s = run_sound G (after G E c) cs (after_sound G E c s)

pub reached_sound : (G : Setting) (E : Exam) → Reached G E → Sound G E
reached_sound G E r = subst (Sound G) r.leads (run_sound G r.start r.calls (opened_sound G r.start r.opened))

-- order questions
pub run_count : (G : Setting) (E : Exam) (cs : List Call) → Opened E → held (run G E cs).keeper ≡ (run G E cs).numbers.admitted
run_count G E cs o = (run_sound G E cs (opened_sound G E o)).keeps.count

pub order_reached : {G : Setting} {E : Exam} {a b : ℕ} → Reached G E → a < E.numbers.admitted → b < E.numbers.admitted → Decides (E.keeper.before a b) (Before (history G E) a b)
order_reached r h k = (reached_sound _ _ r).keeps.order _ _ h k

pub order_exact : (m : Meaning) (n a b : ℕ) (r : Result Bool ExamFault) → r ≡ order_answer m n a b → OrderExact m n a b r
order_exact m n a b r is = grind (arith, run_count, order_reached)

-- admissions
pub admission_exact : (G : Setting) (E : Exam) (e : Event) (r : Result Admitted ExamFault) → r ≡ admission G E e → AdmissionExact G E e r
admission_exact G E e r is reached =
    let s = reached_sound G E reached in
    ⊎_elim
    (λ (t : Taken G E e).
    subst (λ x. Partnered (history G x) r) (sym t.after)
    (subst (Partnered (history G (next_exam G E e))) (sym (is ∙ t.answer)) (
      noted_admitted E.numbers (partner_of G E e),
      partner_exact (history G (next_exam G E e)) (keeper_with G E e) (next_sound G E e t.passes.place s).keeps E.numbers.admitted (omega (arith, noted_admitted E.numbers (partner_of G E e))),
    )))
    (λ (t : Refused G E e). subst (Partnered (history G (after_admission G E e))) (sym (is ∙ t.answer)) tt)
    (cases_admission G E e)

-- verdicts
verdict_here : (G : Setting) (E : Exam) → Sound G E → Holds (history G E) (closing E.numbers)
verdict_here G E s =
    let H = history G E in
    let t = tally_of E.keeper.before (at E.events) E.numbers.admitted in
    subst (λ x. Holds H (closing x)) (sym s.numbers)
    (⊎_elim
    (λ (z : t.racing ≡ 0).
    let q : eqb t.racing 0 ≡ true = eq-eqb t.racing 0 z in
    subst (λ b. Holds H (cond b (race_free t.admitted) (racy t.admitted t.racing (pair_or_none t.first)))) (sym q)
    (ap (λ x. x.admitted) (sym s.numbers), tally_clear H E.keeper s.keeps (tally_none E.keeper.before (at E.events) E.numbers.admitted z)))
    (λ (z : t.racing ≡ 0 → ⊥).
    let q : eqb t.racing 0 ≡ false = ne_eqb t.racing 0 z in
    let some : is_some t.first ≡ true = tally_tied E.keeper.before (at E.events) E.numbers.admitted ∙ lt-ltb 0 t.racing (omega arith) in
    subst (λ b. Holds H (cond b (race_free t.admitted) (racy t.admitted t.racing (pair_or_none t.first)))) (sym q)
    (ap (λ x. x.admitted) (sym s.numbers), shown H t.racing t.first some (λ a b f. tally_racy H E.keeper s.keeps a b f)))
    (cases_eq t.racing 0))
  where
    shown : (H : History) (count : ℕ) (first : Option (ℕ × ℕ)) → is_some first ≡ true → ((a b : ℕ) → first ≡ Some (a, b) → RacyAs H count a b) → RacyAs H count (pair_or_none first).0 (pair_or_none first).1
    shown H count None e f = absurd (false≢true e)
    shown H count (Some p) e f = f p.0 p.1 refl

pub verdict_exact : (t : Tally) (s : Said) → s ≡ closing t → VerdictExact t s
verdict_exact t s is G E reached same = subst (Holds (history G E)) (ap closing same ∙ sym is) (verdict_here G E (reached_sound G E reached))
