-- An admission is refused and changes nothing, or its checks and the keeper's have passed. Assumes nothing.
use Rattle.std.proofs.Common.{◌≡◌, ℕ, suc, ◌⊎◌, List, set, ℤ, Some, None, Ok, Err, Option, Result, sym, refl, ap, ◌∙◌, ap₂, inl, inr, add-one}
use Rattle.std.proofs.lemmas.List.{map-set}
use Rattle.operations.specs.declared.operation.Operation.{Operation}
use Rattle.operations.specs.Events.{Event, event, events, at}
use Rattle.operations.specs.Races.{racing_partner}
use Rattle.keepers.specs.declared.fault.KeeperFault.{KeeperFault}
use Rattle.keepers.specs.Adding.{added, addition, answered, after_addition}
use Rattle.keepers.specs.Meaning.{Meaning}
use Rattle.keepers.proofs.Accepting.{Accepted, accepted}
use Rattle.laws.specs.Tally.{Tally, noted}
use Rattle.examination.specs.declared.open.Open.{Open}
use Rattle.examination.specs.declared.fault.ExamFault.{ExamFault}
use Rattle.examination.specs.declared.fault.ExamFault.TheVariants.{Keeper}
use Rattle.examination.specs.Admission.{Setting, Exam, exam, tally, checks, giver_of, partner_of, events_with, keeper_with, number_with, unless_refused, admission, grown, after_admission}
use Rattle.examination.proofs.Checking.{Passed, passed}

-- a tally has one operation more
pub noted_admitted : (t : Tally) (o : Option ℕ) → (noted t o).admitted ≡ suc t.admitted
noted_admitted t None = add-one t.admitted
noted_admitted t (Some a) = add-one t.admitted

module _ (G : Setting) (E : Exam) (e : Event) where
  abbrev pub next_exam : Exam
  next_exam = record { events = events_with E e; keeper = keeper_with G E e; numbers = noted E.numbers (partner_of G E e) }

  pub record Taken : Type 0 where
    pub passes : Passed G.start E e
    pub adds : Accepted E.keeper e.processor (giver_of G E e) E.numbers.admitted
    pub answer : admission G E e ≡ Ok (record { number = E.numbers.admitted; partner = partner_of G E e })
    pub after : after_admission G E e ≡ next_exam

  pub record Refused : Type 0 where
    pub fault : ExamFault
    pub answer : admission G E e ≡ Err fault
    pub after : after_admission G E e ≡ E

  pub taken : checks G.start E e ≡ Ok tt → (k : ℕ) → addition E.keeper e.processor (giver_of G E e) ≡ Ok k → Taken
  taken ok k add =
      let p = passed G.start E e ok in
      let a = accepted E.keeper e.processor (giver_of G E e) k add in
      let same : k ≡ E.numbers.admitted = a.number ∙ p.count in
      let is : admission G E e ≡ Ok (record { number = E.numbers.admitted; partner = partner_of G E e }) =
      ap₂ (λ c r. unless_refused c (number_with (partner_of G E e) r)) ok add ∙ ap (λ j. Ok (record { number = j; partner = partner_of G E e })) same in
      record {
        passes = p;
        adds = record { admitted = a.admitted; given = a.given; room = a.room; number = sym p.count };
        answer = is;
        after = ap (grown G E e) is;
      }

  pub refused_by : (f : ExamFault) → admission G E e ≡ Err f → Refused
  refused_by f is = record { fault = f; answer = is; after = ap (grown G E e) is }

  pub not_checked : (f : ExamFault) → checks G.start E e ≡ Err f → admission G E e ≡ Err f
  not_checked f is = ap (λ c. unless_refused c (number_with (partner_of G E e) (addition E.keeper e.processor (giver_of G E e)))) is

  pub not_added : checks G.start E e ≡ Ok tt → (f : KeeperFault) → addition E.keeper e.processor (giver_of G E e) ≡ Err f → admission G E e ≡ Err (Keeper f)
  not_added ok f add = ap₂ (λ c r. unless_refused c (number_with (partner_of G E e) r)) ok add

  pub cases_admission : Taken ⊎ Refused
  cases_admission = go (checks G.start E e) (addition E.keeper e.processor (giver_of G E e)) refl refl
    where
      go : (c : Result (Unit {0}) ExamFault) (r : Result ℕ KeeperFault) → checks G.start E e ≡ c → addition E.keeper e.processor (giver_of G E e) ≡ r → Taken ⊎ Refused
      go (Err f) r is add = inr (refused_by f (not_checked f is))
      go (Ok u) (Err f) is add = inr (refused_by (Keeper f) (not_added is f add))
      go (Ok u) (Ok k) is add = inl (taken is k add)

-- what the code has at hand once the keeper has added the operation
module _ {W : Type 0} (value : W → List ℤ) (G : Setting) (xs : List (Operation W)) (m : Meaning) (o : Open) (op : Operation W) where
  abbrev E : Exam
  E = exam value xs m o

  abbrev e : Event
  e = event value op

  module _ (ok : Ok tt ≡ checks G.start E e) (giver : Option ℕ) (gives : giver ≡ giver_of G E e) (k : ℕ) (add : Ok k ≡ addition m op.processor giver) where
    is_taken : Taken G E e
    is_taken = taken G E e (sym ok) k (ap (addition m op.processor) (sym gives) ∙ sym add)

    pub number_is : k ≡ o.admitted
    number_is = (accepted m op.processor giver k (sym add)).number ∙ is_taken.passes.count

    pub record Done (m₂ : Meaning) (o₁ : Open) (partner : Option ℕ) : Type 0 where
      pub answer : Ok (record { number = k; partner = partner }) ≡ admission G E e
      pub after : exam value (set xs k op) m₂ o₁ ≡ after_admission G E e

    pub done : (m₁ : Meaning) → m₁ ≡ after_addition m op.processor giver → (partner : Option ℕ) → partner ≡ racing_partner m₁.before (at (events value (set xs k op))) k
        → (m₂ : Meaning) → m₂ ≡ m₁ → (o₁ : Open) → tally o₁ ≡ noted (tally o) partner → Done m₂ o₁ partner
    done m₁ m₁_is partner partner-is m₂ m₂-is o₁ o₁-is =
        let keeper-is : m₁ ≡ keeper_with G E e = m₁_is ∙ ap (answered m op.processor giver) (sym add) ∙ ap (added m op.processor) gives in
        let events-is : events value (set xs k op) ≡ events_with E e = map-set (event value) xs k op ∙ ap (λ j. set (events value xs) j e) number_is in
        let same : partner ≡ partner_of G E e = partner-is ∙ (λ i. racing_partner (keeper-is i).before (at (events-is i)) (number_is i)) in
        record {
          answer = (λ i. Ok (record { number = number_is i; partner = same i })) ∙ sym is_taken.answer;
          after =
              (λ i. record { events = events-is i; keeper = (m₂-is ∙ keeper-is) i; numbers = (o₁-is ∙ ap (noted (tally o)) same) i })
              ∙ sym is_taken.after;
        }
