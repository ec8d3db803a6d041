-- What the checks of an admission come to. Assumes nothing.
use Rattle.std.proofs.Common.{◌≡◌, ◌<◌, Bool, true, cond, List, length, take, ℤ, Ok, Err, sym, refl, ap, ◌∙◌, arith}
use lib.ListN.{length-map}
use Rattle.std.proofs.lemmas.Bool.Decides.{nat_tests}
use Rattle.operations.specs.declared.operation.Operation.{Operation}
use Rattle.operations.specs.Events.{Event, event, events, at}
use Rattle.operations.specs.Rules.{most_classes}
use Rattle.operations.specs.Sources.{fits_source}
use Rattle.operations.proofs.Prefixes.{fits_prefix}
use Rattle.keepers.specs.Meaning.{Meaning, held}
use Rattle.examination.specs.declared.fault.ExamFault.TheVariants.{WordDiffers}
use Rattle.examination.specs.declared.open.Open.{Open}
use Rattle.examination.specs.Admission.{Exam, exam, checks}

-- what holds once all of them have passed
pub record Passed (start : List ℤ) (E : Exam) (e : Event) : Type 0 where
  pub place : E.numbers.admitted < length E.events
  pub count : held E.keeper ≡ E.numbers.admitted
  pub class : e.class < most_classes
  pub word : fits_source start (at E.events) E.numbers.admitted e ≡ true

pub passed : (start : List ℤ) (E : Exam) (e : Event) → checks start E e ≡ Ok tt → Passed start E e
passed start E e ok = record {
  place = grind (arith, nat_tests);
  count = grind (arith, nat_tests);
  class = grind (arith, nat_tests);
  word = grind (arith, nat_tests);
}

-- the last check decides once the others have passed
last_check : (start : List ℤ) (E : Exam) (e : Event) → E.numbers.admitted < length E.events → held E.keeper ≡ E.numbers.admitted → e.class < most_classes
    → checks start E e ≡ cond (fits_source start (at E.events) E.numbers.admitted e) (Ok tt) (Err WordDiffers)
last_check start E e place count class = grind (arith, nat_tests)

-- the code makes it over the admitted part of the record
pub word_check : {W : Type 0} (value : W → List ℤ) (start : List ℤ) (xs : List (Operation W)) (m : Meaning) (o : Open) (next : Operation W)
    → o.admitted < length xs → held m ≡ o.admitted → next.class < most_classes
    → (fits : Bool) → fits ≡ fits_source start (at (events value (take o.admitted xs))) (length (take o.admitted xs)) (event value next)
    → cond fits (Ok tt) (Err WordDiffers) ≡ checks start (exam value xs m o) (event value next)
word_check value start xs m o next place count class fits is =
    let same : fits ≡ fits_source start (at (events value xs)) o.admitted (event value next) =
    is ∙ fits_prefix value xs o.admitted o.admitted refl (omega arith) start (event value next) in
    ap (λ b. cond b (Ok tt) (Err WordDiffers)) same
    ∙ sym (last_check start (exam value xs m o) (event value next) (omega (arith, length-map xs (event value))) count class)
