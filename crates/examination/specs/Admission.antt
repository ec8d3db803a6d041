-- What opening and admission answer, and what they make of the record, the keeper and the examination's numbers.
-- Assumes nothing.
use Rattle.std.specs.Prelude.{ℕ, Bool, cond, List, length, ℤ, Some, None, Ok, Err, Option, Result, ◌==◌, nat_lt, slice_set}
use Rattle.operations.specs.declared.operation.Operation.{Operation}
use Rattle.operations.specs.Events.{Event, events, at}
use Rattle.operations.specs.Races.{racing_partner}
use Rattle.operations.specs.Rules.{most_classes, pairing}
use Rattle.operations.specs.Sources.{fits_source, release_for}
use Rattle.keepers.specs.declared.fault.KeeperFault.{KeeperFault}
use Rattle.keepers.specs.Adding.{added, addition}
use Rattle.keepers.specs.Meaning.{Meaning, held}
use Rattle.laws.specs.Tally.{Tally, no_operation, noted}
use Rattle.examination.specs.declared.admission.Admitted.{Admitted}
use Rattle.examination.specs.declared.fault.ExamFault.{ExamFault}
use Rattle.examination.specs.declared.fault.ExamFault.TheVariants.{Keeper, CountDiffers, RecordShort, ClassTooHigh, WordDiffers}
use Rattle.examination.specs.declared.open.Open.{Open}
use Rattle.examination.specs.declared.races.RacingPair.{RacingPair}
use Rattle.examination.specs.Races.{racing, first_race}

-- the pairing rule and the initial word, by meaning
pub record Setting : Type 0 where
  pub pairs : ℕ → ℕ → Bool
  pub start : List ℤ

-- the record, the keeper and the examination's numbers, by meaning
pub record Exam : Type 0 where
  pub events : List Event
  pub keeper : Meaning
  pub numbers : Tally

-- how the code's values are read
abbrev pub setting : (ℕ → ℕ → Bool) → List ℤ → Setting
setting rule start = record { pairs = pairing rule; start = start }

abbrev pub pair : Option RacingPair → Option (ℕ × ℕ)
pair None = None
pair (Some p) = Some (p.partner, p.operation)

abbrev pub tally : Open → Tally
tally o = record { admitted = o.admitted; racing = racing o.races; first = pair (first_race o.races) }

abbrev pub exam : {W : Type 0} → (W → List ℤ) → List (Operation W) → Meaning → Open → Exam
exam value log m o = record { events = events value log; keeper = m; numbers = tally o }

-- opening: a keeper that holds anything is refused
abbrev pub opening : Meaning → Result Tally ExamFault
opening m = cond (held m == 0) (Ok no_operation) (Err CountDiffers)

abbrev pub opened : Result Open ExamFault → Result Tally ExamFault
opened (Ok o) = Ok (tally o)
opened (Err f) = Err f

-- the checks of an admission that come before the keeper's own, in their order
abbrev pub checks : List ℤ → Exam → Event → Result (Unit {0}) ExamFault
checks start E e =
    cond (nat_lt E.numbers.admitted (length E.events))
    (cond (held E.keeper == E.numbers.admitted)
    (cond (nat_lt e.class most_classes)
    (cond (fits_source start (at E.events) E.numbers.admitted e)
    (Ok tt)
    (Err WordDiffers))
    (Err ClassTooHigh))
    (Err CountDiffers))
    (Err RecordShort)

-- the release that the operation is paired with
abbrev pub giver_of : Setting → Exam → Event → Option ℕ
giver_of G E e = release_for G.pairs (at E.events) E.numbers.admitted e

-- the record and the keeper with the operation
abbrev pub events_with : Exam → Event → List Event
events_with E e = slice_set E.events E.numbers.admitted e

abbrev pub keeper_with : Setting → Exam → Event → Meaning
keeper_with G E e = added E.keeper e.processor (giver_of G E e)

-- its racing partner by the keeper's meaning
abbrev pub partner_of : Setting → Exam → Event → Option ℕ
partner_of G E e = racing_partner (keeper_with G E e).before (at (events_with E e)) E.numbers.admitted

-- the answer, once the keeper has answered
abbrev pub number_with : Option ℕ → Result ℕ KeeperFault → Result Admitted ExamFault
number_with partner (Ok n) = Ok (record { number = n; partner = partner })
number_with partner (Err f) = Err (Keeper f)

abbrev pub unless_refused : Result (Unit {0}) ExamFault → Result Admitted ExamFault → Result Admitted ExamFault
unless_refused (Ok u) r = r
unless_refused (Err f) r = Err f

-- what an admission answers: the number and the racing partner, or the first check that fails
abbrev pub admission : Setting → Exam → Event → Result Admitted ExamFault
admission G E e = unless_refused (checks G.start E e) (number_with (partner_of G E e) (addition E.keeper e.processor (giver_of G E e)))

-- what it makes of the record, the keeper and the numbers: a refusal changes nothing
abbrev pub grown : Setting → Exam → Event → Result Admitted ExamFault → Exam
grown G E e (Ok a) = record { events = events_with E e; keeper = keeper_with G E e; numbers = noted E.numbers a.partner }
grown G E e (Err f) = E

abbrev pub after_admission : Setting → Exam → Event → Exam
after_admission G E e = grown G E e (admission G E e)

-- the lent record itself
abbrev pub recorded : {W : Type 0} → List (Operation W) → ℕ → Operation W → Result Admitted ExamFault → List (Operation W)
recorded log n o (Ok a) = slice_set log n o
recorded log n o (Err f) = log
