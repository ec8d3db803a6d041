-- What the reading of a record file does: its operations are admitted in turn, up to the first fault.
-- Assumes nothing.
use Rattle.std.specs.Prelude.{ℕ, List, [], ◌∷◌, ℤ, Ok, Err, Option, Result, slice_set}
use Rattle.operations.specs.declared.operation.Operation.{Operation}
use Rattle.operations.specs.Events.{event, events}
use Rattle.keepers.specs.Meaning.{Meaning}
use Rattle.laws.specs.Tally.{Tally, noted}
use Rattle.examination.specs.declared.admission.Admitted.{Admitted}
use Rattle.examination.specs.declared.fault.ExamFault.{ExamFault}
use Rattle.examination.specs.Admission.{Setting, Exam, admission, keeper_with, partner_of}
use Rattle.record_file.specs.declared.fault.FileFault.{FileFault}
use Rattle.record_file.specs.declared.fault.FileFault.TheVariants.{Record}
use Rattle.record_file.specs.Records.{Item, operation, stop}

-- all that a reading works on: the lent record, the keeper by meaning, the examination's numbers, and the lent
-- list of racing partners, by number
pub record Reading (W : Type 0) : Type 0 where
  pub log : List (Operation W)
  pub keeper : Meaning
  pub numbers : Tally
  pub partners : List (Option ℕ)

abbrev pub exam_of : {W : Type 0} → (W → List ℤ) → Reading W → Exam
exam_of value s = record { events = events value s.log; keeper = s.keeper; numbers = s.numbers }

-- one operation admitted, and its racing partner noted
abbrev pub with_operation : {W : Type 0} → (W → List ℤ) → Setting → Reading W → Operation W → Reading W
with_operation value G s o = record {
  log = slice_set s.log s.numbers.admitted o;
  keeper = keeper_with G (exam_of value s) (event value o);
  numbers = noted s.numbers (partner_of G (exam_of value s) (event value o));
  partners = slice_set s.partners s.numbers.admitted (partner_of G (exam_of value s) (event value o));
}

-- how a reading ends: read to its end or a fault, and what it leaves
pub record Ended (W : Type 0) : Type 0 where
  pub result : Result (Unit {0}) FileFault
  pub left : Reading W

abbrev pub ended : {W : Type 0} → Result (Unit {0}) FileFault → Reading W → Ended W
ended r s = record { result = r; left = s }

-- an admission that is refused ends the reading with the fault at its record's offset; what was admitted stays
abbrev pub if_admitted : {W : Type 0} → Result Admitted ExamFault → ℕ → Reading W → Ended W → Ended W
if_admitted (Ok a) at s rest = rest
if_admitted (Err f) at s rest = ended (Err (Record (record { offset = at; fault = f }))) s

abbrev pub read : {W : Type 0} → (W → List ℤ) → Setting → Reading W → List (Item W) → Ended W
read value G s [] = ended (Ok tt) s
read value G s (stop f ∷ items) = ended (Err f) s
read value G s (operation at o ∷ items) = if_admitted (admission G (exam_of value s) (event value o)) at s (read value G (with_operation value G s o) items)
