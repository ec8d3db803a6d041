-- Whole runs of an examination: opening over an empty keeper, then any list of admissions and order questions,
-- refused ones included, on one record, one keeper and one rule. Assumes nothing.
use Rattle.std.specs.Prelude.{◌≡◌, ℕ, suc, ◌<◌, Bool, List, [], ◌∷◌, Ok, Err, Decides, Result}
use Rattle.operations.specs.Events.{Event, at}
use Rattle.operations.specs.History.{History, Before, RaceFree}
use Rattle.keepers.specs.Meaning.{Meaning, held}
use Rattle.laws.specs.Tally.{Tally, no_operation}
use Rattle.laws.specs.Exact.{IsPartner, RacyAs}
use Rattle.examination.specs.declared.admission.Admitted.{Admitted}
use Rattle.keepers.specs.declared.fault.KeeperFault.TheVariants.{NotHeld}
use Rattle.examination.specs.declared.fault.ExamFault.{ExamFault}
use Rattle.examination.specs.declared.fault.ExamFault.TheVariants.{Keeper}
use Rattle.examination.specs.Admission.{Setting, Exam, after_admission}
use Rattle.examination.specs.Closing.{Said, race_free, racy}

pub data Call : Type 0 where
  admit : Event → Call
  ask : ℕ → ℕ → Call

-- what a call leaves: a question leaves all as it was
abbrev pub after : Setting → Exam → Call → Exam
after G E (admit e) = after_admission G E e
after G E (ask a b) = E

abbrev pub run : Setting → Exam → List Call → Exam
run G E [] = E
run G E (c ∷ cs) = run G (after G E c) cs

-- a record, an empty keeper and the numbers of a newly opened examination
pub record Opened (E : Exam) : Type 0 where
  pub empty : held E.keeper ≡ 0
  pub numbers : E.numbers ≡ no_operation

-- E is where some run leads
pub record Reached (G : Setting) (E : Exam) : Type 0 where
  pub start : Exam
  pub calls : List Call
  pub opened : Opened start
  pub leads : run G start calls ≡ E

-- the operations that were admitted
abbrev pub history : Setting → Exam → History
history G E = record { size = E.numbers.admitted; op = at E.events; pairs = G.pairs }

-- an order question about two operations of a run says yes exactly when a chain of arrows leads from the first
-- to the second; about any other number it is refused
abbrev pub Ordered : History → ℕ → ℕ → Result Bool ExamFault → Type 0
Ordered H a b (Ok yes_or_no) = (a < H.size) × (b < H.size) × Decides yes_or_no (Before H a b)
Ordered H a b (Err f) = (f ≡ Keeper NotHeld) × (a < H.size → b < H.size → ⊥)

abbrev pub OrderExact : Meaning → ℕ → ℕ → ℕ → Result Bool ExamFault → Type 0
OrderExact m n a b r = (G : Setting) (E : Exam) → Reached G E → E.keeper ≡ m → E.numbers.admitted ≡ n → Ordered (history G E) a b r

-- the racing partner that an admission answers is the latest earlier operation in a data race with the new one
abbrev pub Partnered : History → Result Admitted ExamFault → Type 0
Partnered H (Ok a) = (H.size ≡ suc a.number) × IsPartner H a.number a.partner
Partnered H (Err f) = Unit {0}

abbrev pub AdmissionExact : Setting → Exam → Event → Result Admitted ExamFault → Type 0
AdmissionExact G E e r = Reached G E → Partnered (history G (after_admission G E e)) r

-- a verdict of race-free means that no two operations are in a data race; a racy one shows the first that is in
-- a data race with an earlier one, and how many are
abbrev pub Holds : History → Said → Type 0
Holds H (race_free n) = (n ≡ H.size) × RaceFree H
Holds H (racy n count p) = (n ≡ H.size) × RacyAs H count p.0 p.1

abbrev pub VerdictExact : Tally → Said → Type 0
VerdictExact t s = (G : Setting) (E : Exam) → Reached G E → E.numbers ≡ t → Holds (history G E) s
