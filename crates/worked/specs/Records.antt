-- The worked records, as lists of calls, and their examination from a fresh start. Assumes nothing.
use Rattle.std.specs.Prelude.{ℕ, Bool, List, [], ◌∷◌, replicate, pos, Option, Result}
use Rattle.operations.specs.declared.kind.Kind.{Kind}
use Rattle.operations.specs.declared.kind.Kind.TheVariants.{DataRead, DataWrite, SyncRead, SyncWrite, Acquire, Release}
use Rattle.operations.specs.Events.{Event, nothing}
use Rattle.operations.specs.Rules.{step_pairs}
use Rattle.keepers.specs.Meaning.{empty}
use Rattle.laws.specs.Tally.{no_operation}
use Rattle.examination.specs.declared.admission.Admitted.{Admitted}
use Rattle.examination.specs.declared.fault.ExamFault.{ExamFault}
use Rattle.examination.specs.Admission.{Setting, Exam, setting, admission, giver_of}
use Rattle.examination.specs.Asking.{order_answer}
use Rattle.examination.specs.Closing.{Said, closing}
use Rattle.examination.specs.Runs.{Call, admit, run}

-- the step rule over counts
abbrev pub steps : Setting
steps = setting step_pairs (pos 0 ∷ [])

-- an operation over counts: processor, kind, class, location, word
abbrev pub op : ℕ → Kind → ℕ → ℕ → ℕ → Event
op p k c l w = record { processor = p; kind = k; class = c; location = l; word = pos w ∷ [] }

abbrev pub admissions : List Event → List Call
admissions [] = []
admissions (e ∷ es) = admit e ∷ admissions es

-- a record of n places and an empty keeper for three processors with room for eight operations
abbrev pub fresh : ℕ → Exam
fresh n = record { events = replicate n nothing; keeper = empty 3 8; numbers = no_operation }

abbrev pub examined : ℕ → List Event → Exam
examined n es = run steps (fresh n) (admissions es)

abbrev pub closed : ℕ → List Event → Said
closed n es = closing (examined n es).numbers

abbrev pub ordered : ℕ → List Event → ℕ → ℕ → Result Bool ExamFault
ordered n es a b = order_answer (examined n es).keeper (examined n es).numbers.admitted a b

-- what the admission of one more operation answers, and the release that it is paired with
abbrev pub next : ℕ → List Event → Event → Result Admitted ExamFault
next n es e = admission steps (examined n es) e

abbrev pub paired : ℕ → List Event → Event → Option ℕ
paired n es e = giver_of steps (examined n es) e

-- processor 0 writes 7 to 1 and releases 5 to 9; processor 1 acquires that and reads 7 from 1; processor 2 writes
-- 3 to 2
abbrev pub record_a : List Event
record_a = op 0 DataWrite 0 1 7 ∷ op 0 Release 0 9 5 ∷ op 1 Acquire 1 9 5 ∷ op 1 DataRead 0 1 7 ∷ op 2 DataWrite 0 2 3 ∷ []

-- its first four, with an unpaired synchronization read for the acquire
abbrev pub record_b : List Event
record_b = op 0 DataWrite 0 1 7 ∷ op 0 Release 0 9 5 ∷ op 1 SyncRead 1 9 5 ∷ op 1 DataRead 0 1 7 ∷ []

-- processor 0 releases 5 to 9 and then writes 5 there as data; processor 1 acquires it
abbrev pub record_d : List Event
record_d = op 0 Release 0 9 5 ∷ op 0 DataWrite 0 9 5 ∷ []

abbrev pub late_acquire : Event
late_acquire = op 1 Acquire 1 9 5

-- two processors' unpaired synchronization writes to one location
abbrev pub two_writes : List Event
two_writes = op 0 SyncWrite 0 9 1 ∷ op 1 SyncWrite 0 9 2 ∷ []
