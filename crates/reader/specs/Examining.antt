-- What the examination of a record file answers and leaves. Assumes nothing.
use Rattle.std.specs.Prelude.{◌≡◌, ℕ, List, [], ◌∷◌, ◌++◌, ℤ, Ok, Err, Option, Result}
use Rattle.operations.specs.declared.operation.Operation.{Operation}
use Rattle.operations.specs.Events.{events, at}
use Rattle.operations.specs.History.{History}
use Rattle.keepers.specs.Meaning.{Meaning, held}
use Rattle.laws.specs.Tally.{Tally}
use Rattle.examination.specs.declared.fault.ExamFault.{ExamFault}
use Rattle.examination.specs.declared.closing.Verdict.{Verdict}
use Rattle.examination.specs.declared.open.Open.{Open}
use Rattle.examination.specs.Admission.{Setting, tally, opening}
use Rattle.examination.specs.Closing.{Said, closing, said}
use Rattle.examination.specs.Runs.{Holds}
use Rattle.record_file.specs.declared.fault.FileFault.{FileFault}
use Rattle.record_file.specs.declared.fault.FileFault.TheVariants.{Record}
use Rattle.record_file.specs.Records.{Item, operation, stop}
use Rattle.reader.specs.Reading.{Reading, Ended, read}

-- how the code's values are read
abbrev pub reading : {W : Type 0} → List (Operation W) → Meaning → Open → List (Option ℕ) → Reading W
reading log m o partners = record { log = log; keeper = m; numbers = tally o; partners = partners }

abbrev pub answered : Result Verdict FileFault → Result Said FileFault
answered (Ok v) = Ok (said v)
answered (Err f) = Err f

-- the answer, and the record, the keeper and the partners that are left
pub record Outcome (W : Type 0) : Type 0 where
  pub answer : Result Said FileFault
  pub log : List (Operation W)
  pub keeper : Meaning
  pub partners : List (Option ℕ)

-- closing, once the file was read to its end
abbrev pub verdict : Tally → Result (Unit {0}) FileFault → Result Said FileFault
verdict t (Ok u) = Ok (closing t)
verdict t (Err f) = Err f

abbrev pub closed : {W : Type 0} → Ended W → Outcome W
closed e = record { answer = verdict e.left.numbers e.result; log = e.left.log; keeper = e.left.keeper; partners = e.left.partners }

-- opening comes first; its fault is placed at the start of the file
abbrev pub started : {W : Type 0} → (W → List ℤ) → Setting → List (Operation W) → Meaning → List (Option ℕ) → List (Item W) → Result Tally ExamFault → Outcome W
started value G log m partners items (Ok t) = closed (read value G (record { log = log; keeper = m; numbers = t; partners = partners }) items)
started value G log m partners items (Err f) = record { answer = Err (Record (record { offset = 0; fault = f })); log = log; keeper = m; partners = partners }

abbrev pub examined : {W : Type 0} → (W → List ℤ) → Setting → List (Operation W) → Meaning → List (Option ℕ) → List (Item W) → Outcome W
examined value G log m partners items = started value G log m partners items (opening m)

-- the operations that a keeper holds, as the record has them
abbrev pub run_of : {W : Type 0} → (W → List ℤ) → Setting → List (Operation W) → Meaning → History
run_of value G log m = record { size = held m; op = at (events value log); pairs = G.pairs }

-- a verdict tells that run's races exactly
abbrev pub Told : History → Result Verdict FileFault → Type 0
Told H (Ok v) = Holds H (said v)
Told H (Err f) = Unit {0}

-- the operations of a file in order, up to the first fault in it
abbrev pub operations_in : {W : Type 0} → List (Item W) → List (Operation W)
operations_in [] = []
operations_in (stop f ∷ items) = []
operations_in (operation at o ∷ items) = o ∷ operations_in items

-- what was admitted is the beginning of that, and all of it where no fault is reported
abbrev pub Listed : {W : Type 0} → List (Operation W) → List (Operation W) → Result Verdict FileFault → Type 0
Listed all here (Ok v) = all ≡ here
Listed {W} all here (Err f) = (rest : List (Operation W)) × (all ≡ here ++ rest)
