-- A reading is a run of the examination, so that its verdict is exact. Assumes nothing.
use Rattle.std.proofs.Common.{◌≡◌, ℕ, ◌<◌, List, [], ◌∷◌, ◌++◌, length, take, set, ℤ, Ok, Err, Option, Result, sym, refl, ap, ◌∙◌, subst, append_assoc, arith, take-suc-set}
use lib.ListN.{length-map}
use Rattle.std.proofs.lemmas.List.{map-set, append-nil}
use Rattle.operations.specs.declared.operation.Operation.{Operation}
use Rattle.operations.specs.Events.{event, events, at}
use Rattle.keepers.specs.Meaning.{Meaning, held}
use Rattle.laws.specs.Tally.{noted}
use Rattle.examination.specs.declared.admission.Admitted.{Admitted}
use Rattle.examination.specs.declared.fault.ExamFault.{ExamFault}
use Rattle.examination.specs.declared.open.Open.{Open}
use Rattle.examination.specs.Admission.{Setting, Exam, tally, opening, admission, after_admission, keeper_with, partner_of}
use Rattle.examination.specs.Closing.{Said}
use Rattle.examination.specs.Runs.{Call, admit, after, run, Reached, Holds, VerdictExact}
use Rattle.examination.proofs.Admitting.{noted_admitted}
use Rattle.reader.proofs.InTurn.{taken_of}
use Rattle.examination.proofs.Reaching.{reached_sound}
use Rattle.record_file.specs.declared.fault.FileFault.{FileFault}
use Rattle.record_file.specs.Records.{Item, operation, stop}
use Rattle.reader.specs.Reading.{Reading, exam_of, with_operation, Ended, ended, if_admitted, read}
use Rattle.reader.specs.Examining.{reading, run_of, operations_in}

run_more : (G : Setting) (E : Exam) (cs : List Call) (c : Call) → run G E (cs ++ (c ∷ [])) ≡ after G (run G E cs) c
run_more G E [] c = refl
run_more G E (d ∷ cs) c = run_more G (after G E d) cs c

reached_more : (G : Setting) (E : Exam) (c : Call) → Reached G E → Reached G (after G E c)
reached_more G E c r = record {
  start = r.start;
  calls = r.calls ++ (c ∷ []);
  opened = r.opened;
  leads = run_more G r.start r.calls c ∙ ap (λ x. after G x c) r.leads;
}

module _ {W : Type 0} (value : W → List ℤ) (G : Setting) where
  with_reached : (s : Reading W) (o : Operation W) (a : Admitted) → admission G (exam_of value s) (event value o) ≡ Ok a → Reached G (exam_of value s) → Reached G (exam_of value (with_operation value G s o))
  with_reached s o a is r =
      let t = taken_of G (exam_of value s) (event value o) a is in
      let step : after_admission G (exam_of value s) (event value o) ≡ exam_of value (with_operation value G s o) =
      t.after ∙ ap (λ es. record { events = es; keeper = keeper_with G (exam_of value s) (event value o); numbers = noted s.numbers (partner_of G (exam_of value s) (event value o)) }) (sym (map-set (event value) s.log s.numbers.admitted o)) in
      subst (Reached G) step (reached_more G (exam_of value s) (admit (event value o)) r)

  pub read_reached : (s : Reading W) (items : List (Item W)) → Reached G (exam_of value s) → Reached G (exam_of value (read value G s items).left)
  read_reached s [] r = r
  read_reached s (stop f ∷ items) r = r
  read_reached s (operation at o ∷ items) r = go (admission G (exam_of value s) (event value o)) refl (λ q. read_reached (with_operation value G s o) items q)
    where
      go : (x : Result Admitted ExamFault) → admission G (exam_of value s) (event value o) ≡ x
          → (Reached G (exam_of value (with_operation value G s o)) → Reached G (exam_of value (read value G (with_operation value G s o) items).left))
          → Reached G (exam_of value (if_admitted x at s (read value G (with_operation value G s o) items)).left)
      go (Ok a) is rest = rest (with_reached s o a is r)
      go (Err f) is rest = r

  -- a verdict that is exact for the examination is exact for what the keeper holds of the record
  pub told : (s : Reading W) (x : Said) → Reached G (exam_of value s) → VerdictExact s.numbers x → Holds (run_of value G s.log s.keeper) x
  told s x r exact =
      let count : held s.keeper ≡ s.numbers.admitted = (reached_sound G (exam_of value s) r).keeps.count in
      subst (λ k. Holds (record { size = k; op = at (events value s.log); pairs = G.pairs }) x) (sym count) (exact G (exam_of value s) r refl)

  -- opening was not refused
  pub newly_opened : (log : List (Operation W)) (m : Meaning) (o : Open) (partners : List (Option ℕ)) → Ok (tally o) ≡ opening m → Reached G (exam_of value (reading log m o partners))
  newly_opened log m o partners opens = record {
    start = exam_of value (reading log m o partners);
    calls = [];
    opened = record { empty = grind arith; numbers = grind arith };
    leads = refl;
  }

  -- the record's beginning is the file's beginning
  pub record Kept (s : Reading W) (items : List (Item W)) (e : Ended W) : Type 0 where
    pub rest : List (Operation W)
    pub same : take s.numbers.admitted s.log ++ operations_in items ≡ take e.left.numbers.admitted e.left.log ++ rest
    pub all : e.result ≡ Ok tt → rest ≡ []

  next_place : (s : Reading W) (o : Operation W) → s.numbers.admitted < length s.log → take (with_operation value G s o).numbers.admitted (with_operation value G s o).log ≡ take s.numbers.admitted s.log ++ (o ∷ [])
  next_place s o h = ap (λ k. take k (set s.log s.numbers.admitted o)) (noted_admitted s.numbers (partner_of G (exam_of value s) (event value o))) ∙ take-suc-set s.log s.numbers.admitted o h

  pub read_kept : (s : Reading W) (items : List (Item W)) → Kept s items (read value G s items)
  read_kept s [] = record { rest = []; same = refl; all = λ e. refl }
  read_kept s (stop f ∷ items) = record { rest = []; same = refl; all = λ e. refl }
  read_kept s (operation at o ∷ items) = go (admission G (exam_of value s) (event value o)) refl (read_kept (with_operation value G s o) items)
    where
      go : (x : Result Admitted ExamFault) → admission G (exam_of value s) (event value o) ≡ x
          → Kept (with_operation value G s o) items (read value G (with_operation value G s o) items)
          → Kept s (operation at o ∷ items) (if_admitted x at s (read value G (with_operation value G s o) items))
      go (Err f) is k = record { rest = o ∷ operations_in items; same = refl; all = λ e. grind arith }
      go (Ok a) is k =
          let t = taken_of G (exam_of value s) (event value o) a is in
          let place : s.numbers.admitted < length s.log = omega (arith, t.passes.place, length-map s.log (event value)) in
          record {
            rest = k.rest;
            same = sym (append_assoc (take s.numbers.admitted s.log) (o ∷ []) (operations_in items)) ∙ ap (λ l. l ++ operations_in items) (sym (next_place s o place)) ∙ k.same;
            all = k.all;
          }

  pub opened_none : (m : Meaning) (o : Open) → Ok (tally o) ≡ opening m → o.admitted ≡ 0
  opened_none m o opens = grind arith

  -- the same of a reading into a newly opened examination
  module _ (s s' : Reading W) (items : List (Item W)) (none : s.numbers.admitted ≡ 0) (arrived : Reached G (exam_of value s')) where
    listed_so_far : (r : Result (Unit {0}) FileFault) → ended r s' ≡ read value G s items → Kept s items (ended r s') → (rest : List (Operation W)) × (operations_in items ≡ take (held s'.keeper) s'.log ++ rest) × (r ≡ Ok tt → rest ≡ [])
    listed_so_far r is k =
        let count : held s'.keeper ≡ s'.numbers.admitted = (reached_sound G (exam_of value s') arrived).keeps.count in
        (k.rest, ap (λ j. take j s.log ++ operations_in items) (sym none) ∙ k.same ∙ ap (λ j. take j s'.log ++ k.rest) (sym count), k.all)

    pub listed_some : (f : FileFault) → ended (Err f) s' ≡ read value G s items → (rest : List (Operation W)) × (operations_in items ≡ take (held s'.keeper) s'.log ++ rest)
    listed_some f is = let l = listed_so_far (Err f) is (subst (Kept s items) (sym is) (read_kept s items)) in (l.0, l.1)

    pub listed_all : ended (Ok tt) s' ≡ read value G s items → operations_in items ≡ take (held s'.keeper) s'.log
    listed_all is =
        let l = listed_so_far (Ok tt) is (subst (Kept s items) (sym is) (read_kept s items)) in
        l.1 ∙ ap (λ z. take (held s'.keeper) s'.log ++ z) (l.2 refl) ∙ append-nil (take (held s'.keeper) s'.log)

  -- a reading of a file into a newly opened examination
  module _ (log : List (Operation W)) (m : Meaning) (o : Open) (partners : List (Option ℕ)) (items : List (Item W)) (opens : Ok (tally o) ≡ opening m) (s' : Reading W) where
    abbrev s : Reading W
    s = reading log m o partners

    pub arrived : (r : Result (Unit {0}) FileFault) → ended r s' ≡ read value G s items → Reached G (exam_of value s')
    arrived r is = subst (λ e. Reached G (exam_of value e.left)) (sym is) (read_reached s items (newly_opened log m o partners opens))

    pub told_of : (r : Result (Unit {0}) FileFault) → ended r s' ≡ read value G s items → (x : Said) → VerdictExact s'.numbers x → Holds (run_of value G s'.log s'.keeper) x
    told_of r is x exact = told s' x (arrived r is) exact
