-- Reading items one after another. Assumes nothing.
use Rattle.std.proofs.Common.{◌≡◌, ℕ, ◌+◌, ◌-◌, ◌*◌, ◌<◌, ◌≤◌, cond, List, [], ◌∷◌, ◌++◌, length, take, drop, set, ℤ, Ok, Err, Option, Result, refl, sym, ap, ◌∙◌, ⊎_elim, arith}
use Rattle.std.proofs.lemmas.List.{length-append}
use Rattle.std.proofs.Math.Seq.{take-append_seam, drop-append_seam}
use Rattle.std.proofs.lemmas.Bool.{eq-eqb}
use Rattle.operations.specs.declared.operation.Operation.{Operation}
use Rattle.operations.specs.Events.{Event, event}
use Rattle.keepers.specs.Meaning.{Meaning}
use Rattle.examination.specs.declared.admission.Admitted.{Admitted}
use Rattle.examination.specs.declared.open.Open.{Open}
use Rattle.examination.specs.Admission.{Setting, Exam, exam, admission, after_admission, partner_of, recorded}
use Rattle.examination.proofs.Admitting.{Taken, Refused, cases_admission, next_exam}
use Rattle.record_file.specs.declared.fault.FileFault.{FileFault}
use Rattle.record_file.specs.declared.fault.FileFault.TheVariants.{Section as UnfitSection}
use Rattle.record_file.specs.Directory.{section_start, section_bytes}
use Rattle.record_file.specs.Records.{Item, operation, stop, record_size, operation_of, record_of, and_then, rest_items, section_items, sections_items}
use Rattle.record_file.proofs.Items.{records_more, sections_more}
use Rattle.reader.specs.Reading.{Reading, with_operation, ended, if_admitted, read}
use Rattle.reader.specs.Examining.{reading}

-- an operation that was admitted was taken
pub taken_of : (G : Setting) (E : Exam) (e : Event) (a : Admitted) → admission G E e ≡ Ok a → Taken G E e
taken_of G E e a is = ⊎_elim
    (λ (t : Taken G E e). t)
    (λ (t : Refused G E e). absurd (let q = sym is ∙ t.answer in let z : ◌≡◌ {A = ℕ} 0 1 = cc in omega arith))
    (cases_admission G E e)

module _ {W : Type 0} (value : W → List ℤ) (G : Setting) where
  -- two parts, one after the other
  pub read_through : (s s' : Reading W) (xs ys : List (Item W)) → ended (Ok tt) s' ≡ read value G s xs → read value G s (xs ++ ys) ≡ read value G s' ys
  read_through s s' [] ys e = grind arith
  read_through s s' (stop f ∷ xs) ys e = grind arith
  read_through s s' (operation at o ∷ xs) ys e = let rest = read_through (with_operation value G s o) s' xs ys in grind arith

  pub read_stopped : (s s' : Reading W) (f : FileFault) (xs ys : List (Item W)) → ended (Err f) s' ≡ read value G s xs → ended (Err f) s' ≡ read value G s (xs ++ ys)
  read_stopped s s' f [] ys e = grind arith
  read_stopped s s' f (stop g ∷ xs) ys e = e
  read_stopped s s' f (operation at o ∷ xs) ys e = let rest = read_stopped (with_operation value G s o) s' f xs ys in grind arith

  -- one operation, as the code admits it
  module _ (log : List (Operation W)) (m : Meaning) (o : Open) (partners : List (Option ℕ)) (op : Operation W) (at : ℕ) where
    abbrev s : Reading W
    s = reading log m o partners

    pub one_admitted : (a : Admitted) → Ok a ≡ admission G (exam value log m o) (event value op) → (log' : List (Operation W)) (m' : Meaning) (o' : Open)
        → exam value log' m' o' ≡ after_admission G (exam value log m o) (event value op) → log' ≡ recorded log o.admitted op (Ok a)
        → (partners' : List (Option ℕ)) → partners' ≡ set partners a.number a.partner
        → ended (Ok tt) (reading log' m' o' partners') ≡ read value G s (operation at op ∷ [])
    one_admitted a is log' m' o' after written partners' noted-is =
        let t = taken_of G E e a (sym is) in
        let same : a ≡ record { number = o.admitted; partner = partner_of G E e } = let q = is ∙ t.answer in cc in
        let next : exam value log' m' o' ≡ next_exam G E e = after ∙ t.after in
        let list : partners' ≡ set partners o.admitted (partner_of G E e) = noted-is ∙ ap (λ x. set partners x.number x.partner) same in
        let left : reading log' m' o' partners' ≡ with_operation value G s op = λ i. record { log = written i; keeper = (next i).keeper; numbers = (next i).numbers; partners = list i } in
        ap (ended (Ok tt)) left
        ∙ ap (λ r. if_admitted r at s (read value G (with_operation value G s op) [])) is
      where
        E : Exam
        E = exam value log m o

        e : Event
        e = event value op

-- one turn of the loop over records: record n is the bytes ys, and zs are left
module _ {W : Type 0} (value : W → List ℤ) (G H : Setting) (same : H ≡ G) (decoded : List ℕ → W) (size p : ℕ) (s s' : Reading W) where
  abbrev one : List ℕ → ℕ → List (Item W)
  one ys at = and_then at (record_of decoded size p ys at) []

  module _ (bs ys zs : List ℕ) (start k i n : ℕ) (k-is : k ≡ record_size size) (bs-is : bs ≡ ys ++ zs) (long : length ys ≡ k) (i-is : i ≡ n) where
    abbrev at : ℕ
    at = start + n * k

    whole : length ys ≡ record_size size
    whole = long ∙ k-is

    record_whole : record_of decoded size p ys at ≡ operation_of decoded p ys at
    record_whole = ap (λ t. cond t (operation_of decoded p ys at) (Err (UnfitSection at))) (eq-eqb (length ys) (record_size size) whole)

    items_are : rest_items decoded size p bs at ≡ and_then at (record_of decoded size p ys at) (rest_items decoded size p zs (at + k))
    items_are =
        let more : record_size size ≤ length (ys ++ zs) = omega (arith, length-append ys zs, whole) in
        let front : take (record_size size) (ys ++ zs) ≡ ys = ap (λ j. take j (ys ++ zs)) (sym whole) ∙ take-append_seam ys zs in
        let back : drop (record_size size) (ys ++ zs) ≡ zs = ap (λ j. drop j (ys ++ zs)) (sym whole) ∙ drop-append_seam ys zs in
        ap (λ xs. rest_items decoded size p xs at) bs-is
        ∙ records_more decoded size p (ys ++ zs) at more
        ∙ ap (λ xs. and_then at (operation_of decoded p xs at) (rest_items decoded size p (drop (record_size size) (ys ++ zs)) (at + record_size size))) front
        ∙ ap (λ xs. and_then at (operation_of decoded p ys at) (rest_items decoded size p xs (at + record_size size))) back
        ∙ ap (λ j. and_then at (operation_of decoded p ys at) (rest_items decoded size p zs (at + j))) (sym k-is)
        ∙ ap (λ r. and_then at r (rest_items decoded size p zs (at + k))) (sym record_whole)

    -- after a record that is none, nothing is read
    alone : (r : Result (Operation W) FileFault) (items : List (Item W)) → read value G s (and_then at r items) ≡ read value G s (and_then at r [] ++ items)
    alone (Ok o) items = refl
    alone (Err f) items = refl

    split : read value G s (rest_items decoded size p bs at) ≡ read value G s (one ys at ++ rest_items decoded size p zs (at + k))
    split = ap (read value G s) items_are ∙ alone (record_of decoded size p ys at) (rest_items decoded size p zs (at + k))

    read_here : (r : Result (Unit {0}) FileFault) → ended r s' ≡ read value H s (one ys (start + i * k)) → ended r s' ≡ read value G s (one ys at)
    read_here r e = e ∙ ap (λ J. read value J s (one ys (start + i * k))) same ∙ ap (λ j. read value G s (one ys (start + j * k))) i-is

    pub record_passes : (n' : ℕ) → n' ≡ n + 1 → ended (Ok tt) s' ≡ read value H s (one ys (start + i * k)) → read value G s' (rest_items decoded size p zs (start + n' * k)) ≡ read value G s (rest_items decoded size p bs at)
    record_passes n' n'-is e =
        let next : start + n' * k ≡ at + k = ap (λ j. start + j * k) n'-is ∙ omega arith in
        ap (λ j. read value G s' (rest_items decoded size p zs j)) next
        ∙ sym (read_through value G s s' (one ys at) (rest_items decoded size p zs (at + k)) (read_here (Ok tt) e))
        ∙ sym split

    pub record_stops : (f : FileFault) → ended (Err f) s' ≡ read value H s (one ys (start + i * k)) → ended (Err f) s' ≡ read value G s (rest_items decoded size p bs at)
    record_stops f e = read_stopped value G s s' f (one ys at) (rest_items decoded size p zs (at + k)) (read_here (Err f) e) ∙ sym split

-- one turn of the loop over sections: section i of n has these bytes, which begin at `start`
module _ {W : Type 0} (value : W → List ℤ) (G H : Setting) (same : H ≡ G) (decoded : List ℕ → W) (size : ℕ) (s s' : Reading W) (file bytes : List ℕ) (n i start : ℕ) (less : i < n) (bytes-are : bytes ≡ section_bytes file i) (start-is : start ≡ section_start file i) where
  abbrev here : List (Item W)
  here = section_items decoded size (section_bytes file i) (section_start file i)

  abbrev left : List (Item W)
  left = sections_items decoded size file (i + 1) (n - (i + 1))

  section_here : (r : Result (Unit {0}) FileFault) → ended r s' ≡ read value H s (section_items decoded size bytes start) → ended r s' ≡ read value G s here
  section_here r e =
      e
      ∙ ap (λ J. read value J s (section_items decoded size bytes start)) same
      ∙ ap (λ bs. read value G s (section_items decoded size bs start)) bytes-are
      ∙ ap (λ j. read value G s (section_items decoded size (section_bytes file i) j)) start-is

  sections_split : read value G s (sections_items decoded size file i (n - i)) ≡ read value G s (here ++ left)
  sections_split = ap (read value G s) (sections_more decoded size file n i less)

  pub section_passes : (i' : ℕ) → i' ≡ i + 1 → ended (Ok tt) s' ≡ read value H s (section_items decoded size bytes start) → read value G s' (sections_items decoded size file i' (n - i')) ≡ read value G s (sections_items decoded size file i (n - i))
  section_passes i' i'-is e =
      ap (λ j. read value G s' (sections_items decoded size file j (n - j))) i'-is
      ∙ sym (read_through value G s s' here left (section_here (Ok tt) e))
      ∙ sym sections_split

  pub section_stops : (f : FileFault) → ended (Err f) s' ≡ read value H s (section_items decoded size bytes start) → ended (Err f) s' ≡ read value G s (sections_items decoded size file i (n - i))
  section_stops f e = read_stopped value G s s' f here left (section_here (Err f) e) ∙ sym sections_split
