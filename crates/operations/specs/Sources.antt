-- The source of a read, the word that it carries and the release that is paired with it, computed from the
-- operations by number. Assumes nothing.
use Rattle.std.specs.Prelude.{ℕ, zero, suc, Bool, cond, not, ◌&&◌, ◌||◌, List, ℤ, Some, None, Option, ◌==◌}
use Rattle.operations.specs.Kinds.{reads, writes, acquire_kind, release_kind}
use Rattle.words.specs.Words.{same_word}
use Rattle.operations.specs.Events.{Event}

-- the last number below n that passes the test
abbrev pub last_such : (ℕ → Bool) → ℕ → Option ℕ
last_such t zero = None
last_such t (suc n) = cond (t n) (Some n) (last_such t n)

abbrev pub writes_to : Event → ℕ → Bool
writes_to e l = writes e.kind && e.location == l

-- the latest write of any kind to the location l among the first n operations
abbrev pub latest_write : (ℕ → Event) → ℕ → ℕ → Option ℕ
latest_write op l n = last_such (λ k. writes_to (op k) l) n

-- the word that a read carries, given its source
abbrev pub word_from : List ℤ → (ℕ → Event) → Option ℕ → List ℤ
word_from start op None = start
word_from start op (Some w) = (op w).word

-- an operation after the first n: if it reads, it carries its source's word, or the initial one
abbrev pub fits_source : List ℤ → (ℕ → Event) → ℕ → Event → Bool
fits_source start op n e = not (reads e.kind) || same_word e.word (word_from start op (latest_write op e.location n))

-- the source, if it is a release whose class the rule pairs with the acquire's
abbrev pub if_paired : (ℕ → ℕ → Bool) → (ℕ → Event) → Event → Option ℕ → Option ℕ
if_paired pairs op e None = None
if_paired pairs op e (Some w) = cond (release_kind (op w).kind && pairs (op w).class e.class) (Some w) None

-- the release that is paired with an operation after the first n
abbrev pub release_for : (ℕ → ℕ → Bool) → (ℕ → Event) → ℕ → Event → Option ℕ
release_for pairs op n e = cond (acquire_kind e.kind) (if_paired pairs op e (latest_write op e.location n)) None
