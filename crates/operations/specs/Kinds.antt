-- What each kind of operation does. Assumes nothing.
use Rattle.std.specs.Prelude.{◌≡◌, ℕ, Bool, true, false, cond, Some, None, Option, Result, ◌==◌, MatchResult}
use Rattle.operations.specs.declared.kind.Kind.{Kind}
use Rattle.operations.specs.declared.kind.UnknownKind.{UnknownKind}
use Rattle.operations.specs.declared.kind.Kind.TheVariants.{DataRead, DataWrite, SyncRead, SyncWrite, Acquire, Release}

abbrev pub reads : Kind → Bool
reads DataRead = true
reads DataWrite = false
reads SyncRead = true
reads SyncWrite = false
reads Acquire = true
reads Release = false

abbrev pub writes : Kind → Bool
writes DataRead = false
writes DataWrite = true
writes SyncRead = false
writes SyncWrite = true
writes Acquire = false
writes Release = true

-- a data operation; the others are synchronization operations
abbrev pub data_kind : Kind → Bool
data_kind DataRead = true
data_kind DataWrite = true
data_kind SyncRead = false
data_kind SyncWrite = false
data_kind Acquire = false
data_kind Release = false

-- the reads that may be paired
abbrev pub acquire_kind : Kind → Bool
acquire_kind DataRead = false
acquire_kind DataWrite = false
acquire_kind SyncRead = false
acquire_kind SyncWrite = false
acquire_kind Acquire = true
acquire_kind Release = false

-- the writes that may be paired
abbrev pub release_kind : Kind → Bool
release_kind DataRead = false
release_kind DataWrite = false
release_kind SyncRead = false
release_kind SyncWrite = false
release_kind Acquire = false
release_kind Release = true

-- the number that stands for a kind in a record file
abbrev pub code_of : Kind → ℕ
code_of DataRead = 0
code_of DataWrite = 1
code_of SyncRead = 2
code_of SyncWrite = 3
code_of Acquire = 4
code_of Release = 5

abbrev pub kind_of : ℕ → Option Kind
kind_of k =
    cond (k == 0) (Some DataRead)
    (cond (k == 1) (Some DataWrite)
    (cond (k == 2) (Some SyncRead)
    (cond (k == 3) (Some SyncWrite)
    (cond (k == 4) (Some Acquire)
    (cond (k == 5) (Some Release) None)))))

-- what a conversion of a number answers: the kind whose code it is, or the number itself
abbrev pub Decodes : ℕ → Result Kind UnknownKind → Type 0
Decodes code r = MatchResult r (λ kind. kind_of code ≡ Some kind) (λ unknown. (kind_of code ≡ None) × (unknown ≡ record { 0 = code }))
