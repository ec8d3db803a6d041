-- What a record file holds, in the order in which it is read. Assumes nothing.
use Rattle.std.specs.Prelude.{ℕ, zero, suc, ◌+◌, ◌-◌, ◌/◌, ◌%◌, Bool, cond, ◌&&◌, List, [], ◌∷◌, ◌++◌, length, take, drop, Some, None, Ok, Err, Option, Result, ◌==◌, nat_lt, slice_index}
use Rattle.words.specs.Bytes.{big16}
use Rattle.operations.specs.Kinds.{kind_of}
use Rattle.operations.specs.declared.kind.Kind.{Kind}
use Rattle.operations.specs.declared.operation.Operation.{Operation}
use Rattle.record_file.specs.declared.fault.FileFault.{FileFault}
use Rattle.record_file.specs.declared.fault.FileFault.TheVariants.{Section as UnfitSection, Kind as UnknownKind}
use Rattle.record_file.specs.declared.header.Header.{Header}
use Rattle.record_file.specs.Directory.{section_start, section_bytes, directory_of}

-- an operation to admit, with the offset of its record, or a fault that ends the reading
pub data Item (W : Type 0) : Type 0 where
  operation : ℕ → Operation W → Item W
  stop : FileFault → Item W

-- how many bytes a record takes: kind, class, location and word
abbrev pub record_size : ℕ → ℕ
record_size size = 4 + size

abbrev pub with_kind : {W : Type 0} → Option Kind → (Kind → Operation W) → ℕ → Result (Operation W) FileFault
with_kind None made at = Err (UnknownKind at)
with_kind (Some k) made at = Ok (made k)

-- the operation of processor p that the record bs stands for, which is at `at` in the file
abbrev pub operation_of : {W : Type 0} → (List ℕ → W) → ℕ → List ℕ → ℕ → Result (Operation W) FileFault
operation_of decoded p bs at =
    with_kind (kind_of (slice_index bs 0)) (λ k. record { processor = p; kind = k; class = slice_index bs 1; location = big16 bs 2; word = decoded (drop 4 bs) }) at

-- one record's item, and those after it if it has a kind
abbrev pub and_then : {W : Type 0} → ℕ → Result (Operation W) FileFault → List (Item W) → List (Item W)
and_then at (Ok o) items = operation at o ∷ items
and_then at (Err f) items = stop f ∷ []

-- bytes that are not one record long are no record
abbrev pub record_of : {W : Type 0} → (List ℕ → W) → ℕ → ℕ → List ℕ → ℕ → Result (Operation W) FileFault
record_of decoded size p bs at = cond (length bs == record_size size) (operation_of decoded p bs at) (Err (UnfitSection at))

-- n records of processor p from the front of bs, the first at `at` in the file
abbrev pub record_items : {W : Type 0} → (List ℕ → W) → ℕ → ℕ → List ℕ → ℕ → ℕ → List (Item W)
record_items decoded size p bs at zero = []
record_items decoded size p bs at (suc n) =
    and_then at (operation_of decoded p (take (record_size size) bs) at) (record_items decoded size p (drop (record_size size) bs) (at + record_size size) n)

-- as many records as bs has whole
abbrev pub rest_items : {W : Type 0} → (List ℕ → W) → ℕ → ℕ → List ℕ → ℕ → List (Item W)
rest_items decoded size p bs at = record_items decoded size p bs at (length bs / record_size size)

-- a processor's byte and whole records
abbrev pub whole : ℕ → List ℕ → Bool
whole size bs = nat_lt 0 (length bs) && (length bs - 1) % record_size size == 0

-- the section with these bytes, which is at `at` in the file
abbrev pub section_items : {W : Type 0} → (List ℕ → W) → ℕ → List ℕ → ℕ → List (Item W)
section_items decoded size bs at =
    cond (whole size bs) (record_items decoded size (slice_index bs 0) (drop 1 bs) (at + 1) ((length bs - 1) / record_size size)) (stop (UnfitSection at) ∷ [])

-- n sections from number i on
abbrev pub sections_items : {W : Type 0} → (List ℕ → W) → ℕ → List ℕ → ℕ → ℕ → List (Item W)
sections_items decoded size file i zero = []
sections_items decoded size file i (suc n) =
    section_items decoded size (section_bytes file i) (section_start file i) ++ sections_items decoded size file (i + 1) n

abbrev pub after_directory : {W : Type 0} → (List ℕ → W) → ℕ → List ℕ → Result Header FileFault → List (Item W)
after_directory decoded size file (Ok h) = sections_items decoded size file 0 h.sections
after_directory decoded size file (Err f) = stop f ∷ []

-- the whole file: its directory is checked before any section
abbrev pub file_items : {W : Type 0} → (List ℕ → W) → ℕ → List ℕ → List (Item W)
file_items decoded size file = after_directory decoded size file (directory_of file)
