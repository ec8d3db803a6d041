-- The directory of a record file, and when it is fit. Assumes nothing.
use Rattle.std.specs.Prelude.{ℕ, zero, suc, ◌+◌, ◌*◌, ◌<◌, ◌≤◌, Bool, cond, ◌&&◌, List, length, take, drop, Some, None, Ok, Err, Option, Result, nat_le, slice_index}
use Rattle.words.specs.Bytes.{big16, big32}
use Rattle.record_file.specs.declared.fault.FileFault.{FileFault}
use Rattle.record_file.specs.declared.fault.FileFault.TheVariants.{Header as UnfitHeader, Pair as UnfitPair}
use Rattle.record_file.specs.declared.header.Header.{Header}
use Rattle.record_file.specs.declared.word_type.WordType.{WordType}
use Rattle.record_file.specs.WordTypes.{word_type_of}

-- where the pair of section i stands; after n pairs, where the directory ends
abbrev pub pair_place : ℕ → ℕ
pair_place i = 3 + 8 * i

-- section i by its pair: its offset, its length, its end and its bytes
abbrev pub section_start : List ℕ → ℕ → ℕ
section_start file i = big32 file (pair_place i)

abbrev pub section_size : List ℕ → ℕ → ℕ
section_size file i = big32 file (pair_place i + 4)

abbrev pub section_end : List ℕ → ℕ → ℕ
section_end file i = section_start file i + section_size file i

abbrev pub section_bytes : List ℕ → ℕ → List ℕ
section_bytes file i = take (section_size file i) (drop (section_start file i) file)

-- section i starts at or after `from`, and ends within the file
abbrev pub fit : List ℕ → ℕ → ℕ → Bool
fit file i from = nat_le from (section_start file i) && nat_le (section_end file i) (length file)

abbrev pub end_if_fit : List ℕ → ℕ → ℕ → Option ℕ
end_if_fit file i from = cond (fit file i from) (Some (section_end file i)) None

-- the first unfit of k sections from number i on, where what is before them ends at `from`
abbrev pub first_unfit : List ℕ → ℕ → ℕ → ℕ → Option ℕ
first_unfit file zero i from = None
first_unfit file (suc k) i from = cond (fit file i from) (first_unfit file k (i + 1) (section_end file i)) (Some i)

abbrev pub pairs_checked : Option ℕ → Result (Unit {0}) FileFault
pairs_checked None = Ok tt
pairs_checked (Some i) = Err (UnfitPair (pair_place i))

abbrev pub typed : Option WordType → ℕ → Result Header FileFault
typed None n = Err UnfitHeader
typed (Some t) n = Ok (record { word_type = t; sections = n })

-- the header of a file that is long enough for its directory, so also for the header
abbrev pub header_of : List ℕ → Result Header FileFault
header_of file =
    cond (nat_le (pair_place (big16 file 1)) (length file)) (typed (word_type_of (slice_index file 0)) (big16 file 1)) (Err UnfitHeader)

abbrev pub header_if : Header → Result (Unit {0}) FileFault → Result Header FileFault
header_if h (Ok u) = Ok h
header_if h (Err f) = Err f

abbrev pub directory_from : List ℕ → Result Header FileFault → Result Header FileFault
directory_from file (Ok h) = header_if h (pairs_checked (first_unfit file h.sections 0 (pair_place h.sections)))
directory_from file (Err f) = Err f

-- the whole directory: its header, then its pairs in order
abbrev pub directory_of : List ℕ → Result Header FileFault
directory_of file = directory_from file (header_of file)

-- what a fit directory with n sections says of section i
pub record Placed (file : List ℕ) (n i : ℕ) : Type 0 where
  pub after_directory : pair_place n ≤ section_start file i
  pub after_earlier : (j : ℕ) → j < i → section_end file j ≤ section_start file i
  pub within : section_end file i ≤ length file
