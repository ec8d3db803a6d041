-- A directory that was found fit lies within the file, and its sections are placed as they should be. Assumes nothing.
use Rattle.std.proofs.Common.{◌≡◌, ℕ, zero, suc, ◌+◌, ◌<◌, ◌≤◌, Bool, true, cond, List, length, Some, None, Ok, Option, arith}
use Rattle.std.proofs.lemmas.Bool.{cases_eq}
use Rattle.record_file.specs.declared.header.Header.{Header}
use Rattle.record_file.specs.declared.word_type.WordType.{WordType}
use Rattle.record_file.specs.Directory.{pair_place, section_start, section_end, fit, first_unfit, pairs_checked, typed, header_of, header_if, directory_of, Placed}

-- one more section: it is fit, and so is the rest
more_fit : (b : Bool) (rest : Option ℕ) (i : ℕ) → cond b rest (Some i) ≡ None → (b ≡ true) × (rest ≡ None)
more_fit b rest i e = grind arith

-- the sections numbered i to i + k - 1, of which none is unfit
pub fits_from : (file : List ℕ) (k i from : ℕ) → first_unfit file k i from ≡ None → (j : ℕ) → i ≤ j → j < i + k → (from ≤ section_start file j) × (section_end file j ≤ length file)
fits_from file zero i from none j l u = absurd (omega arith)
fits_from file (suc k) i from none j l u =
    let p = more_fit (fit file i from) (first_unfit file k (i + 1) (section_end file i)) i none in
    let r = fits_from file k (i + 1) (section_end file i) p.1 j in
    grind (arith, cases_eq i j)

pub apart_from : (file : List ℕ) (k i from : ℕ) → first_unfit file k i from ≡ None → (m j : ℕ) → i ≤ m → m < j → j < i + k → section_end file m ≤ section_start file j
apart_from file zero i from none m j l b u = absurd (omega arith)
apart_from file (suc k) i from none m j l b u =
    let p = more_fit (fit file i from) (first_unfit file k (i + 1) (section_end file i)) i none in
    let next = fits_from file k (i + 1) (section_end file i) p.1 j in
    let r = apart_from file k (i + 1) (section_end file i) p.1 m j in
    grind (arith, cases_eq i m)

-- a header is only found where there is room for the directory
typed_sections : (o : Option WordType) (n : ℕ) (h : Header) → typed o n ≡ Ok h → n ≡ h.sections
typed_sections o n h e = grind arith

pub header_room : (file : List ℕ) (h : Header) → header_of file ≡ Ok h → pair_place h.sections ≤ length file
header_room file h e = grind (arith, typed_sections)

-- the parts of a fit directory
checked_parts : (u : Option ℕ) (k h : Header) → header_if k (pairs_checked u) ≡ Ok h → (u ≡ None) × (k ≡ h)
checked_parts u k h e = grind arith

pub directory_parts : (file : List ℕ) (h : Header) → directory_of file ≡ Ok h → (header_of file ≡ Ok h) × (first_unfit file h.sections 0 (pair_place h.sections) ≡ None)
directory_parts file h e = grind (arith, checked_parts)

pub all_placed : (file : List ℕ) (n : ℕ) → first_unfit file n 0 (pair_place n) ≡ None → (i : ℕ) → i < n → Placed file n i
all_placed file n none i l =
    let r = fits_from file n 0 (pair_place n) none i (omega arith) (omega arith) in
    record {
      after_directory = r.0;
      after_earlier = λ j b. apart_from file n 0 (pair_place n) none j i (omega arith) b (omega arith);
      within = r.1;
    }

-- the pair of each section stands within the file, and the section ends within it
pub section_within : (file : List ℕ) (h : Header) (i : ℕ) → directory_of file ≡ Ok h → i < h.sections → (pair_place i + 8 ≤ length file) × (section_end file i ≤ length file)
section_within file h i e l =
    let p = directory_parts file h e in
    let room = header_room file h p.0 in
    (omega arith, (all_placed file h.sections p.1 i l).within)
