-- What a loop over sections and records needs of the items of a file: how many are left, one step, and the end.
-- Assumes nothing.
use Rattle.std.proofs.Common.{◌≡◌, ℕ, suc, ◌+◌, ◌-◌, ◌/◌, ◌<◌, ◌≤◌, true, false, List, [], ◌∷◌, ◌++◌, length, get_or, take, drop, Ok, Err, sym, ap, ◌∙◌, arith}
use native.Mathlib.Nat.{div-eq_of_lt, div-eq-sub-div}
use Rattle.std.proofs.lemmas.List.{length-drop}
use Rattle.std.proofs.lemmas.Bool.{cond-true, cond-false}
use Rattle.record_file.specs.declared.fault.FileFault.{FileFault}
use Rattle.record_file.specs.declared.fault.FileFault.TheVariants.{Section as UnfitSection}
use Rattle.record_file.specs.declared.header.Header.{Header}
use Rattle.record_file.specs.Directory.{section_start, section_bytes, directory_of}
use Rattle.record_file.specs.Records.{stop, record_size, operation_of, and_then, record_items, rest_items, whole, section_items, sections_items, after_directory, file_items}

module _ {W : Type 0} (decoded : List ℕ → W) (size : ℕ) where
  -- a record is left, or none
  pub records_more : (p : ℕ) (bs : List ℕ) (at : ℕ) → record_size size ≤ length bs → rest_items decoded size p bs at ≡ and_then at (operation_of decoded p (take (record_size size) bs) at) (rest_items decoded size p (drop (record_size size) bs) (at + record_size size))
  records_more p bs at h =
      let left : length bs / record_size size ≡ suc (length (drop (record_size size) bs) / record_size size) =
      div-eq-sub-div (let z : 0 < record_size size = omega arith in z) h ∙ simp length-drop (omega arith) in
      ap (record_items decoded size p bs at) left

  pub records_none : (p : ℕ) (bs : List ℕ) (at : ℕ) → length bs < record_size size → rest_items decoded size p bs at ≡ []
  records_none p bs at h = ap (record_items decoded size p bs at) (div-eq_of_lt h)

  -- a section that is whole, or not
  pub section_whole : (bs : List ℕ) (at : ℕ) → whole size bs ≡ true → section_items decoded size bs at ≡ rest_items decoded size (get_or bs 0 0) (drop 1 bs) (at + 1)
  section_whole bs at h =
      let items = record_items decoded size (get_or bs 0 0) (drop 1 bs) (at + 1) in
      cond-true (whole size bs) (items ((length bs - 1) / record_size size)) (stop (UnfitSection at) ∷ []) h
      ∙ ap (λ (n : ℕ). items (n / record_size size)) (sym (length-drop 1 bs))

  pub section_unfit : (bs : List ℕ) (at : ℕ) → whole size bs ≡ false → section_items decoded size bs at ≡ stop (UnfitSection at) ∷ []
  section_unfit bs at h =
      cond-false (whole size bs) (record_items decoded size (get_or bs 0 0) (drop 1 bs) (at + 1) ((length bs - 1) / record_size size)) (stop (UnfitSection at) ∷ []) h

  -- section i of n is next, or none
  pub sections_more : (file : List ℕ) (n i : ℕ) → i < n → sections_items decoded size file i (n - i) ≡ section_items decoded size (section_bytes file i) (section_start file i) ++ sections_items decoded size file (i + 1) (n - (i + 1))
  sections_more file n i h =
      let left : n - i ≡ suc (n - (i + 1)) = omega arith in
      ap (sections_items decoded size file i) left

  pub sections_none : (file : List ℕ) (n i : ℕ) → n ≤ i → sections_items decoded size file i (n - i) ≡ []
  sections_none file n i h =
      let left : n - i ≡ 0 = omega arith in
      ap (sections_items decoded size file i) left

  -- a file with a fit directory, or not
  pub file_fit : (file : List ℕ) (h : Header) → directory_of file ≡ Ok h → file_items decoded size file ≡ sections_items decoded size file 0 (h.sections - 0)
  file_fit file h is =
      let all : h.sections ≡ h.sections - 0 = omega arith in
      ap (after_directory decoded size file) is ∙ ap (sections_items decoded size file 0) all

  pub file_unfit : (file : List ℕ) (f : FileFault) → directory_of file ≡ Err f → file_items decoded size file ≡ stop f ∷ []
  file_unfit file f is = ap (after_directory decoded size file) is
