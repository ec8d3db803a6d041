-- Records that agree on their first operations tell the same of what follows those; a part from the start of a
-- record agrees with it. Assumes nothing.
use Rattle.std.proofs.Common.{◌≡◌, ℕ, ◌<◌, ◌≤◌, Bool, cond, not, ◌&&◌, ◌||◌, List, length, get_or, take, ℤ, Some, None, Option, sym, refl, ap, ◌∙◌, arith}
use Rattle.std.proofs.lemmas.List.{get_or-take, length-take-le, take-map}
use Rattle.operations.specs.declared.operation.Operation.{Operation}
use Rattle.operations.specs.Events.{Event, event, events, at, nothing}
use Rattle.operations.specs.Kinds.{reads, acquire_kind, release_kind}
use Rattle.operations.specs.Sources.{writes_to, latest_write, word_from, fits_source, if_paired, release_for}
use Rattle.words.specs.Words.{same_word}
use Rattle.operations.proofs.Searching.{such_agree, such_found}

module _ (op op' : ℕ → Event) (n : ℕ) (same : (k : ℕ) → k < n → op k ≡ op' k) where
  pub latest_agree : (l : ℕ) → latest_write op l n ≡ latest_write op' l n
  latest_agree l = such_agree (λ k. writes_to (op k) l) (λ k. writes_to (op' k) l) n (λ k h. ap (λ e. writes_to e l) (same k h))

  found_below : (l w : ℕ) → latest_write op' l n ≡ Some w → w < n
  found_below l w e = (such_found (λ k. writes_to (op' k) l) n w e).0

  word_agree : (start : List ℤ) (o : Option ℕ) → ((w : ℕ) → o ≡ Some w → w < n) → word_from start op o ≡ word_from start op' o
  word_agree start None h = refl
  word_agree start (Some w) h = ap (λ e. e.word) (same w (h w refl))

  paired_agree : (pairs : ℕ → ℕ → Bool) (e : Event) (o : Option ℕ) → ((w : ℕ) → o ≡ Some w → w < n) → if_paired pairs op e o ≡ if_paired pairs op' e o
  paired_agree pairs e None h = refl
  paired_agree pairs e (Some w) h = ap (λ x. cond (release_kind x.kind && pairs x.class e.class) (Some w) None) (same w (h w refl))

  pub fits_agree : (start : List ℤ) (e : Event) → fits_source start op n e ≡ fits_source start op' n e
  fits_agree start e =
      ap (λ w. not (reads e.kind) || same_word e.word w) (ap (word_from start op) (latest_agree e.location) ∙ word_agree start (latest_write op' e.location n) (found_below e.location))

  pub release_agree : (pairs : ℕ → ℕ → Bool) (e : Event) → release_for pairs op n e ≡ release_for pairs op' n e
  release_agree pairs e =
      ap (λ o. cond (acquire_kind e.kind) o None) (ap (if_paired pairs op e) (latest_agree e.location) ∙ paired_agree pairs e (latest_write op' e.location n) (found_below e.location))

-- the first n operations of a record
module _ {W : Type 0} (value : W → List ℤ) (xs : List (Operation W)) (m n : ℕ) (is : m ≡ n) (h : n ≤ length xs) where
  pub prefix_length : length (take m xs) ≡ n
  prefix_length = ap (λ k. length (take k xs)) is ∙ length-take-le n xs h

  prefix_at : (k : ℕ) → k < n → at (events value (take m xs)) k ≡ at (events value xs) k
  prefix_at k l =
      let b : k < m = omega arith in
      ap (λ ys. get_or ys k nothing) (sym (take-map (event value) m xs)) ∙ get_or-take m (events value xs) k nothing b

  pub fits_prefix : (start : List ℤ) (e : Event) → fits_source start (at (events value (take m xs))) (length (take m xs)) e ≡ fits_source start (at (events value xs)) n e
  fits_prefix start e = ap (λ k. fits_source start (at (events value (take m xs))) k e) prefix_length ∙ fits_agree (at (events value (take m xs))) (at (events value xs)) n prefix_at start e

  pub release_prefix : (pairs : ℕ → ℕ → Bool) (e : Event) → release_for pairs (at (events value (take m xs))) (length (take m xs)) e ≡ release_for pairs (at (events value xs)) n e
  release_prefix pairs e = ap (λ k. release_for pairs (at (events value (take m xs))) k e) prefix_length ∙ release_agree (at (events value (take m xs))) (at (events value xs)) n prefix_at pairs e
