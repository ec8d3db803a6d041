-- The walk over the directory's n pairs: one step on from pair i, or the stop at it. Assumes nothing.
use Rattle.std.proofs.Common.{◌≡◌, ℕ, suc, ◌+◌, ◌-◌, ◌<◌, List, Some, Ok, Err, arith}
use Rattle.std.specs.Option.{ok_or}
use Rattle.record_file.specs.declared.fault.FileFault.{FileFault}
use Rattle.record_file.specs.Directory.{end_if_fit, first_unfit}

one_more : (n i : ℕ) → i < n → n - i ≡ suc (n - (i + 1))
one_more n i h = omega arith

pub unfit_next : (file : List ℕ) (n i from end : ℕ) (f : FileFault) → i < n → Ok end ≡ ok_or (end_if_fit file i from) f → first_unfit file (n - i) i from ≡ first_unfit file (n - (i + 1)) (i + 1) end
unfit_next file n i from end f h e = rw (one_more n i h) (grind arith)

pub unfit_here : (file : List ℕ) (n i from : ℕ) (f g : FileFault) → i < n → Err g ≡ ok_or (end_if_fit file i from) f → (first_unfit file (n - i) i from ≡ Some i) × (g ≡ f)
unfit_here file n i from f g h e = rw (one_more n i h) (grind arith)
