-- Each processor number stands once in the mirrored list. Assumes nothing.
use Rattle.std.proofs.Common.{true, eqb, refl}
use Rattle.std.proofs.lemmas.Bool.{agree_below_at, eqb-true}
use Rattle.layers.specs.Renumbering.{times, Once}
use Rattle.hbclock.specs.Pile.{mirrored}

pub mirrored_once : Once mirrored
unfolding times
mirrored_once q h = eqb-true (times q mirrored) 1 (agree_below_at (λ n. eqb (times n mirrored) 1) (λ n. true) 16 q refl h)
