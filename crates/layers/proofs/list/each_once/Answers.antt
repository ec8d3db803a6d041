use Rattle.std.proofs.Common.{◌≡◌, get_or, refl, arith}
use Rattle.std.proofs.lemmas.Grind.{common_steps}
use Rattle.std.proofs.iter.runs.Sources.{ranges}
use Rattle.layers.proofs.list.each_once.Goals as goal

-- `grind` takes what is known of a range's item k where a list is read at k
pub returns : goal.returns
returns c = (
  (λ t q h. let read : get_or c.args.entries.now q 0 ≡ get_or c.args.entries.now q 0 = refl in grind (arith, common_steps, ranges)),
  λ o. grind (arith, common_steps, ranges),
)
