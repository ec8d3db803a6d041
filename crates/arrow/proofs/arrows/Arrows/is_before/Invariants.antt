use Rattle.std.proofs.Common.{◌≡◌, ◌<◌, length}
use Rattle.keepers.specs.Meaning.{most_processors}
use Rattle.arrow.specs.Arrows.{arrows}
use Rattle.arrow.proofs.Walks.{found, ClearOutside}
use Rattle.arrow.proofs.arrows.Arrows.is_before.Given as goal

abbrev pub invariant-loop-k : goal.invariant-loop-k
invariant-loop-k l =
    let xs = l.self.numbers.now in
    let e = l.self.extent in
    record {
      later : l.a < l.k;
      size : length l.reached ≡ most_processors;
      search : found xs e.processors e.count e.capacity l.a l.marks l.reached l.k ≡ (arrows xs e.processors e.count e.capacity).before l.a l.b;
      outside : ClearOutside l.marks l.a l.k;
    }
