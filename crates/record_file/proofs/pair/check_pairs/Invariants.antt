use Rattle.std.proofs.Common.{◌≡◌, ◌-◌}
use Rattle.record_file.specs.Directory.{first_unfit, pair_place}
use Rattle.record_file.proofs.pair.check_pairs.Given as goal

abbrev pub invariant-loop-i : goal.invariant-loop-i
invariant-loop-i l =
    first_unfit l.file l.sections 0 (pair_place l.sections) ≡ first_unfit l.file (l.sections - l.i) l.i l.from
