use Rattle.std.proofs.Common.{◌<◌, sym, subst, arith}
use Rattle.keepers.specs.Adding.{Among}
use Rattle.keepers.proofs.Latest.{latest_among}
use Rattle.clock.specs.Rows.{processor_of}
use Rattle.clock.proofs.Clocks.{from_small}
use Rattle.clock.proofs.rows.Rows.write_next.Goals as goal

pub count_from-first-requires-clause-among : goal.count_from-first-requires-clause-among
count_from-first-requires-clause-among c =
    let s = c.args.self.now in
    subst (λ o. Among o s.extent.count) (sym c.latest-latest.ensures) (latest_among (processor_of s.numbers.now s.extent.processors) c.args.processor s.extent.count)

pub overflow_add-free : goal.overflow_add-free
overflow_add-free c =
    let s = c.args.self.now in
    let n = s.extent.count in
    let b : c.loop-q.q < s.extent.processors = omega arith in
    let latest = subst (λ o. Among o n) (sym c.latest-latest.ensures) (latest_among (processor_of s.numbers.now s.extent.processors) c.args.processor n) in
    let f = from_small s.numbers.now s.extent.processors n s.sound c.latest-latest.result latest c.loop-q.q b in
    let g = from_small s.numbers.now s.extent.processors n s.sound c.args.giver c.requires.giver c.loop-q.q b in
    omega (arith, c.requires.few, c.count_from-first.ensures, c.count_from-second.ensures, c.max-most.ensures)
