use Rattle.std.proofs.Common.{◌≡◌, ℕ, ◌+◌, ◌<◌, get_or}
use Rattle.clock.specs.Rows.{new_count}
use Rattle.clock.proofs.rows.Rows.write_next.Given as goal

abbrev pub invariant-loop-q : goal.invariant-loop-q
invariant-loop-q l =
    let s = l.self in
    let m = s.extent.processors in
    (get_or l.free 0 0 ≡ l.processor) × ((q : ℕ) → q < l.q → get_or l.free (q + 1) 0 ≡ new_count s.numbers.now m l.processor l.latest l.giver q)
