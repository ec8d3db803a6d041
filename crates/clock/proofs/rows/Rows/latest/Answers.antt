use Rattle.std.proofs.Common.{rules, subst, ap, ◌∙◌}
use Rattle.std.specs.Iterator.Runs.{ItemsCountDown}
use Rattle.std.proofs.iter.runs.Sources.{range_runs_back}
use Rattle.keepers.specs.Adding.{latest_of}
use Rattle.clock.specs.Rows.{processor_of}
use Rattle.clock.proofs.Searching.{searched}
use Rattle.clock.proofs.rows.Rows.latest.Goals as goal

pub returns : goal.returns
returns c =
    let f = processor_of c.args.self.now.numbers.now c.args.self.now.extent.processors in
    let p = c.args.processor in
    let runs = c.rfind.ensures.runs in
    let down = subst (λ s. ItemsCountDown runs.0 s.start s.end) runs.1 (range_runs_back runs.0 runs.0.seen) in
    searched _ _ f p c.count.result runs.0 (search rules) down (λ x b below called. search rules) c.rfind.result runs.2
    ∙ ap (latest_of f p) c.count.ensures
