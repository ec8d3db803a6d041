use Rattle.std.proofs.Common.{rules}
use Rattle.examination.specs.Admission.{tally}
use Rattle.examination.specs.Closing.{race_free, racy}
use Rattle.examination.proofs.Reaching.{verdict_exact}
use Rattle.examination.proofs.open.Open.close.Goals as goal

pub returns-in-None-clause-exact : goal.returns-in-None-clause-exact
returns-in-None-clause-exact c = verdict_exact (tally c.args.self) (race_free c.args.self.admitted) (search rules)

pub returns-in-Some-clause-exact : goal.returns-in-Some-clause-exact
returns-in-Some-clause-exact c =
    let r = c.in-Some.races in
    verdict_exact (tally c.args.self) (racy c.args.self.admitted r.count (r.first.partner, r.first.operation)) (search rules)
