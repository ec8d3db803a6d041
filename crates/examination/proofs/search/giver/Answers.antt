use Rattle.std.proofs.Common.{refl, arith}
use Rattle.std.proofs.lemmas.Grind.{common_steps}
use Rattle.operations.specs.Events.{event}
use Rattle.operations.specs.Rules.{pairing}
use Rattle.operations.proofs.Prefixes.{release_prefix}
use Rattle.examination.proofs.search.giver.Goals as goal

pub returns : goal.returns
returns g c =
    let same = release_prefix g.W.Word.value c.args.log.now c.args.n c.args.n refl c.requires (pairing (g.R.PairingRule.pairs c.args.rule.now)) (event g.W.Word.value c.args.next.now) in
    grind (arith, common_steps)
