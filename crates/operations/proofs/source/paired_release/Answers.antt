use Rattle.std.proofs.Common.{length, ap, sym, ◌∙◌}
use Rattle.std.specs.Bool.{then_some}
use Rattle.operations.specs.Rules.{pairing}
use Rattle.operations.specs.Events.{event, events, at}
use Rattle.operations.proofs.Searching.{at_events, release_at}
use Rattle.operations.proofs.source.paired_release.Goals as goal

pub returns-clause-value : goal.returns-clause-value
returns-clause-value g c =
    let v = g.W.Word.value in
    let xs = c.args.log.now in
    let k = c.in_ok-source.source in
    let found = c.in_ok-source.ensures in
    let source = c.index-log-source.result in
    let is = at_events v xs k source found.within c.index-log-source.is in
    c.then_some.ensures
    ∙ ap (λ b. then_some b k) c.gives.ensures
    ∙ sym (release_at (pairing (g.R.PairingRule.pairs c.args.rule.now)) (at (events v xs)) (length xs) (event v c.args.next.now) k (event v source) (sym c.if-not-is_acquire.ensures) (sym found.value) is)
