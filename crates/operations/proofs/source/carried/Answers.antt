use Rattle.std.proofs.Common.{sym, ap, ◌∙◌}
use Rattle.operations.specs.Events.{Event, events, at}
use Rattle.operations.specs.Sources.{word_from}
use Rattle.operations.proofs.Searching.{at_events}
use Rattle.operations.proofs.source.carried.Goals as goal

pub returns-in-Some : goal.returns-in-Some
returns-in-Some g c =
    let v = g.W.Word.value in
    let xs = c.args.log.now in
    let found = c.in-Some.ensures in
    ap (λ o. v o.word) (sym c.index-log-source.is)
    ∙ sym (ap (λ (e : Event). e.word) (at_events v xs c.in-Some.source c.index-log-source.result found.within c.index-log-source.is))
    ∙ ap (word_from g.W.Word.start (at (events v xs))) found.value
