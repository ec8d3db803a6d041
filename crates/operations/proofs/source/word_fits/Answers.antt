use Rattle.std.proofs.Common.{length, ap, ◌∙◌, not, ◌||◌}
use Rattle.operations.specs.Events.{event, events, at}
use Rattle.operations.proofs.Wording.{read_fits}
use Rattle.operations.proofs.source.word_fits.Goals as goal

pub returns-else-not-reads : goal.returns-else-not-reads
returns-else-not-reads g c =
    let v = g.W.Word.value in
    let xs = c.args.log.now in
    let next = c.args.next.now in
    let carried = c.carried.result in
    let same = g.W.PartialEq.eq next.word carried in
    c.eq.ensures
    ∙ ap (λ b. not b || same) c.if-not-reads.ensures
    ∙ read_fits g.W.Word.start (at (events v xs)) (length xs) (event v next) (v carried) same c.carried.ensures (g.met.W.Word.same next.word carried)
