use Rattle.std.proofs.Common.{◌≡◌, ◌∙◌}
use Rattle.std.proofs.lemmas.Result.{err_from_is_err_and}
use Rattle.keepers.proofs.Extents.{question_held, question_answered, question_refused}
use Rattle.clock.specs.Rows.{counts}
use Rattle.clock.proofs.Meanings.{clock_spans, held_before}
use Rattle.clock.proofs.keeper.ClockKeeperKeeper.before.Goals as goal

pub returns-in_err-check_question-clause-answer : goal.returns-in_err-check_question-clause-answer
returns-in_err-check_question-clause-answer c =
    let s = c.args.self.now in
    let e = s.extent in
    let p = err_from_is_err_and c.from_residual.result c.from_residual.ensures.1 in
    rw (p.1, p.2) (question_refused _ _ _ _ (clock_spans s.numbers.now e.processors e.count e.capacity) c.args.a c.args.b _ c.in_err-check_question.ensures)

pub returns-clause-answer : goal.returns-clause-answer
returns-clause-answer c =
    let s = c.args.self.now in
    let e = s.extent in
    let spans = clock_spans s.numbers.now e.processors e.count e.capacity in
    let held = question_held _ _ _ _ spans c.args.a c.args.b c.in_ok-check_question.ensures in
    let same : c.is_before.result ≡ counts s.numbers.now e.processors c.args.a c.args.b =
    (let r = c.rows.ensures.0 in let t = c.rows.ensures.1 in let b = c.is_before.ensures in cc) in
    question_answered _ _ _ _ spans c.args.a c.args.b _ c.in_ok-check_question.ensures (same ∙ held_before _ _ _ e.capacity _ _ held.0 held.1)
