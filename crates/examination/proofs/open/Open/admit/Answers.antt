use Rattle.std.proofs.Common.{rules}
use Rattle.operations.specs.Events.{event}
use Rattle.examination.specs.Admission.{setting, exam}
use Rattle.examination.proofs.Admitting.{done}
use Rattle.examination.proofs.Reaching.{admission_exact}
use Rattle.examination.proofs.open.Open.admit.Goals as goal

pub returns : goal.returns
returns g c =
    let v = g.W.Word.value in
    let m = g.K.Keeper.meaning c.args.keeper.now in
    let G = setting (g.R.PairingRule.pairs c.args.rule.now) g.W.Word.start in
    let o = c.args.self.now in
    let xs = c.args.log.now in
    let op = c.args.operation in
    let d = done v G xs m o op c.in_ok-check.ensures c.giver-giver.result c.giver-giver.ensures c.in_ok-number.number c.in_ok-number.ensures.answer (g.K.Keeper.meaning c.add.new.self) c.in_ok-number.ensures.after c.partner_of-partner.result c.partner_of-partner.ensures.value (g.K.Keeper.meaning c.partner_of-partner.new.keeper) c.partner_of-partner.ensures.same c.note.new.self c.note.ensures in
    record {
      answer = d.answer;
      after = d.after;
      written = search rules;
      exact = admission_exact G (exam v xs m o) (event v op) _ d.answer;
    }
