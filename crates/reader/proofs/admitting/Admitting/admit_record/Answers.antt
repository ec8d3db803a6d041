use Rattle.std.proofs.Common.{◌≡◌, [], Ok, sym, ap, ◌∙◌, arith}
use Rattle.examination.specs.Admission.{setting, recorded}
use Rattle.record_file.specs.Records.{and_then}
use Rattle.reader.specs.Reading.{read}
use Rattle.reader.specs.Admitting.{worked_on}
use Rattle.reader.proofs.InTurn.{one_admitted}
use Rattle.reader.proofs.admitting.Admitting.admit_record.Goals as goal

pub returns-clause-read : goal.returns-clause-read
returns-clause-read g c =
    let v = g.W.Word.value in
    let m = g.K.Keeper.meaning in
    let s = c.args.self.now in
    let G = setting (g.R.PairingRule.pairs s.rule.now) g.W.Word.start in
    let o = c.in_ok-operation.operation in
    let at = c.args.next.offset in
    let is : c.admit.result ≡ Ok c.in_ok-admitted.admitted = grind arith in
    one_admitted v G s.log.now (m s.keeper.now) s.exam.now s.partners.now o at c.in_ok-admitted.admitted (sym is ∙ c.admit.ensures.answer) c.admit.new.log (m c.admit.new.keeper) c.admit.new.self c.admit.ensures.after
    (c.admit.ensures.written ∙ ap (recorded s.log.now s.exam.now.admitted o) is) c.note.new.partners c.note.ensures
    ∙ ap (λ r. read v G (worked_on m s) (and_then at r [])) c.in_ok-operation.ensures
