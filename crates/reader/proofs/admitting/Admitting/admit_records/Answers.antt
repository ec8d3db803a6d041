use Rattle.std.proofs.Common.{◌+◌, ◌*◌, length, sym, ap, ◌∙◌, arith, rules}
use Rattle.std.specs.Iterator.Adapters.{enumerate_source, enumerate_count}
use Rattle.std.specs.Slice.Iter.{chunks_exact_rest}
use Rattle.std.proofs.lemmas.List.{length-append}
use Rattle.examination.specs.Admission.{setting}
use Rattle.record_file.proofs.Items.{records_none}
use Rattle.reader.specs.Reading.{read}
use Rattle.reader.specs.Admitting.{worked_on}
use Rattle.reader.proofs.InTurn.{record_passes, record_stops}
use Rattle.reader.proofs.admitting.Admitting.admit_records.Goals as goal

pub loop-i-preserved : goal.loop-i-preserved
loop-i-preserved g c =
    let l = c.loop-i in
    let m = g.K.Keeper.meaning in
    let r = c.args.records in
    let k = c.record_bytes-size.result in
    let step = c.in-Some.ensures.steps in
    let long = step.0.1.1 ∙ l.invariant.0 in
    let rule = ap (λ q. setting (g.R.PairingRule.pairs q.now) g.W.Word.start) l.invariant.2.rule in
    let zs = chunks_exact_rest (enumerate_source c.next.new.self) in (
      step.0.0 ∙ l.invariant.0,
      omega (arith, ap (λ n. n * k) step.2, long, ap length step.0.1.0, length-append c.in-Some.bytes.now zs, l.invariant.1),
      search rules,
      record_passes g.W.Word.value _ _ rule g.W.Word.decoded g.W.Word.WIDTH r.processor (worked_on m l.self) (worked_on m c.admit_record.new.self) _ c.in-Some.bytes.now zs (r.offset + 1) k c.in-Some.i _ c.record_bytes-size.ensures step.0.1.0 long step.1 _ step.2 c.in_ok-admit_record.ensures.read
          ∙ l.invariant.3,
    )

pub returns-in_err-admit_record-clause-read : goal.returns-in_err-admit_record-clause-read
returns-in_err-admit_record-clause-read g c =
    let l = c.loop-i in
    let m = g.K.Keeper.meaning in
    let r = c.args.records in
    let k = c.record_bytes-size.result in
    let step = c.in-Some.ensures.steps in
    let zs = chunks_exact_rest (enumerate_source c.next.new.self) in
    let rule = ap (λ q. setting (g.R.PairingRule.pairs q.now) g.W.Word.start) l.invariant.2.rule in
    let stops = record_stops g.W.Word.value _ _ rule g.W.Word.decoded g.W.Word.WIDTH r.processor (worked_on m l.self) (worked_on m c.admit_record.new.self) _ c.in-Some.bytes.now zs (r.offset + 1) k c.in-Some.i _ c.record_bytes-size.ensures step.0.1.0 (step.0.1.1 ∙ l.invariant.0) step.1 c.in_err-admit_record.field-0.0 c.in_err-admit_record.ensures.read ∙ l.invariant.3 in
    search rules

pub returns-clause-read : goal.returns-clause-read
returns-clause-read g c =
    let l = c.loop-i in
    let r = c.args.records in
    let step = c.in-None.ensures.steps in
    let rest = chunks_exact_rest (enumerate_source l.i-iterator) in
    let at = r.offset + 1 + enumerate_count l.i-iterator * c.record_bytes-size.result in
    sym (ap (read g.W.Word.value (setting (g.R.PairingRule.pairs c.args.self.now.rule.now) g.W.Word.start) (worked_on g.K.Keeper.meaning l.self)) (records_none g.W.Word.decoded g.W.Word.WIDTH r.processor rest at (omega (arith, step.0.1.0, l.invariant.0, c.record_bytes-size.ensures))))
    ∙ l.invariant.3
