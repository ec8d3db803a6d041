use Rattle.std.proofs.Common.{◌≡◌, ◌+◌, ◌*◌, ◌^◌, ◌<◌, length}
use Rattle.std.specs.Iterator.Adapters.{enumerate_source, enumerate_count}
use Rattle.std.specs.Slice.Iter.{chunks_exact_rest, chunks_exact_size}
use Rattle.examination.specs.Admission.{setting}
use Rattle.record_file.specs.Records.{rest_items}
use Rattle.reader.specs.Reading.{read}
use Rattle.reader.specs.Admitting.{worked_on, KeepsLoans}
use Rattle.reader.proofs.admitting.Admitting.admit_records.Given as goal

abbrev pub invariant-loop-i : goal.invariant-loop-i
invariant-loop-i g l =
    let r = l.records in
    let left = chunks_exact_rest (enumerate_source l.i-iterator) in
    let at = r.offset + 1 + enumerate_count l.i-iterator * l.size in
    let v = g.W.Word.value in
    let G = setting (g.R.PairingRule.pairs l.initial.self.rule.now) g.W.Word.start in
    let m = g.K.Keeper.meaning in
    let items = rest_items g.W.Word.decoded g.W.Word.WIDTH r.processor in
    (chunks_exact_size (enumerate_source l.i-iterator) ≡ l.size)
    × (at + length left < 2 ^ 64)
    × KeepsLoans l.initial.self l.self
    × (read v G (worked_on m l.self) (items left at) ≡ read v G (worked_on m l.initial.self) (items r.bytes.now (r.offset + 1)))
