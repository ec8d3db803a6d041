use Rattle.std.proofs.Common.{◌≡◌, ◌-◌}
use Rattle.examination.specs.Admission.{setting}
use Rattle.record_file.specs.Records.{sections_items}
use Rattle.reader.specs.Reading.{read}
use Rattle.reader.specs.Admitting.{worked_on, KeepsLoans}
use Rattle.reader.proofs.admitting.admit_file.Given as goal

abbrev pub invariant-loop-section : goal.invariant-loop-section
invariant-loop-section g l =
    let d = l.initial.section-iterator.directory in
    let i = l.section-iterator.numbers.start in
    let v = g.W.Word.value in
    let G = setting (g.R.PairingRule.pairs l.initial.admitting.rule.now) g.W.Word.start in
    let m = g.K.Keeper.meaning in
    let items = sections_items g.W.Word.decoded g.W.Word.WIDTH d.file.now in
    (l.section-iterator.directory ≡ d)
    × KeepsLoans l.initial.admitting l.admitting
    × (read v G (worked_on m l.admitting) (items i (d.header.sections - i)) ≡ read v G (worked_on m l.initial.admitting) (items 0 d.header.sections))
