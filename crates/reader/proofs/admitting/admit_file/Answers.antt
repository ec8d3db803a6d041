use Rattle.std.proofs.Common.{◌<◌, ap, ◌∙◌, subst, rules}
use Rattle.examination.specs.Admission.{setting}
use Rattle.record_file.specs.Directory.{section_start, section_bytes}
use Rattle.reader.specs.Admitting.{worked_on}
use Rattle.reader.proofs.InTurn.{section_passes, section_stops}
use Rattle.reader.proofs.admitting.admit_file.Goals as goal

pub loop-section-preserved : goal.loop-section-preserved
loop-section-preserved g c =
    let l = c.loop-section in
    let i = l.section-iterator.numbers.start in
    let m = g.K.Keeper.meaning in
    let d = c.into_iter-section-iterator.result.directory in
    let same = l.invariant.0 in
    let found = c.in-Some.ensures.steps.1 in
    let rule = ap (λ q. setting (g.R.PairingRule.pairs q.now) g.W.Word.start) l.invariant.1.rule in
    let less = subst (λ x. i < x.header.sections) same found.0 in
    let bytes = found.3 ∙ ap (λ x. section_bytes x.file.now i) same in
    let start = found.2 ∙ ap (λ x. section_start x.file.now i) same in (
      search rules,
      search rules,
      section_passes g.W.Word.value _ _ rule g.W.Word.decoded g.W.Word.WIDTH (worked_on m l.admitting) (worked_on m c.admit_section.new.self) d.file.now c.in-Some.section.bytes.now d.header.sections i c.in-Some.section.offset less bytes start _ found.1 c.in_ok-admit_section.ensures.read
          ∙ l.invariant.2,
    )

pub returns-in_err-admit_section : goal.returns-in_err-admit_section
returns-in_err-admit_section g c =
    let l = c.loop-section in
    let i = l.section-iterator.numbers.start in
    let m = g.K.Keeper.meaning in
    let d = c.into_iter-section-iterator.result.directory in
    let same = l.invariant.0 in
    let found = c.in-Some.ensures.steps.1 in
    let rule = ap (λ q. setting (g.R.PairingRule.pairs q.now) g.W.Word.start) l.invariant.1.rule in
    let less = subst (λ x. i < x.header.sections) same found.0 in
    let bytes = found.3 ∙ ap (λ x. section_bytes x.file.now i) same in
    let start = found.2 ∙ ap (λ x. section_start x.file.now i) same in
    let stops = section_stops g.W.Word.value _ _ rule g.W.Word.decoded g.W.Word.WIDTH (worked_on m l.admitting) (worked_on m c.admit_section.new.self) d.file.now c.in-Some.section.bytes.now d.header.sections i c.in-Some.section.offset less bytes start c.in_err-admit_section.field-0.0 c.in_err-admit_section.ensures.read ∙ l.invariant.2 in
    search rules
