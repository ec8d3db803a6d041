use Rattle.std.proofs.Common.{◌≡◌, take, Ok, Err, sym, ap, ◌∙◌, subst, arith}
use Rattle.std.proofs.lemmas.Result.{err_from_is_err_and}
use Rattle.keepers.specs.Meaning.{held}
use Rattle.examination.specs.Admission.{setting, tally, opening, opened}
use Rattle.record_file.specs.Records.{file_items}
use Rattle.reader.specs.Examining.{reading, operations_in, Listed}
use Rattle.reader.proofs.Arriving.{arrived, told_of, opened_none, listed_some, listed_all}
use Rattle.reader.proofs.examining.examine.Goals as goal

pub returns-clause-exact : goal.returns-clause-exact
returns-clause-exact g c =
    let m = g.K.Keeper.meaning c.args.keeper.now in
    let G = setting (g.R.PairingRule.pairs c.args.rule.now) g.W.Word.start in
    let o = c.in_ok-exam.exam in
    let is : c.new.result ≡ Ok o = grind arith in
    let opens : Ok (tally o) ≡ opening m = ap opened (sym is) ∙ c.new.ensures in
    told_of g.W.Word.value G c.args.log.now m o c.args.partners.now _ opens _ _ c.in_ok-admit_file.ensures _ c.close.ensures.exact

pub returns-clause-complete : goal.returns-clause-complete
returns-clause-complete g c =
    let m = g.K.Keeper.meaning c.args.keeper.now in
    let G = setting (g.R.PairingRule.pairs c.args.rule.now) g.W.Word.start in
    let o = c.in_ok-exam.exam in
    let is : c.new.result ≡ Ok o = grind arith in
    let opens : Ok (tally o) ≡ opening m = ap opened (sym is) ∙ c.new.ensures in
    let v = g.W.Word.value in
    let log = c.args.log.now in
    let partners = c.args.partners.now in
    let there = arrived v G log m o partners _ opens _ _ c.in_ok-admit_file.ensures in
    λ _. listed_all v G (reading log m o partners) _ _ (opened_none v G m o opens) there c.in_ok-admit_file.ensures

pub returns-in_err-admit_file-clause-complete : goal.returns-in_err-admit_file-clause-complete
returns-in_err-admit_file-clause-complete g c =
    let m = g.K.Keeper.meaning c.args.keeper.now in
    let G = setting (g.R.PairingRule.pairs c.args.rule.now) g.W.Word.start in
    let o = c.in_ok-exam.exam in
    let is : c.new.result ≡ Ok o = grind arith in
    let opens : Ok (tally o) ≡ opening m = ap opened (sym is) ∙ c.new.ensures in
    let items = file_items g.W.Word.decoded g.W.Word.WIDTH c.args.file.now in
    let p = err_from_is_err_and c.from_residual-in_err-admit_file.result c.from_residual-in_err-admit_file.ensures.1 in
    let v = g.W.Word.value in
    let log = c.args.log.now in
    let partners = c.args.partners.now in
    let there = arrived v G log m o partners _ opens _ _ c.in_err-admit_file.ensures in
    let some = listed_some v G (reading log m o partners) _ _ (opened_none v G m o opens) there _ c.in_err-admit_file.ensures in
    λ _. subst (Listed (operations_in items) (take (held (g.K.Keeper.meaning c.admit_file.new.keeper)) c.admit_file.new.log)) (sym (p.1 ∙ ap Err p.2)) some
