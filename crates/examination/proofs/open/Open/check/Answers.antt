use Rattle.std.proofs.Common.{true, false, arith, rules}
use Rattle.examination.proofs.Checking.{word_check}
use Rattle.examination.proofs.open.Open.check.Goals as goal

pub returns-then-not-word_fits : goal.returns-then-not-word_fits
returns-then-not-word_fits g c =
    word_check g.W.Word.value g.W.Word.start c.args.log.now (g.K.Keeper.meaning c.args.keeper.now) c.args.self.now c.args.next.now (omega arith) (search rules) (omega arith) false c.if-not-word_fits.ensures

pub returns : goal.returns
returns g c =
    word_check g.W.Word.value g.W.Word.start c.args.log.now (g.K.Keeper.meaning c.args.keeper.now) c.args.self.now c.args.next.now (omega arith) (search rules) (omega arith) true c.if-not-word_fits.ensures
