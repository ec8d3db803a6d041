use Rattle.std.proofs.Common.{sym, ◌∙◌}
use Rattle.clock.proofs.Meanings.{held_is}
use Rattle.clock.proofs.keeper.ClockKeeperKeeper.count.Goals as goal

pub returns : goal.returns
returns c = let s = c.args.self.now in c.count.ensures ∙ sym (held_is s.numbers.now s.extent.processors s.extent.count s.extent.capacity)
