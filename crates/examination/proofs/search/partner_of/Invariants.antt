use Rattle.std.proofs.Common.{◌≡◌}
use Rattle.operations.specs.Events.{events, at}
use Rattle.operations.specs.Races.{races, racing_partner}
use Rattle.operations.specs.Sources.{last_such}
use Rattle.examination.proofs.search.partner_of.Given as goal

abbrev pub invariant-loop-k : goal.invariant-loop-k
invariant-loop-k g l =
    (g.K.Keeper.meaning l.keeper ≡ g.K.Keeper.meaning l.initial.keeper)
    × (racing_partner (g.K.Keeper.meaning l.initial.keeper).before (at (events g.W.Word.value l.log)) l.n ≡ last_such (λ k. races (g.K.Keeper.meaning l.initial.keeper).before (at (events g.W.Word.value l.log)) k l.n) l.k)
