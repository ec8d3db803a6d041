use Rattle.std.proofs.Common.{◌≡◌, ◌+◌, ◌*◌, ◌≤◌, length, set, sym, ap, ◌∙◌, subst, arith, length-set}
use Rattle.keepers.specs.Adding.{answered}
use Rattle.keepers.proofs.Extents.{passes, number_with_room, count_with_room}
use Rattle.arrow.specs.Arrows.{Admitted, arrows}
use Rattle.arrow.proofs.Meanings.{arrows_spans, admitted_added, added_is}
use Rattle.arrow.proofs.keeper.ArrowKeeperKeeper.add.Goals as goal

pub bounds-self-place : goal.bounds-self-place
bounds-self-place c =
    let s = c.args.self.now in
    let p = passes _ s.extent.processors s.extent.count s.extent.capacity (arrows_spans s.numbers.now s.extent.processors s.extent.count s.extent.capacity) c.args.processor c.args.giver c.in_ok-check_addition.ensures in
    omega (arith, p.room, s.within, c.count.ensures)

pub bounds-self-place-2 : goal.bounds-self-place-2
bounds-self-place-2 c =
    let s = c.args.self.now in
    let p = passes _ s.extent.processors s.extent.count s.extent.capacity (arrows_spans s.numbers.now s.extent.processors s.extent.count s.extent.capacity) c.args.processor c.args.giver c.in_ok-check_addition.ensures in
    omega (arith, p.room, s.within, c.count.ensures, length-set s.numbers.now (2 * c.count.result) c.args.processor)

pub invariant_of-self-2 : goal.invariant_of-self-2
invariant_of-self-2 c =
    let s = c.args.self.now in
    let e = c.grow.new.self in
    let m = s.extent.processors in
    let n = s.extent.count in
    let k = c.count.result in
    let p = passes _ m n s.extent.capacity (arrows_spans s.numbers.now m n s.extent.capacity) c.args.processor c.args.giver c.in_ok-check_addition.ensures in
    let zs = set s.numbers.now (2 * k) c.args.processor in
    let ys = set zs (2 * k + 1) c.stored_giver.result in
    let size : length ys ≡ length s.numbers.now = omega (arith, length-set s.numbers.now (2 * k) c.args.processor, length-set zs (2 * k + 1) c.stored_giver.result) in
    let m' : e.processors ≡ m = c.grow.ensures.same.0 in
    let n' : e.count ≡ n + 1 = c.grow.ensures.count ∙ count_with_room s.extent.capacity n p.room in
    let rows : 2 * n + 2 ≤ length s.numbers.now = omega (arith, p.room, s.within) in
    let a : Admitted ys m (n + 1) = subst (λ z. Admitted (set (set s.numbers.now (2 * z) c.args.processor) (2 * z + 1) c.stored_giver.result) m (n + 1)) (sym c.count.ensures) (admitted_added s.numbers.now m n s.extent.capacity c.args.processor c.stored_giver.result rows s.admitted p.admitted) in
    record {
      some = omega (arith, s.some, m');
      few = omega (arith, s.few, m');
      fits = omega (arith, s.fits, c.grow.ensures.same.1);
      filled = omega (arith, p.room, n', c.grow.ensures.same.1);
      within = omega (arith, s.within, size, c.grow.ensures.same.1);
      marked = omega (arith, s.marked, c.grow.ensures.same.1);
      admitted = subst (λ z. Admitted ys z e.count) (sym m') (subst (Admitted ys m) (sym n') a);
      clear = s.clear;
    }

pub returns-clause-answer : goal.returns-clause-answer
returns-clause-answer c =
    let s = c.args.self.now in
    let p = passes _ s.extent.processors s.extent.count s.extent.capacity (arrows_spans s.numbers.now s.extent.processors s.extent.count s.extent.capacity) c.args.processor c.args.giver c.in_ok-check_addition.ensures in
    c.grow.ensures.answer ∙ number_with_room s.extent.capacity s.extent.count p.room ∙ sym p.answer

pub returns-clause-after : goal.returns-clause-after
returns-clause-after c =
    let s = c.args.self.now in
    let e = c.grow.new.self in
    let xs = s.numbers.now in
    let m = s.extent.processors in
    let n = s.extent.count in
    let v = c.stored_giver.result in
    let ys = set (set xs (2 * c.count.result) c.args.processor) (2 * c.count.result + 1) v in
    let p = passes _ m n s.extent.capacity (arrows_spans xs m n s.extent.capacity) c.args.processor c.args.giver c.in_ok-check_addition.ensures in
    ap (λ z. arrows ys z e.count e.capacity) c.grow.ensures.same.0
    ∙ ap (λ z. arrows ys m z e.capacity) (c.grow.ensures.count ∙ count_with_room s.extent.capacity n p.room)
    ∙ ap (λ z. arrows ys m (n + 1) z) c.grow.ensures.same.1
    ∙ ap (λ z. arrows (set (set xs (2 * z) c.args.processor) (2 * z + 1) v) m (n + 1) s.extent.capacity) c.count.ensures
    ∙ added_is xs m n s.extent.capacity c.args.processor v (omega (arith, p.room, s.within)) c.args.giver (omega (arith, s.filled, s.fits)) p.given c.stored_giver.ensures
    ∙ ap (answered (arrows xs m n s.extent.capacity) c.args.processor c.args.giver) (sym p.answer)
