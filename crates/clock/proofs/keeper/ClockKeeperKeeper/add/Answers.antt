use Rattle.std.proofs.Common.{◌≡◌, ◌+◌, ◌*◌, ◌++◌, sym, ap, ◌∙◌, subst, arith, length-append}
use Rattle.keepers.specs.Adding.{answered}
use Rattle.keepers.proofs.Extents.{passes, number_with_room, count_with_room}
use Rattle.clock.specs.Rows.{Sound, clock}
use Rattle.clock.proofs.Clocks.{kept_sound, same_held, row_added, next_sound}
use Rattle.clock.proofs.Meanings.{clock_spans, added_is}
use Rattle.clock.proofs.keeper.ClockKeeperKeeper.add.Goals as goal

pub invariant_of-rows : goal.invariant_of-rows
invariant_of-rows c =
    let s = c.args.self.now in
    let m = s.extent.processors in
    let n = s.extent.count in
    let split = c.split_at_mut-held in
    let held = split.result.0.now in
    let same = same_held s.numbers.now held split.result.1.now m n c.count.result c.width.result c.args.processor c.args.giver c.count.ensures (c.width.ensures ∙ ap (λ z. z + 1) c.processors.ensures) split.ensures.by_index.0 in
    let used : c.count.result * c.width.result ≡ n * (m + 1) = (let x = c.count.ensures in let y = c.width.ensures in let z = c.processors.ensures in cc) in
    record { within = omega (arith, split.ensures.front_len); sound = kept_sound s.numbers.now held m n same s.sound }

pub write_next-requires-clause-giver : goal.write_next-requires-clause-giver
write_next-requires-clause-giver c =
    let s = c.args.self.now in
    let e = s.extent in
    (passes _ _ _ _ (clock_spans s.numbers.now e.processors e.count e.capacity) c.args.processor c.args.giver c.in_ok-check_addition.ensures).given

pub invariant_of-self : goal.invariant_of-self
invariant_of-self c =
    let s = c.args.self.now in
    let e = c.grow.new.self in
    let m = s.extent.processors in
    let n = s.extent.count in
    let split = c.split_at_mut-held in
    let held = split.result.0.now in
    let free = c.write_next.new.free in
    let p = passes _ m n s.extent.capacity (clock_spans s.numbers.now m n s.extent.capacity) c.args.processor c.args.giver c.in_ok-check_addition.ensures in
    let r = row_added s.numbers.now held free m n c.count.result c.width.result c.args.processor c.args.giver c.count.ensures (c.width.ensures ∙ ap (λ z. z + 1) c.processors.ensures) split.ensures.by_index.0 split.ensures.front_len p.given c.write_next.ensures.named c.write_next.ensures.counted in
    let k = next_sound s.numbers.now (held ++ free) m n c.args.processor c.args.giver s.sound p.given p.admitted r.same r.named r.joined in
    let m' : e.processors ≡ m = c.grow.ensures.same.0 in
    let n' : e.count ≡ n + 1 = c.grow.ensures.count ∙ count_with_room s.extent.capacity n p.room in
    let c' = c.grow.ensures.same.1 in
    let rows : e.capacity * (e.processors + 1) ≡ s.extent.capacity * (m + 1) = cc in
    record {
      some = omega (arith, s.some, m');
      few = omega (arith, s.few, m');
      fits = omega (arith, s.fits, c.grow.ensures.same.1);
      filled = omega (arith, p.room, n', c.grow.ensures.same.1);
      within = omega (arith, s.within, rows, length-append held free, c.write_next.auto.free, split.ensures.front_len, split.ensures.back_len);
      sound = subst (λ z. Sound (held ++ free) z e.count) (sym m') (subst (Sound (held ++ free) m) (sym n') k);
    }

pub returns-clause-answer : goal.returns-clause-answer
returns-clause-answer c =
    let s = c.args.self.now in
    let e = s.extent in
    let p = passes _ _ _ _ (clock_spans s.numbers.now e.processors e.count e.capacity) c.args.processor c.args.giver c.in_ok-check_addition.ensures in
    c.grow.ensures.answer ∙ number_with_room e.capacity e.count p.room ∙ sym p.answer

pub returns-clause-after : goal.returns-clause-after
returns-clause-after c =
    let s = c.args.self.now in
    let e = c.grow.new.self in
    let m = s.extent.processors in
    let n = s.extent.count in
    let split = c.split_at_mut-held in
    let held = split.result.0.now in
    let free = c.write_next.new.free in
    let ys = held ++ free in
    let p = passes _ m n s.extent.capacity (clock_spans s.numbers.now m n s.extent.capacity) c.args.processor c.args.giver c.in_ok-check_addition.ensures in
    let r = row_added s.numbers.now held free m n c.count.result c.width.result c.args.processor c.args.giver c.count.ensures (c.width.ensures ∙ ap (λ z. z + 1) c.processors.ensures) split.ensures.by_index.0 split.ensures.front_len p.given c.write_next.ensures.named c.write_next.ensures.counted in
    ap (λ z. clock ys z e.count e.capacity) c.grow.ensures.same.0
    ∙ ap (λ z. clock ys m z e.capacity) (c.grow.ensures.count ∙ count_with_room s.extent.capacity n p.room)
    ∙ ap (λ z. clock ys m (n + 1) z) c.grow.ensures.same.1
    ∙ added_is s.numbers.now ys m n s.extent.capacity c.args.processor c.args.giver s.sound p.given p.admitted r.same r.named r.joined
    ∙ ap (answered (clock s.numbers.now m n s.extent.capacity) c.args.processor c.args.giver) (sym p.answer)
