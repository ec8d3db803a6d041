use Rattle.std.proofs.Common.{◌≡◌, suc, ◌-◌, ◌<◌, true, false, ◌||◌, length, set, replicate, sym, refl, ap, ◌∙◌, subst, add-one, arith, length-set}
use Rattle.std.proofs.lemmas.List.{get_or-replicate}
use Rattle.std.proofs.lemmas.Bool.{or_left, or_right}
use Rattle.keepers.specs.Meaning.{most_processors}
use Rattle.arrow.specs.Arrows.{processor_of, giver_of, with_giver}
use Rattle.arrow.proofs.Walks.{is_marked, is_reached, found, ClearOutside, found_start, found_no, found_yes, found_end, outside_start, outside_less, outside_giver, giver_among}
use Rattle.arrow.proofs.arrows.Arrows.is_before.Goals as goal
use Rattle.arrow.proofs.arrows.Arrows.is_before.Goals.{then-marked-via-then-marked, then-marked-via-else-marked+then-reached-processor}

pub loop-k-init : goal.loop-k-init
loop-k-init c =
    let xs = c.args.self.now.numbers.now in
    let e = c.args.self.now.extent in
    let ms = c.args.marks.now in
    let fs = replicate most_processors false in
    let b = c.args.b in
    record {
      later = omega (arith, c.requires.later);
      size = refl;
      search =
          ap (found xs e.processors e.count e.capacity c.args.a (set ms b 1) fs) (add-one b)
          ∙ found_start xs e.processors e.count e.capacity c.args.a ms fs b c.requires.later c.requires.marked c.requires.clear (λ p h. get_or-replicate most_processors p false false h);
      outside = subst (ClearOutside (set ms b 1) c.args.a) (sym (add-one b)) (outside_start ms c.args.a b c.requires.later c.requires.clear);
    }

pub loop-k-preserved-in-loop-k : goal.loop-k-preserved-in-loop-k
loop-k-preserved-in-loop-k c =
    let xs = c.args.self.now.numbers.now in
    let e = c.args.self.now.extent in
    let ms = c.loop-k.marks in
    let fs = c.loop-k.reached in
    let k = c.loop-k.k - 1 in
    let i = c.loop-k.invariant in
    let p = c.processor-processor.ensures.value in
    let z : suc k ≡ c.loop-k.k = omega (arith, c.loop-k-test.true) in
    let later : c.args.a < k = omega (arith, c.loop-k-test.true) in
    let inside : k < length ms = omega (arith, c.loop-k-test.true, c.loop-k.auto.k, c.loop-k.auto.marks, c.requires.marked, length-set c.args.marks.now c.args.b 1) in
    let few : processor_of xs k < most_processors = omega (arith, p, c.processor-processor.ensures.few) in
    let hit : (is_marked ms k || is_reached fs (processor_of xs k)) ≡ true =
    elim c.then-marked.branch [
      | then-marked-via-then-marked w ↦ or_left (is_marked ms k) (is_reached fs (processor_of xs k)) (sym c.take_mark-marked.ensures.answer ∙ w.if-marked.true)
      | then-marked-via-else-marked+then-reached-processor w ↦ or_right (is_marked ms k) (is_reached fs (processor_of xs k)) (ap (is_reached fs) (sym p) ∙ w.if-reached-processor.true)
    ] in
    let to : c.mark_giver.new.marks ≡ with_giver (set ms k 0) c.args.a (giver_of xs k) =
    c.mark_giver.ensures ∙ ap (with_giver c.take_mark-marked.new.marks c.args.a) c.giver.ensures ∙ ap (λ q. with_giver q c.args.a (giver_of xs k)) c.take_mark-marked.ensures.after in
    record {
      later = later;
      size = length-set fs c.processor-processor.result true ∙ i.size;
      search =
          ap (λ q. found xs e.processors e.count e.capacity c.args.a q (set fs c.processor-processor.result true) k) to
          ∙ ap (λ q. found xs e.processors e.count e.capacity c.args.a (with_giver (set ms k 0) c.args.a (giver_of xs k)) (set fs q true) k) p
          ∙ found_yes xs e.processors e.count e.capacity c.args.a ms fs k later (omega (arith, c.loop-k.auto.k, c.requires.held)) few (omega arith) i.size hit
          ∙ ap (found xs e.processors e.count e.capacity c.args.a ms fs) z
          ∙ i.search;
      outside = subst (λ q. ClearOutside q c.args.a k) (sym to) (outside_giver (set ms k 0) c.args.a k (giver_of xs k) (giver_among xs k) (outside_less ms c.args.a k inside (subst (ClearOutside ms c.args.a) (sym z) i.outside)));
    }

pub loop-k-preserved : goal.loop-k-preserved
loop-k-preserved c =
    let xs = c.args.self.now.numbers.now in
    let e = c.args.self.now.extent in
    let ms = c.loop-k.marks in
    let fs = c.loop-k.reached in
    let k = c.loop-k.k - 1 in
    let i = c.loop-k.invariant in
    let p = c.processor-processor.ensures.value in
    let z : suc k ≡ c.loop-k.k = omega (arith, c.loop-k-test.true) in
    let later : c.args.a < k = omega (arith, c.loop-k-test.true) in
    let inside : k < length ms = omega (arith, c.loop-k-test.true, c.loop-k.auto.k, c.loop-k.auto.marks, c.requires.marked, length-set c.args.marks.now c.args.b 1) in
    let few : processor_of xs k < most_processors = omega (arith, p, c.processor-processor.ensures.few) in
    let to = c.take_mark-marked.ensures.after in
    record {
      later = later;
      size = i.size;
      search =
          ap (λ q. found xs e.processors e.count e.capacity c.args.a q fs k) to
          ∙ found_no xs e.processors e.count e.capacity c.args.a ms fs k later (omega (arith, c.loop-k.auto.k, c.requires.held)) few (sym c.take_mark-marked.ensures.answer ∙ c.if-marked.false) (ap (is_reached fs) (sym p) ∙ c.if-reached-processor.false)
          ∙ ap (found xs e.processors e.count e.capacity c.args.a ms fs) z
          ∙ i.search;
      outside = subst (λ q. ClearOutside q c.args.a k) (sym to) (outside_less ms c.args.a k inside (subst (ClearOutside ms c.args.a) (sym z) i.outside));
    }

pub returns-else-marked-2-clause-answer : goal.returns-else-marked-2-clause-answer
returns-else-marked-2-clause-answer c =
    let xs = c.args.self.now.numbers.now in
    let e = c.args.self.now.extent in
    let ms = c.loop-k.marks in
    let fs = c.loop-k.reached in
    let a = c.args.a in
    let i = c.loop-k.invariant in
    let p = c.processor.ensures.value in
    let z : suc a ≡ c.loop-k.k = omega (arith, c.loop-k-test.false, i.later) in
    let few : processor_of xs a < most_processors = omega (arith, p, c.processor.ensures.few) in
    ap (is_reached fs) p
    ∙ ap (λ t. t || is_reached fs (processor_of xs a)) (sym c.if-marked-2.false ∙ c.take_mark-marked-2.ensures.answer)
    ∙ sym (found_end xs e.processors e.count e.capacity a ms fs few)
    ∙ ap (found xs e.processors e.count e.capacity a ms fs) z
    ∙ i.search
