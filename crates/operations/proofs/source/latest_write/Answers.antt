use Rattle.std.proofs.Common.{rules, arith, ◌≡◌, ◌<◌, ℕ, true, get_or, IsSomeAnd, IfSome, MatchOption, Option, Some, None, length, ap, ap₂, sym, ◌∙◌}
use Rattle.std.proofs.lemmas.Grind.{common_steps}
use Rattle.operations.specs.declared.operation.Operation.{Operation}
use Rattle.operations.specs.Events.{event}
use Rattle.operations.specs.Sources.{writes_to}
use Rattle.operations.proofs.Searching.{latest_is}
use Rattle.operations.proofs.source.latest_write.Goals as goal

found : (r : Option ℕ) (A : Type 0) {B C : ℕ → Type 0} (n : ℕ) → IfSome r (λ w. w < n) → MatchOption r A B → ((w : ℕ) → w < n → B w → C w) → IfSome r C
found None A n bound m f = tt
found (Some w) A n bound m f = f w bound m

both : {B : Type 0} (o : Option B) {C D : B → Type 0} {P : Type 0} → IsSomeAnd o C → IfSome o D → ((x : B) → C x → D x → P) → P
both None h k f = absurd h
both (Some x) h k f = f x h k

pub returns-clause-value : goal.returns-clause-value
returns-clause-value g c =
    let v = g.W.Word.value in
    let xs = c.args.log.now in
    let l = c.args.location in
    let runs = c.rposition.ensures.runs in
    let same : runs.0.from.rest.now ≡ xs = ap (λ s. s.rest.now) runs.1 ∙ c.iter.ensures.rest in
    let items = c.iter.ensures.runs_back runs.0 runs.0.seen in
    let hit : IfSome c.rposition.result (λ w. (d : Operation g.row.W.Denot) → writes_to (event v (get_or xs w d)) l ≡ true) =
    found c.rposition.result _ (length xs) (search rules) runs.2 (λ w below h d.
    let first = h.1 (search rules) in
    both (runs.0.at _) first.0 (items.3 _) (λ x called at.
    let yes : true ≡ writes_to (event v x.now) l = search rules in
    let there : x.now ≡ get_or xs w d = at d ∙ ap₂ (λ ys k. get_or ys k d) same (omega (arith, below, ap length same, c.iter.ensures.len)) in
    ap (λ y. writes_to (event v y) l) (sym there) ∙ sym yes)) in
    latest_is v l xs c.rposition.result (grind (arith, common_steps)) (search rules) hit (grind (arith, common_steps))
