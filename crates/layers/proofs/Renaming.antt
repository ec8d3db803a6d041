-- What a renumber layer does to a keeper's meaning. Assumes nothing.
use Rattle.std.proofs.Common.{◌≡◌, ℕ, ◌-◌, ◌<◌, eqb, ltb, List, [], ◌∷◌, ◌++◌, map, length, get_or, Some, None, Ok, Err, Option, Result, sym, refl, ap, ◌∙◌, arith}
use mathlib.Core.Path.{fun_ext}
use lib.ListN.{length-map}
use Rattle.std.proofs.lemmas.List.{map_push, get_or-map}
use Rattle.std.proofs.lemmas.Bool.Decides.{nat_tests}
use Rattle.keepers.specs.Meaning.{Meaning, held, most_processors}
use Rattle.keepers.specs.Adding.{latest_of, latest, reaches, added, addition, answered, after_addition, giver_held}
use Rattle.keepers.specs.declared.fault.KeeperFault.{KeeperFault}
use Rattle.layers.specs.Renumbering.{Once, place, entry_of}
use Rattle.layers.specs.Layers.{renumbered}
use Rattle.layers.proofs.Placing.{place_entry, same_test}
use Rattle.keepers.proofs.Latest.{latest_like}

module _ (xs : List ℕ) (m : Meaning) where
  abbrev R : Meaning
  R = renumbered xs m

  pub held_same : held R ≡ held m
  held_same = length-map m.processors (place xs)

  giver_same : (o : Option ℕ) → giver_held R o ≡ giver_held m o
  giver_same None = refl
  giver_same (Some g) = ap (ltb g) held_same

  reaches_same : (a : ℕ) (o : Option ℕ) → reaches R a o ≡ reaches m a o
  reaches_same a None = refl
  reaches_same a (Some k) = refl

  module _ (l : length xs ≡ 16) (o : Once xs) (p : ℕ) (h : p < 16) where
    pub addition_same : (g : Option ℕ) → addition R p g ≡ addition m (get_or xs p 0) g
    addition_same g = let given = giver_same g in let count = held_same in grind (arith, nat_tests)

    latest_same : latest R p ≡ latest m (get_or xs p 0)
    latest_same =
        ap (latest_of (λ k. get_or R.processors k 0) p) held_same
        ∙ latest_like _ _ p (get_or xs p 0) (held m) (λ k b. ap (λ z. eqb z p) (get_or-map (place xs) m.processors k 0 0 b) ∙ same_test xs l o (get_or m.processors k 0) p h)

    before_same : (g : Option ℕ) → (added R p g).before ≡ (added m (get_or xs p 0) g).before
    before_same g = fun_ext (λ a. fun_ext (λ b.
        let count = held_same in
        let its : Option ℕ = latest m (get_or xs p 0) in
        let same : reaches R a (latest R p) ≡ reaches m a its = ap (reaches R a) latest_same ∙ reaches_same a its in
        grind (arith, nat_tests, reaches_same a g)))

    processors_same : (g : Option ℕ) → (added R p g).processors ≡ map (place xs) (added m (get_or xs p 0) g).processors
    processors_same g = ap (λ q. map (place xs) m.processors ++ (q ∷ [])) (sym (place_entry xs l o p h)) ∙ sym (map_push (place xs) m.processors (get_or xs p 0))

    pub added_same : (g : Option ℕ) → added R p g ≡ renumbered xs (added m (get_or xs p 0) g)
    added_same g = λ i. record { admits = R.admits; processors = processors_same g i; before = before_same g i; room = m.room - 1 }

    answered_same : (g : Option ℕ) (r : Result ℕ KeeperFault) → renumbered xs (answered m (get_or xs p 0) g r) ≡ answered R p g r
    answered_same g (Ok n) = sym (added_same g)
    answered_same g (Err e) = refl

    pub after_same : (g : Option ℕ) → renumbered xs (after_addition m (get_or xs p 0) g) ≡ after_addition R p g
    after_same g = answered_same g (addition m (get_or xs p 0) g) ∙ ap (answered R p g) (sym (addition_same g))

-- an entry that is there
pub entry_is : (xs : List ℕ) (p q : ℕ) → Some q ≡ entry_of xs p → (p < most_processors) × (q ≡ get_or xs p 0)
entry_is xs p q e = grind (arith, nat_tests)
