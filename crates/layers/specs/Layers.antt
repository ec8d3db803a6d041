-- The meaning of a keeper under a layer. Assumes nothing.
use Rattle.std.specs.Prelude.{◌≡◌, ℕ, ◌+◌, ◌<◌, ◌≤◌, min, true, ◌&&◌, List, map, nat_lt, slice_index}
use Rattle.std.proofs.Common.{arith}
use Rattle.std.proofs.lemmas.List.{length-map}
use Rattle.std.proofs.lemmas.Bool.{and_parts, ltb-true}
use Rattle.keepers.specs.Meaning.{Meaning, held, most_held, most_processors}
use Rattle.layers.specs.Renumbering.{place}

-- an allowance: the room is the smaller of what is left and the room below
abbrev pub allowed : ℕ → Meaning → Meaning
allowed left m = record {
  admits = m.admits;
  processors = m.processors;
  before = m.before;
  room = min left m.room;
}

-- other processor numbers: p is admitted when entry p is admitted below, and held operations are shown under
-- the outer number
abbrev pub renumbered : List ℕ → Meaning → Meaning
renumbered xs m = record {
  admits = λ p. nat_lt p most_processors && m.admits (slice_index xs p);
  processors = map (place xs) m.processors;
  before = m.before;
  room = m.room;
}

-- the layers keep a keeper's bounds
pub allowed_bounded : (left : ℕ) (m : Meaning) → held m + m.room ≤ most_held → held (allowed left m) + (allowed left m).room ≤ most_held
allowed_bounded left m h = omega arith

pub renumbered_bounded : (xs : List ℕ) (m : Meaning) → held m + m.room ≤ most_held → held (renumbered xs m) + (renumbered xs m).room ≤ most_held
renumbered_bounded xs m h = omega (arith, length-map m.processors (place xs))

pub renumbered_numbered : (xs : List ℕ) (m : Meaning) (p : ℕ) → (renumbered xs m).admits p ≡ true → p < most_processors
renumbered_numbered xs m p e = ltb-true p most_processors (and_parts (nat_lt p most_processors) (m.admits (slice_index xs p)) e).0
