-- Operations as the definitions see them, whatever the word type. Assumes nothing.
use Rattle.std.specs.Prelude.{ℕ, List, [], map, ℤ, slice_index_or}
use Rattle.operations.specs.declared.kind.Kind.{Kind}
use Rattle.operations.specs.declared.kind.Kind.TheVariants.{DataRead}
use Rattle.operations.specs.declared.operation.Operation.{Operation}

-- an operation, with its word by meaning
pub record Event : Type 0 where
  pub processor : ℕ
  pub kind : Kind
  pub class : ℕ
  pub location : ℕ
  pub word : List ℤ

abbrev pub event : {W : Type 0} → (W → List ℤ) → Operation W → Event
event value o = record { processor = o.processor; kind = o.kind; class = o.class; location = o.location; word = value o.word }

abbrev pub events : {W : Type 0} → (W → List ℤ) → List (Operation W) → List Event
events value os = map (event value) os

-- a place of a record where nothing was written yet, with this initial word
abbrev pub blank : List ℤ → Event
blank start = record { processor = 0; kind = DataRead; class = 0; location = 0; word = start }

-- what is read past the end of a record
abbrev pub nothing : Event
nothing = record { processor = 0; kind = DataRead; class = 0; location = 0; word = [] }

-- the operation with number k
abbrev pub at : List Event → ℕ → Event
at es k = slice_index_or es k nothing
