-- What a keeper means. Assumes nothing.
use Rattle.std.specs.Prelude.{ℕ, Bool, false, List, [], length, nat_lt}

pub record Meaning : Type 0 where
  -- the processors that it admits
  pub admits : ℕ → Bool
  -- the processor of each operation that it holds, number 0 first
  pub processors : List ℕ
  -- which operation is before which
  pub before : ℕ → ℕ → Bool
  -- how many operations more it can hold
  pub room : ℕ

-- processors are numbered below this
abbrev pub most_processors : ℕ
most_processors = 16

-- held operations and room together never exceed this
abbrev pub most_held : ℕ
most_held = 4096

-- how many operations are held
abbrev pub held : Meaning → ℕ
held m = length m.processors

-- a keeper for the processors 0 to m - 1 that holds nothing
abbrev pub empty : ℕ → ℕ → Meaning
empty m room = record {
  admits = λ p. nat_lt p m;
  processors = [];
  before = λ a b. false;
  room = room;
}
