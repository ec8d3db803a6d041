-- A recorded run, and its order and races as relations. Assumes nothing.
use Rattle.std.specs.Prelude.{◌≡◌, ℕ, ◌<◌, Bool, true, ◌≢◌, ◌⊎◌}
use Rattle.operations.specs.Kinds.{reads, writes, data_kind, acquire_kind, release_kind}
use Rattle.operations.specs.Events.{Event}

-- operations 0 to size - 1 in the order in which memory did them, and which class of release the rule pairs
-- with which class of acquire
pub record History : Type 0 where
  pub size : ℕ
  pub op : ℕ → Event
  pub pairs : ℕ → ℕ → Bool

abbrev pub Reads : History → ℕ → Type 0
Reads H a = reads (H.op a).kind ≡ true

abbrev pub Writes : History → ℕ → Type 0
Writes H a = writes (H.op a).kind ≡ true

abbrev pub IsData : History → ℕ → Type 0
IsData H a = data_kind (H.op a).kind ≡ true

-- among the operations before number m, w is the latest write of any kind to the location l
pub record LatestWrite (H : History) (l m w : ℕ) : Type 0 where
  pub earlier : w < m
  pub write : Writes H w
  pub there : (H.op w).location ≡ l
  pub none_later : (v : ℕ) → w < v → v < m → Writes H v → (H.op v).location ≢ l

-- w is the source of r
abbrev pub Source : History → ℕ → ℕ → Type 0
Source H r w = LatestWrite H (H.op r).location r w

-- the acquire b is paired with the release a: a is its source, and the rule pairs their classes
pub record Paired (H : History) (a b : ℕ) : Type 0 where
  pub inside : b < H.size
  pub release : release_kind (H.op a).kind ≡ true
  pub acquire : acquire_kind (H.op b).kind ≡ true
  pub source : Source H b a
  pub rule : H.pairs (H.op a).class (H.op b).class ≡ true

-- b is the next operation of a's processor
pub record Next (H : History) (a b : ℕ) : Type 0 where
  pub later : a < b
  pub inside : b < H.size
  pub same : (H.op a).processor ≡ (H.op b).processor
  pub none_between : (c : ℕ) → a < c → c < b → (H.op c).processor ≢ (H.op b).processor

-- an arrow leads from each operation to the next of its processor, and from a release to each acquire that
-- is paired with it
abbrev pub Arrow : History → ℕ → ℕ → Type 0
Arrow H a b = Next H a b ⊎ Paired H a b

-- a chain of one or more arrows leads from a to b
pub data Before (H : History) : ℕ → ℕ → Type 0 where
  arrow : {a b : ℕ} → Arrow H a b → Before H a b
  chain : {a b c : ℕ} → Before H a b → Before H b c → Before H a c

-- two operations share a location, and at least one writes
pub record Conflict (H : History) (a b : ℕ) : Type 0 where
  pub two : a ≢ b
  pub shared : (H.op a).location ≡ (H.op b).location
  pub one_writes : Writes H a ⊎ Writes H b

-- a data race: two conflicting operations, at least one a data operation, neither before the other
pub record Race (H : History) (a b : ℕ) : Type 0 where
  pub conflict : Conflict H a b
  pub one_data : IsData H a ⊎ IsData H b
  pub not_before : Before H a b → ⊥
  pub not_after : Before H b a → ⊥

-- no two operations are in a data race
abbrev pub RaceFree : History → Type 0
RaceFree H = (a b : ℕ) → a < H.size → b < H.size → Race H a b → ⊥
