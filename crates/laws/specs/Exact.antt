-- What it is to tell a recorded run's order and its races exactly. Assumes nothing.
use Rattle.std.specs.Prelude.{◌≡◌, ℕ, suc, ◌<◌, Some, None, Decides, Option, slice_index}
use Rattle.operations.specs.History.{History, Before, Race}
use Rattle.keepers.specs.Meaning.{Meaning, held}

-- a keeper that holds the operations of a run and says yes exactly where a chain of arrows leads from one to
-- the other
pub record Keeps (H : History) (m : Meaning) : Type 0 where
  pub count : held m ≡ H.size
  pub processors : (k : ℕ) → k < H.size → slice_index m.processors k ≡ (H.op k).processor
  pub order : (a b : ℕ) → a < H.size → b < H.size → Decides (m.before a b) (Before H a b)

-- the operation b is in a data race with an earlier one
abbrev pub RacesEarlier : History → ℕ → Type 0
RacesEarlier H b = (a : ℕ) × (a < b) × Race H a b

-- a is the latest operation earlier than b in a data race with it
pub record LatestRace (H : History) (b a : ℕ) : Type 0 where
  pub earlier : a < b
  pub race : Race H a b
  pub none_later : (c : ℕ) → a < c → c < b → Race H c b → ⊥

-- the racing partner of b, or none
abbrev pub IsPartner : History → ℕ → Option ℕ → Type 0
IsPartner H b None = RacesEarlier H b → ⊥
IsPartner H b (Some a) = LatestRace H b a

-- c of the first n numbers have P
pub data Counts (P : ℕ → Type 0) : ℕ → ℕ → Type 0 where
  none : Counts P 0 0
  one_more : {n c : ℕ} → P n → Counts P n c → Counts P (suc n) (suc c)
  no_more : {n c : ℕ} → (P n → ⊥) → Counts P n c → Counts P (suc n) c

-- b is the first operation in a data race with an earlier one, and a is its racing partner
pub record FirstRace (H : History) (a b : ℕ) : Type 0 where
  pub inside : b < H.size
  pub latest : LatestRace H b a
  pub none_before : (d : ℕ) → d < b → RacesEarlier H d → ⊥

-- what a racy verdict shows: how many operations race with an earlier one, and the first of them
pub record RacyAs (H : History) (count a b : ℕ) : Type 0 where
  pub counts : Counts (RacesEarlier H) H.size count
  pub first : FirstRace H a b
