-- What the calls of a disk do to what a read gives, and to the images that a crash may leave between two syncs.
use Rattle.std.specs.Prelude.{◌≡◌, ℕ, ◌+◌, List, ◌++◌, length, take, drop, ◌↔◌, Result, Ok, Err}
use Rattle.agent_link.specs.Counts.{raised}

-- these bytes at a place, instead of those that were there
abbrev pub overwritten : ℕ → List ℕ → List ℕ → List ℕ
overwritten at bytes old = take at old ++ bytes ++ drop (at + length bytes) old

-- Any bytes in a range, and all others as they were.
pub record Torn (at n : ℕ) (old new : List ℕ) : Type 0 where
  pub len : length new ≡ length old
  pub before : take at new ≡ take at old
  pub after : drop (at + n) new ≡ drop (at + n) old

-- A crash leaves this and nothing else.
abbrev pub Only : List ℕ → (List ℕ → Type 0) → Type 0
Only file images = (image : List ℕ) → images image ↔ (image ≡ file)

-- the same images
abbrev pub Same : (List ℕ → Type 0) → (List ℕ → Type 0) → Type 0
Same old new = (image : List ℕ) → new image ↔ old image

-- The new images are just those that a step makes of the old ones.
abbrev pub Widens : (List ℕ → List ℕ → Type 0) → (List ℕ → Type 0) → (List ℕ → Type 0) → Type 0
Widens step old new = (image : List ℕ) → new image ↔ ((was : List ℕ) × old was × step was image)

-- Each new image was possible before.
abbrev pub NoMore : (List ℕ → Type 0) → (List ℕ → Type 0) → Type 0
NoMore old new = (image : List ℕ) → new image → old image

-- the count of faults behind a call: one more where it failed
abbrev pub faults_after : {T E : Type 0} → Result T E → ℕ → ℕ
faults_after (Ok _) count = count
faults_after (Err _) count = raised count
