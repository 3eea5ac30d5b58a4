-- A disk over memory: the bytes after the last sync, and which were written since.
use Rattle.std.specs.Prelude.{◌≡◌, ℕ, suc, ◌+◌, ◌-◌, ◌/◌, ◌%◌, ◌==◌, Bool, true, List, [], ◌∷◌, ◌++◌, take, drop, replicate, Option, Some, None, if◌then◌else◌}

-- the bytes that aren't marked, and 0 instead of each that is
abbrev pub masked : List Bool → List ℕ → List ℕ
masked [] xs = xs
masked (m ∷ ms) [] = []
masked (m ∷ ms) (x ∷ xs) = (if m then 0 else x) ∷ masked ms xs

-- The image is as the settled bytes are, but where they are marked.
abbrev pub Agrees : List Bool → List ℕ → List ℕ → Type 0
Agrees marks settled image = masked marks image ≡ masked marks settled

-- n times x at a place, instead of what was there
abbrev pub filled : {X : Type 0} → ℕ → ℕ → X → List X → List X
filled at n x xs = take at xs ++ replicate n x ++ drop (at + n) xs

abbrev pub marked : ℕ → ℕ → List Bool → List Bool
marked at n marks = filled at n true marks

-- what a crash leaves of byte i: one that was written since the last sync is as it was then where `pick` is even
abbrev pub picked : ℕ → ℕ → Bool → ℕ → ℕ
picked pick i mark byte = if mark then (if pick % 2 == 0 then byte else (pick / 2 + i) % 256) else byte

-- and of all bytes, of which the first is byte i
abbrev pub crashed : ℕ → ℕ → List Bool → List ℕ → List ℕ
crashed pick i [] xs = xs
crashed pick i (m ∷ ms) [] = []
crashed pick i (m ∷ ms) (x ∷ xs) = picked pick i m x ∷ crashed pick (suc i) ms xs

-- what is left of a fuse behind one more write or sync
abbrev pub burnt : Option ℕ → Option ℕ
burnt None = None
burnt (Some n) = Some (n - 1)
