-- The least number, from one on, of which something holds.
use Rattle.std.specs.Prelude.{◌≡◌, ◌≤◌, Bool, true, false, ◌&&◌, ℕ, Option, Some, None, MatchOption, IfSome, if◌then◌else◌, nat_lt, nat_le, min}

pub record IsLeast (holds : ℕ → Bool) (from : ℕ) (found : Option ℕ) : Type 0 where
  pub holding : IfSome found (λ n. (from ≤ n) × (holds n ≡ true))
  pub least : (n : ℕ) → from ≤ n → holds n ≡ true → MatchOption found ⊥ (λ least. least ≤ n)

-- whether the number isn't below `from`, and is below the least that was found so far
abbrev pub is_nearer : ℕ → ℕ → Option ℕ → Bool
is_nearer n from None = nat_le from n
is_nearer n from (Some least) = nat_le from n && nat_lt n least

-- the number where it hits and is nearer, else the least so far
abbrev pub nearest : Bool → ℕ → ℕ → Option ℕ → Option ℕ
nearest false n from least = least
nearest true n from least = if is_nearer n from least then Some n else least

abbrev pub lesser : Option ℕ → Option ℕ → Option ℕ
lesser None other = other
lesser (Some n) None = Some n
lesser (Some n) (Some m) = Some (min n m)
