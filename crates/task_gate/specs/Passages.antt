-- A task's calls of its gate.
use Rattle.std.specs.Prelude.{ℕ, ◌+◌, ◌^◌, ◌-◌, min}

-- How often the gate was asked to let a request in, and with which number last; and how often it was told of an outcome, and of which
-- command last. A count stands still at the end of its type.
pub record Passed : Type 0 where
  pub task : ℕ
  pub asked : ℕ
  pub last_asked : ℕ
  pub answered : ℕ
  pub last_answered : ℕ

abbrev pub fresh : ℕ → Passed
fresh number = record { task = number; asked = 0; last_asked = 0; answered = 0; last_answered = 0 }

-- one call more
abbrev pub more : ℕ → ℕ
more n = min (n + 1) (2 ^ 64 - 1)

abbrev pub let_in : ℕ → Passed → Passed
let_in number p = record p { asked = more p.asked; last_asked = number }

abbrev pub told : ℕ → Passed → Passed
told number p = record p { answered = more p.answered; last_answered = number }
