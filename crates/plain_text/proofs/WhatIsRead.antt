-- What holds of whatever a grammar reads, followed through its steps.
use Rattle.std.proofs.Common.{Bool, true, false, cond, Option, Some, None}
use Rattle.plain_text.specs.Reading.{◌>>=◌}

abbrev pub SomeIs : {A : Type 0} → (A → Type 0) → Option A → Type 0
SomeIs P None = Unit {0}
SomeIs P (Some x) = P x

pub bound : {A B : Type 0} (P : A → Type 0) (R : B → Type 0) (o : Option A) (next : A → Option B) → SomeIs P o → ((x : A) → P x → SomeIs R (next x)) → SomeIs R (o >>= next)
bound P R None next h k = tt
bound P R (Some x) next h k = k x h

pub always : {A B : Type 0} (R : B → Type 0) (o : Option A) (next : A → Option B) → ((x : A) → SomeIs R (next x)) → SomeIs R (o >>= next)
always R None next k = tt
always R (Some x) next k = k x

pub either : {A : Type 0} (R : A → Type 0) (b : Bool) (x y : Option A) → SomeIs R x → SomeIs R y → SomeIs R (cond b x y)
either R true x y h k = h
either R false x y h k = k
