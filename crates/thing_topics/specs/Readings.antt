-- What a topic reads as, step by step: the first step that fails gives the fault.
use Rattle.std.specs.Prelude.{◌≡◌, Bool, Option, Some, None, Result, Ok, Err, if◌then◌else◌}
use Rattle.thing_topics.specs.declared.faults.TopicFault.{TopicFault}

infixl 10 ◌>>=◌
abbrev pub ◌>>=◌ : {A B : Type 0} → Result A TopicFault → (A → Result B TopicFault) → Result B TopicFault
(Ok x) >>= next = next x
(Err e) >>= next = Err e

-- the value where there is one, else this fault
abbrev pub or_fault : {A : Type 0} → TopicFault → Option A → Result A TopicFault
or_fault fault None = Err fault
or_fault fault (Some x) = Ok x

-- the value where the test passes, else this fault
abbrev pub tested : {A : Type 0} → TopicFault → Bool → A → Result A TopicFault
tested fault test x = if test then Ok x else Err fault

-- Seen by view, the answer is what was read, and its fault is the same.
abbrev pub Gives : {X Y E : Type 0} → (X → Y) → Result X E → Result Y E → Type 0
Gives view (Ok x) read = read ≡ Ok (view x)
Gives view (Err e) read = read ≡ Err e

-- the fault that an answer has
abbrev pub fault_in : {X E : Type 0} → Result X E → Option E
fault_in (Ok x) = None
fault_in (Err e) = Some e
