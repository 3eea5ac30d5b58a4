-- What is left of a tape gives bytes, as the whole tape did.
use Rattle.std.proofs.Common.{ℕ, Bool, true, false, cond, List, [], ◌∷◌, length, take, arith}
use Rattle.std.specs.Prelude.{min}
use Rattle.mqtt_packet.specs.Stream.{AreBytes}
use Rattle.mqtt_packet.proofs.Numbers.{bytes_drop, bytes_take}
use Rattle.broker_tape.specs.declared.tape.Item.{Item}
use Rattle.broker_tape.specs.declared.tape.Item.TheVariants as items
use Rattle.broker_tape.specs.Playing.{is_opening, begins, closed, opens_by, opens_at, opens, is_used, next, hears_of, hears_at, hears, bytes_at, present}
use Rattle.broker_tape.specs.Given.{GivesBytes}

closed_by : (b : Bool) (item : Item) (rest : List Item) → GivesBytes (item ∷ rest) → GivesBytes (closed rest) → GivesBytes (cond b (item ∷ rest) (closed rest))
closed_by true item rest h k = h
closed_by false item rest h k = k

pub closed_gives : (left : List Item) → GivesBytes left → GivesBytes (closed left)
closed_gives [] h = tt
closed_gives (item ∷ rest) h = closed_by (is_opening item) item rest h (closed_gives rest h.1)

begun_by : (b : Bool) (rest : List Item) → GivesBytes rest → GivesBytes (opens_by b rest).1
begun_by true rest h = h
begun_by false rest h = closed_gives rest h

opens_at_gives : (left : List Item) → GivesBytes left → GivesBytes (opens_at left).1
opens_at_gives [] h = tt
opens_at_gives (item ∷ rest) h = begun_by (begins item) rest h.1

pub opens_gives : (left : List Item) → GivesBytes left → GivesBytes (opens left).1
opens_gives left h = opens_at_gives (closed left) (closed_gives left h)

next_by : (b : Bool) (item : Item) (rest : List Item) → GivesBytes (item ∷ rest) → GivesBytes (next rest) → GivesBytes (cond b (next rest) (item ∷ rest))
next_by true item rest h k = k
next_by false item rest h k = h

next_gives : (left : List Item) → GivesBytes left → GivesBytes (next left)
next_gives [] h = tt
next_gives (item ∷ rest) h = next_by (is_used item) item rest h (next_gives rest h.1)

none_bytes : AreBytes []
none_bytes i = omega arith

of_gives : (space : ℕ) (item : Item) (rest : List Item) → GivesBytes (item ∷ rest) → GivesBytes (hears_of space item rest).1
of_gives space items.Open rest h = h
of_gives space items.Refuse rest h = h
of_gives space (items.Room count) rest h = h
of_gives space (items.Hear bytes) rest h = (bytes_drop (min (length bytes) space) bytes h.0, h.1)
of_gives space (items.Quiet count) rest h = (none_bytes, h.1)
of_gives space items.End rest h = h.1
of_gives space items.Fail rest h = h.1

at_gives : (space : ℕ) (left : List Item) → GivesBytes left → GivesBytes (hears_at space left).1
at_gives space [] h = tt
at_gives space (item ∷ rest) h = of_gives space item rest h

pub hears_gives : (space : ℕ) (left : List Item) → GivesBytes left → GivesBytes (hears space left).1
hears_gives space left h = at_gives space (next left) (next_gives left h)

bytes_at_gives : (left : List Item) → GivesBytes left → AreBytes (bytes_at left)
bytes_at_gives [] h = none_bytes
bytes_at_gives (item ∷ rest) h = h.0

-- the front of what comes next
pub present_gives : (n : ℕ) (left : List Item) → GivesBytes left → AreBytes (take n (present left))
present_gives n left h = bytes_take n (present left) (bytes_at_gives (next left) (next_gives left h))
