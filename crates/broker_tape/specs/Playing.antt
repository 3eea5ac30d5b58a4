-- A link that a tape plays: what each call answers, and what it leaves.
use Rattle.std.specs.Prelude.{ℕ, ◌-◌, ◌==◌, min, Bool, true, false, List, [], ◌∷◌, length, drop, Option, Some, None, if◌then◌else◌}
use Rattle.broker_tape.specs.declared.tape.Item.{Item}
use Rattle.broker_tape.specs.declared.tape.Item.TheVariants as items
use Rattle.agent_link.specs.declared.link.Heard.{Heard}
use Rattle.agent_link.specs.declared.link.Heard.TheVariants as heard
use Rattle.agent_link.specs.Counts.{LinkCounts}

pub record Playing : Type 0 where
  -- the items that are left
  pub left : List Item
  -- how many bytes the present connection still takes, where that is bounded; none where there is no connection
  pub room : Option ℕ
  -- what each connection took and gave, the present one last
  pub taken : List (List ℕ)
  pub given : List (List ℕ)
  pub faults : ℕ
  pub ends : ℕ
  pub nothings : ℕ

-- what it has counted
abbrev pub counts : Playing → LinkCounts
counts p = record { faults = p.faults; ends = p.ends; nothings = p.nothings }

-- a tape that wasn't begun
abbrev pub unplayed : List Item → Playing
unplayed items = record { left = items; room = Some 0; taken = []; given = []; faults = 0; ends = 0; nothings = 0 }

abbrev pub is_opening : Item → Bool
is_opening items.Open = true
is_opening items.Refuse = true
is_opening _ = false

-- Up to the next opening: what a connection left unused is gone.
abbrev pub closed : List Item → List Item
closed [] = []
closed (item ∷ rest) = if is_opening item then item ∷ rest else closed rest

abbrev pub begins : Item → Bool
begins items.Open = true
begins _ = false

abbrev pub opens_by : Bool → List Item → Bool × List Item
opens_by true rest = (true, rest)
opens_by false rest = (false, closed rest)

abbrev pub opens_at : List Item → Bool × List Item
opens_at [] = (false, [])
opens_at (item ∷ rest) = opens_by (begins item) rest

-- Whether an opening begins a connection, and what is left then. It fails at a `fail`, and where there is no further one;
-- the tape then stands at its next opening.
abbrev pub opens : List Item → Bool × List Item
opens left = opens_at (closed left)

abbrev pub room_in : Item → Option ℕ
room_in (items.Room count) = Some count
room_in _ = None

-- how many bytes a connection takes that begins with these items, where that is bounded
abbrev pub room_at : List Item → Option ℕ
room_at [] = None
room_at (item ∷ rest) = room_in item

-- how many of so many bytes are taken
abbrev pub fitting : Option ℕ → ℕ → ℕ
fitting None count = count
fitting (Some room) count = min room count

-- the room that so many bytes leave
abbrev pub room_behind : Option ℕ → ℕ → Option ℕ
room_behind None count = None
room_behind (Some room) count = Some (room - count)

abbrev pub is_empty : List ℕ → Bool
is_empty [] = true
is_empty (b ∷ bytes) = false

-- what a receive passes over: a room, and what was played to its end
abbrev pub is_used : Item → Bool
is_used (items.Room count) = true
is_used (items.Hear bytes) = is_empty bytes
is_used (items.Quiet count) = count == 0
is_used _ = false

-- from the item on that a receive meets
abbrev pub next : List Item → List Item
next [] = []
next (item ∷ rest) = if is_used item then next rest else item ∷ rest

abbrev pub hears_of : ℕ → Item → List Item → Option Heard × List Item
hears_of space items.Open rest = (Some heard.End, items.Open ∷ rest)
hears_of space items.Refuse rest = (Some heard.End, items.Refuse ∷ rest)
hears_of space (items.Room count) rest = (Some heard.End, items.Room count ∷ rest)
hears_of space (items.Hear bytes) rest = (Some (heard.Bytes (min (length bytes) space)), items.Hear (drop (min (length bytes) space) bytes) ∷ rest)
hears_of space (items.Quiet count) rest = (Some heard.Nothing, items.Quiet (count - 1) ∷ rest)
hears_of space items.End rest = (Some heard.End, rest)
hears_of space items.Fail rest = (None, rest)

abbrev pub hears_at : ℕ → List Item → Option Heard × List Item
hears_at space [] = (Some heard.End, [])
hears_at space (item ∷ rest) = hears_of space item rest

-- What a receive into so many bytes answers, where it doesn't fail, and what is left. Behind the last item of a connection
-- it is at its end.
abbrev pub hears : ℕ → List Item → Option Heard × List Item
hears space left = hears_at space (next left)

abbrev pub bytes_of : Item → List ℕ
bytes_of (items.Hear bytes) = bytes
bytes_of _ = []

abbrev pub bytes_at : List Item → List ℕ
bytes_at [] = []
bytes_at (item ∷ rest) = bytes_of item

-- the bytes that come next
abbrev pub present : List Item → List ℕ
present left = bytes_at (next left)

-- an item of which so much was played
abbrev pub played_to : ℕ → Item → Item
played_to k items.Open = items.Open
played_to k items.Refuse = items.Refuse
played_to k (items.Room count) = items.Room count
played_to k (items.Hear bytes) = items.Hear (drop k bytes)
played_to k (items.Quiet count) = items.Quiet (count - k)
played_to k items.End = items.End
played_to k items.Fail = items.Fail

-- the items that are left where so much of the first was played
abbrev pub advance : ℕ → List Item → List Item
advance k [] = []
advance k (item ∷ rest) = played_to k item ∷ rest
