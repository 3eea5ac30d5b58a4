-- The tape of a broker: what each connection gives and takes, line by line.
use Rattle.std.specs.Prelude.{ℕ, ◌+◌, Bool, true, false, ◌&&◌, nat_le, List, [], ◌∷◌, length, Option, Some, None, Result, Ok, Err, if◌then◌else◌, codes}
use Rattle.std.specs.Option.{option_map}
use Rattle.std.specs.Str.{bytes_eq}
use Rattle.plain_text.specs.Lines.{lines_of, is_passed}
use Rattle.plain_text.specs.Words.{word_at, last_at}
use Rattle.plain_text.specs.Payloads.{payload_of}
use Rattle.plain_text.specs.Reading.{◌>>=◌}
use Rattle.plain_text.specs.Numbers.{number_in}
use Rattle.broker_tape.specs.declared.tape.Item.{Item}
use Rattle.broker_tape.specs.declared.tape.Item.TheVariants as items
use Rattle.broker_tape.specs.declared.tape.Place.{Place}
use Rattle.broker_tape.specs.declared.tape.Place.TheVariants.{Between, Begun, Within}

-- `hear` HEX: 1 to 4,096 bytes, as pairs of hexadecimal digits
unfoldable pub hear_of : List ℕ → Option Item
hear_of word = payload_of word >>= λ bytes. if nat_le 1 (length bytes) && nat_le (length bytes) 4096 then Some (items.Hear bytes) else None

-- `room` N, 0 to 1,000,000,000
unfoldable pub room_of : List ℕ → Option Item
room_of word = option_map items.Room (number_in 0 1000000000 word)

-- `quiet` N, 1 to 1,000,000,000
unfoldable pub quiet_of : List ℕ → Option Item
quiet_of word = option_map items.Quiet (number_in 1 1000000000 word)

-- a line of two words, where a connection may still say how much it takes
abbrev pub counted_item : Bool → List ℕ → List ℕ → Option Item
counted_item begun verb word =
    if bytes_eq verb (codes "hear") then hear_of word
    else if bytes_eq verb (codes "quiet") then quiet_of word
    else if begun && bytes_eq verb (codes "room") then room_of word
    else None

abbrev pub by_words : Bool → Option (List ℕ × List ℕ) → Option Item
by_words begun None = None
by_words begun (Some words) = last_at words.1 >>= λ word. counted_item begun words.0 word

-- what a line is within a connection
unfoldable pub connection_item : Bool → List ℕ → Option Item
connection_item begun line =
    if bytes_eq line (codes "open") then Some items.Open
    else if bytes_eq line (codes "end") then Some items.End
    else if bytes_eq line (codes "fail") then Some items.Fail
    else by_words begun (word_at line)

-- what a line is where no connection is there: `fail` is then an opening that fails
unfoldable pub opening_item : List ℕ → Option Item
opening_item line =
    if bytes_eq line (codes "open") then Some items.Open
    else if bytes_eq line (codes "fail") then Some items.Refuse
    else None

-- what the line is at this place of a tape, where it may stand there: `room` stands directly behind `open` alone
abbrev pub item_in : Place → List ℕ → Option Item
item_in Between line = opening_item line
item_in Begun line = connection_item true line
item_in Within line = connection_item false line

-- the place behind an item
abbrev pub place_behind : Item → Place
place_behind items.Open = Begun
place_behind items.Refuse = Between
place_behind (items.Room count) = Within
place_behind (items.Hear bytes) = Within
place_behind (items.Quiet count) = Within
place_behind items.End = Between
place_behind items.Fail = Between

abbrev pub onto_items : Item → Result (List Item) ℕ → Result (List Item) ℕ
onto_items item (Ok items) = Ok (item ∷ items)
onto_items item (Err n) = Err n

-- the item, and those that follow at the place behind it
abbrev pub item_or_line : ℕ → Option Item → (Place → Result (List Item) ℕ) → Result (List Item) ℕ
item_or_line n None rest = Err n
item_or_line n (Some item) rest = onto_items item (rest (place_behind item))

-- the items of these lines, of which the first has number n, or the first bad line
unfoldable pub tape_from : Place → ℕ → List (List ℕ) → Result (List Item) ℕ
tape_from place n [] = Ok []
tape_from place n (line ∷ lines) = if is_passed line then tape_from place (n + 1) lines else item_or_line n (item_in place line) (λ behind. tape_from behind (n + 1) lines)

-- a whole tape
abbrev pub tape_in : List (List ℕ) → Result (List Item) ℕ
tape_in lines = tape_from Between 1 lines

abbrev pub tape_of : List ℕ → Result (List Item) ℕ
tape_of text = tape_in (lines_of text)
