-- What bytes read as, as functions from lists of bytes. A reading that stops says at which item, by how many bytes are
-- left of the message there.
use Rattle.std.specs.Prelude.{ℕ, zero, suc, ◌+◌, ◌-◌, ◌/◌, ◌%◌, Bool, true, false, ◌&&◌, ◌||◌, not, ◌==◌, nat_lt, nat_le, List, [], ◌∷◌, ◌++◌, length, take, drop, Option, Some, None, Result, Ok, Err, is_some, if◌then◌else◌, ◌≡◌}
use Rattle.std.specs.Int.{from_be_bytes, Width, w16, w32, w64, byte_len}
use Rattle.std.specs.Option.{option_map}
use Rattle.std.specs.Str.{is_utf8}
use Rattle.stream_blocks.specs.declared.fault.Stop.{Stop}
use Rattle.stream_blocks.specs.declared.fault.Stop.TheVariants as s
use Rattle.stream_blocks.specs.declared.fault.CborFault.{CborFault}
use Rattle.stream_blocks.specs.declared.fault.CborFault.TheVariants as faults
use Rattle.stream_blocks.specs.declared.fields.Fields.{Fields}
use Rattle.stream_blocks.specs.declared.keys.Form.{Form}
use Rattle.stream_blocks.specs.declared.keys.Form.TheVariants as forms
use Rattle.stream_blocks.specs.declared.keys.Key.{Key}
use Rattle.stream_blocks.specs.declared.keys.Key.TheVariants as k

-- Seen by view, an answer is the reading.
abbrev pub Reads : {X Y : Type 0} → (X → Y) → Option X → Option Y → Type 0
Reads view (Some x) read = read ≡ Some (view x)
Reads view None read = read ≡ None

abbrev pub Gives : {X Y E : Type 0} → (X → Y) → Result X E → Result Y E → Type 0
Gives view (Ok x) read = read ≡ Ok (view x)
Gives view (Err e) read = read ≡ Err e

-- what a reading leads to, where there is one
infixl 10 ◌>>=◌
abbrev pub ◌>>=◌ : {A B E : Type 0} → Result A E → (A → Result B E) → Result B E
(Ok x) >>= next = next x
(Err e) >>= next = Err e

-- Bad at the item that these bytes begin
abbrev pub bad : {A : Type 0} → List ℕ → Result A Stop
bad bytes = Err (s.Bad (length bytes))

-- what was read, or Bad at these bytes
abbrev pub or_bad : {A : Type 0} → List ℕ → Option A → Result A Stop
or_bad bytes None = bad bytes
or_bad bytes (Some x) = Ok x

-- ---- Heads (RFC 8949, section 3)

abbrev pub number_at : Width → List ℕ → Option (ℕ × List ℕ)
number_at w bytes = if nat_lt (length bytes) (byte_len w) then None else Some (from_be_bytes w (take (byte_len w) bytes), drop (byte_len w) bytes)

unfoldable pub byte_at : List ℕ → Option (ℕ × List ℕ)
byte_at [] = None
byte_at (b ∷ rest) = Some (b, rest)

-- the argument that the low five bits of the first byte name, and the bytes behind it
unfoldable pub argument_at : ℕ → List ℕ → Option (ℕ × List ℕ)
argument_at info bytes =
    if nat_lt info 24 then Some (info, bytes)
    else if info == 24 then byte_at bytes
    else if info == 25 then number_at w16 bytes
    else if info == 26 then number_at w32 bytes
    else if info == 27 then number_at w64 bytes
    else None

-- a head of this major type: its argument, and the bytes behind
unfoldable pub head_at : ℕ → List ℕ → Option (ℕ × List ℕ)
head_at major [] = None
head_at major (b ∷ bytes) = if b / 32 == major then argument_at (b % 32) bytes else None

-- ---- Strings

-- text is UTF-8
abbrev pub is_content : ℕ → List ℕ → Bool
is_content major content = not (major == 3) || is_utf8 content

-- as many bytes as the head says, and what is behind
unfoldable pub counted : ℕ → ℕ → List ℕ → Option (List ℕ × List ℕ)
counted major n bytes =
    if nat_lt (length bytes) n then None
    else if is_content major (take n bytes) then Some (take n bytes, drop n bytes)
    else None

abbrev pub counted_behind : ℕ → Option (ℕ × List ℕ) → Option (List ℕ × List ℕ)
counted_behind major None = None
counted_behind major (Some head) = counted major head.0 head.1

-- a string of definite length: its content, and the bytes behind
unfoldable pub piece_at : ℕ → List ℕ → Option (List ℕ × List ℕ)
piece_at major bytes = counted_behind major (head_at major bytes)

-- the bytes behind a break, where one stands here (section 3.2.1)
unfoldable pub break_at : List ℕ → Option (List ℕ)
break_at [] = None
break_at (b ∷ bytes) = if b == 255 then Some bytes else None

-- the end, where it is here, or what is read on
abbrev pub or_else : {A E : Type 0} → Option A → Result A E → Result A E
or_else (Some end) others = Ok end
or_else None others = others

-- chunks up to the break, at most so many; the bytes behind it
unfoldable pub chunks_end : ℕ → ℕ → List ℕ → Result (List ℕ) Stop
chunks_end major zero bytes = bad bytes
chunks_end major (suc most) bytes =
    or_else (break_at bytes) (or_bad bytes (piece_at major bytes) >>= λ piece. chunks_end major most piece.1)

-- the bytes behind the first byte of a string of indefinite length
unfoldable pub chunks_at : ℕ → List ℕ → Option (List ℕ)
chunks_at major [] = None
chunks_at major (b ∷ bytes) = if (b / 32 == major) && (b % 32 == 31) then Some bytes else None

-- in chunks, or of definite length
abbrev pub end_by : ℕ → List ℕ → Option (List ℕ) → Result (List ℕ) Stop
end_by major bytes (Some chunks) = chunks_end major (length chunks + 1) chunks
end_by major bytes None = or_bad bytes (piece_at major bytes) >>= λ piece. Ok piece.1

-- the bytes behind a string
unfoldable pub string_end : ℕ → List ℕ → Result (List ℕ) Stop
string_end major bytes = end_by major bytes (chunks_at major bytes)

-- what a piece holds, and what the bytes behind it hold
abbrev pub with_more : Option (List ℕ × List ℕ) → (List ℕ → List ℕ) → List ℕ
with_more None more = []
with_more (Some piece) more = piece.0 ++ more piece.1

-- what byte strings of definite length hold, at most so many of them, up to the first item that is none
unfoldable pub pieces_content : ℕ → List ℕ → List ℕ
pieces_content zero bytes = []
pieces_content (suc most) bytes = with_more (piece_at 2 bytes) (λ rest. pieces_content most rest)

abbrev pub content_by : List ℕ → Option (List ℕ) → List ℕ
content_by bytes (Some chunks) = pieces_content (length chunks + 1) chunks
content_by bytes None = with_more (piece_at 2 bytes) (λ rest. [])

-- what the byte string holds that these bytes begin
unfoldable pub content_of : List ℕ → List ℕ
content_of bytes = content_by bytes (chunks_at 2 bytes)

-- ---- Values

abbrev pub rest_of : Option (ℕ × List ℕ) → Option (List ℕ)
rest_of head = option_map (λ x. x.1) head

-- the bytes behind a value that isn't wanted
unfoldable pub value_end : List ℕ → Result (List ℕ) Stop
value_end [] = bad []
value_end (b ∷ bytes) =
    if nat_lt b 32 then or_bad (b ∷ bytes) (rest_of (head_at 0 (b ∷ bytes)))
    else if nat_lt b 64 then or_bad (b ∷ bytes) (rest_of (head_at 1 (b ∷ bytes)))
    else if nat_lt b 96 then string_end 2 (b ∷ bytes)
    else if nat_lt b 128 then string_end 3 (b ∷ bytes)
    else if nat_le 244 b && nat_le b 246 then Ok bytes
    else bad (b ∷ bytes)

-- ---- Keys

-- the letter that a key is
abbrev pub letter_of : List ℕ → Option ℕ
letter_of [] = None
letter_of (b ∷ []) = Some b
letter_of (b ∷ c ∷ bytes) = None

unfoldable pub block_key : ℕ → Option Key
block_key b =
    if b == 102 then Some k.File
    else if b == 105 then Some k.Index
    else if b == 108 then Some k.Size
    else if b == 112 then Some k.Payload
    else None

unfoldable pub request_key : ℕ → Option Key
request_key b =
    if b == 99 then Some k.Token
    else if b == 102 then Some k.File
    else if b == 108 then Some k.Size
    else if b == 111 then Some k.Offset
    else if b == 110 then Some k.Count
    else if b == 98 then Some k.Bitmap
    else None

abbrev pub key_in : Form → Option ℕ → Option Key
key_in form None = None
key_in forms.Block (Some b) = block_key b
key_in forms.Request (Some b) = request_key b

-- the wanted key of a message that this text is
abbrev pub wanted : Form → List ℕ → Option Key
wanted form key = key_in form (letter_of key)

abbrev pub letter : Key → ℕ
letter k.File = 102
letter k.Index = 105
letter k.Size = 108
letter k.Offset = 111
letter k.Count = 110
letter k.Payload = 112
letter k.Bitmap = 98
letter k.Token = 99

-- ---- Members of a map

-- What was found so far. Of a byte string this is how many bytes of the message there are from its head on. `too_big`
-- is the first key by place whose value a request can't have.
abbrev pub nothing : Fields
nothing = record { file = None; index = None; size = None; offset = None; count = None; payload = None; bitmap = None; has_token = false; too_big = None }

abbrev pub has : Key → Fields → Bool
has k.File found = is_some found.file
has k.Index found = is_some found.index
has k.Size found = is_some found.size
has k.Offset found = is_some found.offset
has k.Count found = is_some found.count
has k.Payload found = is_some found.payload
has k.Bitmap found = is_some found.bitmap
has k.Token found = found.has_token

-- the first key that is too big, behind one more
abbrev pub first_big : Option ℕ → Bool → Key → Option ℕ
first_big (Some big) is_big key = Some big
first_big None is_big key = if is_big then Some (letter key) else None

abbrev pub noted : Fields → Bool → Key → Fields
noted found is_big key = record found { too_big = first_big found.too_big is_big key }

abbrev pub noted_number : Fields → ℕ → Key → Fields
noted_number found n key = noted found (nat_lt 4294967295 n) key

abbrev pub with_number : Key → ℕ → Fields → Fields
with_number k.File n found = record (noted_number found n k.File) { file = Some n }
with_number k.Index n found = record found { index = Some n }
with_number k.Size n found = record (noted_number found n k.Size) { size = Some n }
with_number k.Offset n found = record (noted_number found n k.Offset) { offset = Some n }
with_number k.Count n found = record (noted_number found n k.Count) { count = Some n }
with_number k.Payload n found = found
with_number k.Bitmap n found = found
with_number k.Token n found = found

-- the number that a key wants
unfoldable pub number_for : Key → Fields → List ℕ → Result (Fields × List ℕ) Stop
number_for key found bytes = do
  n ← or_bad bytes (head_at 0 bytes)
  Ok (with_number key n.0 found, n.1)

unfoldable pub payload_for : Fields → List ℕ → Result (Fields × List ℕ) Stop
payload_for found bytes = do
  rest ← string_end 2 bytes
  Ok (record found { payload = Some (length bytes) }, rest)

unfoldable pub bitmap_for : Fields → List ℕ → Result (Fields × List ℕ) Stop
bitmap_for found bytes = do
  rest ← string_end 2 bytes
  Ok (record (noted found (nat_lt 32 (length (content_of bytes))) k.Bitmap) { bitmap = Some (length bytes) }, rest)

unfoldable pub token_for : Fields → List ℕ → Result (Fields × List ℕ) Stop
token_for found bytes = do
  rest ← string_end 3 bytes
  Ok (record found { has_token = true }, rest)

-- the value of a wanted key, which is of the key's kind
abbrev pub value_for : Key → Fields → List ℕ → Result (Fields × List ℕ) Stop
value_for k.File found bytes = number_for k.File found bytes
value_for k.Index found bytes = number_for k.Index found bytes
value_for k.Size found bytes = number_for k.Size found bytes
value_for k.Offset found bytes = number_for k.Offset found bytes
value_for k.Count found bytes = number_for k.Count found bytes
value_for k.Payload found bytes = payload_for found bytes
value_for k.Bitmap found bytes = bitmap_for found bytes
value_for k.Token found bytes = token_for found bytes

-- A wanted key stands once; any other key is passed over with its value.
abbrev pub behind_key : Option Key → Fields → List ℕ → Result (Fields × List ℕ) Stop
behind_key None found bytes = value_end bytes >>= λ rest. Ok (found, rest)
behind_key (Some key) found bytes = if has key found then Err (s.Twice (letter key)) else value_for key found bytes

unfoldable pub member_at : Form → Fields → List ℕ → Result (Fields × List ℕ) Stop
member_at form found bytes = do
  key ← or_bad bytes (piece_at 3 bytes)
  behind_key (wanted form key.0) found key.1

-- ---- Maps

-- A map's head: how many members there are, or none where a break ends them; and the bytes behind.
unfoldable pub map_at : List ℕ → Option (Option ℕ × List ℕ)
map_at [] = None
map_at (b ∷ bytes) = if b == 191 then Some (None, bytes) else option_map (λ x. (Some x.0, x.1)) (head_at 5 (b ∷ bytes))

-- the bytes behind the map, where it ends here
unfoldable pub map_end : Option ℕ → List ℕ → Option (List ℕ)
map_end (Some left) bytes = if left == 0 then Some bytes else None
map_end None bytes = break_at bytes

abbrev pub one_less : Option ℕ → Option ℕ
one_less None = None
one_less (Some left) = Some (left - 1)

-- the members that are left, at most so many
unfoldable pub members_in : Form → ℕ → Option ℕ → Fields → List ℕ → Result (Fields × List ℕ) Stop
members_in form zero left found bytes = bad bytes
members_in form (suc most) left found bytes =
    or_else (option_map (λ rest. (found, rest)) (map_end left bytes)) (member_at form found bytes >>= λ x. members_in form most (one_less left) x.0 x.1)

-- nothing stands behind the map
abbrev pub whole : Fields × List ℕ → Result Fields Stop
whole x = if length x.1 == 0 then Ok x.0 else bad x.1

unfoldable pub map_of : Form → List ℕ → Result Fields Stop
map_of form bytes = do
  map ← or_bad bytes (map_at bytes)
  found ← members_in form (length map.1 + 1) map.0 nothing map.1
  whole found

-- ---- Messages

-- where a reading of a message stopped
abbrev pub fault_of : ℕ → Stop → CborFault
fault_of len (s.Bad left) = faults.Bad (len - left)
fault_of len (s.Twice key) = faults.Twice key

abbrev pub placed : {A : Type 0} → ℕ → Result A Stop → Result A CborFault
placed len (Ok x) = Ok x
placed len (Err stop) = Err (fault_of len stop)

abbrev pub found_in : Form → List ℕ → Result Fields CborFault
found_in form message = placed (length message) (map_of form message)

-- a value that must be there
abbrev pub needed : {A : Type 0} → Key → Option A → Result A CborFault
needed key None = Err (faults.Missing (letter key))
needed key (Some x) = Ok x

-- what the byte string holds whose head has so many bytes of the message from there on
abbrev pub content_at : List ℕ → ℕ → List ℕ
content_at message left = content_of (drop (length message - left) message)

-- a data message, whose payload may have so many bytes: file, index, payload
unfoldable pub block_of : ℕ → List ℕ → Result (ℕ × ℕ × List ℕ) CborFault
block_of room message = do
  found ← found_in forms.Block message
  file ← needed k.File found.file
  index ← needed k.Index found.index
  size ← needed k.Size found.size
  payload ← needed k.Payload found.payload
  if nat_lt room (length (content_at message payload)) then Err (faults.TooBig (letter k.Payload)) else Ok (file, index, content_at message payload)

-- what a request says: file, block size, offset, number of blocks, bitmap
abbrev pub Asked : Type 0
Asked = ℕ × ℕ × ℕ × ℕ × List ℕ

-- TooBig at the first key by place, where there is one
abbrev pub unless_big : {A : Type 0} → Option ℕ → Result A CborFault → Result A CborFault
unless_big None others = others
unless_big (Some key) others = Err (faults.TooBig key)

-- a number of 32 bits
abbrev pub narrow : Key → ℕ → Result ℕ CborFault
narrow key n = if nat_lt 4294967295 n then Err (faults.TooBig (letter key)) else Ok n

-- at most 32 bytes
abbrev pub short : Key → List ℕ → Result (List ℕ) CborFault
short key content = if nat_lt 32 (length content) then Err (faults.TooBig (letter key)) else Ok content

unfoldable pub asked_of : ℕ → ℕ → ℕ → ℕ → List ℕ → Result Asked CborFault
asked_of file size offset count bitmap = do
  file ← narrow k.File file
  size ← narrow k.Size size
  offset ← narrow k.Offset offset
  count ← narrow k.Count count
  bitmap ← short k.Bitmap bitmap
  Ok (file, size, offset, count, bitmap)

unfoldable pub request_of : List ℕ → Result Asked CborFault
request_of message = do
  found ← found_in forms.Request message
  file ← needed k.File found.file
  size ← needed k.Size found.size
  offset ← needed k.Offset found.offset
  count ← needed k.Count found.count
  bitmap ← needed k.Bitmap found.bitmap
  unless_big found.too_big (asked_of file size offset count (content_at message bitmap))
