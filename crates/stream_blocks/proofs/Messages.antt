-- Data messages and requests of the grammar are the bytes that read as one.
use Rattle.std.proofs.Common.{◌≡◌, ℕ, ◌+◌, ◌-◌, ◌^◌, ◌<◌, ◌≤◌, cond, List, [], ◌∷◌, ◌++◌, length, drop, Option, Some, None, Result, Ok, Err, refl, sym, ap, subst, ◌∙◌, arith, inl, inr, ⊎_elim}
use Rattle.std.specs.Prelude.{◌==◌, nat_lt}
use Rattle.std.specs.Option.{option_map}
use Rattle.std.proofs.lemmas.Bool.{le-ltb, ltb-false, eqb-true, ne_eqb}
use Rattle.std.proofs.lemmas.List.{append-nil, nil_from_length}
use Rattle.stream_blocks.specs.declared.fault.Stop.{Stop}
use Rattle.stream_blocks.specs.declared.fault.CborFault.{CborFault}
use Rattle.stream_blocks.specs.declared.fault.CborFault.TheVariants as faults
use Rattle.stream_blocks.specs.declared.fields.Fields.{Fields}
use Rattle.stream_blocks.specs.declared.keys.Form.{Form}
use Rattle.stream_blocks.specs.declared.keys.Form.TheVariants as forms
use Rattle.stream_blocks.specs.declared.keys.Key.{Key}
use Rattle.stream_blocks.specs.declared.keys.Key.TheVariants as k
use Rattle.stream_blocks.specs.Grammar.{AreBytes, IsHead, IsUnsigned, IsBytes, IsText, Member, AreMembers, IsMap, MayHaveOne, IsBlock, IsRequest}
use Rattle.stream_blocks.specs.Reading.{◌>>=◌, or_bad, head_at, content_of, block_key, request_key, letter, nothing, map_at, members_in, whole, map_of, placed, found_in, needed, content_at, block_of, Asked, unless_big, narrow, short, asked_of, request_of}
use Rattle.stream_blocks.specs.Laws.{BlocksAreRead, RequestsAreRead}
use Rattle.stream_blocks.proofs.Backward.{read_with, read_parts, some_is, split, Begins, bytes_behind, head_back}
use Rattle.stream_blocks.proofs.Relation.{Heads, heads, heads_are_read, strings_are_read}
use Rattle.stream_blocks.proofs.ReadBack.{tail_is}
use Rattle.stream_blocks.proofs.Slots.{slot, nothing_slot, IsWanted, Kept, IsFew, one_number, one_content}
use Rattle.stream_blocks.proofs.Maps.{IsTail, valued, From, Fits, AllFew, closing, IsCount, told, Read, members_are_read}

-- ---- Step by step

bind_ok : {A B E : Type 0} (r : Result A E) (f : A → Result B E) (y : B) → (r >>= f) ≡ Ok y → (x : A) × (r ≡ Ok x) × (f x ≡ Ok y)
bind_ok (Ok x) f y e = (x, refl, e)
bind_ok (Err stop) f y e = absurd cc

or_bad_ok : {A : Type 0} (bytes : List ℕ) (item : Option A) (x : A) → or_bad bytes item ≡ Ok x → item ≡ Some x
or_bad_ok bytes None x e = absurd cc
or_bad_ok bytes (Some y) x e = cc

needed_ok : {A : Type 0} (key : Key) (value : Option A) (x : A) → needed key value ≡ Ok x → value ≡ Some x
needed_ok key None x e = absurd cc
needed_ok key (Some y) x e = cc

placed_ok : {A : Type 0} (len : ℕ) (r : Result A Stop) (x : A) → placed len r ≡ Ok x → r ≡ Ok x
placed_ok len (Ok y) x e = cc
placed_ok len (Err stop) x e = absurd cc

whole_ok : (x : Fields × List ℕ) (found : Fields) → whole x ≡ Ok found → (x.0 ≡ found) × (x.1 ≡ [])
whole_ok x found e =
    ⊎_elim (λ t. let same : x.0 ≡ found = (let e = t.1 in cc) in (same, nil_from_length x.1 (eqb-true (length x.1) 0 t.0))) (λ f. absurd (let no = f.1 in cc)) (split (length x.1 == 0) (Ok x.0) _ (Ok found) e)

-- ---- Maps

-- the head of a map of so many members, or of one that a break ends
abbrev IsOpen : Option ℕ → List ℕ → Type 0
IsOpen None head = head ≡ 191 ∷ []
IsOpen (Some n) head = IsHead 5 head n

abbrev with_count : ℕ × List ℕ → Option ℕ × List ℕ
with_count x = (Some x.0, x.1)

opened_by : (left : Option ℕ) (bytes inside : List ℕ) (head : Option (ℕ × List ℕ)) → AreBytes bytes → head_at 5 bytes ≡ head → option_map with_count head ≡ read_with left inside → Begins (IsOpen left) bytes inside
opened_by left bytes inside None are h e = absurd cc
opened_by left bytes inside (Some head) are h e =
    let p = read_parts (Some head.0) left head.1 inside e in
    let b = head_back 5 head.0 bytes head.1 are h in
    subst (λ (l : Option ℕ). Begins (IsOpen l) bytes inside) p.0 (record { item = b.item; parts = b.parts ∙ ap (λ (t : List ℕ). b.item ++ t) p.1; is = b.is })

opened : (left : Option ℕ) (bytes inside : List ℕ) → AreBytes bytes → map_at bytes ≡ read_with left inside → Begins (IsOpen left) bytes inside
unfolding map_at
opened left [] inside are e = absurd cc
opened left (b ∷ bytes) inside are e =
    ⊎_elim
    (λ t. let p = read_parts None left bytes inside t.1 in
    subst (λ (l : Option ℕ). Begins (IsOpen l) (b ∷ bytes) inside) p.0
    (record { item = 191 ∷ []; parts = ap (λ (n : ℕ). n ∷ bytes) (eqb-true b 191 t.0) ∙ ap (λ (t : List ℕ). 191 ∷ t) p.1; is = refl }))
    (λ f. opened_by left (b ∷ bytes) inside (head_at 5 (b ∷ bytes)) are refl f.1)
    (split (b == 191) (read_with None bytes) (option_map with_count (head_at 5 (b ∷ bytes))) (read_with left inside) e)

as_map : (left : Option ℕ) (ms : List Member) (message head inside : List ℕ) → IsOpen left head → message ≡ head ++ (inside ++ closing left []) → IsCount left (length ms) → AreMembers ms inside → IsMap ms message
as_map None ms message head inside opens e count are = inr (inside, e ∙ ap (λ (t : List ℕ). t ++ (inside ++ 255 ∷ [])) opens, are)
as_map (Some n) ms message head inside opens e count are =
    inl (head, inside, e ∙ ap (λ (t : List ℕ). head ++ t) (append-nil inside), subst (λ (n : ℕ). IsHead 5 head n) (sym count) opens, are)

-- The map that a message is, and what was found of each key.
record Says (form : Form) (message : List ℕ) (found : Fields) : Type 0 where
  ms : List Member
  map : IsMap ms message
  keys : (key : Key) → IsWanted form key → From message key None ms (slot key found)

says_by : (form : Form) (message : List ℕ) (left : Option ℕ) (bytes : List ℕ) (new found : Fields) (rest : List ℕ) → AreBytes message → map_at message ≡ read_with left bytes
    → members_in form (length bytes + 1) left nothing bytes ≡ Ok (new, rest) → new ≡ found → rest ≡ [] → Says form message found
says_by form message left bytes new found rest are at read same end =
    let first = opened left message bytes are at in
    let t = told form message (length bytes + 1) left nothing new bytes rest (bytes_behind first.item bytes message first.parts are) (first.item, first.parts) read in
    record {
      ms = t.ms;
      map = as_map left t.ms message first.item t.inside first.is (first.parts ∙ ap (λ (x : List ℕ). first.item ++ x) (t.parts ∙ ap (λ (x : List ℕ). t.inside ++ closing left x) end)) t.count t.are;
      keys = λ key is. subst (λ (x : Option ℕ). From message key x t.ms (slot key found)) (nothing_slot key) (subst (λ (f : Fields). From message key (slot key nothing) t.ms (slot key f)) same (t.keys key is));
    }

says : (form : Form) (message : List ℕ) (found : Fields) → AreBytes message → found_in form message ≡ Ok found → Says form message found
unfolding map_of
says form message found are e =
    let m = bind_ok (or_bad message (map_at message)) _ found (placed_ok (length message) (map_of form message) found e) in
    let x = bind_ok (members_in form (length m.0.1 + 1) m.0.0 nothing m.0.1) whole found m.2 in
    let w = whole_ok x.0 found x.2 in
    says_by form message m.0.0 m.0.1 x.0.0 found x.0.1 are (or_bad_ok message (map_at message) m.0 m.1) x.1 w.0 w.1

-- A map is read, and what is found of each key.
record Finds (form : Form) (message : List ℕ) (ms : List Member) : Type 0 where
  found : Fields
  read : map_of form message ≡ Ok found
  keys : (key : Key) → IsWanted form key → From message key None ms (slot key found)
  few : ((key : Key) → IsWanted form key → AllFew key (valued key ms)) → found.too_big ≡ None

finds_by : (form : Form) (message : List ℕ) (left : Option ℕ) (ms : List Member) (bytes : List ℕ) → map_at message ≡ read_with left bytes → Read form message left nothing ms bytes [] → Finds form message ms
unfolding map_of
finds_by form message left ms bytes at r = record {
  found = r.new;
  read = rw (at, r.read) refl;
  keys = λ key is. subst (λ (x : Option ℕ). From message key x ms (slot key r.new)) (nothing_slot key) (r.keys key is);
  few = λ few. r.few few refl;
}

map_head : (n : ℕ) (head inside : List ℕ) → (h : Heads 5 n head) → head_at 5 (head ++ inside) ≡ read_with n inside → map_at (head ++ inside) ≡ read_with (Some n) inside
unfolding map_at
map_head n head inside h e =
    let whole : head ++ inside ≡ (160 + h.info) ∷ (h.digits ++ inside) = ap (λ (t : List ℕ). t ++ inside) h.is in
    let read : head_at 5 ((160 + h.info) ∷ (h.digits ++ inside)) ≡ read_with n inside = ap (head_at 5) (sym whole) ∙ e in
    ap map_at whole ∙ rw (ne_eqb (160 + h.info) 191 (λ e. omega (arith, e, h.small)), read) refl

map_break : (inside : List ℕ) → map_at (191 ∷ inside) ≡ read_with None inside
unfolding map_at
map_break inside = refl

no_fits : (form : Form) (ms : List Member) → ((key : Key) → IsWanted form key → Fits key None ms) → (key : Key) → IsWanted form key → Fits key (slot key nothing) ms
no_fits form ms fits key is = subst (λ (x : Option ℕ). Fits key x ms) (sym (nothing_slot key)) (fits key is)

finds : (form : Form) (message : List ℕ) (ms : List Member) → IsMap ms message → ((key : Key) → IsWanted form key → Fits key None ms) → Finds form message ms
finds form message ms (inl (head, inside, e, is, are)) fits =
    let at : map_at message ≡ read_with (Some (length ms)) inside = ap map_at e ∙ map_head (length ms) head inside (heads 5 head (length ms) is) (heads_are_read 5 (length ms) head inside is) in
    let r = members_are_read form message (Some (length ms)) nothing ms inside [] refl (head, e ∙ ap (λ (t : List ℕ). head ++ t) (sym (append-nil inside))) are (no_fits form ms fits) in
    finds_by form message (Some (length ms)) ms inside at (subst (λ (t : List ℕ). Read form message (Some (length ms)) nothing ms t []) (append-nil inside) r)
finds form message ms (inr (inside, e, are)) fits =
    let at : map_at message ≡ read_with None (inside ++ 255 ∷ []) = ap map_at e ∙ map_break (inside ++ 255 ∷ []) in
    finds_by form message None ms (inside ++ 255 ∷ []) at (members_are_read form message None nothing ms inside [] tt (191 ∷ [], e) are (no_fits form ms fits))

-- ---- One key

-- The key has one value, of which this was found.
record One (message : List ℕ) (key : Key) (ms : List Member) (n : ℕ) : Type 0 where
  value : List ℕ
  behind : List ℕ
  one : valued key ms ≡ value ∷ []
  tail : IsTail message (value ++ behind)
  is : Kept key value (length (value ++ behind)) n

one_of : (message : List ℕ) (key : Key) (ms : List Member) (new : Option ℕ) (n : ℕ) → From message key None ms new → new ≡ Some n → One message key ms n
one_of message key ms new n (inl h) e = absurd (let no : None ≡ Some n = sym h.1 ∙ e in cc)
one_of message key ms new n (inr w) e =
    record { value = w.value; behind = w.behind; one = w.one; tail = w.tail; is = subst (Kept key w.value (length (w.value ++ w.behind))) (some_is w.kept n (sym w.now ∙ e)) w.is }

-- What was found of a key that has this one value.
record Got (message : List ℕ) (key : Key) (value : List ℕ) (new : Option ℕ) : Type 0 where
  behind : List ℕ
  kept : ℕ
  tail : IsTail message (value ++ behind)
  is : Kept key value (length (value ++ behind)) kept
  now : new ≡ Some kept

got_of : (message : List ℕ) (key : Key) (ms : List Member) (new : Option ℕ) (value : List ℕ) → From message key None ms new → valued key ms ≡ value ∷ [] → Got message key value new
got_of message key ms new value (inl h) e = absurd (let no : [] ≡ value ∷ [] = sym h.0 ∙ e in cc)
got_of message key ms new value (inr w) e =
    let both : w.value ∷ [] ≡ value ∷ [] = sym w.one ∙ e in
    let same : w.value ≡ value = cc in
    record {
      behind = w.behind;
      kept = w.kept;
      tail = (w.tail.0, w.tail.1 ∙ ap (λ (t : List ℕ). w.tail.0 ++ (t ++ w.behind)) same);
      is = subst (λ (t : List ℕ). Kept key t (length (t ++ w.behind)) w.kept) same w.is;
      now = w.now;
    }

-- what a byte string holds that stands here
held : (message value behind content : List ℕ) (left : ℕ) → IsTail message (value ++ behind) → left ≡ length (value ++ behind) → IsBytes value content → content_at message left ≡ content
held message value behind content left tail e is =
    ap (λ (n : ℕ). content_of (drop (length message - n) message)) e ∙ ap content_of (tail_is tail.0 (value ++ behind) message tail.1) ∙ (strings_are_read 2 value content behind (omega arith) is).1 refl

number_got : (message value : List ℕ) (key : Key) (new : Option ℕ) (n : ℕ) → (g : Got message key value new) → IsUnsigned value g.kept → IsUnsigned value n → new ≡ Some n
number_got message value key new n g is wanted = g.now ∙ ap (λ (m : ℕ). Some m) (one_number value g.kept n is wanted)

-- ---- Data messages

-- what a data message says
abbrev said : ℕ → ℕ → List ℕ → Result (ℕ × ℕ × List ℕ) CborFault
said file index payload = Ok (file, index, payload)

block_by : (room file index f i size left : ℕ) (message payload : List ℕ) (found : Fields) → Says forms.Block message found → found.file ≡ Some f → found.index ≡ Some i → found.size ≡ Some size → found.payload ≡ Some left
    → cond (nat_lt room (length (content_at message left))) (Err (faults.TooBig 112)) (said f i (content_at message left)) ≡ said file index payload → IsBlock message file index payload × (length payload ≤ room)
unfolding block_key
block_by room file index f i size left message payload found s file_is index_is size_is payload_is e =
    ⊎_elim (λ t. absurd (let no = t.1 in cc))
    (λ t. let both : (f, i, content_at message left) ≡ (file, index, payload) = (let e = t.1 in cc) in
    let same : content_at message left ≡ payload = ap (λ (x : ℕ × ℕ × List ℕ). x.2) both in
    let file_same : f ≡ file = ap (λ (x : ℕ × ℕ × List ℕ). x.0) both in
    let index_same : i ≡ index = ap (λ (x : ℕ × ℕ × List ℕ). x.1) both in
    let of = one_of message k.File s.ms found.file file (s.keys k.File refl) (file_is ∙ ap (λ (x : ℕ). Some x) file_same) in
    let at = one_of message k.Index s.ms found.index index (s.keys k.Index refl) (index_is ∙ ap (λ (x : ℕ). Some x) index_same) in
    let sized = one_of message k.Size s.ms found.size size (s.keys k.Size refl) size_is in
    let last = one_of message k.Payload s.ms found.payload left (s.keys k.Payload refl) payload_is in
    let content = held message last.value last.behind last.is.0.0 left last.tail last.is.1 last.is.0.1 in (
      (
        s.ms,
        s.map,
        (of.value, of.one, of.is),
        (at.value, at.one, at.is),
        (sized.value, sized.one, (size, sized.is)),
        (last.value, last.one, subst (IsBytes last.value) (sym content ∙ same) last.is.0.1),
      ),
      omega (arith, ap (λ (x : List ℕ). length x) same, ltb-false room (length (content_at message left)) t.0),
    ))
    (split (nat_lt room (length (content_at message left))) (Err (faults.TooBig 112)) (said f i (content_at message left)) (said file index payload) e)

block_back : (room file index : ℕ) (message payload : List ℕ) → AreBytes message → block_of room message ≡ Ok (file, index, payload) → IsBlock message file index payload × (length payload ≤ room)
unfolding block_of
block_back room file index message payload are e =
    let y : ℕ × ℕ × List ℕ = (file, index, payload) in
    let m = bind_ok (found_in forms.Block message) _ y e in
    let f = bind_ok (needed k.File m.0.file) _ y m.2 in
    let i = bind_ok (needed k.Index m.0.index) _ y f.2 in
    let l = bind_ok (needed k.Size m.0.size) _ y i.2 in
    let p = bind_ok (needed k.Payload m.0.payload) _ y l.2 in
    block_by room file index f.0 i.0 l.0 p.0 message payload m.0 (says forms.Block message m.0 are m.1) (needed_ok k.File m.0.file f.0 f.1) (needed_ok k.Index m.0.index i.0 i.1) (needed_ok k.Size m.0.size l.0 l.1)
    (needed_ok k.Payload m.0.payload p.0 p.1) p.2

block_fits : (message : List ℕ) (file index : ℕ) (payload : List ℕ) (h : IsBlock message file index payload) (key : Key) → IsWanted forms.Block key → Fits key None h.0
unfolding block_key
block_fits message file index payload h k.File is = inr (refl, h.2.0, h.2.1, (file, h.2.2))
block_fits message file index payload h k.Index is = inr (refl, h.3.0, h.3.1, (index, h.3.2))
block_fits message file index payload h k.Size is = inr (refl, h.4.0, h.4.1, h.4.2)
block_fits message file index payload h k.Offset is = absurd cc
block_fits message file index payload h k.Count is = absurd cc
block_fits message file index payload h k.Payload is = inr (refl, h.5.0, h.5.1, (payload, h.5.2))
block_fits message file index payload h k.Bitmap is = absurd cc
block_fits message file index payload h k.Token is = absurd cc

block_forth : (room file index : ℕ) (message payload : List ℕ) → IsBlock message file index payload → length payload ≤ room → block_of room message ≡ Ok (file, index, payload)
unfolding block_of block_key
block_forth room file index message payload h fits =
    let m = finds forms.Block message h.0 h.1 (block_fits message file index payload h) in
    let f = got_of message k.File h.0 m.found.file h.2.0 (m.keys k.File refl) h.2.1 in
    let i = got_of message k.Index h.0 m.found.index h.3.0 (m.keys k.Index refl) h.3.1 in
    let l = got_of message k.Size h.0 m.found.size h.4.0 (m.keys k.Size refl) h.4.1 in
    let p = got_of message k.Payload h.0 m.found.payload h.5.0 (m.keys k.Payload refl) h.5.1 in
    rw (
      m.read,
      number_got message h.2.0 k.File m.found.file file f f.is h.2.2,
      number_got message h.3.0 k.Index m.found.index index i i.is h.3.2,
      l.now,
      p.now,
      held message h.5.0 p.behind payload p.kept p.tail p.is.1 h.5.2,
      le-ltb room (length payload) fits,
    )
    refl

pub blocks_are_read : BlocksAreRead
blocks_are_read room file index message payload are = (block_back room file index message payload are, λ h. block_forth room file index message payload h.0 h.1)

-- ---- Requests

narrow_ok : (key : Key) (n m : ℕ) → narrow key n ≡ Ok m → (n ≡ m) × (m < 2 ^ 32)
narrow_ok key n m e =
    ⊎_elim (λ t. absurd (let no = t.1 in cc)) (λ f. let same : n ≡ m = (let e = f.1 in cc) in (same, omega (arith, same, ltb-false 4294967295 n f.0))) (split (nat_lt 4294967295 n) (Err (faults.TooBig (letter key))) (Ok n) (Ok m) e)

short_ok : (key : Key) (content bytes : List ℕ) → short key content ≡ Ok bytes → (content ≡ bytes) × (length bytes ≤ 32)
short_ok key content bytes e =
    ⊎_elim (λ t. absurd (let no = t.1 in cc))
    (λ f. let same : content ≡ bytes = (let e = f.1 in cc) in (same, omega (arith, ap (λ (x : List ℕ). length x) same, ltb-false 32 (length content) f.0))) (split (nat_lt 32 (length content)) (Err (faults.TooBig (letter key))) (Ok content) (Ok bytes) e)

-- the fields of a request in their ranges
record Asks (file size offset count : ℕ) (bitmap : List ℕ) (f l o n : ℕ) (b : List ℕ) : Type 0 where
  file_is : f ≡ file
  size_is : l ≡ size
  offset_is : o ≡ offset
  count_is : n ≡ count
  bitmap_is : b ≡ bitmap
  small : (file < 2 ^ 32) × (size < 2 ^ 32) × (offset < 2 ^ 32) × (count < 2 ^ 32) × (length bitmap ≤ 32)

asked_back : (file size offset count f l o n : ℕ) (bitmap b : List ℕ) → asked_of f l o n b ≡ Ok (file, size, offset, count, bitmap) → Asks file size offset count bitmap f l o n b
unfolding asked_of
asked_back file size offset count f l o n bitmap b e =
    let y : Asked = (file, size, offset, count, bitmap) in
    let one = bind_ok (narrow k.File f) _ y e in
    let two = bind_ok (narrow k.Size l) _ y one.2 in
    let three = bind_ok (narrow k.Offset o) _ y two.2 in
    let four = bind_ok (narrow k.Count n) _ y three.2 in
    let five = bind_ok (short k.Bitmap b) _ y four.2 in
    let same : (one.0, two.0, three.0, four.0, five.0) ≡ y = (let e = five.2 in cc) in
    let file_is : one.0 ≡ file = ap (λ (x : Asked). x.0) same in
    let size_is : two.0 ≡ size = ap (λ (x : Asked). x.1) same in
    let offset_is : three.0 ≡ offset = ap (λ (x : Asked). x.2) same in
    let count_is : four.0 ≡ count = ap (λ (x : Asked). x.3) same in
    let bitmap_is : five.0 ≡ bitmap = ap (λ (x : Asked). x.4) same in
    let a = narrow_ok k.File f one.0 one.1 in
    let b1 = narrow_ok k.Size l two.0 two.1 in
    let c = narrow_ok k.Offset o three.0 three.1 in
    let d = narrow_ok k.Count n four.0 four.1 in
    let last = short_ok k.Bitmap b five.0 five.1 in
    record {
      file_is = a.0 ∙ file_is;
      size_is = b1.0 ∙ size_is;
      offset_is = c.0 ∙ offset_is;
      count_is = d.0 ∙ count_is;
      bitmap_is = last.0 ∙ bitmap_is;
      small = (omega (arith, a.1, file_is), omega (arith, b1.1, size_is), omega (arith, c.1, offset_is), omega (arith, d.1, count_is), omega (arith, last.1, ap (λ (x : List ℕ). length x) bitmap_is));
    }

not_big : {A : Type 0} (big : Option ℕ) (others : Result A CborFault) (x : A) → unless_big big others ≡ Ok x → others ≡ Ok x
not_big None others x e = e
not_big (Some key) others x e = absurd cc

token_by : (message : List ℕ) (ms : List Member) (new : Option ℕ) → From message k.Token None ms new → MayHaveOne (99 ∷ []) ms (λ value. (token : List ℕ) × IsText value token)
token_by message ms new (inl h) = inl h.0
token_by message ms new (inr w) = inr (w.value, w.one, w.is)

request_by : (file size offset count : ℕ) (message bitmap : List ℕ) (found : Fields) (f l o n left : ℕ) → Says forms.Request message found → found.file ≡ Some f → found.size ≡ Some l → found.offset ≡ Some o → found.count ≡ Some n → found.bitmap ≡ Some left
    → Asks file size offset count bitmap f l o n (content_at message left) → IsRequest message file size offset count bitmap
unfolding request_key
request_by file size offset count message bitmap found f l o n left s file_is size_is offset_is count_is bitmap_is a =
    let of = one_of message k.File s.ms found.file file (s.keys k.File refl) (file_is ∙ ap (λ (x : ℕ). Some x) a.file_is) in
    let sized = one_of message k.Size s.ms found.size size (s.keys k.Size refl) (size_is ∙ ap (λ (x : ℕ). Some x) a.size_is) in
    let at = one_of message k.Offset s.ms found.offset offset (s.keys k.Offset refl) (offset_is ∙ ap (λ (x : ℕ). Some x) a.offset_is) in
    let many = one_of message k.Count s.ms found.count count (s.keys k.Count refl) (count_is ∙ ap (λ (x : ℕ). Some x) a.count_is) in
    let last = one_of message k.Bitmap s.ms found.bitmap left (s.keys k.Bitmap refl) bitmap_is in
    let content = held message last.value last.behind last.is.0.0 left last.tail last.is.1 last.is.0.1 in (
      s.ms,
      s.map,
      (of.value, of.one, of.is),
      (sized.value, sized.one, sized.is),
      (at.value, at.one, at.is),
      (many.value, many.one, many.is),
      (last.value, last.one, subst (IsBytes last.value) (sym content ∙ a.bitmap_is) last.is.0.1),
      token_by message s.ms (slot k.Token found) (s.keys k.Token refl),
    )

abbrev IsSmall : ℕ → ℕ → ℕ → ℕ → List ℕ → Type 0
IsSmall file size offset count bitmap = (file < 2 ^ 32) × (size < 2 ^ 32) × (offset < 2 ^ 32) × (count < 2 ^ 32) × (length bitmap ≤ 32)

request_back : (file size offset count : ℕ) (message bitmap : List ℕ) → AreBytes message → request_of message ≡ Ok (file, size, offset, count, bitmap)
    → IsRequest message file size offset count bitmap × IsSmall file size offset count bitmap
unfolding request_of
request_back file size offset count message bitmap are e =
    let y : Asked = (file, size, offset, count, bitmap) in
    let m = bind_ok (found_in forms.Request message) _ y e in
    let f = bind_ok (needed k.File m.0.file) _ y m.2 in
    let l = bind_ok (needed k.Size m.0.size) _ y f.2 in
    let o = bind_ok (needed k.Offset m.0.offset) _ y l.2 in
    let n = bind_ok (needed k.Count m.0.count) _ y o.2 in
    let b = bind_ok (needed k.Bitmap m.0.bitmap) _ y n.2 in
    let a = asked_back file size offset count f.0 l.0 o.0 n.0 bitmap (content_at message b.0) (not_big m.0.too_big (asked_of f.0 l.0 o.0 n.0 (content_at message b.0)) y b.2) in (
      request_by file size offset count message bitmap m.0 f.0 l.0 o.0 n.0 b.0 (says forms.Request message m.0 are m.1) (needed_ok k.File m.0.file f.0 f.1) (needed_ok k.Size m.0.size l.0 l.1)
          (needed_ok k.Offset m.0.offset o.0 o.1) (needed_ok k.Count m.0.count n.0 n.1) (needed_ok k.Bitmap m.0.bitmap b.0 b.1) a,
      a.small,
    )

token_fits : (ms : List Member) → MayHaveOne (99 ∷ []) ms (λ value. (token : List ℕ) × IsText value token) → Fits k.Token None ms
token_fits ms (inl none) = inl none
token_fits ms (inr h) = inr (refl, h.0, h.1, h.2)

request_fits : (message : List ℕ) (file size offset count : ℕ) (bitmap : List ℕ) (h : IsRequest message file size offset count bitmap) (key : Key) → IsWanted forms.Request key → Fits key None h.0
unfolding request_key
request_fits message file size offset count bitmap h k.File is = inr (refl, h.2.0, h.2.1, (file, h.2.2))
request_fits message file size offset count bitmap h k.Index is = absurd cc
request_fits message file size offset count bitmap h k.Size is = inr (refl, h.3.0, h.3.1, (size, h.3.2))
request_fits message file size offset count bitmap h k.Offset is = inr (refl, h.4.0, h.4.1, (offset, h.4.2))
request_fits message file size offset count bitmap h k.Count is = inr (refl, h.5.0, h.5.1, (count, h.5.2))
request_fits message file size offset count bitmap h k.Payload is = absurd cc
request_fits message file size offset count bitmap h k.Bitmap is = inr (refl, h.6.0, h.6.1, (bitmap, h.6.2))
request_fits message file size offset count bitmap h k.Token is = token_fits h.0 h.7

all_few : (key : Key) (values : List (List ℕ)) (value : List ℕ) → values ≡ value ∷ [] → IsFew key value → AllFew key values
all_few key values value e few = subst (AllFew key) (sym e) (few, tt)

few_number : (value : List ℕ) (n : ℕ) → IsUnsigned value n → n < 2 ^ 32 → (m : ℕ) → IsUnsigned value m → m < 2 ^ 32
few_number value n is lt m other = let e : n ≡ m = one_number value n m is other in omega (arith, e, lt)

few_bytes : (value content : List ℕ) → IsBytes value content → length content ≤ 32 → (other : List ℕ) → IsBytes value other → length other ≤ 32
few_bytes value content is short other that = let e : length content ≡ length other = ap (λ (x : List ℕ). length x) (one_content value content other is that) in omega (arith, e, short)

-- nothing is said of a token
few_token : (values : List (List ℕ)) → AllFew k.Token values
few_token [] = tt
few_token (value ∷ others) = (tt, few_token others)

request_few : (message : List ℕ) (file size offset count : ℕ) (bitmap : List ℕ) (h : IsRequest message file size offset count bitmap) → IsSmall file size offset count bitmap → (key : Key) → IsWanted forms.Request key → AllFew key (valued key h.0)
unfolding request_key
request_few message file size offset count bitmap h s k.File is = all_few k.File (valued k.File h.0) h.2.0 h.2.1 (few_number h.2.0 file h.2.2 s.0)
request_few message file size offset count bitmap h s k.Index is = absurd cc
request_few message file size offset count bitmap h s k.Size is = all_few k.Size (valued k.Size h.0) h.3.0 h.3.1 (few_number h.3.0 size h.3.2 s.1)
request_few message file size offset count bitmap h s k.Offset is = all_few k.Offset (valued k.Offset h.0) h.4.0 h.4.1 (few_number h.4.0 offset h.4.2 s.2)
request_few message file size offset count bitmap h s k.Count is = all_few k.Count (valued k.Count h.0) h.5.0 h.5.1 (few_number h.5.0 count h.5.2 s.3)
request_few message file size offset count bitmap h s k.Payload is = absurd cc
request_few message file size offset count bitmap h s k.Bitmap is = all_few k.Bitmap (valued k.Bitmap h.0) h.6.0 h.6.1 (few_bytes h.6.0 bitmap h.6.2 s.4)
request_few message file size offset count bitmap h s k.Token is = few_token (valued k.Token h.0)

request_forth : (file size offset count : ℕ) (message bitmap : List ℕ) → IsRequest message file size offset count bitmap → IsSmall file size offset count bitmap → request_of message ≡ Ok (file, size, offset, count, bitmap)
unfolding request_of asked_of request_key
request_forth file size offset count message bitmap h s =
    let m = finds forms.Request message h.0 h.1 (request_fits message file size offset count bitmap h) in
    let f = got_of message k.File h.0 m.found.file h.2.0 (m.keys k.File refl) h.2.1 in
    let l = got_of message k.Size h.0 m.found.size h.3.0 (m.keys k.Size refl) h.3.1 in
    let o = got_of message k.Offset h.0 m.found.offset h.4.0 (m.keys k.Offset refl) h.4.1 in
    let n = got_of message k.Count h.0 m.found.count h.5.0 (m.keys k.Count refl) h.5.1 in
    let b = got_of message k.Bitmap h.0 m.found.bitmap h.6.0 (m.keys k.Bitmap refl) h.6.1 in
    rw (
      m.read,
      number_got message h.2.0 k.File m.found.file file f f.is h.2.2,
      number_got message h.3.0 k.Size m.found.size size l l.is h.3.2,
      number_got message h.4.0 k.Offset m.found.offset offset o o.is h.4.2,
      number_got message h.5.0 k.Count m.found.count count n n.is h.5.2,
      b.now,
      m.few (request_few message file size offset count bitmap h s),
      held message h.6.0 b.behind bitmap b.kept b.tail b.is.1 h.6.2,
      le-ltb 4294967295 file (omega (arith, s.0)),
      le-ltb 4294967295 size (omega (arith, s.1)),
      le-ltb 4294967295 offset (omega (arith, s.2)),
      le-ltb 4294967295 count (omega (arith, s.3)),
      le-ltb 32 (length bitmap) s.4,
    )
    refl

pub requests_are_read : RequestsAreRead
requests_are_read file size offset count message bitmap are =
    (λ e. let h = request_back file size offset count message bitmap are e in (h.0, h.1.0, h.1.1, h.1.2, h.1.3, h.1.4), λ h. request_forth file size offset count message bitmap h.0 (h.1, h.2, h.3, h.4, h.5))
