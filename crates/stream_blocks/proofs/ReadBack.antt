-- A message that is written is read back.
use Rattle.std.proofs.Common.{◌≡◌, ℕ, zero, suc, ◌+◌, ◌-◌, ◌^◌, ◌<◌, ◌≤◌, true, false, List, [], ◌∷◌, ◌++◌, length, drop, Option, Some, None, Ok, refl, sym, ap, ◌∙◌, arith, append_assoc, length-append}
use Rattle.std.specs.Prelude.{nat_lt, ◌&&◌, codes}
use Rattle.std.specs.Str.{is_utf8, IsAscii}
use Rattle.std.specs.List.{list_all}
use Rattle.std.proofs.lemmas.Str.{is_utf8-from_IsUtf8, IsUtf8-from_ascii}
use Rattle.std.proofs.lemmas.Bool.{le-ltb, ltb-true, and_parts}
use Rattle.std.proofs.lemmas.List.{drop_at, append-nil}
use Rattle.stream_blocks.specs.declared.fields.Fields.{Fields}
use Rattle.stream_blocks.specs.declared.keys.Form.{Form}
use Rattle.stream_blocks.specs.declared.keys.Form.TheVariants as forms
use Rattle.stream_blocks.specs.declared.keys.Key.{Key}
use Rattle.stream_blocks.specs.declared.keys.Key.TheVariants as k
use Rattle.stream_blocks.specs.Spelling.{head, text, number_of, bytes_of, block, request}
use Rattle.stream_blocks.specs.Reading.{argument_at, head_at, is_content, string_end, content_of, content_at, nothing, has, noted, key_in, block_key, request_key, with_number, number_for, payload_for, bitmap_for, token_for, value_for, member_at, map_at, map_end, one_less, members_in, map_of, block_of, asked_of, request_of}
use Rattle.stream_blocks.specs.Laws.{BlocksAreReadBack, RequestsAreReadBack}
use Rattle.stream_blocks.proofs.Again.{head_again, no_chunks, piece_again, content_again}
use Rattle.stream_blocks.proofs.Members.{at_member, at_map_end}

-- ---- Members

plain : (text : List ℕ) → list_all (λ b. nat_lt b 128) text ≡ true → IsAscii text
plain [] e i = omega arith
plain (b ∷ text) e zero = ltb-true b 128 (and_parts (nat_lt b 128) (list_all (λ b. nat_lt b 128) text) e).0
plain (b ∷ text) e (suc i) = plain text (and_parts (nat_lt b 128) (list_all (λ b. nat_lt b 128) text) e).1 i

plain_text : (text : List ℕ) → list_all (λ b. nat_lt b 128) text ≡ true → is_utf8 text ≡ true
plain_text text e = is_utf8-from_IsUtf8 text (IsUtf8-from_ascii text (plain text e))

-- a key of one letter, and what stands behind
abbrev keyed : ℕ → List ℕ → List ℕ
keyed letter behind = head 3 1 ++ (letter ∷ behind)

member_again : (form : Form) (found : Fields) (letter : ℕ) (key : Key) (behind : List ℕ) → (nat_lt letter 128 && true) ≡ true → key_in form (Some letter) ≡ Some key → has key found ≡ false
    → member_at form found (keyed letter behind) ≡ value_for key found behind
unfolding member_at
member_again form found letter key behind plain wanted new = rw (piece_again 3 (letter ∷ []) behind (omega arith) (plain_text (letter ∷ []) plain), wanted, new) refl

number_again : (key : Key) (found : Fields) (n : ℕ) (rest : List ℕ) → n < 2 ^ 64 → number_for key found (head 0 n ++ rest) ≡ Ok (with_number key n found, rest)
unfolding number_for
number_again key found n rest fits = rw (head_again 0 n rest fits) refl

string_again : (major : ℕ) (content rest : List ℕ) → length content < 2 ^ 64 → is_content major content ≡ true → string_end major (head major (length content) ++ (content ++ rest)) ≡ Ok rest
unfolding string_end
string_again major content rest fits right = rw (no_chunks major (length content) (content ++ rest) fits, piece_again major content rest fits right) refl

-- one member is passed
passed : (form : Form) (left : Option ℕ) (found more : Fields) (rest behind : List ℕ) → map_end left rest ≡ None → member_at form found rest ≡ Ok (more, behind)
    → members_in form (length rest + 1) left found rest ≡ members_in form (length behind + 1) (one_less left) more behind
passed form left found more rest behind none here = sym (at_member form left found more rest behind (members_in form (length rest + 1) left found rest) none here refl)

-- ---- Where a part of a message stands

grouped : (a b c r : List ℕ) → b ++ c ≡ r → (a ++ b) ++ c ≡ a ++ r
grouped a b c r e = append_assoc a b c ∙ ap (λ (t : List ℕ). a ++ t) e

number_front : (letter n : ℕ) (x : List ℕ) → number_of letter n ++ x ≡ keyed letter (head 0 n ++ x)
number_front letter n x = append_assoc (text (letter ∷ [])) (head 0 n) x ∙ append_assoc (head 3 1) (letter ∷ []) (head 0 n ++ x)

keyed_front : (letter : ℕ) (h f b r : List ℕ) → f ++ b ≡ r → keyed letter (h ++ f) ++ b ≡ keyed letter (h ++ r)
keyed_front letter h f b r e = append_assoc (head 3 1) (letter ∷ (h ++ f)) b ∙ ap (λ (t : List ℕ). head 3 1 ++ (letter ∷ t)) (grouped h f b r e)

pub tail_is : (front bytes message : List ℕ) → message ≡ front ++ bytes → drop (length message - length bytes) message ≡ bytes
tail_is front bytes message e = rw e (drop_at front bytes (length (front ++ bytes) - length bytes) (omega (arith, length-append front bytes)))

-- ---- Data messages

-- the byte string at the end of a data message, and the parts of the message from each key on
abbrev payload_bytes : List ℕ → List ℕ
payload_bytes payload = head 2 (length payload) ++ (payload ++ [])

abbrev from_payload : List ℕ → List ℕ
from_payload payload = keyed 112 (payload_bytes payload)

abbrev from_size : List ℕ → List ℕ
from_size payload = keyed 108 (head 0 (length payload) ++ from_payload payload)

abbrev from_index : ℕ → List ℕ → List ℕ
from_index index payload = keyed 105 (head 0 index ++ from_size payload)

abbrev from_file : ℕ → ℕ → List ℕ → List ℕ
from_file file index payload = keyed 102 (head 0 file ++ from_index index payload)

block_parts : (file index : ℕ) (payload : List ℕ) → block file index payload ≡ head 5 4 ++ from_file file index payload
block_parts file index payload =
    let last : (text (112 ∷ []) ++ head 2 (length payload)) ++ payload ≡ from_payload payload =
    append_assoc (text (112 ∷ [])) (head 2 (length payload)) payload ∙ append_assoc (head 3 1) (112 ∷ []) (head 2 (length payload) ++ payload)
    ∙ ap (λ (t : List ℕ). keyed 112 (head 2 (length payload) ++ t)) (sym (append-nil payload)) in
    let size = grouped (number_of 108 (length payload)) (text (112 ∷ []) ++ head 2 (length payload)) payload (from_payload payload) last ∙ number_front 108 (length payload) (from_payload payload) in
    let at = grouped (number_of 105 index) _ payload (from_size payload) size ∙ number_front 105 index (from_size payload) in
    let of = grouped (number_of 102 file) _ payload (from_index index payload) at ∙ number_front 102 file (from_index index payload) in
    grouped (head 5 4) _ payload (from_file file index payload) of

abbrev block_head : ℕ → ℕ → List ℕ → List ℕ
block_head file index payload =
    head 5 4 ++ keyed 102 (head 0 file ++ keyed 105 (head 0 index ++ keyed 108 (head 0 (length payload) ++ keyed 112 [])))

block_tail : (file index : ℕ) (payload : List ℕ) → block file index payload ≡ block_head file index payload ++ payload_bytes payload
block_tail file index payload =
    let b = payload_bytes payload in
    block_parts file index payload
    ∙ sym (grouped (head 5 4) _ b (from_file file index payload)
    (keyed_front 102 (head 0 file) _ b (from_index index payload)
    (keyed_front 105 (head 0 index) _ b (from_size payload)
    (keyed_front 108 (head 0 (length payload)) _ b (from_payload payload) (append_assoc (head 3 1) (112 ∷ []) b)))))

abbrev block_fields : ℕ → ℕ → List ℕ → Fields
block_fields file index payload = record (with_number k.Size (length payload) (with_number k.Index index (with_number k.File file nothing))) { payload = Some (length (payload_bytes payload)) }

payload_again : (found : Fields) (payload : List ℕ) → length payload < 2 ^ 64 → payload_for found (payload_bytes payload) ≡ Ok (record found { payload = Some (length (payload_bytes payload)) }, [])
unfolding payload_for
payload_again found payload fits = rw (string_again 2 payload [] fits refl) refl

members_again : (file index : ℕ) (payload : List ℕ) → file < 2 ^ 64 → index < 2 ^ 64 → length payload < 2 ^ 64
    → members_in forms.Block (length (from_file file index payload) + 1) (Some 4) nothing (from_file file index payload) ≡ Ok (block_fields file index payload, [])
unfolding map_end block_key
members_again file index payload file_fits index_fits fits =
    let f1 = with_number k.File file nothing in
    let f2 = with_number k.Index index f1 in
    let f3 = with_number k.Size (length payload) f2 in
    passed forms.Block (Some 4) nothing f1 (from_file file index payload) (from_index index payload) refl
    (member_again forms.Block nothing 102 k.File (head 0 file ++ from_index index payload) refl refl refl ∙ number_again k.File nothing file (from_index index payload) file_fits)
    ∙ passed forms.Block (Some 3) f1 f2 (from_index index payload) (from_size payload) refl
    (member_again forms.Block f1 105 k.Index (head 0 index ++ from_size payload) refl refl refl ∙ number_again k.Index f1 index (from_size payload) index_fits)
    ∙ passed forms.Block (Some 2) f2 f3 (from_size payload) (from_payload payload) refl
    (member_again forms.Block f2 108 k.Size (head 0 (length payload) ++ from_payload payload) refl refl refl ∙ number_again k.Size f2 (length payload) (from_payload payload) fits)
    ∙ passed forms.Block (Some 1) f3 (block_fields file index payload) (from_payload payload) [] refl
    (member_again forms.Block f3 112 k.Payload (payload_bytes payload) refl refl refl ∙ payload_again f3 payload fits)
    ∙ at_map_end forms.Block (Some 0) (block_fields file index payload) [] [] (members_in forms.Block 1 (Some 0) (block_fields file index payload) []) refl refl

map_read : (rest : List ℕ) → map_at (head 5 4 ++ rest) ≡ Some (Some 4, rest)
unfolding map_at head head_at argument_at
map_read rest = refl

map_again : (file index : ℕ) (payload : List ℕ) → file < 2 ^ 64 → index < 2 ^ 64 → length payload < 2 ^ 64 → map_of forms.Block (block file index payload) ≡ Ok (block_fields file index payload)
unfolding map_of
map_again file index payload file_fits index_fits fits =
    ap (map_of forms.Block) (block_parts file index payload) ∙ rw (map_read (from_file file index payload), members_again file index payload file_fits index_fits fits) refl

pub blocks_are_read_back : BlocksAreReadBack
unfolding block_of
blocks_are_read_back file index room payload file_fits index_fits fits le =
    let message = block file index payload in
    let read = map_again file index payload (omega (arith, file_fits)) (omega (arith, index_fits)) fits in
    let held : content_at message (length (payload_bytes payload)) ≡ payload =
    ap content_of (tail_is (block_head file index payload) (payload_bytes payload) message (block_tail file index payload)) ∙ content_again payload [] fits in
    rw (read, held, le-ltb room (length payload) le) refl

-- ---- Requests

abbrev fetch : List ℕ
fetch = codes "fetch"

-- the byte string of a request with what stands behind it, and the parts of the message from each key on
abbrev from_count : ℕ → List ℕ
from_count count = keyed 110 (head 0 count ++ [])

abbrev bitmap_bytes : List ℕ → ℕ → List ℕ
bitmap_bytes bitmap count = head 2 (length bitmap) ++ (bitmap ++ from_count count)

abbrev from_offset : ℕ → List ℕ → ℕ → List ℕ
from_offset offset bitmap count = keyed 111 (head 0 offset ++ keyed 98 (bitmap_bytes bitmap count))

abbrev from_size_on : ℕ → ℕ → List ℕ → ℕ → List ℕ
from_size_on size offset bitmap count = keyed 108 (head 0 size ++ from_offset offset bitmap count)

abbrev from_file_on : ℕ → ℕ → ℕ → List ℕ → ℕ → List ℕ
from_file_on file size offset bitmap count = keyed 102 (head 0 file ++ from_size_on size offset bitmap count)

abbrev from_token : ℕ → ℕ → ℕ → List ℕ → ℕ → List ℕ
from_token file size offset bitmap count = keyed 99 (head 3 5 ++ (fetch ++ from_file_on file size offset bitmap count))

bytes_front : (letter : ℕ) (content x : List ℕ) → bytes_of letter content ++ x ≡ keyed letter (head 2 (length content) ++ (content ++ x))
bytes_front letter content x =
    append_assoc (text (letter ∷ [])) (head 2 (length content) ++ content) x ∙ append_assoc (head 3 1) (letter ∷ []) ((head 2 (length content) ++ content) ++ x)
    ∙ ap (keyed letter) (append_assoc (head 2 (length content)) content x)

token_front : (x : List ℕ) → (text (codes "c") ++ text fetch) ++ x ≡ keyed 99 (head 3 5 ++ (fetch ++ x))
token_front x =
    append_assoc (text (codes "c")) (text fetch) x ∙ append_assoc (head 3 1) (99 ∷ []) (text fetch ++ x) ∙ ap (keyed 99) (append_assoc (head 3 5) fetch x)

request_parts : (file size offset count : ℕ) (bitmap : List ℕ) → request file size offset count bitmap ≡ head 5 6 ++ from_token file size offset bitmap count
request_parts file size offset count bitmap =
    let number : number_of 110 count ≡ from_count count = sym (append-nil (number_of 110 count)) ∙ number_front 110 count [] in
    let of : bytes_of 98 bitmap ++ number_of 110 count ≡ keyed 98 (bitmap_bytes bitmap count) = ap (λ (t : List ℕ). bytes_of 98 bitmap ++ t) number ∙ bytes_front 98 bitmap (from_count count) in
    let at : number_of 111 offset ++ (bytes_of 98 bitmap ++ number_of 110 count) ≡ from_offset offset bitmap count = ap (λ (t : List ℕ). number_of 111 offset ++ t) of ∙ number_front 111 offset _ in
    let sized : number_of 108 size ++ (number_of 111 offset ++ (bytes_of 98 bitmap ++ number_of 110 count)) ≡ from_size_on size offset bitmap count = ap (λ (t : List ℕ). number_of 108 size ++ t) at ∙ number_front 108 size _ in
    let filed : number_of 102 file ++ (number_of 108 size ++ (number_of 111 offset ++ (bytes_of 98 bitmap ++ number_of 110 count))) ≡ from_file_on file size offset bitmap count = ap (λ (t : List ℕ). number_of 102 file ++ t) sized ∙ number_front 102 file _ in
    ap (λ (t : List ℕ). head 5 6 ++ ((text (codes "c") ++ text fetch) ++ t)) filed ∙ ap (λ (t : List ℕ). head 5 6 ++ t) (token_front (from_file_on file size offset bitmap count))

abbrev request_head : ℕ → ℕ → ℕ → List ℕ
request_head file size offset = head 5 6 ++ keyed 99 (head 3 5 ++ (fetch ++ keyed 102 (head 0 file ++ keyed 108 (head 0 size ++ keyed 111 (head 0 offset ++ keyed 98 [])))))

request_tail : (file size offset count : ℕ) (bitmap : List ℕ) → request file size offset count bitmap ≡ request_head file size offset ++ bitmap_bytes bitmap count
request_tail file size offset count bitmap =
    let b = bitmap_bytes bitmap count in
    request_parts file size offset count bitmap
    ∙ sym (grouped (head 5 6) _ b (from_token file size offset bitmap count)
    (keyed_front 99 (head 3 5) _ b (fetch ++ from_file_on file size offset bitmap count)
    (grouped fetch _ b (from_file_on file size offset bitmap count)
    (keyed_front 102 (head 0 file) _ b (from_size_on size offset bitmap count)
    (keyed_front 108 (head 0 size) _ b (from_offset offset bitmap count)
    (keyed_front 111 (head 0 offset) _ b (keyed 98 b) (append_assoc (head 3 1) (98 ∷ []) b)))))))

token_again : (found : Fields) (rest : List ℕ) → token_for found (head 3 5 ++ (fetch ++ rest)) ≡ Ok (record found { has_token = true }, rest)
unfolding token_for
token_again found rest = rw (string_again 3 fetch rest (omega arith) (plain_text fetch refl)) refl

bitmap_again : (found : Fields) (bitmap : List ℕ) (count : ℕ) → length bitmap ≤ 32
    → bitmap_for found (bitmap_bytes bitmap count) ≡ Ok (record (noted found false k.Bitmap) { bitmap = Some (length (bitmap_bytes bitmap count)) }, from_count count)
unfolding bitmap_for
bitmap_again found bitmap count short =
    rw (string_again 2 bitmap (from_count count) (omega (arith, short)) refl, content_again bitmap (from_count count) (omega (arith, short)), le-ltb 32 (length bitmap) short) refl

small_number : (key : Key) (found : Fields) (n : ℕ) (rest : List ℕ) → n < 2 ^ 32 → number_for key found (head 0 n ++ rest) ≡ Ok (with_number key n found, rest)
small_number key found n rest fits = number_again key found n rest (omega (arith, fits))

abbrev request_fields : ℕ → ℕ → ℕ → ℕ → List ℕ → Fields
request_fields file size offset count bitmap =
    with_number k.Count count
    (record (noted (with_number k.Offset offset (with_number k.Size size (with_number k.File file (record nothing { has_token = true })))) false k.Bitmap) { bitmap = Some (length (bitmap_bytes bitmap count)) })

asks_again : (file size offset count : ℕ) (bitmap : List ℕ) → file < 2 ^ 32 → size < 2 ^ 32 → offset < 2 ^ 32 → count < 2 ^ 32 → length bitmap ≤ 32
    → members_in forms.Request (length (from_token file size offset bitmap count) + 1) (Some 6) nothing (from_token file size offset bitmap count) ≡ Ok (request_fields file size offset count bitmap, [])
unfolding map_end request_key
asks_again file size offset count bitmap file_fits size_fits offset_fits count_fits short =
    let f1 = record nothing { has_token = true } in
    let f2 = with_number k.File file f1 in
    let f3 = with_number k.Size size f2 in
    let f4 = with_number k.Offset offset f3 in
    let f5 = record (noted f4 false k.Bitmap) { bitmap = Some (length (bitmap_bytes bitmap count)) } in
    let f6 = request_fields file size offset count bitmap in
    passed forms.Request (Some 6) nothing f1 (from_token file size offset bitmap count) (from_file_on file size offset bitmap count) refl
    (member_again forms.Request nothing 99 k.Token _ refl refl refl ∙ token_again nothing (from_file_on file size offset bitmap count))
    ∙ passed forms.Request (Some 5) f1 f2 (from_file_on file size offset bitmap count) (from_size_on size offset bitmap count) refl
    (member_again forms.Request f1 102 k.File _ refl refl refl ∙ small_number k.File f1 file (from_size_on size offset bitmap count) file_fits)
    ∙ passed forms.Request (Some 4) f2 f3 (from_size_on size offset bitmap count) (from_offset offset bitmap count) refl
    (member_again forms.Request f2 108 k.Size _ refl refl refl ∙ small_number k.Size f2 size (from_offset offset bitmap count) size_fits)
    ∙ passed forms.Request (Some 3) f3 f4 (from_offset offset bitmap count) (keyed 98 (bitmap_bytes bitmap count)) refl
    (member_again forms.Request f3 111 k.Offset _ refl refl refl ∙ small_number k.Offset f3 offset (keyed 98 (bitmap_bytes bitmap count)) offset_fits)
    ∙ passed forms.Request (Some 2) f4 f5 (keyed 98 (bitmap_bytes bitmap count)) (from_count count) refl
    (member_again forms.Request f4 98 k.Bitmap _ refl refl refl ∙ bitmap_again f4 bitmap count short)
    ∙ passed forms.Request (Some 1) f5 f6 (from_count count) [] refl
    (member_again forms.Request f5 110 k.Count _ refl refl refl ∙ small_number k.Count f5 count [] count_fits)
    ∙ at_map_end forms.Request (Some 0) f6 [] [] (members_in forms.Request 1 (Some 0) f6 []) refl refl

request_read : (rest : List ℕ) → map_at (head 5 6 ++ rest) ≡ Some (Some 6, rest)
unfolding map_at head head_at argument_at
request_read rest = refl

request_again : (file size offset count : ℕ) (bitmap : List ℕ) → file < 2 ^ 32 → size < 2 ^ 32 → offset < 2 ^ 32 → count < 2 ^ 32 → length bitmap ≤ 32
    → map_of forms.Request (request file size offset count bitmap) ≡ Ok (request_fields file size offset count bitmap)
unfolding map_of
request_again file size offset count bitmap file_fits size_fits offset_fits count_fits short =
    ap (map_of forms.Request) (request_parts file size offset count bitmap)
    ∙ rw (request_read (from_token file size offset bitmap count), asks_again file size offset count bitmap file_fits size_fits offset_fits count_fits short) refl

pub requests_are_read_back : RequestsAreReadBack
unfolding request_of asked_of
requests_are_read_back file size offset count bitmap file_fits size_fits offset_fits count_fits short =
    let message = request file size offset count bitmap in
    let read = request_again file size offset count bitmap file_fits size_fits offset_fits count_fits short in
    let held : content_at message (length (bitmap_bytes bitmap count)) ≡ bitmap =
    ap content_of (tail_is (request_head file size offset) (bitmap_bytes bitmap count) message (request_tail file size offset count bitmap)) ∙ content_again bitmap (from_count count) (omega (arith, short)) in
    rw (read, held, le-ltb 4294967295 file (omega (arith, file_fits)), le-ltb 4294967295 size (omega (arith, size_fits)), le-ltb 4294967295 offset (omega (arith, offset_fits)), le-ltb 4294967295 count (omega (arith, count_fits)), le-ltb 32 (length bitmap) short) refl
