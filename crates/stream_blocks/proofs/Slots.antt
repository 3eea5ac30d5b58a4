-- What was found of a message as a list with a slot for each key, and what a value of a key leaves in its slot.
use Rattle.std.proofs.Common.{◌≡◌, ℕ, ◌^◌, ◌<◌, ◌≤◌, Bool, true, false, cond, List, [], ◌∷◌, ◌++◌, length, set, get_or, Option, Some, None, Result, Ok, Err, refl, sym, ap, ◌∙◌, arith, inl, inr, ⊎_elim}
use Rattle.std.specs.Prelude.{◌==◌, nat_lt, is_some}
use Rattle.std.proofs.lemmas.Bool.{le-ltb, eqb-true}
use Rattle.std.proofs.lemmas.List.{get_or-set_same, get_or-set_other}
use Rattle.stream_blocks.specs.declared.fault.Stop.{Stop}
use Rattle.stream_blocks.specs.declared.fields.Fields.{Fields}
use Rattle.stream_blocks.specs.declared.keys.Form.{Form}
use Rattle.stream_blocks.specs.declared.keys.Form.TheVariants as forms
use Rattle.stream_blocks.specs.declared.keys.Key.{Key}
use Rattle.stream_blocks.specs.declared.keys.Key.TheVariants as k
use Rattle.stream_blocks.specs.Grammar.{AreBytes, IsUnsigned, IsBytes, IsText, IsValue}
use Rattle.stream_blocks.specs.Reading.{◌>>=◌, or_bad, head_at, string_end, content_of, block_key, request_key, key_in, wanted, letter, nothing, has, noted, first_big, with_number, number_for, payload_for, bitmap_for, token_for, value_for}
use Rattle.stream_blocks.proofs.Backward.{ok_of, read_with, read_parts, some_is, split, Strung, head_back, string_back}
use Rattle.stream_blocks.proofs.Relation.{heads_are_read, strings_are_read}

-- ---- Slots

-- a token leaves nothing of itself
abbrev pub flag : Bool → Option ℕ
flag found = cond found (Some 0) None

abbrev pub slots : Fields → List (Option ℕ)
slots f = f.file ∷ f.index ∷ f.size ∷ f.offset ∷ f.count ∷ f.payload ∷ f.bitmap ∷ flag f.has_token ∷ []

abbrev pub place : Key → ℕ
place k.File = 0
place k.Index = 1
place k.Size = 2
place k.Offset = 3
place k.Count = 4
place k.Payload = 5
place k.Bitmap = 6
place k.Token = 7

abbrev pub slot : Key → Fields → Option ℕ
slot key f = get_or (slots f) (place key) None

place_low : (key : Key) → place key < 8
place_low k.File = omega arith
place_low k.Index = omega arith
place_low k.Size = omega arith
place_low k.Offset = omega arith
place_low k.Count = omega arith
place_low k.Payload = omega arith
place_low k.Bitmap = omega arith
place_low k.Token = omega arith

-- the letters in the order of their places
abbrev letter_at : ℕ → ℕ
letter_at i = get_or (102 ∷ 105 ∷ 108 ∷ 111 ∷ 110 ∷ 112 ∷ 98 ∷ 99 ∷ []) i 0

letter_is : (key : Key) → letter key ≡ letter_at (place key)
letter_is k.File = refl
letter_is k.Index = refl
letter_is k.Size = refl
letter_is k.Offset = refl
letter_is k.Count = refl
letter_is k.Payload = refl
letter_is k.Bitmap = refl
letter_is k.Token = refl

flag_is : (found : Bool) → found ≡ is_some (flag found)
flag_is true = refl
flag_is false = refl

has_slot : (key : Key) (f : Fields) → has key f ≡ is_some (slot key f)
has_slot k.File f = refl
has_slot k.Index f = refl
has_slot k.Size f = refl
has_slot k.Offset f = refl
has_slot k.Count f = refl
has_slot k.Payload f = refl
has_slot k.Bitmap f = refl
has_slot k.Token f = flag_is f.has_token

pub nothing_slot : (key : Key) → slot key nothing ≡ None
nothing_slot k.File = refl
nothing_slot k.Index = refl
nothing_slot k.Size = refl
nothing_slot k.Offset = refl
nothing_slot k.Count = refl
nothing_slot k.Payload = refl
nothing_slot k.Bitmap = refl
nothing_slot k.Token = refl

free_by : (x : Option ℕ) → is_some x ≡ false → x ≡ None
free_by None e = refl
free_by (Some n) e = absurd cc

pub free : (key : Key) (f : Fields) → has key f ≡ false → slot key f ≡ None
free key f e = free_by (slot key f) (sym (has_slot key f) ∙ e)

pub not_yet : (key : Key) (f : Fields) → slot key f ≡ None → has key f ≡ false
not_yet key f e = has_slot key f ∙ ap is_some e

-- the slot of a key that was noted, and of another one
pub slot_here : (key : Key) (found more : Fields) (kept : ℕ) → slots more ≡ set (slots found) (place key) (Some kept) → slot key more ≡ Some kept
slot_here key found more kept e = ap (λ (t : List (Option ℕ)). get_or t (place key) None) e ∙ get_or-set_same (slots found) (place key) (Some kept) None (place_low key)

pub slot_there : (key other : Key) (found more : Fields) (kept : ℕ) → (letter key ≡ letter other → ⊥) → slots more ≡ set (slots found) (place key) (Some kept) → slot other more ≡ slot other found
slot_there key other found more kept apart e =
    ap (λ (t : List (Option ℕ)). get_or t (place other) None) e
    ∙ get_or-set_other (slots found) (place key) (place other) (Some kept) None (λ same. apart (letter_is key ∙ ap letter_at (sym same) ∙ sym (letter_is other)))

-- ---- Which key a text is

block_letter : (b : ℕ) (key : Key) → block_key b ≡ Some key → b ≡ letter key
unfolding block_key
block_letter b key e =
    ⊎_elim (λ t. eqb-true b 102 t.0 ∙ ap letter (some_is k.File key t.1))
    (λ f. ⊎_elim (λ t. eqb-true b 105 t.0 ∙ ap letter (some_is k.Index key t.1))
    (λ f. ⊎_elim (λ t. eqb-true b 108 t.0 ∙ ap letter (some_is k.Size key t.1))
    (λ f. ⊎_elim (λ t. eqb-true b 112 t.0 ∙ ap letter (some_is k.Payload key t.1))
    (λ f. absurd (let none = f.1 in cc))
    (split (b == 112) (Some k.Payload) None (Some key) f.1))
    (split (b == 108) (Some k.Size) _ (Some key) f.1))
    (split (b == 105) (Some k.Index) _ (Some key) f.1))
    (split (b == 102) (Some k.File) _ (Some key) e)

request_letter : (b : ℕ) (key : Key) → request_key b ≡ Some key → b ≡ letter key
unfolding request_key
request_letter b key e =
    ⊎_elim (λ t. eqb-true b 99 t.0 ∙ ap letter (some_is k.Token key t.1))
    (λ f. ⊎_elim (λ t. eqb-true b 102 t.0 ∙ ap letter (some_is k.File key t.1))
    (λ f. ⊎_elim (λ t. eqb-true b 108 t.0 ∙ ap letter (some_is k.Size key t.1))
    (λ f. ⊎_elim (λ t. eqb-true b 111 t.0 ∙ ap letter (some_is k.Offset key t.1))
    (λ f. ⊎_elim (λ t. eqb-true b 110 t.0 ∙ ap letter (some_is k.Count key t.1))
    (λ f. ⊎_elim (λ t. eqb-true b 98 t.0 ∙ ap letter (some_is k.Bitmap key t.1))
    (λ f. absurd (let none = f.1 in cc))
    (split (b == 98) (Some k.Bitmap) None (Some key) f.1))
    (split (b == 110) (Some k.Count) _ (Some key) f.1))
    (split (b == 111) (Some k.Offset) _ (Some key) f.1))
    (split (b == 108) (Some k.Size) _ (Some key) f.1))
    (split (b == 102) (Some k.File) _ (Some key) f.1))
    (split (b == 99) (Some k.Token) _ (Some key) e)

-- The message of this form has the key.
abbrev pub IsWanted : Form → Key → Type 0
IsWanted form key = wanted form (letter key ∷ []) ≡ Some key

key_letter : (form : Form) (b : ℕ) (key : Key) → key_in form (Some b) ≡ Some key → b ≡ letter key
key_letter forms.Block b key e = block_letter b key e
key_letter forms.Request b key e = request_letter b key e

pub wanted_text : (form : Form) (text : List ℕ) (key : Key) → wanted form text ≡ Some key → text ≡ letter key ∷ []
wanted_text form [] key e = absurd cc
wanted_text form (b ∷ []) key e = ap (λ (n : ℕ). n ∷ []) (key_letter form b key e)
wanted_text form (b ∷ c ∷ text) key e = absurd cc

-- ---- Values

-- What is kept of a value of a key: its number, or how many bytes there are from it on.
abbrev pub Kept : Key → List ℕ → ℕ → ℕ → Type 0
Kept k.File value left n = IsUnsigned value n
Kept k.Index value left n = IsUnsigned value n
Kept k.Size value left n = IsUnsigned value n
Kept k.Offset value left n = IsUnsigned value n
Kept k.Count value left n = IsUnsigned value n
Kept k.Payload value left n = ((content : List ℕ) × IsBytes value content) × (n ≡ left)
Kept k.Bitmap value left n = ((content : List ℕ) × IsBytes value content) × (n ≡ left)
Kept k.Token value left n = (content : List ℕ) × IsText value content

pub kept_value : (key : Key) (value : List ℕ) (left n : ℕ) → Kept key value left n → IsValue value
kept_value k.File value left n is = inl (n, is)
kept_value k.Index value left n is = inl (n, is)
kept_value k.Size value left n is = inl (n, is)
kept_value k.Offset value left n is = inl (n, is)
kept_value k.Count value left n is = inl (n, is)
kept_value k.Payload value left n is = inr (inr (inl is.0))
kept_value k.Bitmap value left n is = inr (inr (inl is.0))
kept_value k.Token value left n is = inr (inr (inr (inl is)))

-- A value of a key was read and noted.
pub record Noted (key : Key) (found more : Fields) (bytes rest : List ℕ) : Type 0 where
  pub value : List ℕ
  pub kept : ℕ
  pub parts : bytes ≡ value ++ rest
  pub is : Kept key value (length bytes) kept
  pub new : slots more ≡ set (slots found) (place key) (Some kept)

abbrev pub noting : Fields → List ℕ → Result (Fields × List ℕ) Stop
noting found rest = Ok (found, rest)

pub noting_parts : (a b : Fields) (xs ys : List ℕ) → noting a xs ≡ noting b ys → (a ≡ b) × (xs ≡ ys)
noting_parts a b xs ys e =
    let p : (a, xs) ≡ (b, ys) = cc in
    (ap (λ (x : Fields × List ℕ). x.0) p, ap (λ (x : Fields × List ℕ). x.1) p)

number_by : (key : Key) (found more : Fields) (bytes rest : List ℕ) (head : Option (ℕ × List ℕ)) → AreBytes bytes → head_at 0 bytes ≡ head
    → ((value : List ℕ) (n : ℕ) → IsUnsigned value n → Kept key value (length bytes) n) → ((n : ℕ) → slots (with_number key n found) ≡ set (slots found) (place key) (Some n))
    → (or_bad bytes head >>= λ n. noting (with_number key n.0 found) n.1) ≡ Ok (more, rest) → Noted key found more bytes rest
number_by key found more bytes rest None are h kind put e = absurd cc
number_by key found more bytes rest (Some head) are h kind put e =
    let p = noting_parts (with_number key head.0 found) more head.1 rest e in
    let b = head_back 0 head.0 bytes head.1 are h in
    record {
      value = b.item;
      kept = head.0;
      parts = b.parts ∙ ap (λ (t : List ℕ). b.item ++ t) p.1;
      is = kind b.item head.0 b.is;
      new = ap slots (sym p.0) ∙ put head.0;
    }

number_noted : (key : Key) (found more : Fields) (bytes rest : List ℕ) → AreBytes bytes
    → ((value : List ℕ) (n : ℕ) → IsUnsigned value n → Kept key value (length bytes) n) → ((n : ℕ) → slots (with_number key n found) ≡ set (slots found) (place key) (Some n))
    → number_for key found bytes ≡ Ok (more, rest) → Noted key found more bytes rest
unfolding number_for
number_noted key found more bytes rest are kind put e = number_by key found more bytes rest (head_at 0 bytes) are refl kind put e

string_noted : (key : Key) (major : ℕ) (found more then : Fields) (bytes rest : List ℕ) (kept : ℕ) (end : Result (List ℕ) Stop) → AreBytes bytes → string_end major bytes ≡ end
    → ((s : Strung major bytes rest) → Kept key s.begins.item (length bytes) kept) → slots then ≡ set (slots found) (place key) (Some kept)
    → (end >>= λ rest. noting then rest) ≡ Ok (more, rest) → Noted key found more bytes rest
string_noted key major found more then bytes rest kept (Err stop) are h kind put e = absurd cc
string_noted key major found more then bytes rest kept (Ok behind) are h kind put e =
    let p = noting_parts then more behind rest e in
    let s = string_back major bytes rest are (h ∙ ap (λ (t : List ℕ). ok_of t) p.1) in
    record { value = s.begins.item; kept = kept; parts = s.begins.parts; is = kind s; new = ap slots (sym p.0) ∙ put }

pub value_noted : (key : Key) (found more : Fields) (bytes rest : List ℕ) → AreBytes bytes → value_for key found bytes ≡ Ok (more, rest) → Noted key found more bytes rest
unfolding payload_for bitmap_for token_for
value_noted k.File found more bytes rest are e = number_noted k.File found more bytes rest are (λ value n is. is) (λ n. refl) e
value_noted k.Index found more bytes rest are e = number_noted k.Index found more bytes rest are (λ value n is. is) (λ n. refl) e
value_noted k.Size found more bytes rest are e = number_noted k.Size found more bytes rest are (λ value n is. is) (λ n. refl) e
value_noted k.Offset found more bytes rest are e = number_noted k.Offset found more bytes rest are (λ value n is. is) (λ n. refl) e
value_noted k.Count found more bytes rest are e = number_noted k.Count found more bytes rest are (λ value n is. is) (λ n. refl) e
value_noted k.Payload found more bytes rest are e =
    string_noted k.Payload 2 found more (record found { payload = Some (length bytes) }) bytes rest (length bytes) (string_end 2 bytes) are refl (λ s. ((s.content, s.begins.is), refl)) refl e
value_noted k.Bitmap found more bytes rest are e =
    string_noted k.Bitmap 2 found more (record (noted found (nat_lt 32 (length (content_of bytes))) k.Bitmap) { bitmap = Some (length bytes) }) bytes rest (length bytes) (string_end 2 bytes) are refl
    (λ s. ((s.content, s.begins.is), refl)) refl e
value_noted k.Token found more bytes rest are e =
    string_noted k.Token 3 found more (record found { has_token = true }) bytes rest 0 (string_end 3 bytes) are refl (λ s. (s.content, s.begins.is)) refl e

-- The value is of the key's kind.
abbrev pub IsKind : Key → List ℕ → Type 0
IsKind k.File value = (n : ℕ) × IsUnsigned value n
IsKind k.Index value = (n : ℕ) × IsUnsigned value n
IsKind k.Size value = (n : ℕ) × IsUnsigned value n
IsKind k.Offset value = (n : ℕ) × IsUnsigned value n
IsKind k.Count value = (n : ℕ) × IsUnsigned value n
IsKind k.Payload value = (content : List ℕ) × IsBytes value content
IsKind k.Bitmap value = (content : List ℕ) × IsBytes value content
IsKind k.Token value = (content : List ℕ) × IsText value content

-- A request can have the value.
abbrev pub IsFew : Key → List ℕ → Type 0
IsFew k.File value = (n : ℕ) → IsUnsigned value n → n < 2 ^ 32
IsFew k.Index value = Unit {0}
IsFew k.Size value = (n : ℕ) → IsUnsigned value n → n < 2 ^ 32
IsFew k.Offset value = (n : ℕ) → IsUnsigned value n → n < 2 ^ 32
IsFew k.Count value = (n : ℕ) → IsUnsigned value n → n < 2 ^ 32
IsFew k.Payload value = Unit {0}
IsFew k.Bitmap value = (content : List ℕ) → IsBytes value content → length content ≤ 32
IsFew k.Token value = Unit {0}

-- A value of the key's kind is read and noted.
pub record Notes (key : Key) (found : Fields) (value rest : List ℕ) : Type 0 where
  pub more : Fields
  pub read : value_for key found (value ++ rest) ≡ Ok (more, rest)
  pub kept : ℕ
  pub is : Kept key value (length (value ++ rest)) kept
  pub new : slots more ≡ set (slots found) (place key) (Some kept)
  pub few : IsFew key value → found.too_big ≡ None → more.too_big ≡ None

number_read : (key : Key) (found : Fields) (value rest : List ℕ) (n : ℕ) → IsUnsigned value n → number_for key found (value ++ rest) ≡ Ok (with_number key n found, rest)
unfolding number_for
number_read key found value rest n is = rw (heads_are_read 0 n value rest is) refl

small : (found : Fields) (key : Key) (n : ℕ) → n < 2 ^ 32 → found.too_big ≡ None → first_big found.too_big (nat_lt 4294967295 n) key ≡ None
small found key n lt e = rw (e, le-ltb 4294967295 n (omega (arith, lt))) refl

bitmap_read : (found : Fields) (value rest content : List ℕ) → IsBytes value content → Notes k.Bitmap found value rest
unfolding bitmap_for
bitmap_read found value rest content is =
    let read = strings_are_read 2 value content rest (omega arith) is in
    record {
      more = record (noted found (nat_lt 32 (length (content_of (value ++ rest)))) k.Bitmap) { bitmap = Some (length (value ++ rest)) };
      read = rw read.0 refl;
      kept = length (value ++ rest);
      is = ((content, is), refl);
      new = refl;
      few = λ few e. rw (e, read.1 refl, le-ltb 32 (length content) (few content is)) refl;
    }

payload_read : (found : Fields) (value rest content : List ℕ) → IsBytes value content → Notes k.Payload found value rest
unfolding payload_for
payload_read found value rest content is = record {
  more = record found { payload = Some (length (value ++ rest)) };
  read = rw (strings_are_read 2 value content rest (omega arith) is).0 refl;
  kept = length (value ++ rest);
  is = ((content, is), refl);
  new = refl;
  few = λ few e. e;
}

token_read : (found : Fields) (value rest content : List ℕ) → IsText value content → Notes k.Token found value rest
unfolding token_for
token_read found value rest content is = record {
  more = record found { has_token = true };
  read = rw (strings_are_read 3 value content rest (omega arith) is).0 refl;
  kept = 0;
  is = (content, is);
  new = refl;
  few = λ few e. e;
}

pub value_read : (key : Key) (found : Fields) (value rest : List ℕ) → IsKind key value → Notes key found value rest
value_read k.File found value rest h = record { more = with_number k.File h.0 found; read = number_read k.File found value rest h.0 h.1; kept = h.0; is = h.1; new = refl; few = λ few e. small found k.File h.0 (few h.0 h.1) e }
value_read k.Index found value rest h = record { more = with_number k.Index h.0 found; read = number_read k.Index found value rest h.0 h.1; kept = h.0; is = h.1; new = refl; few = λ few e. e }
value_read k.Size found value rest h = record { more = with_number k.Size h.0 found; read = number_read k.Size found value rest h.0 h.1; kept = h.0; is = h.1; new = refl; few = λ few e. small found k.Size h.0 (few h.0 h.1) e }
value_read k.Offset found value rest h = record { more = with_number k.Offset h.0 found; read = number_read k.Offset found value rest h.0 h.1; kept = h.0; is = h.1; new = refl; few = λ few e. small found k.Offset h.0 (few h.0 h.1) e }
value_read k.Count found value rest h = record { more = with_number k.Count h.0 found; read = number_read k.Count found value rest h.0 h.1; kept = h.0; is = h.1; new = refl; few = λ few e. small found k.Count h.0 (few h.0 h.1) e }
value_read k.Payload found value rest h = payload_read found value rest h.0 h.1
value_read k.Bitmap found value rest h = bitmap_read found value rest h.0 h.1
value_read k.Token found value rest h = token_read found value rest h.0 h.1

-- ---- A value says one thing

pub one_number : (value : List ℕ) (m n : ℕ) → IsUnsigned value m → IsUnsigned value n → m ≡ n
one_number value m n a b =
    let e : read_with m [] ≡ Some (n, []) = sym (heads_are_read 0 m value [] a) ∙ heads_are_read 0 n value [] b in
    (read_parts m n [] [] e).0

pub one_content : (value a b : List ℕ) → IsBytes value a → IsBytes value b → a ≡ b
one_content value a b p q = sym ((strings_are_read 2 value a [] (omega arith) p).1 refl) ∙ (strings_are_read 2 value b [] (omega arith) q).1 refl
