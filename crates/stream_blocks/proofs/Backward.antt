-- What is read is of the grammar: bytes that read as a head, a string or a value begin with one.
use Rattle.std.proofs.Common.{◌≡◌, ℕ, zero, suc, ◌+◌, ◌*◌, ◌/◌, ◌%◌, ◌<◌, ◌≤◌, Bool, true, false, cond, List, [], ◌∷◌, ◌++◌, length, take, drop, Option, Some, None, Result, Ok, refl, sym, ap, subst, ◌∙◌, arith, inl, inr, ⊎_elim, append_assoc}
use Rattle.std.specs.Prelude.{◌⊎◌, ◌&&◌, ◌||◌, ◌==◌, not, nat_lt, nat_le}
use Rattle.std.specs.Int.{from_be_bytes, Width, w16, w32, w64, byte_len}
use Rattle.std.proofs.lemmas.Bool.{cases_eq, cases_lt, ltb-true, ltb-false, leb-true, eqb-true, eq-eqb, and_parts}
use Rattle.std.proofs.lemmas.List.{get_or-drop, get_or-take, get_or_past, length-take, length-take-le, take-append-drop, drop_at}
use Rattle.std.specs.Str.{is_utf8}
use Rattle.std.proofs.lemmas.Nat.{be_bytes_2, be_bytes_4, be_bytes_8}
use Rattle.std.proofs.lemmas.Str.{IsUtf8-from_is_utf8}
use Rattle.stream_blocks.specs.declared.fault.Stop.{Stop}
use Rattle.stream_blocks.specs.Grammar.{AreBytes, IsHead, IsContent, IsPiece, AreChunks, IsString, IsValue}
use Rattle.stream_blocks.specs.Reading.{◌>>=◌, bad, or_bad, or_else, number_at, byte_at, argument_at, head_at, is_content, counted, counted_behind, piece_at, break_at, chunks_at, chunks_end, end_by, string_end, rest_of, value_end}

-- ---- Readings step by step

abbrev some_of : {A : Type 0} → A → Option A
some_of x = Some x

pub some_is : {A : Type 0} (x y : A) → some_of x ≡ some_of y → x ≡ y
some_is x y e = cc

-- what was read, and the bytes behind
abbrev pub read_with : {A : Type 0} → A → List ℕ → Option (A × List ℕ)
read_with x rest = Some (x, rest)

pub read_parts : {A : Type 0} (x y : A) (xs ys : List ℕ) → read_with x xs ≡ read_with y ys → (x ≡ y) × (xs ≡ ys)
read_parts {A = A} x y xs ys e =
    let p : (x, xs) ≡ (y, ys) = cc in
    (ap (λ (r : A × List ℕ). r.0) p, ap (λ (r : A × List ℕ). r.1) p)

abbrev pub ok_of : {A : Type 0} → A → Result A Stop
ok_of x = Ok x

pub ok_is : {A : Type 0} (x y : A) → ok_of x ≡ ok_of y → x ≡ y
ok_is x y e = cc

-- the two ways of a test
pub split : {A : Type 0} (b : Bool) (x y r : A) → cond b x y ≡ r → ((b ≡ true) × (x ≡ r)) ⊎ ((b ≡ false) × (y ≡ r))
split true x y r e = inl (refl, e)
split false x y r e = inr (refl, e)

pub bytes_drop : (n : ℕ) (bytes : List ℕ) → AreBytes bytes → AreBytes (drop n bytes)
bytes_drop n bytes are i = rw get_or-drop (are (n + i))

bytes_take : (n : ℕ) (bytes : List ℕ) → AreBytes bytes → AreBytes (take n bytes)
bytes_take n bytes are i =
    ⊎_elim (λ lt. rw (get_or-take n bytes i 0 lt) (are i)) (λ le. rw (get_or_past (take n bytes) i 0 (omega (arith, le, length-take n bytes))) (omega arith)) (cases_lt i n)

-- An item that these bytes begin, and what stands behind it.
pub record Begins (Is : List ℕ → Type 0) (bytes rest : List ℕ) : Type 0 where
  pub item : List ℕ
  pub parts : bytes ≡ item ++ rest
  pub is : Is item

-- What stands behind an item of bytes is bytes.
pub bytes_behind : (item rest bytes : List ℕ) → bytes ≡ item ++ rest → AreBytes bytes → AreBytes rest
bytes_behind item rest bytes e are =
    let d : drop (length item) bytes ≡ rest = ap (drop (length item)) e ∙ drop_at item rest (length item) refl in
    subst (λ (t : List ℕ). AreBytes t) d (bytes_drop (length item) bytes are)

-- ---- Heads

-- an argument of so many bytes
record Number (w : Width) (n : ℕ) (bytes rest : List ℕ) : Type 0 where
  read : from_be_bytes w (take (byte_len w) bytes) ≡ n
  parts : bytes ≡ take (byte_len w) bytes ++ rest
  len : length (take (byte_len w) bytes) ≡ byte_len w

number_back : (w : Width) (n : ℕ) (bytes rest : List ℕ) → number_at w bytes ≡ Some (n, rest) → Number w n bytes rest
number_back w n bytes rest e =
    ⊎_elim (λ t. absurd (let none = t.1 in cc))
    (λ f. let p = read_parts (from_be_bytes w (take (byte_len w) bytes)) n (drop (byte_len w) bytes) rest f.1 in
    record {
      read = p.0;
      parts = sym (take-append-drop (byte_len w) bytes) ∙ ap (λ (t : List ℕ). take (byte_len w) bytes ++ t) p.1;
      len = length-take-le (byte_len w) bytes (ltb-false (length bytes) (byte_len w) f.0);
    })
    (split (nat_lt (length bytes) (byte_len w)) None (Some (from_be_bytes w (take (byte_len w) bytes), drop (byte_len w) bytes)) (Some (n, rest)) e)

below_2 : (bytes : List ℕ) → AreBytes bytes → from_be_bytes w16 bytes < 65536
below_2 bytes are = omega (arith, are 0, are 1)

below_4 : (bytes : List ℕ) → AreBytes bytes → from_be_bytes w32 bytes < 4294967296
below_4 bytes are = omega (arith, are 0, are 1, are 2, are 3)

below_8 : (bytes : List ℕ) → AreBytes bytes → from_be_bytes w64 bytes < 18446744073709551616
below_8 bytes are = omega (arith, are 0, are 1, are 2, are 3, are 4, are 5, are 6, are 7)

-- the bytes of an argument behind the first byte of its head
abbrev Argued : ℕ → ℕ → ℕ → List ℕ → List ℕ → Type 0
Argued major info n bytes rest = Begins (λ item. IsHead major item n) ((32 * major + info) ∷ bytes) rest

argued_2 : (major n : ℕ) (bytes rest : List ℕ) → AreBytes bytes → Number w16 n bytes rest → Argued major 25 n bytes rest
argued_2 major n bytes rest are h =
    let digits = take 2 bytes in
    let small = bytes_take 2 bytes are in
    record {
      item = (32 * major + 25) ∷ digits;
      parts = ap (λ (t : List ℕ). (32 * major + 25) ∷ t) h.parts;
      is = inr (inr (inl (omega (arith, below_2 digits small, h.read), ap (λ (t : List ℕ). (32 * major + 25) ∷ t) (sym (be_bytes_2 digits n h.len small (sym h.read))))));
    }

argued_4 : (major n : ℕ) (bytes rest : List ℕ) → AreBytes bytes → Number w32 n bytes rest → Argued major 26 n bytes rest
argued_4 major n bytes rest are h =
    let digits = take 4 bytes in
    let small = bytes_take 4 bytes are in
    record {
      item = (32 * major + 26) ∷ digits;
      parts = ap (λ (t : List ℕ). (32 * major + 26) ∷ t) h.parts;
      is = inr (inr (inr (inl (omega (arith, below_4 digits small, h.read), ap (λ (t : List ℕ). (32 * major + 26) ∷ t) (sym (be_bytes_4 digits n h.len small (sym h.read)))))));
    }

argued_8 : (major n : ℕ) (bytes rest : List ℕ) → AreBytes bytes → Number w64 n bytes rest → Argued major 27 n bytes rest
argued_8 major n bytes rest are h =
    let digits = take 8 bytes in
    let small = bytes_take 8 bytes are in
    record {
      item = (32 * major + 27) ∷ digits;
      parts = ap (λ (t : List ℕ). (32 * major + 27) ∷ t) h.parts;
      is = inr (inr (inr (inr (omega (arith, below_8 digits small, h.read), ap (λ (t : List ℕ). (32 * major + 27) ∷ t) (sym (be_bytes_8 digits n h.len small (sym h.read)))))));
    }

argued_1 : (major n : ℕ) (bytes rest : List ℕ) → AreBytes bytes → byte_at bytes ≡ Some (n, rest) → Argued major 24 n bytes rest
unfolding byte_at
argued_1 major n [] rest are e = absurd cc
argued_1 major n (c ∷ bytes) rest are e =
    let p = read_parts c n bytes rest e in
    let low : c < 256 = are 0 in
    let same : c ≡ n % 256 = omega (arith, low, p.0) in
    record {
      item = (32 * major + 24) ∷ c ∷ [];
      parts = ap (λ (t : List ℕ). (32 * major + 24) ∷ c ∷ t) p.1;
      is = inr (inl (omega (arith, low, p.0), ap (λ (d : ℕ). (32 * major + 24) ∷ d ∷ []) same));
    }

argued_0 : (major info n : ℕ) (bytes rest : List ℕ) → info < 24 → read_with info bytes ≡ Some (n, rest) → Argued major info n bytes rest
argued_0 major info n bytes rest low e =
    let p = read_parts info n bytes rest e in
    record {
      item = (32 * major + info) ∷ [];
      parts = ap (λ (t : List ℕ). (32 * major + info) ∷ t) p.1;
      is = inl (omega (arith, low, p.0), ap (λ (d : ℕ). (32 * major + d) ∷ []) p.0);
    }

-- the same where the low five bits are known by a test
argued_at : (major info is n : ℕ) (bytes rest : List ℕ) → (info == is) ≡ true → Argued major is n bytes rest → Argued major info n bytes rest
argued_at major info is n bytes rest e h = subst (λ (k : ℕ). Argued major k n bytes rest) (sym (eqb-true info is e)) h

argument_back : (major info n : ℕ) (bytes rest : List ℕ) → AreBytes bytes → argument_at info bytes ≡ Some (n, rest) → Argued major info n bytes rest
unfolding argument_at
argument_back major info n bytes rest are e =
    ⊎_elim (λ t. argued_0 major info n bytes rest (ltb-true info 24 t.0) t.1)
    (λ f. ⊎_elim (λ t. argued_at major info 24 n bytes rest t.0 (argued_1 major n bytes rest are t.1))
    (λ f. ⊎_elim (λ t. argued_at major info 25 n bytes rest t.0 (argued_2 major n bytes rest are (number_back w16 n bytes rest t.1)))
    (λ f. ⊎_elim (λ t. argued_at major info 26 n bytes rest t.0 (argued_4 major n bytes rest are (number_back w32 n bytes rest t.1)))
    (λ f. ⊎_elim (λ t. argued_at major info 27 n bytes rest t.0 (argued_8 major n bytes rest are (number_back w64 n bytes rest t.1)))
    (λ f. absurd (let none = f.1 in cc))
    (split (info == 27) (number_at w64 bytes) None (Some (n, rest)) f.1))
    (split (info == 26) (number_at w32 bytes) _ (Some (n, rest)) f.1))
    (split (info == 25) (number_at w16 bytes) _ (Some (n, rest)) f.1))
    (split (info == 24) (byte_at bytes) _ (Some (n, rest)) f.1))
    (split (nat_lt info 24) (Some (info, bytes)) _ (Some (n, rest)) e)

pub head_back : (major n : ℕ) (bytes rest : List ℕ) → AreBytes bytes → head_at major bytes ≡ Some (n, rest) → Begins (λ item. IsHead major item n) bytes rest
unfolding head_at
head_back major n [] rest are e = absurd cc
head_back major n (b ∷ bytes) rest are e =
    ⊎_elim (λ t. let first : 32 * major + b % 32 ≡ b = omega (arith, eqb-true (b / 32) major t.0) in
    subst (λ (k : ℕ). Begins (λ item. IsHead major item n) (k ∷ bytes) rest) first (argument_back major (b % 32) n bytes rest (λ i. are (suc i)) t.1))
    (λ f. absurd (let none = f.1 in cc))
    (split (b / 32 == major) (argument_at (b % 32) bytes) None (Some (n, rest)) e)

-- ---- Strings

content_back : (major : ℕ) (content : List ℕ) → is_content major content ≡ true → IsContent major content
content_back major content right is = IsUtf8-from_is_utf8 content (ap (λ (b : Bool). not b || is_utf8 content) (sym (eq-eqb major 3 is)) ∙ right)

record Counted (major n : ℕ) (bytes content rest : List ℕ) : Type 0 where
  len : n ≡ length content
  parts : bytes ≡ content ++ rest
  right : IsContent major content

counted_back : (major n : ℕ) (bytes content rest : List ℕ) → counted major n bytes ≡ Some (content, rest) → Counted major n bytes content rest
unfolding counted
counted_back major n bytes content rest e =
    ⊎_elim (λ t. absurd (let none = t.1 in cc))
    (λ f. ⊎_elim
    (λ t. let p = read_parts (take n bytes) content (drop n bytes) rest t.1 in
    record {
      len = sym (length-take-le n bytes (ltb-false (length bytes) n f.0)) ∙ ap (λ (t : List ℕ). length t) p.0;
      parts = sym (take-append-drop n bytes) ∙ ap (λ (t : List ℕ). t ++ drop n bytes) p.0 ∙ ap (λ (t : List ℕ). content ++ t) p.1;
      right = content_back major content (ap (is_content major) (sym p.0) ∙ t.0);
    })
    (λ none. absurd (let e = none.1 in cc))
    (split (is_content major (take n bytes)) (Some (take n bytes, drop n bytes)) None (Some (content, rest)) f.1))
    (split (nat_lt (length bytes) n) None _ (Some (content, rest)) e)

piece_by : (major : ℕ) (bytes content rest : List ℕ) (head : Option (ℕ × List ℕ)) → AreBytes bytes → head_at major bytes ≡ head → counted_behind major head ≡ Some (content, rest)
    → Begins (λ item. IsPiece major item content) bytes rest
piece_by major bytes content rest None are h e = absurd cc
piece_by major bytes content rest (Some head) are h e =
    let front = head_back major head.0 bytes head.1 are h in
    let c = counted_back major head.0 head.1 content rest e in
    record {
      item = front.item ++ content;
      parts = front.parts ∙ ap (λ (t : List ℕ). front.item ++ t) c.parts ∙ sym (append_assoc front.item content rest);
      is = (front.item, refl, subst (λ (n : ℕ). IsHead major front.item n) c.len front.is, c.right);
    }

pub piece_back : (major : ℕ) (bytes content rest : List ℕ) → AreBytes bytes → piece_at major bytes ≡ Some (content, rest) → Begins (λ item. IsPiece major item content) bytes rest
unfolding piece_at
piece_back major bytes content rest are e = piece_by major bytes content rest (head_at major bytes) are refl e

pub break_back : (bytes rest : List ℕ) → break_at bytes ≡ Some rest → bytes ≡ 255 ∷ rest
unfolding break_at
break_back [] rest e = absurd cc
break_back (b ∷ bytes) rest e =
    ⊎_elim (λ t. ap (λ (k : ℕ). k ∷ bytes) (eqb-true b 255 t.0) ∙ ap (λ (t : List ℕ). 255 ∷ t) (some_is bytes rest t.1)) (λ f. absurd (let none = f.1 in cc)) (split (b == 255) (Some bytes) None (Some rest) e)

-- chunks up to their break
record Chunks (major : ℕ) (bytes rest : List ℕ) : Type 0 where
  chunks : List (List ℕ)
  inside : List ℕ
  content : List ℕ
  parts : bytes ≡ inside ++ 255 ∷ rest
  are : AreChunks major chunks inside content

chunks_by : (major n : ℕ) (bytes rest : List ℕ) (end : Option (List ℕ)) (piece : Option (List ℕ × List ℕ)) → AreBytes bytes
    → ((behind : List ℕ) → AreBytes behind → chunks_end major n behind ≡ Ok rest → Chunks major behind rest)
    → break_at bytes ≡ end → piece_at major bytes ≡ piece → or_else end (or_bad bytes piece >>= λ p. chunks_end major n p.1) ≡ Ok rest → Chunks major bytes rest
chunks_by major n bytes rest (Some end) piece are more b p e =
    record { chunks = []; inside = []; content = []; parts = break_back bytes end b ∙ ap (λ (t : List ℕ). 255 ∷ t) (ok_is end rest e); are = (refl, refl) }
chunks_by major n bytes rest None None are more b p e = absurd cc
chunks_by major n bytes rest None (Some piece) are more b p e =
    let first = piece_back major bytes piece.0 piece.1 are p in
    let others = more piece.1 (bytes_behind first.item piece.1 bytes first.parts are) e in
    record {
      chunks = first.item ∷ others.chunks;
      inside = first.item ++ others.inside;
      content = piece.0 ++ others.content;
      parts = first.parts ∙ ap (λ (t : List ℕ). first.item ++ t) others.parts ∙ sym (append_assoc first.item others.inside (255 ∷ rest));
      are = (piece.0, others.inside, others.content, refl, refl, first.is, others.are);
    }

chunks_back : (major n : ℕ) (bytes rest : List ℕ) → AreBytes bytes → chunks_end major n bytes ≡ Ok rest → Chunks major bytes rest
unfolding chunks_end
chunks_back major zero bytes rest are e = absurd cc
chunks_back major (suc n) bytes rest are e = chunks_by major n bytes rest (break_at bytes) (piece_at major bytes) are (λ behind fits h. chunks_back major n behind rest fits h) refl refl e

chunks_begin : (major : ℕ) (bytes inside : List ℕ) → chunks_at major bytes ≡ Some inside → bytes ≡ (32 * major + 31) ∷ inside
unfolding chunks_at
chunks_begin major [] inside e = absurd cc
chunks_begin major (b ∷ bytes) inside e =
    ⊎_elim (λ t. let both = and_parts (b / 32 == major) (b % 32 == 31) t.0 in
    let first : b ≡ 32 * major + 31 = omega (arith, eqb-true (b / 32) major both.0, eqb-true (b % 32) 31 both.1) in
    ap (λ (k : ℕ). k ∷ bytes) first ∙ ap (λ (t : List ℕ). (32 * major + 31) ∷ t) (some_is bytes inside t.1))
    (λ f. absurd (let none = f.1 in cc)) (split ((b / 32 == major) && (b % 32 == 31)) (Some bytes) None (Some inside) e)

-- a string, and what it holds
pub record Strung (major : ℕ) (bytes rest : List ℕ) : Type 0 where
  pub content : List ℕ
  pub begins : Begins (λ item. IsString major item content) bytes rest

string_piece : (major : ℕ) (bytes rest : List ℕ) (piece : Option (List ℕ × List ℕ)) → AreBytes bytes → piece_at major bytes ≡ piece → (or_bad bytes piece >>= λ p. Ok p.1) ≡ Ok rest → Strung major bytes rest
string_piece major bytes rest None are p e = absurd cc
string_piece major bytes rest (Some piece) are p e =
    let first = piece_back major bytes piece.0 piece.1 are p in
    record { content = piece.0; begins = record { item = first.item; parts = first.parts ∙ ap (λ (t : List ℕ). first.item ++ t) (ok_is piece.1 rest e); is = inl first.is } }

string_by : (major : ℕ) (bytes rest : List ℕ) (chunks : Option (List ℕ)) → AreBytes bytes → chunks_at major bytes ≡ chunks → end_by major bytes chunks ≡ Ok rest → Strung major bytes rest
string_by major bytes rest None are c e = string_piece major bytes rest (piece_at major bytes) are refl e
string_by major bytes rest (Some chunks) are c e =
    let first = chunks_begin major bytes chunks c in
    let found = chunks_back major (length chunks + 1) chunks rest (bytes_behind ((32 * major + 31) ∷ []) chunks bytes first are) e in
    record {
      content = found.content;
      begins = record {
        item = (32 * major + 31) ∷ (found.inside ++ 255 ∷ []);
        parts = first ∙ ap (λ (t : List ℕ). (32 * major + 31) ∷ t) (found.parts ∙ sym (append_assoc found.inside (255 ∷ []) rest));
        is = inr (found.chunks, found.inside, refl, found.are);
      };
    }

pub string_back : (major : ℕ) (bytes rest : List ℕ) → AreBytes bytes → string_end major bytes ≡ Ok rest → Strung major bytes rest
unfolding string_end
string_back major bytes rest are e = string_by major bytes rest (chunks_at major bytes) are refl e

-- ---- Values

rest_back : (major : ℕ) (bytes rest : List ℕ) (head : Option (ℕ × List ℕ)) → AreBytes bytes → head_at major bytes ≡ head → or_bad bytes (rest_of head) ≡ Ok rest
    → (n : ℕ) × Begins (λ item. IsHead major item n) bytes rest
rest_back major bytes rest None are h e = absurd cc
rest_back major bytes rest (Some head) are h e = (head.0, subst (λ (t : List ℕ). Begins (λ item. IsHead major item head.0) bytes t) (ok_is head.1 rest e) (head_back major head.0 bytes head.1 are h))

as_value : {Is : List ℕ → Type 0} {bytes rest : List ℕ} → Begins Is bytes rest → ((item : List ℕ) → Is item → IsValue item) → Begins IsValue bytes rest
as_value b is = record { item = b.item; parts = b.parts; is = is b.item b.is }

simple_back : (b : ℕ) (bytes rest : List ℕ) → 244 ≤ b → b ≤ 246 → ok_of bytes ≡ Ok rest → Begins IsValue (b ∷ bytes) rest
simple_back b bytes rest le most e = record {
  item = b ∷ [];
  parts = ap (λ (t : List ℕ). b ∷ t) (ok_is bytes rest e);
  is = inr (inr (inr (inr
      (⊎_elim (λ e. inl (ap (λ (k : ℕ). k ∷ []) e))
      (λ apart. ⊎_elim (λ e. inr (inl (ap (λ (k : ℕ). k ∷ []) e))) (λ apart2. inr (inr (ap (λ (k : ℕ). k ∷ []) (omega (arith, le, most, apart, apart2))))) (cases_eq b 245)) (cases_eq b 244)))));
}

pub value_back : (bytes rest : List ℕ) → AreBytes bytes → value_end bytes ≡ Ok rest → Begins IsValue bytes rest
unfolding value_end
value_back [] rest are e = absurd cc
value_back (b ∷ bytes) rest are e =
    ⊎_elim (λ t. let h = rest_back 0 (b ∷ bytes) rest (head_at 0 (b ∷ bytes)) are refl t.1 in as_value h.1 (λ item is. inl (h.0, is)))
    (λ f. ⊎_elim (λ t. let h = rest_back 1 (b ∷ bytes) rest (head_at 1 (b ∷ bytes)) are refl t.1 in as_value h.1 (λ item is. inr (inl (h.0, is))))
    (λ f. ⊎_elim (λ t. let s = string_back 2 (b ∷ bytes) rest are t.1 in as_value s.begins (λ item is. inr (inr (inl (s.content, is)))))
    (λ f. ⊎_elim (λ t. let s = string_back 3 (b ∷ bytes) rest are t.1 in as_value s.begins (λ item is. inr (inr (inr (inl (s.content, is))))))
    (λ f. ⊎_elim (λ t. let both = and_parts (nat_le 244 b) (nat_le b 246) t.0 in simple_back b bytes rest (leb-true 244 b both.0) (leb-true b 246 both.1) t.1)
    (λ f. absurd (let none = f.1 in cc))
    (split (nat_le 244 b && nat_le b 246) (Ok bytes) (bad (b ∷ bytes)) (Ok rest) f.1))
    (split (nat_lt b 128) (string_end 3 (b ∷ bytes)) _ (Ok rest) f.1))
    (split (nat_lt b 96) (string_end 2 (b ∷ bytes)) _ (Ok rest) f.1))
    (split (nat_lt b 64) (or_bad (b ∷ bytes) (rest_of (head_at 1 (b ∷ bytes)))) _ (Ok rest) f.1))
    (split (nat_lt b 32) (or_bad (b ∷ bytes) (rest_of (head_at 0 (b ∷ bytes)))) _ (Ok rest) e)
