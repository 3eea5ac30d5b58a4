-- How long the text of a JSON value may be.
use Rattle.std.proofs.Common.{ℕ, zero, suc, ◌+◌, ◌*◌, ◌/◌, ◌%◌, ◌==◌, ◌≤◌, nat_lt, pos, negsuc, Bool, true, false, cond, List, [], ◌∷◌, ◌++◌, length, decimal, arith, length-append}
use Rattle.std.specs.Char.{digit_char}
use Rattle.std.specs.Fmt.{digits, digits_onto, digit_glyph}
use Rattle.json.specs.Print.{escape, escape_byte, escape_letter, quoted}
use Rattle.serde_json.specs.Data.{Num, unsigned, negative, float, Data, null, boolean, number, string, array, object, Items, no_items, item, Members, no_members, member}
use Rattle.serde_json.specs.Written.{number_text, comma_if, compact_text, items_text, members_text}

either_short : (n : ℕ) (b : Bool) (xs ys : List ℕ) → length xs ≤ n → length ys ≤ n → length (cond b xs ys) ≤ n
either_short n true xs ys h k = h
either_short n false xs ys h k = k

escape_byte_short : (x : ℕ) → length (escape_byte x) ≤ 6
unfolding escape_byte
escape_byte_short x =
    let six = 92 ∷ 117 ∷ 48 ∷ 48 ∷ digit_char (x / 16) ∷ digit_char (x % 16) ∷ [] in
    either_short 6 (nat_lt 0 (escape_letter x)) (92 ∷ escape_letter x ∷ []) (cond (nat_lt x 32) six (x ∷ [])) (omega arith)
    (either_short 6 (nat_lt x 32) six (x ∷ []) (omega arith) (omega arith))

escape_short : (s : List ℕ) → length (escape s) ≤ 6 * length s
escape_short [] = omega arith
escape_short (x ∷ s) = omega (arith, length-append (escape_byte x) (escape s), escape_byte_short x, escape_short s)

quoted_short : (s : List ℕ) → length (quoted s) ≤ 6 * length s + 2
quoted_short s = omega (arith, length-append (escape s) (34 ∷ []), escape_short s)

digits_short : (k n : ℕ) (acc : List ℕ) → length (digits_onto k 10 false n acc) ≤ k + length acc
digits_short zero n acc = omega arith
digits_short (suc k) n acc =
    let more = digit_glyph false (n % 10) ∷ acc in
    either_short (suc k + length acc) (n / 10 == 0) more (digits_onto k 10 false (n / 10) more) (omega arith) (omega (arith, digits_short k (n / 10) more))

decimal_short : (n : ℕ) → length (decimal n) ≤ 64
unfolding digits
decimal_short n = omega (arith, digits_short 64 n [])

number_short : (n : Num) → length (number_text n) ≤ 65
number_short (unsigned n) = omega (arith, decimal_short n)
number_short (negative (pos n)) = omega (arith, decimal_short n)
number_short (negative (negsuc n)) = omega (arith, decimal_short (suc n))
number_short (float x) = omega arith

-- room enough for the text
abbrev mutual
  pub room : Data → ℕ
  room null = 4
  room (boolean b) = 5
  room (number n) = 65
  room (string s) = 6 * length s + 2
  room (array ds) = 1 + items_room ds
  room (object ms) = 1 + members_room ms

  pub items_room : Items → ℕ
  items_room no_items = 1
  items_room (item d ds) = 1 + room d + items_room ds

  pub members_room : Members → ℕ
  members_room no_members = 1
  members_room (member k d ms) = 6 * length k + 4 + room d + members_room ms

comma_short : (later : Bool) → length (comma_if later) ≤ 1
comma_short true = omega arith
comma_short false = omega arith

mutual
  pub text_short : (d : Data) → length (compact_text d) ≤ room d
  text_short null = omega arith
  text_short (boolean true) = omega arith
  text_short (boolean false) = omega arith
  text_short (number n) = number_short n
  text_short (string s) = quoted_short s
  text_short (array ds) = omega (arith, items_short false ds)
  text_short (object ms) = omega (arith, members_short false ms)

  items_short : (later : Bool) (ds : Items) → length (items_text later ds) ≤ items_room ds
  items_short later no_items = omega arith
  items_short later (item d ds) =
      omega (arith, length-append (comma_if later) (compact_text d ++ items_text true ds), length-append (compact_text d) (items_text true ds), comma_short later, text_short d, items_short true ds)

  members_short : (later : Bool) (ms : Members) → length (members_text later ms) ≤ members_room ms
  members_short later no_members = omega arith
  members_short later (member k d ms) =
      omega (
        arith,
        length-append (comma_if later) (quoted k ++ 58 ∷ (compact_text d ++ members_text true ms)),
        length-append (quoted k) (58 ∷ (compact_text d ++ members_text true ms)),
        length-append (compact_text d) (members_text true ms),
        comma_short later,
        quoted_short k,
        text_short d,
        members_short true ms,
      )
