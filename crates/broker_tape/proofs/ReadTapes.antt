-- The items of a tape that was read from a text give bytes.
use Rattle.std.proofs.Common.{◌≡◌, ℕ, ◌+◌, Bool, true, false, cond, List, [], ◌∷◌, length, Option, Some, None, Result, Ok, Err, refl, sym, subst}
use Rattle.std.specs.Prelude.{nat_le, ◌&&◌, codes}
use Rattle.std.specs.Option.{option_map}
use Rattle.std.specs.Str.{bytes_eq}
use Rattle.hex.specs.Hex.{decode_of}
use Rattle.hex.specs.declared.error.FromHexError.{FromHexError}
use Rattle.plain_text.specs.Numbers.{number_in}
use Rattle.plain_text.specs.Lines.{is_passed}
use Rattle.plain_text.specs.Reading.{◌>>=◌}
use Rattle.plain_text.specs.Payloads.{payload_of, pairs_of, decoded}
use Rattle.plain_text.specs.Words.{word_at, last_at}
use Rattle.broker_tape.specs.declared.tape.Item.{Item}
use Rattle.broker_tape.specs.declared.tape.Item.TheVariants as items
use Rattle.broker_tape.specs.declared.tape.Place.{Place}
use Rattle.broker_tape.specs.declared.tape.Place.TheVariants.{Between, Begun, Within}
use Rattle.broker_tape.specs.Playing.{bytes_of}
use Rattle.broker_tape.specs.Tape.{hear_of, room_of, quiet_of, counted_item, by_words, connection_item, opening_item, item_in, place_behind, onto_items, item_or_line, tape_from, tape_in}
use Rattle.broker_tape.specs.Given.{IsOfBytes, GivesBytes}
use Rattle.broker_tape.proofs.Pairs.{AreBytes, AreSmall, no_bytes, decoding_small}
use Rattle.plain_text.proofs.WhatIsRead.{SomeIs, always, either}

-- ---- Payloads

decoded_bytes : (r : Result (List ℕ) FromHexError) → AreSmall r → SomeIs AreBytes (decoded r)
decoded_bytes (Ok bytes) h = h
decoded_bytes (Err e) h = tt

pairs_bytes : (word : List ℕ) → SomeIs AreBytes (pairs_of word)
pairs_bytes [] = tt
pairs_bytes (b ∷ word) = decoded_bytes (decode_of (b ∷ word)) (decoding_small (b ∷ word))

payload_bytes : (word : List ℕ) → SomeIs AreBytes (payload_of word)
unfolding payload_of
payload_bytes word = either AreBytes (bytes_eq word (45 ∷ [])) (Some []) (pairs_of word) no_bytes (pairs_bytes word)

-- ---- Items

silent : (item : Item) → bytes_of item ≡ [] → SomeIs IsOfBytes (Some item)
silent item e = subst AreBytes (sym e) no_bytes

hear_gives : (word : List ℕ) → SomeIs IsOfBytes (hear_of word)
unfolding hear_of
hear_gives word = by (payload_of word) (payload_bytes word)
  where
    by : (o : Option (List ℕ)) → SomeIs AreBytes o → SomeIs IsOfBytes (o >>= λ bytes. cond (nat_le 1 (length bytes) && nat_le (length bytes) 4096) (Some (items.Hear bytes)) None)
    by (Some bytes) h = either IsOfBytes (nat_le 1 (length bytes) && nat_le (length bytes) 4096) (Some (items.Hear bytes)) None h tt
    by None h = tt

counts_give : (of : ℕ → Item) (o : Option ℕ) → ((n : ℕ) → bytes_of (of n) ≡ []) → SomeIs IsOfBytes (option_map of o)
counts_give of (Some n) h = silent (of n) (h n)
counts_give of None h = tt

room_gives : (word : List ℕ) → SomeIs IsOfBytes (room_of word)
unfolding room_of
room_gives word = counts_give items.Room (number_in 0 1000000000 word) (λ n. refl)

quiet_gives : (word : List ℕ) → SomeIs IsOfBytes (quiet_of word)
unfolding quiet_of
quiet_gives word = counts_give items.Quiet (number_in 1 1000000000 word) (λ n. refl)

counted_gives : (begun : Bool) (verb word : List ℕ) → SomeIs IsOfBytes (counted_item begun verb word)
counted_gives begun verb word =
    either IsOfBytes (bytes_eq verb (codes "hear")) _ _ (hear_gives word)
    (either IsOfBytes (bytes_eq verb (codes "quiet")) _ _ (quiet_gives word) (either IsOfBytes (begun && bytes_eq verb (codes "room")) _ _ (room_gives word) tt))

words_give : (begun : Bool) (words : Option (List ℕ × List ℕ)) → SomeIs IsOfBytes (by_words begun words)
words_give begun None = tt
words_give begun (Some words) = always IsOfBytes (last_at words.1) _ (λ word. counted_gives begun words.0 word)

connection_gives : (begun : Bool) (line : List ℕ) → SomeIs IsOfBytes (connection_item begun line)
unfolding connection_item
connection_gives begun line =
    either IsOfBytes (bytes_eq line (codes "open")) _ _ (silent items.Open refl)
    (either IsOfBytes (bytes_eq line (codes "end")) _ _ (silent items.End refl)
    (either IsOfBytes (bytes_eq line (codes "fail")) _ _ (silent items.Fail refl) (words_give begun (word_at line))))

opening_gives : (line : List ℕ) → SomeIs IsOfBytes (opening_item line)
unfolding opening_item
opening_gives line = either IsOfBytes (bytes_eq line (codes "open")) _ _ (silent items.Open refl) (either IsOfBytes (bytes_eq line (codes "fail")) _ _ (silent items.Refuse refl) tt)

item_gives : (place : Place) (line : List ℕ) → SomeIs IsOfBytes (item_in place line)
item_gives Between line = opening_gives line
item_gives Begun line = connection_gives true line
item_gives Within line = connection_gives false line

-- ---- Tapes

abbrev AllGive : Result (List Item) ℕ → Type 0
AllGive (Ok items) = GivesBytes items
AllGive (Err number) = Unit {0}

onto_give : (item : Item) (r : Result (List Item) ℕ) → IsOfBytes item → AllGive r → AllGive (onto_items item r)
onto_give item (Ok items) h k = (h, k)
onto_give item (Err number) h k = tt

item_or_gives : (n : ℕ) (o : Option Item) (rest : Place → Result (List Item) ℕ) → SomeIs IsOfBytes o → ((place : Place) → AllGive (rest place)) → AllGive (item_or_line n o rest)
item_or_gives n None rest h k = tt
item_or_gives n (Some item) rest h k = onto_give item (rest (place_behind item)) h (k (place_behind item))

by_passed : (passed : Bool) (x y : Result (List Item) ℕ) → AllGive x → AllGive y → AllGive (cond passed x y)
by_passed true x y h k = h
by_passed false x y h k = k

tape_gives : (place : Place) (n : ℕ) (lines : List (List ℕ)) → AllGive (tape_from place n lines)
unfolding tape_from
tape_gives place n [] = tt
tape_gives place n (line ∷ lines) =
    by_passed (is_passed line) (tape_from place (n + 1) lines) (item_or_line n (item_in place line) (λ behind. tape_from behind (n + 1) lines)) (tape_gives place (n + 1) lines)
    (item_or_gives n (item_in place line) (λ behind. tape_from behind (n + 1) lines) (item_gives place line) (λ behind. tape_gives behind (n + 1) lines))

pub read_tape_gives : (lines : List (List ℕ)) (items : List Item) → tape_in lines ≡ Ok items → GivesBytes items
read_tape_gives lines items e = subst AllGive e (tape_gives Between 1 lines)
