-- Each answer is a topic's name and a payload that is short.
use Rattle.std.proofs.Common.{◌≡◌, ℕ, zero, suc, ◌≤◌, ◌*◌, Bool, true, false, cond, List, [], ◌∷◌, length, map, take, drop, find, Option, Some, None, Result, Ok, Err, IfSome, refl, arith}
use Rattle.std.specs.Prelude.{◌&&◌, nat_le, codes}
use Rattle.std.specs.Int.{is_power_of_two}
use Rattle.std.specs.List.{AllByRecursion}
use Rattle.std.proofs.lemmas.Bool.{and_parts, leb-true}
use Rattle.thing_topics.specs.Classes.{is_thing, is_job, is_stream}
use Rattle.topic_filter.specs.Texts.{is_name}
use Rattle.stream_blocks.specs.Reading.{Asked, request_of}
use Rattle.thing_service.specs.declared.offers.Offer.{Offer}
use Rattle.thing_service.specs.Answers.{Answer, IsMessage, data_topic, is_known, update_answers, block_answers}
use Rattle.thing_service.specs.Blocks.{Ask, is_block_size, ask_of, asked_by, asked, block_in, message, blocks_asked}
use Rattle.thing_service.specs.Generator.{image}
use Rattle.thing_service.specs.Offers.{is_file_of}
use Rattle.thing_service.proofs.Names.{update_is_name, data_is_name, rejected_is_name, block_few}

abbrev AreMessages : List Answer → Type 0
AreMessages answers = AllByRecursion IsMessage answers

if_known : (b : Bool) (answer : Answer) → IsMessage answer → AreMessages (cond b (answer ∷ []) [])
if_known true answer is = (is, tt)
if_known false answer is = tt

pub update_messages : (thing : List ℕ) (offers : List Offer) (name : List ℕ) → is_thing thing ≡ true → is_job name ≡ true → AreMessages (update_answers thing offers name)
update_messages thing offers name e f = if_known (is_known offers name) (_, codes "{}") (update_is_name thing name e f, omega arith)

-- ---- Blocks

small : (size : ℕ) → is_block_size size ≡ true → size ≤ 65536
small size e =
    let within = (and_parts (nat_le 256 size && nat_le size 65536) (is_power_of_two size) e).0 in
    leb-true size 65536 (and_parts (nat_le 256 size) (nat_le size 65536) within).1

of_offer : (asked : Asked) (offer : Option Offer) → asked.1 ≤ 65536 → IfSome (ask_of asked offer) (λ ask. ask.size ≤ 65536)
of_offer asked None few = tt
of_offer asked (Some offer) few = few

in_size : (b : Bool) (ask : Option Ask) → (b ≡ true → IfSome ask (λ ask. ask.size ≤ 65536)) → IfSome (cond b ask None) (λ ask. ask.size ≤ 65536)
in_size true ask h = h refl
in_size false ask h = tt

by_request : {E : Type 0} (offers : List Offer) (stream : List ℕ) (r : Result Asked E) → IfSome (asked_by offers stream r) (λ ask. ask.size ≤ 65536)
by_request offers stream (Ok asked) = in_size (is_block_size asked.1) (ask_of asked (find (is_file_of stream asked.0) offers)) (λ is. of_offer asked (find (is_file_of stream asked.0) offers) (small asked.1 is))
by_request offers stream (Err fault) = tt

taken_few : (n : ℕ) (xs : List ℕ) → length (take n xs) ≤ n
taken_few zero xs = omega arith
taken_few (suc n) [] = omega arith
taken_few (suc n) (x ∷ xs) = omega (arith, taken_few n xs)

block_short : (offer : Offer) (size i : ℕ) → size ≤ 65536 → length (message offer size i) ≤ 131072
block_short offer size i few = block_few offer.job.file i (block_in offer size i) (omega (arith, few, taken_few size (drop (i * size) (image offer.seed offer.job.size))))

each : (topic : List ℕ) (offer : Offer) (size : ℕ) → is_name topic ≡ true → size ≤ 65536 → (blocks : List ℕ) → AreMessages (map (λ i. (topic, message offer size i)) blocks)
each topic offer size e few [] = tt
each topic offer size e few (i ∷ blocks) = ((e, block_short offer size i few), each topic offer size e few blocks)

by_ask : (thing stream : List ℕ) (ask : Option Ask) → is_thing thing ≡ true → is_stream stream ≡ true → IfSome ask (λ ask. ask.size ≤ 65536) → AreMessages (block_answers thing stream ask)
by_ask thing stream None e f few = ((rejected_is_name thing stream e f, omega arith), tt)
by_ask thing stream (Some ask) e f few = each (data_topic thing stream) ask.offer ask.size (data_is_name thing stream e f) few (blocks_asked ask)

pub block_messages : (thing : List ℕ) (offers : List Offer) (stream payload : List ℕ) → is_thing thing ≡ true → is_stream stream ≡ true → AreMessages (block_answers thing stream (asked offers stream payload))
block_messages thing offers stream payload e f = by_ask thing stream (asked offers stream payload) e f (by_request offers stream (request_of payload))
