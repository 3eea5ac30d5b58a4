-- A text reads as the parts of a stream's topic exactly where it is their topic.
use Rattle.std.proofs.Common.{◌≡◌, ℕ, List, ◌∷◌, ◌++◌, true, Option, Some, None, Result, Ok, Err, refl, sym, ap, ◌∙◌, subst, append_assoc}
use Rattle.std.specs.Prelude.{◌↔◌, IfOk, IfErr, codes}
use Rattle.std.specs.Option.{option_and_then}
use Rattle.thing_topics.specs.declared.faults.TopicFault.{TopicFault}
use Rattle.thing_topics.specs.declared.faults.TopicFault.TheVariants as faults
use Rattle.thing_topics.specs.declared.streams.StreamKind.{StreamKind}
use Rattle.thing_topics.specs.declared.streams.StreamKind.TheVariants as kinds
use Rattle.thing_topics.specs.Classes.{is_thing, is_stream}
use Rattle.thing_topics.specs.Cuts.{first_level}
use Rattle.thing_topics.specs.Fronts.{front_of, front_text}
use Rattle.thing_topics.specs.Readings.{Gives, ◌>>=◌, or_fault, tested}
use Rattle.thing_topics.specs.Streams.{Parts, parts_of, IsTopic, word, all_kinds, kind_of, fault_of, topic_text, read}
use Rattle.thing_topics.proofs.Binding.{passed, some_passed, test_passed, written_so, no_fault_by}
use Rattle.thing_topics.proofs.Cutting.{level_cut}
use Rattle.thing_topics.proofs.Fronting.{level_back, front_read, front_back}
use Rattle.thing_topics.proofs.Slashes.{stream_no_slash}

word_found : (kind : StreamKind) → kind_of (word kind) ≡ Some kind
unfolding kind_of
word_found kinds.Get = refl
word_found kinds.Data = refl
word_found kinds.Rejected = refl

topic_rest : (parts : Parts) → topic_text parts ≡ front_text parts.thing (codes "/streams/") ++ (parts.stream ++ 47 ∷ word parts.kind)
unfolding topic_text
topic_rest parts =
    let front = front_text parts.thing (codes "/streams/") in
    append_assoc (front ++ parts.stream) (codes "/") (word parts.kind) ∙ append_assoc front parts.stream (47 ∷ word parts.kind)

pub written_read : (text : List ℕ) (parts : Parts) → IsTopic text parts → read text ≡ Ok parts
unfolding read fault_of
written_read text parts topic =
    let rest = parts.stream ++ 47 ∷ word parts.kind in
    let classes = no_fault_by (is_thing parts.thing) (is_stream parts.stream) _ _ topic.classes in
    let whole : text ≡ front_text parts.thing (codes "/streams/") ++ rest = topic.written ∙ topic_rest parts in
    let front : front_of (codes "streams/") text ≡ Ok (parts.thing, rest) = ap (front_of (codes "streams/")) whole ∙ front_read (codes "streams/") parts.thing rest classes.0 in
    rw (front, level_cut parts.stream (word parts.kind) (stream_no_slash parts.stream classes.1), classes.1, word_found parts.kind) refl

kind_back : (rest : List ℕ) (cut : List ℕ × Option (List ℕ)) (kind : StreamKind) → first_level rest ≡ cut → option_and_then kind_of cut.1 ≡ Some kind → rest ≡ cut.0 ++ 47 ∷ word kind
unfolding kind_of
kind_back rest (level, None) kind e h = absurd (cc h)
kind_back rest (level, Some below) kind e h = level_back rest level below e ∙ ap (λ t. level ++ 47 ∷ t) (sym (written_so word (λ k. true) all_kinds below kind refl h).0)

abbrev pub ended : List ℕ → List ℕ → StreamKind → Result Parts TopicFault
ended thing stream kind = Ok (parts_of thing stream kind)

abbrev pub from_level : List ℕ → List ℕ × Option (List ℕ) → Result Parts TopicFault
from_level thing level = or_fault faults.Kind (option_and_then kind_of level.1) >>= ended thing level.0

abbrev pub from_front : List ℕ × List ℕ → Result Parts TopicFault
from_front front = tested faults.Part (is_stream (first_level front.1).0) (first_level front.1) >>= from_level front.0

joined : (text thing rest stream : List ℕ) (kind : StreamKind) → is_thing thing ≡ true → is_stream stream ≡ true
    → text ≡ front_text thing (codes "/streams/") ++ rest → rest ≡ stream ++ 47 ∷ word kind → IsTopic text (parts_of thing stream kind)
unfolding fault_of
joined text thing rest stream kind thing_class stream_class whole rest_is = record {
  classes = rw (thing_class, stream_class) refl;
  written = whole ∙ ap (λ r. front_text thing (codes "/streams/") ++ r) rest_is ∙ sym (topic_rest (parts_of thing stream kind));
}

read_back : (text : List ℕ) (parts : Parts) → read text ≡ Ok parts → IsTopic text parts
unfolding read
read_back text parts h =
    let front = passed (front_of (codes "streams/") text) from_front parts h in
    let level = passed (tested faults.Part (is_stream (first_level front.x.1).0) (first_level front.x.1)) (from_level front.x.0) parts front.others in
    let test = test_passed faults.Part (is_stream (first_level front.x.1).0) (first_level front.x.1) level.x level.first in
    let kind = passed (or_fault faults.Kind (option_and_then kind_of level.x.1)) (ended front.x.0 level.x.0) parts level.others in
    let rest_is = kind_back front.x.1 level.x kind.x test.1 (some_passed faults.Kind (option_and_then kind_of level.x.1) kind.x kind.first) in
    let found = front_back (codes "streams/") text front.x.0 front.x.1 front.first in
    let class : is_stream level.x.0 ≡ true = ap (λ (p : List ℕ × Option (List ℕ)). is_stream p.0) (sym test.1) ∙ test.0 in
    let whole : parts_of front.x.0 level.x.0 kind.x ≡ parts = cc (kind.others) in
    subst (λ (p : Parts). IsTopic text p) whole (joined text front.x.0 front.x.1 level.x.0 kind.x found.class class found.written rest_is)

pub exact : (text : List ℕ) (parts : Parts) → (read text ≡ Ok parts) ↔ IsTopic text parts
exact text parts = (read_back text parts, written_read text parts)

-- what an answer that gives the reading says of topics
pub told : {M : Type 0} (view : M → Parts) (text : List ℕ) (answer : Result M TopicFault) → Gives view answer (read text) → IfOk answer (λ found. IsTopic text (view found))
told view text (Ok found) h = read_back text (view found) h
told view text (Err fault) h = tt

pub refused : {M : Type 0} (view : M → Parts) (text : List ℕ) (answer : Result M TopicFault) → Gives view answer (read text) → IfErr answer (λ _. (parts : Parts) → IsTopic text parts → ⊥)
refused view text (Ok found) h = tt
refused view text (Err fault) h = λ parts topic. cc (h, written_read text parts topic)
