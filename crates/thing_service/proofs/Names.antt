-- The topics of answers are topic names, and their payloads are short.
use Rattle.std.proofs.Common.{◌≡◌, ℕ, ◌+◌, ◌*◌, ◌≤◌, Bool, true, false, cond, List, [], ◌∷◌, ◌++◌, length, Some, None, refl, sym, ap, ◌∙◌, arith, length-append}
use Rattle.std.specs.Prelude.{◌||◌, ◌==◌, nat_le, nat_lt, codes}
use Rattle.std.specs.List.{list_all}
use Rattle.std.specs.Int.{to_be_bytes, w8, w16, w32, w64}
use Rattle.std.proofs.lemmas.Bool.{and_parts, eqb-true, leb-true, le-leb}
use Rattle.topic_filter.specs.Texts as texts
use Rattle.thing_topics.specs.declared.jobs.JobsKind.TheVariants as kinds
use Rattle.thing_topics.specs.Classes as classes
use Rattle.thing_topics.specs.Jobs as jobs
use Rattle.thing_topics.specs.Streams as streams
use Rattle.stream_blocks.specs.Spelling as spelling
use Rattle.thing_service.specs.Answers.{data_topic, rejected_topic}

-- ---- Names

flag : (b : Bool) → (b ≡ true → ⊥) → b ≡ false
flag true h = absurd (h refl)
flag false h = refl

-- a byte that passes isn't one that doesn't
other : (b n : ℕ) → classes.is_name_byte b ≡ true → classes.is_name_byte n ≡ false → (b == n) ≡ false
other b n passes fails =
    flag (b == n) (λ e. let same : b ≡ n = eqb-true b n e in let both : true ≡ false = sym (ap classes.is_name_byte (sym same) ∙ passes) ∙ fails in cc)

name_byte : (b : ℕ) → classes.is_name_byte b ≡ true → texts.is_name_byte b ≡ true
name_byte b e = rw (other b 0 e refl, other b 43 e refl, other b 35 e refl) refl

abbrev AreNames : List ℕ → Type 0
AreNames bytes = list_all texts.is_name_byte bytes ≡ true

named : (bytes : List ℕ) → list_all classes.is_name_byte bytes ≡ true → AreNames bytes
named [] e = refl
named (b ∷ bytes) e = let two = and_parts (classes.is_name_byte b) (list_all classes.is_name_byte bytes) e in rw (name_byte b two.0, named bytes two.1) refl

plain_byte : (b : Bool) (c : Bool) → b ≡ true → (b || c) ≡ true
plain_byte b c e = rw e refl

plain : (bytes : List ℕ) → list_all classes.is_plain_byte bytes ≡ true → AreNames bytes
plain [] e = refl
plain (b ∷ bytes) e = let two = and_parts (classes.is_plain_byte b) (list_all classes.is_plain_byte bytes) e in rw (name_byte b (plain_byte (classes.is_plain_byte b) (b == 58) two.0), plain bytes two.1) refl

both : (xs ys : List ℕ) → AreNames xs → AreNames ys → AreNames (xs ++ ys)
both [] ys h k = k
both (x ∷ xs) ys h k = let two = and_parts (texts.is_name_byte x) (list_all texts.is_name_byte xs) h in rw (two.0, both xs ys two.1 k) refl

-- a class of so many bytes
record Class (most : ℕ) (text : List ℕ) : Type 0 where
  few : length text ≤ most
  all : AreNames text

thing_class : (text : List ℕ) → classes.is_thing text ≡ true → Class 128 text
unfolding classes.is_thing
thing_class text e =
    let two = and_parts (classes.has_length 128 text) (list_all classes.is_name_byte text) e in
    record { few = leb-true (length text) 128 (and_parts (nat_le 1 (length text)) (nat_le (length text) 128) two.0).1; all = named text two.1 }

job_class : (text : List ℕ) → classes.is_job text ≡ true → Class 64 text
unfolding classes.is_job
job_class text e =
    let two = and_parts (classes.has_length 64 text) (list_all classes.is_plain_byte text) e in
    record { few = leb-true (length text) 64 (and_parts (nat_le 1 (length text)) (nat_le (length text) 64) two.0).1; all = plain text two.1 }

stream_class : (text : List ℕ) → classes.is_stream text ≡ true → Class 128 text
unfolding classes.is_stream
stream_class text e =
    let two = and_parts (classes.has_length 128 text) (list_all classes.is_plain_byte text) e in
    record { few = leb-true (length text) 128 (and_parts (nat_le 1 (length text)) (nat_le (length text) 128) two.0).1; all = plain text two.1 }

is_name_by : (text : List ℕ) → 1 ≤ length text → length text ≤ 65535 → AreNames text → texts.is_name text ≡ true
unfolding texts.is_name
is_name_by text some few all = rw (le-leb 1 (length text) some, le-leb (length text) 65535 few, all) refl

pub next_is_name : (thing : List ℕ) → classes.is_thing thing ≡ true → texts.is_name (jobs.topic_text (jobs.parts_of thing None kinds.StartNextAccepted)) ≡ true
unfolding jobs.topic_text
next_is_name thing e =
    let t = thing_class thing e in
    let front = codes "$aws/things/" ++ thing in
    let middle = front ++ codes "/jobs/" in
    let word = codes "start-next/accepted" in
    is_name_by (middle ++ word) (omega (arith, length-append middle word))
    (omega (arith, t.few, length-append middle word, length-append front (codes "/jobs/"), length-append (codes "$aws/things/") thing))
    (both middle word (both front (codes "/jobs/") (both (codes "$aws/things/") thing refl t.all) refl) refl)

pub update_is_name : (thing job : List ℕ) → classes.is_thing thing ≡ true → classes.is_job job ≡ true → texts.is_name (jobs.topic_text (jobs.parts_of thing (Some job) kinds.UpdateAccepted)) ≡ true
unfolding jobs.topic_text
update_is_name thing job e f =
    let t = thing_class thing e in
    let j = job_class job f in
    let front = codes "$aws/things/" ++ thing in
    let middle = front ++ codes "/jobs/" in
    let named = middle ++ job in
    let slashed = named ++ codes "/" in
    let word = codes "update/accepted" in
    is_name_by (slashed ++ word) (omega (arith, length-append slashed word))
    (omega (arith, t.few, j.few, length-append slashed word, length-append named (codes "/"), length-append middle job, length-append front (codes "/jobs/"), length-append (codes "$aws/things/") thing))
    (both slashed word (both named (codes "/") (both middle job (both front (codes "/jobs/") (both (codes "$aws/things/") thing refl t.all) refl) j.all) refl) refl)

-- the topic of a stream that ends in this word
stream_is_name : (thing stream word : List ℕ) → classes.is_thing thing ≡ true → classes.is_stream stream ≡ true → length word ≤ 19 → AreNames word
    → texts.is_name (((codes "$aws/things/" ++ thing ++ codes "/streams/") ++ stream ++ codes "/") ++ word) ≡ true
stream_is_name thing stream word e f short all =
    let t = thing_class thing e in
    let s = stream_class stream f in
    let front = codes "$aws/things/" ++ thing in
    let middle = front ++ codes "/streams/" in
    let named = middle ++ stream in
    let slashed = named ++ codes "/" in
    is_name_by (slashed ++ word) (omega (arith, length-append slashed word, length-append named (codes "/")))
    (omega (arith, t.few, s.few, short, length-append slashed word, length-append named (codes "/"), length-append middle stream, length-append front (codes "/streams/"), length-append (codes "$aws/things/") thing))
    (both slashed word (both named (codes "/") (both middle stream (both front (codes "/streams/") (both (codes "$aws/things/") thing refl t.all) refl) s.all) refl) all)

pub data_is_name : (thing stream : List ℕ) → classes.is_thing thing ≡ true → classes.is_stream stream ≡ true → texts.is_name (data_topic thing stream) ≡ true
unfolding streams.topic_text
data_is_name thing stream e f = stream_is_name thing stream (codes "data/cbor") e f (omega arith) refl

pub rejected_is_name : (thing stream : List ℕ) → classes.is_thing thing ≡ true → classes.is_stream stream ≡ true → texts.is_name (rejected_topic thing stream) ≡ true
unfolding streams.topic_text
rejected_is_name thing stream e f = stream_is_name thing stream (codes "rejected/cbor") e f (omega arith) refl

-- ---- Lengths

cond_few : (b : Bool) (x y : List ℕ) → length x ≤ 9 → length y ≤ 9 → length (cond b x y) ≤ 9
cond_few true x y h k = h
cond_few false x y h k = k

head_few : (major n : ℕ) → length (spelling.head major n) ≤ 9
unfolding spelling.head
head_few major n =
    let first = (32 * major + n) ∷ [] in
    let eight = (32 * major + 27) ∷ to_be_bytes w64 n in
    let four = (32 * major + 26) ∷ to_be_bytes w32 n in
    let two = (32 * major + 25) ∷ to_be_bytes w16 n in
    let one = (32 * major + 24) ∷ to_be_bytes w8 n in
    let a = cond_few (nat_lt n 4294967296) four eight (omega arith) (omega arith) in
    let b = cond_few (nat_lt n 65536) two (cond (nat_lt n 4294967296) four eight) (omega arith) a in
    let c = cond_few (nat_lt n 256) one (cond (nat_lt n 65536) two (cond (nat_lt n 4294967296) four eight)) (omega arith) b in
    cond_few (nat_lt n 24) first (cond (nat_lt n 256) one (cond (nat_lt n 65536) two (cond (nat_lt n 4294967296) four eight))) (omega arith) c

number_few : (letter n : ℕ) → length (spelling.number_of letter n) ≤ 19
number_few letter n =
    omega (arith, head_few 3 1, head_few 0 n, length-append (spelling.text (letter ∷ [])) (spelling.number n), length-append (spelling.head 3 1) (letter ∷ []))

pub block_few : (file index : ℕ) (payload : List ℕ) → length payload ≤ 65536 → length (spelling.block file index payload) ≤ 131072
block_few file index payload few =
    let len = length payload in
    let last = spelling.text (112 ∷ []) ++ spelling.head 2 len in
    let sized = spelling.number_of 108 len ++ last in
    let at = spelling.number_of 105 index ++ sized in
    let of = spelling.number_of 102 file ++ at in
    let front = spelling.head 5 4 ++ of in
    omega (
      arith,
      few,
      length-append front payload,
      length-append (spelling.head 5 4) of,
      length-append (spelling.number_of 102 file) at,
      length-append (spelling.number_of 105 index) sized,
      length-append (spelling.number_of 108 len) last,
      length-append (spelling.text (112 ∷ [])) (spelling.head 2 len),
      length-append (spelling.head 3 1) (112 ∷ []),
      head_few 5 4,
      number_few 102 file,
      number_few 105 index,
      number_few 108 len,
      head_few 3 1,
      head_few 2 len,
    )
