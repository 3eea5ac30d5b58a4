-- The topics of shadows and jobs are topics that a request may have.
use Rattle.std.proofs.Common.{◌≡◌, ℕ, zero, suc, ◌+◌, ◌≤◌, ◌<◌, Bool, true, false, List, [], ◌∷◌, ◌++◌, length, Option, Some, None, inl, inr, refl, sym, ap, ◌∙◌, subst, ⊎_elim, arith, length-append}
use Rattle.std.specs.Prelude.{◌||◌, ◌&&◌, ◌==◌, nat_le, codes}
use Rattle.std.specs.List.{list_all}
use Rattle.std.specs.Str.{IsAscii, bytes_eq}
use Rattle.std.proofs.lemmas.Bool.{and_parts, cases_lt, eqb-true, false_from_ne_true, leb-true, le-leb, or_cases, or_left}
use Rattle.std.proofs.lemmas.Bool.Decides.{nat_tests}
use Rattle.std.proofs.lemmas.Slice.Eq.{bytes_eq-Decides}
use Rattle.std.proofs.lemmas.Str.{IsUtf8-from_ascii, is_utf8-from_IsUtf8}
use Rattle.topic_filter.specs.Texts as texts
use Rattle.agent_journal.specs.Requests.{is_topic}
use Rattle.thing_topics.specs.declared.shadows.ShadowKind.{ShadowKind}
use Rattle.thing_topics.specs.declared.jobs.JobsKind.{JobsKind}
use Rattle.thing_topics.specs.declared.faults.NameFault.TheVariants as names
use Rattle.thing_topics.specs.Classes as classes
use Rattle.thing_topics.specs.Fronts.{front_text, root}
use Rattle.thing_topics.specs.Shadows as shadows
use Rattle.thing_topics.specs.Jobs as jobs
use Rattle.thing_topics.proofs.Binding.{no_fault_by}

-- ---- Bytes

abbrev pub is_topic_byte : ℕ → Bool
is_topic_byte b = classes.is_name_byte b || b == 47 || b == 36

none_above : (b : ℕ) → 128 ≤ b → is_topic_byte b ≡ false
none_above b high = grind (arith, nat_tests)

low : (b : ℕ) → is_topic_byte b ≡ true → b < 128
low b e = ⊎_elim (λ below. below) (λ high. let none = none_above b high in absurd (cc (e, none))) (cases_lt b 128)

-- a byte that passes isn't one that doesn't
other : (b n : ℕ) → is_topic_byte b ≡ true → is_topic_byte n ≡ false → (b == n) ≡ false
other b n passes fails =
    false_from_ne_true (b == n) (λ e. let same : b ≡ n = eqb-true b n e in let both : true ≡ false = sym (ap is_topic_byte (sym same) ∙ passes) ∙ fails in absurd (cc both))

name_byte : (b : ℕ) → is_topic_byte b ≡ true → texts.is_name_byte b ≡ true
name_byte b e = rw (other b 0 e refl, other b 43 e refl, other b 35 e refl) refl

abbrev pub AreTopicBytes : List ℕ → Type 0
AreTopicBytes text = list_all is_topic_byte text ≡ true

name_bytes : (text : List ℕ) → AreTopicBytes text → list_all texts.is_name_byte text ≡ true
name_bytes [] e = refl
name_bytes (b ∷ text) e = let two = and_parts (is_topic_byte b) (list_all is_topic_byte text) e in rw (name_byte b two.0, name_bytes text two.1) refl

in_ascii : (text : List ℕ) → AreTopicBytes text → IsAscii text
in_ascii [] e i = omega arith
in_ascii (b ∷ text) e zero = low b (and_parts (is_topic_byte b) (list_all is_topic_byte text) e).0
in_ascii (b ∷ text) e (suc i) = in_ascii text (and_parts (is_topic_byte b) (list_all is_topic_byte text) e).1 i

both : (xs ys : List ℕ) → AreTopicBytes xs → AreTopicBytes ys → AreTopicBytes (xs ++ ys)
both [] ys h k = k
both (x ∷ xs) ys h k = let two = and_parts (is_topic_byte x) (list_all is_topic_byte xs) h in rw (two.0, both xs ys two.1 k) refl

-- a text of such bytes that isn't too long
pub topic_by : (text : List ℕ) → 1 ≤ length text → length text ≤ 1024 → AreTopicBytes text → is_topic text ≡ true
unfolding texts.is_name
topic_by text some few all =
    rw (is_utf8-from_IsUtf8 text (IsUtf8-from_ascii text (in_ascii text all)), le-leb (length text) 1024 few, le-leb 1 (length text) some, le-leb (length text) 65535 (omega arith), name_bytes text all) refl

-- ---- Parts

-- a part of a topic
pub record Part (most : ℕ) (text : List ℕ) : Type 0 where
  pub few : length text ≤ most
  pub all : AreTopicBytes text

of_name : (text : List ℕ) → list_all classes.is_name_byte text ≡ true → AreTopicBytes text
of_name [] e = refl
of_name (b ∷ text) e =
    let two = and_parts (classes.is_name_byte b) (list_all classes.is_name_byte text) e in
    rw (or_left (classes.is_name_byte b || b == 47) (b == 36) (or_left (classes.is_name_byte b) (b == 47) two.0), of_name text two.1) refl

of_plain : (text : List ℕ) → list_all classes.is_plain_byte text ≡ true → list_all classes.is_name_byte text ≡ true
of_plain [] e = refl
of_plain (b ∷ text) e =
    let two = and_parts (classes.is_plain_byte b) (list_all classes.is_plain_byte text) e in
    rw (or_left (classes.is_plain_byte b) (b == 58) two.0, of_plain text two.1) refl

has_most : (most : ℕ) (text : List ℕ) → classes.has_length most text ≡ true → length text ≤ most
has_most most text e = leb-true (length text) most (and_parts (nat_le 1 (length text)) (nat_le (length text) most) e).1

thing_part : (thing : List ℕ) → classes.is_thing thing ≡ true → Part 128 thing
unfolding classes.is_thing
thing_part thing e =
    let two = and_parts (classes.has_length 128 thing) (list_all classes.is_name_byte thing) e in
    record { few = has_most 128 thing two.0; all = of_name thing two.1 }

name_part : (name : List ℕ) → classes.is_shadow_name name ≡ true → Part 64 name
unfolding classes.is_shadow_name
name_part name e =
    let two = and_parts (classes.has_length 64 name) (list_all classes.is_name_byte name) e in
    record { few = has_most 64 name two.0; all = of_name name two.1 }

job_part : (job : List ℕ) → classes.is_job job ≡ true → Part 64 job
unfolding classes.is_job
job_part job e =
    let two = and_parts (classes.has_length 64 job) (list_all classes.is_plain_byte job) e in
    record { few = has_most 64 job two.0; all = of_name job (of_plain job two.1) }

joined : (m n : ℕ) (xs ys : List ℕ) → Part m xs → Part n ys → Part (m + n) (xs ++ ys)
joined m n xs ys h k = record { few = let l = length-append xs ys in let a = h.few in let b = k.few in omega (arith, l, a, b); all = both xs ys h.all k.all }

literal : (most : ℕ) (text : List ℕ) → length text ≤ most → AreTopicBytes text → Part most text
literal most text few all = record { few = few; all = all }

-- `$aws/things/`, a thing, and a service between two `/`
front_part : (thing service : List ℕ) → classes.is_thing thing ≡ true → Part 9 service → Part 149 (front_text thing service)
front_part thing service e h = joined 140 9 (root ++ thing) service (joined 12 128 root thing (literal 12 root (omega arith) refl) (thing_part thing e)) h

-- a word of a kind
pub record Word (text : List ℕ) : Type 0 where
  pub some : 1 ≤ length text
  pub part : Part 19 text

topic_of : (front word : List ℕ) → Part 219 front → Word word → is_topic (front ++ word) ≡ true
topic_of front word h k =
    let whole = joined 219 19 front word h k.part in
    topic_by (front ++ word) (let l = length-append front word in let one = k.some in omega (arith, l, one)) (let few = whole.few in omega (arith, few)) whole.all

with_name_part : (front : List ℕ) (name : Option (List ℕ)) → Part 149 front → shadows.has_class name ≡ true → Part 219 (shadows.with_name front name)
with_name_part front None h e = record { few = let few = h.few in omega (arith, few); all = h.all }
with_name_part front (Some name) h e =
    joined 218 1 (front ++ codes "name/" ++ name) (codes "/")
    (joined 154 64 (front ++ codes "name/") name (joined 149 5 front (codes "name/") h (literal 5 (codes "name/") (omega arith) refl)) (name_part name e))
    (literal 1 (codes "/") (omega arith) refl)

pub shadow_topic_valid : (thing : List ℕ) (name : Option (List ℕ)) (kind : ShadowKind) → Word (shadows.word kind) → shadows.fault_of thing name ≡ None
    → is_topic (shadows.topic_text (shadows.parts_of thing name kind)) ≡ true
unfolding shadows.fault_of shadows.topic_text
shadow_topic_valid thing name kind word none =
    let both = no_fault_by (classes.is_thing thing) (shadows.has_class name) names.Thing names.Name none in
    let front = front_text thing (codes "/shadow/") in
    topic_of (shadows.with_name front name) (shadows.word kind)
    (with_name_part front name (front_part thing (codes "/shadow/") both.0 (literal 9 (codes "/shadow/") (omega arith) refl)) both.1) word

next_part : Part 64 (codes "$next")
next_part = literal 64 (codes "$next") (omega arith) refl

-- a job, or `$next`
any_job_part : (kind : JobsKind) (job : List ℕ) → jobs.has_class kind (Some job) ≡ true → Part 64 job
any_job_part kind job e =
    let class = (and_parts (jobs.takes_job kind) (classes.is_job job || (jobs.takes_next kind && bytes_eq job (codes "$next"))) e).1 in
    elim (or_cases (classes.is_job job) (jobs.takes_next kind && bytes_eq job (codes "$next")) class) [
      | inl own ↦ job_part job own
      | inr next ↦
          let same : job ≡ codes "$next" = (bytes_eq-Decides job (codes "$next")).0 (and_parts (jobs.takes_next kind) (bytes_eq job (codes "$next")) next).1 in
          subst (Part 64) (sym same) next_part
    ]

with_job_part : (front : List ℕ) (job : Option (List ℕ)) (kind : JobsKind) → Part 149 front → jobs.has_class kind job ≡ true → Part 219 (jobs.with_job front job)
with_job_part front None kind h e = record { few = let few = h.few in omega (arith, few); all = h.all }
with_job_part front (Some job) kind h e =
    let named = joined 149 64 front job h (any_job_part kind job e) in
    let slashed = joined 213 1 (front ++ job) (codes "/") named (literal 1 (codes "/") (omega arith) refl) in
    record { few = let few = slashed.few in omega (arith, few); all = slashed.all }

pub jobs_topic_valid : (thing : List ℕ) (job : Option (List ℕ)) (kind : JobsKind) → Word (jobs.word kind) → jobs.fault_of thing job kind ≡ None
    → is_topic (jobs.topic_text (jobs.parts_of thing job kind)) ≡ true
unfolding jobs.fault_of jobs.topic_text
jobs_topic_valid thing job kind word none =
    let both = no_fault_by (classes.is_thing thing) (jobs.has_class kind job) names.Thing names.Job none in
    let front = front_text thing (codes "/jobs/") in
    topic_of (jobs.with_job front job) (jobs.word kind) (with_job_part front job kind (front_part thing (codes "/jobs/") both.0 (literal 9 (codes "/jobs/") (omega arith) refl)) both.1) word
