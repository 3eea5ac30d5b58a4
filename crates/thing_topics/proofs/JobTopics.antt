-- A text reads as the parts of a topic of jobs exactly where it is their topic.
use Rattle.std.proofs.Common.{◌≡◌, ℕ, List, ◌∷◌, ◌++◌, inl, inr, true, false, Option, Some, None, Result, Ok, Err, refl, sym, ap, ◌∙◌, subst, append_assoc}
use Rattle.std.specs.Prelude.{◌↔◌, IfOk, IfErr, ◌&&◌, ◌||◌, not, codes}
use Rattle.std.specs.Option.{option_map}
use Rattle.std.specs.Str.{bytes_eq}
use Rattle.std.proofs.lemmas.Bool.{and_parts, or_cases, not-true}
use Rattle.std.proofs.lemmas.Slice.Eq.{bytes_eq-Decides}
use Rattle.thing_topics.specs.declared.faults.TopicFault.{TopicFault}
use Rattle.thing_topics.specs.declared.faults.TopicFault.TheVariants as faults
use Rattle.thing_topics.specs.declared.jobs.JobsKind.{JobsKind}
use Rattle.thing_topics.specs.declared.jobs.JobsKind.TheVariants as kinds
use Rattle.thing_topics.specs.Classes.{is_thing, is_job}
use Rattle.thing_topics.specs.Cuts.{first_level}
use Rattle.thing_topics.specs.Fronts.{front_of, front_text}
use Rattle.thing_topics.specs.Readings.{Gives, ◌>>=◌}
use Rattle.thing_topics.specs.Jobs.{Parts, parts_of, IsTopic, word, job_kinds, plain_kinds, takes_job, takes_next, has_class, job_kind_of, plain_kind_of, with_kind, job_in, plain, found_or, found_in, fault_of, topic_text, with_job, read}
use Rattle.thing_topics.proofs.Binding.{passed, test_passed, written_so, no_fault_by}
use Rattle.thing_topics.proofs.Cutting.{HasNoSlash, level_cut}
use Rattle.thing_topics.proofs.Fronting.{level_back, front_read, front_back}
use Rattle.thing_topics.proofs.Slashes.{job_no_slash, next_no_slash}

pub job_word_found : (kind : JobsKind) → takes_job kind ≡ true → job_kind_of (word kind) ≡ Some kind
unfolding job_kind_of
job_word_found kinds.Notify h = absurd (cc h)
job_word_found kinds.NotifyNext h = absurd (cc h)
job_word_found kinds.Pending h = absurd (cc h)
job_word_found kinds.PendingAccepted h = absurd (cc h)
job_word_found kinds.PendingRejected h = absurd (cc h)
job_word_found kinds.StartNext h = absurd (cc h)
job_word_found kinds.StartNextAccepted h = absurd (cc h)
job_word_found kinds.StartNextRejected h = absurd (cc h)
job_word_found kinds.Describe h = refl
job_word_found kinds.DescribeAccepted h = refl
job_word_found kinds.DescribeRejected h = refl
job_word_found kinds.Update h = refl
job_word_found kinds.UpdateAccepted h = refl
job_word_found kinds.UpdateRejected h = refl

-- the word of a kind without a job has no job in its place
plain_word_found : (kind : JobsKind) → takes_job kind ≡ false → found_in (word kind) ≡ Ok (None, kind)
unfolding found_in job_in first_level job_kind_of plain_kind_of
plain_word_found kinds.Notify h = refl
plain_word_found kinds.NotifyNext h = refl
plain_word_found kinds.Pending h = refl
plain_word_found kinds.PendingAccepted h = refl
plain_word_found kinds.PendingRejected h = refl
plain_word_found kinds.StartNext h = refl
plain_word_found kinds.StartNextAccepted h = refl
plain_word_found kinds.StartNextRejected h = refl
plain_word_found kinds.Describe h = absurd (cc h)
plain_word_found kinds.DescribeAccepted h = absurd (cc h)
plain_word_found kinds.DescribeRejected h = absurd (cc h)
plain_word_found kinds.Update h = absurd (cc h)
plain_word_found kinds.UpdateAccepted h = absurd (cc h)
plain_word_found kinds.UpdateRejected h = absurd (cc h)

class_no_slash : (kind : JobsKind) (job : List ℕ) → (is_job job || (takes_next kind && bytes_eq job (codes "$next"))) ≡ true → HasNoSlash job
class_no_slash kind job class =
    elim (or_cases (is_job job) (takes_next kind && bytes_eq job (codes "$next")) class) [
      | inl named ↦ job_no_slash job named
      | inr next ↦
          let same : job ≡ codes "$next" = (bytes_eq-Decides job (codes "$next")).0 (and_parts (takes_next kind) (bytes_eq job (codes "$next")) next).1 in
          subst HasNoSlash (sym same) next_no_slash
    ]

-- what stands behind `jobs/`
abbrev rest_text : Option (List ℕ) → List ℕ → List ℕ
rest_text None text = text
rest_text (Some job) text = job ++ 47 ∷ text

job_read : (job : List ℕ) (kind : JobsKind) → has_class kind (Some job) ≡ true → found_in (rest_text (Some job) (word kind)) ≡ Ok (Some job, kind)
unfolding found_in job_in
job_read job kind class =
    let both = and_parts (takes_job kind) (is_job job || (takes_next kind && bytes_eq job (codes "$next"))) class in
    rw (level_cut job (word kind) (class_no_slash kind job both.1), job_word_found kind both.0, class) refl

found_read : (job : Option (List ℕ)) (kind : JobsKind) → has_class kind job ≡ true → found_in (rest_text job (word kind)) ≡ Ok (job, kind)
found_read None kind class = plain_word_found kind (not-true (takes_job kind) class)
found_read (Some job) kind class = job_read job kind class

rest_joined : (front : List ℕ) (job : Option (List ℕ)) (text : List ℕ) → with_job front job ++ text ≡ front ++ rest_text job text
rest_joined front None text = refl
rest_joined front (Some job) text = append_assoc (front ++ job) (codes "/") text ∙ append_assoc front job (47 ∷ text)

topic_rest : (parts : Parts) → topic_text parts ≡ front_text parts.thing (codes "/jobs/") ++ rest_text parts.job (word parts.kind)
unfolding topic_text
topic_rest parts = rest_joined (front_text parts.thing (codes "/jobs/")) parts.job (word parts.kind)

pub written_read : (text : List ℕ) (parts : Parts) → IsTopic text parts → read text ≡ Ok parts
unfolding read fault_of
written_read text parts topic =
    let rest = rest_text parts.job (word parts.kind) in
    let classes = no_fault_by (is_thing parts.thing) (has_class parts.kind parts.job) _ _ topic.classes in
    let whole : text ≡ front_text parts.thing (codes "/jobs/") ++ rest = topic.written ∙ topic_rest parts in
    let front : front_of (codes "jobs/") text ≡ Ok (parts.thing, rest) = ap (front_of (codes "jobs/")) whole ∙ front_read (codes "jobs/") parts.thing rest classes.0 in
    rw (front, found_read parts.job parts.kind classes.1) refl

-- what was found stands so in the rest
record IsFound (rest : List ℕ) (job : Option (List ℕ)) (kind : JobsKind) : Type 0 where
  pub class : has_class kind job ≡ true
  pub written : rest ≡ rest_text job (word kind)

same_found : (rest : List ℕ) (found other : Option (List ℕ) × JobsKind) → found ≡ other → IsFound rest found.0 found.1 → IsFound rest other.0 other.1
same_found rest found other e h = subst (λ (f : Option (List ℕ) × JobsKind). IsFound rest f.0 f.1) e h

plain_back : (rest : List ℕ) (o : Option JobsKind) (found : Option (List ℕ) × JobsKind) → plain_kind_of rest ≡ o → plain o ≡ Ok found → IsFound rest found.0 found.1
unfolding plain_kind_of
plain_back rest None found e h = absurd (cc h)
plain_back rest (Some kind) found e h =
    let known = written_so word (λ k. not (takes_job k)) plain_kinds rest kind refl e in
    let same : ◌≡◌ {A = Option (List ℕ) × JobsKind} (None, kind) found = cc h in
    same_found rest (None, kind) found same (record { class = known.1; written = sym known.0 })

kind_back : (level below : List ℕ) (o : Option JobsKind) (found : List ℕ × JobsKind) → job_kind_of below ≡ o → option_map (λ kind. (level, kind)) o ≡ Some found
    → level ++ 47 ∷ below ≡ found.0 ++ 47 ∷ word found.1
unfolding job_kind_of
kind_back level below None found e h = absurd (cc h)
kind_back level below (Some kind) found e h =
    let known = written_so word takes_job job_kinds below kind refl e in
    let same : ◌≡◌ {A = List ℕ × JobsKind} (level, kind) found = cc h in
    ap (λ t. level ++ 47 ∷ t) (sym known.0) ∙ ap (λ (f : List ℕ × JobsKind). f.0 ++ 47 ∷ word f.1) same

level_kind : (rest : List ℕ) (cut : List ℕ × Option (List ℕ)) (found : List ℕ × JobsKind) → first_level rest ≡ cut → with_kind cut ≡ Some found → rest ≡ found.0 ++ 47 ∷ word found.1
level_kind rest (level, None) found e h = absurd (cc h)
level_kind rest (level, Some below) found e h = level_back rest level below e ∙ kind_back level below (job_kind_of below) found refl h

job_back : (rest : List ℕ) (found : List ℕ × JobsKind) → job_in rest ≡ Some found → rest ≡ found.0 ++ 47 ∷ word found.1
unfolding job_in
job_back rest found h = level_kind rest (first_level rest) found refl h

found_back_by : (rest : List ℕ) (o : Option (List ℕ × JobsKind)) (found : Option (List ℕ) × JobsKind) → job_in rest ≡ o → found_or rest o ≡ Ok found → IsFound rest found.0 found.1
found_back_by rest None found e h = plain_back rest (plain_kind_of rest) found refl h
found_back_by rest (Some (job, kind)) found e h =
    let test = test_passed faults.Part (has_class kind (Some job)) (Some job, kind) found h in
    same_found rest (Some job, kind) found test.1 (record { class = test.0; written = job_back rest (job, kind) e })

found_back : (rest : List ℕ) (found : Option (List ℕ) × JobsKind) → found_in rest ≡ Ok found → IsFound rest found.0 found.1
unfolding found_in
found_back rest found h = found_back_by rest (job_in rest) found refl h

abbrev pub ended : List ℕ → Option (List ℕ) × JobsKind → Result Parts TopicFault
ended thing found = Ok (parts_of thing found.0 found.1)

abbrev pub from_front : List ℕ × List ℕ → Result Parts TopicFault
from_front front = found_in front.1 >>= ended front.0

joined : (text thing rest : List ℕ) (job : Option (List ℕ)) (kind : JobsKind) → is_thing thing ≡ true → text ≡ front_text thing (codes "/jobs/") ++ rest → IsFound rest job kind → IsTopic text (parts_of thing job kind)
unfolding fault_of
joined text thing rest job kind thing_class whole found = record {
  classes = rw (thing_class, found.class) refl;
  written = whole ∙ ap (λ r. front_text thing (codes "/jobs/") ++ r) found.written ∙ sym (topic_rest (parts_of thing job kind));
}

read_back : (text : List ℕ) (parts : Parts) → read text ≡ Ok parts → IsTopic text parts
unfolding read
read_back text parts h =
    let front = passed (front_of (codes "jobs/") text) from_front parts h in
    let found = passed (found_in front.x.1) (ended front.x.0) parts front.others in
    let known = front_back (codes "jobs/") text front.x.0 front.x.1 front.first in
    let whole : parts_of front.x.0 found.x.0 found.x.1 ≡ parts = cc (found.others) in
    subst (λ (p : Parts). IsTopic text p) whole (joined text front.x.0 front.x.1 found.x.0 found.x.1 known.class known.written (found_back front.x.1 found.x found.first))

pub exact : (text : List ℕ) (parts : Parts) → (read text ≡ Ok parts) ↔ IsTopic text parts
exact text parts = (read_back text parts, written_read text parts)

-- what an answer that gives the reading says of topics
pub told : {M : Type 0} (view : M → Parts) (text : List ℕ) (answer : Result M TopicFault) → Gives view answer (read text) → IfOk answer (λ found. IsTopic text (view found))
told view text (Ok found) h = read_back text (view found) h
told view text (Err fault) h = tt

pub refused : {M : Type 0} (view : M → Parts) (text : List ℕ) (answer : Result M TopicFault) → Gives view answer (read text) → IfErr answer (λ _. (parts : Parts) → IsTopic text parts → ⊥)
refused view text (Ok found) h = tt
refused view text (Err fault) h = λ parts topic. cc (h, written_read text parts topic)
