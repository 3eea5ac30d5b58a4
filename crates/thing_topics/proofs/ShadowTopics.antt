-- A text reads as the parts of a shadow's topic exactly where it is their topic.
use Rattle.std.proofs.Common.{◌≡◌, ℕ, List, ◌∷◌, ◌++◌, true, Option, Some, None, Result, Ok, Err, refl, sym, ap, ◌∙◌, subst, append_assoc}
use Rattle.std.specs.Prelude.{◌↔◌, IfOk, IfErr, codes}
use Rattle.thing_topics.specs.declared.faults.TopicFault.{TopicFault}
use Rattle.thing_topics.specs.declared.faults.TopicFault.TheVariants as faults
use Rattle.thing_topics.specs.declared.shadows.ShadowKind.{ShadowKind}
use Rattle.thing_topics.specs.declared.shadows.ShadowKind.TheVariants as kinds
use Rattle.thing_topics.specs.Classes.{is_thing, is_shadow_name}
use Rattle.thing_topics.specs.Cuts.{behind, first_level}
use Rattle.thing_topics.specs.Fronts.{front_of, front_text}
use Rattle.thing_topics.specs.Readings.{Gives, ◌>>=◌, or_fault, tested}
use Rattle.thing_topics.specs.Shadows.{Parts, parts_of, IsTopic, word, all_kinds, kind_of, place_of, place_in, place_behind, has_class, fault_of, topic_text, with_name, read}
use Rattle.thing_topics.proofs.Binding.{passed, some_passed, test_passed, written_so, no_fault_by}
use Rattle.thing_topics.proofs.Cutting.{behind_front, front_behind, level_cut}
use Rattle.thing_topics.proofs.Fronting.{level_back, front_read, front_back}
use Rattle.thing_topics.proofs.Slashes.{name_no_slash}

word_found : (kind : ShadowKind) → kind_of (word kind) ≡ Some kind
unfolding kind_of
word_found kinds.Get = refl
word_found kinds.GetAccepted = refl
word_found kinds.GetRejected = refl
word_found kinds.Update = refl
word_found kinds.UpdateAccepted = refl
word_found kinds.UpdateRejected = refl
word_found kinds.UpdateDelta = refl
word_found kinds.UpdateDocuments = refl
word_found kinds.Delete = refl
word_found kinds.DeleteAccepted = refl
word_found kinds.DeleteRejected = refl

word_back : (text : List ℕ) (kind : ShadowKind) → kind_of text ≡ Some kind → word kind ≡ text
unfolding kind_of
word_back text kind h = (written_so word (λ k. true) all_kinds text kind refl h).0

-- no word of a kind is one behind `name/`
place_unnamed : (kind : ShadowKind) → ◌≡◌ {A = Option (List ℕ) × List ℕ} (place_of (word kind)) (None, word kind)
unfolding place_of behind
place_unnamed kinds.Get = refl
place_unnamed kinds.GetAccepted = refl
place_unnamed kinds.GetRejected = refl
place_unnamed kinds.Update = refl
place_unnamed kinds.UpdateAccepted = refl
place_unnamed kinds.UpdateRejected = refl
place_unnamed kinds.UpdateDelta = refl
place_unnamed kinds.UpdateDocuments = refl
place_unnamed kinds.Delete = refl
place_unnamed kinds.DeleteAccepted = refl
place_unnamed kinds.DeleteRejected = refl

-- what stands behind `shadow/`
abbrev rest_text : Option (List ℕ) → List ℕ → List ℕ
rest_text None text = text
rest_text (Some name) text = codes "name/" ++ (name ++ 47 ∷ text)

place_named : (name text : List ℕ) → is_shadow_name name ≡ true → ◌≡◌ {A = Option (List ℕ) × List ℕ} (place_of (rest_text (Some name) text)) (Some name, text)
unfolding place_of
place_named name text class = rw (behind_front (codes "name/") (name ++ 47 ∷ text), level_cut name text (name_no_slash name class)) refl

place_read : (name : Option (List ℕ)) (kind : ShadowKind) → has_class name ≡ true → ◌≡◌ {A = Option (List ℕ) × List ℕ} (place_of (rest_text name (word kind))) (name, word kind)
place_read None kind class = place_unnamed kind
place_read (Some name) kind class = place_named name (word kind) class

rest_joined : (front : List ℕ) (name : Option (List ℕ)) (text : List ℕ) → with_name front name ++ text ≡ front ++ rest_text name text
rest_joined front None text = refl
rest_joined front (Some name) text =
    append_assoc (front ++ codes "name/" ++ name) (codes "/") text ∙ append_assoc (front ++ codes "name/") name (47 ∷ text) ∙ append_assoc front (codes "name/") (name ++ 47 ∷ text)

topic_rest : (parts : Parts) → topic_text parts ≡ front_text parts.thing (codes "/shadow/") ++ rest_text parts.name (word parts.kind)
unfolding topic_text
topic_rest parts = rest_joined (front_text parts.thing (codes "/shadow/")) parts.name (word parts.kind)

pub written_read : (text : List ℕ) (parts : Parts) → IsTopic text parts → read text ≡ Ok parts
unfolding read fault_of
written_read text parts topic =
    let rest = rest_text parts.name (word parts.kind) in
    let classes = no_fault_by (is_thing parts.thing) (has_class parts.name) _ _ topic.classes in
    let whole : text ≡ front_text parts.thing (codes "/shadow/") ++ rest = topic.written ∙ topic_rest parts in
    let front : front_of (codes "shadow/") text ≡ Ok (parts.thing, rest) = ap (front_of (codes "shadow/")) whole ∙ front_read (codes "shadow/") parts.thing rest classes.0 in
    rw (front, place_read parts.name parts.kind classes.1, classes.1, word_found parts.kind) refl

unnamed_back : (rest text : List ℕ) (name : Option (List ℕ)) → ◌≡◌ {A = Option (List ℕ) × List ℕ} (None, rest) (name, text) → rest ≡ rest_text name text
unnamed_back rest text name h =
    let none : None ≡ name = ap (λ p. p.0) h in
    let same : rest ≡ text = ap (λ p. p.1) h in
    same ∙ ap (λ n. rest_text n text) none

named_back : (rest inner : List ℕ) (cut : List ℕ × Option (List ℕ)) (name : Option (List ℕ)) (text : List ℕ) → rest ≡ codes "name/" ++ inner → first_level inner ≡ cut
    → ◌≡◌ {A = Option (List ℕ) × List ℕ} (place_behind rest cut) (name, text) → rest ≡ rest_text name text
named_back rest inner (level, None) name text whole e h = unnamed_back rest text name h
named_back rest inner (level, Some below) name text whole e h =
    let some : Some level ≡ name = ap (λ p. p.0) h in
    let same : below ≡ text = ap (λ p. p.1) h in
    whole ∙ ap (λ t. codes "name/" ++ t) (level_back inner level below e) ∙ ap (λ t. codes "name/" ++ (level ++ 47 ∷ t)) same ∙ ap (λ n. rest_text n text) some

place_back_by : (rest : List ℕ) (o : Option (List ℕ)) (name : Option (List ℕ)) (text : List ℕ) → behind (codes "name/") rest ≡ o
    → ◌≡◌ {A = Option (List ℕ) × List ℕ} (place_in rest o) (name, text) → rest ≡ rest_text name text
place_back_by rest None name text e h = unnamed_back rest text name h
place_back_by rest (Some inner) name text e h = named_back rest inner (first_level inner) name text (front_behind (codes "name/") rest inner e) refl h

place_back : (rest : List ℕ) (name : Option (List ℕ)) (text : List ℕ) → ◌≡◌ {A = Option (List ℕ) × List ℕ} (place_of rest) (name, text) → rest ≡ rest_text name text
unfolding place_of
place_back rest name text h = place_back_by rest (behind (codes "name/") rest) name text refl h

abbrev pub ended : List ℕ → Option (List ℕ) → ShadowKind → Result Parts TopicFault
ended thing name kind = Ok (parts_of thing name kind)

abbrev pub from_place : List ℕ → Option (List ℕ) × List ℕ → Result Parts TopicFault
from_place thing place = or_fault faults.Kind (kind_of place.1) >>= ended thing place.0

abbrev pub from_front : List ℕ × List ℕ → Result Parts TopicFault
from_front front = tested faults.Part (has_class (place_of front.1).0) (place_of front.1) >>= from_place front.0

joined : (text thing rest : List ℕ) (name : Option (List ℕ)) (kind : ShadowKind) → is_thing thing ≡ true → has_class name ≡ true
    → text ≡ front_text thing (codes "/shadow/") ++ rest → rest ≡ rest_text name (word kind) → IsTopic text (parts_of thing name kind)
unfolding fault_of
joined text thing rest name kind thing_class name_class whole rest_is = record {
  classes = rw (thing_class, name_class) refl;
  written = whole ∙ ap (λ r. front_text thing (codes "/shadow/") ++ r) rest_is ∙ sym (topic_rest (parts_of thing name kind));
}

read_back : (text : List ℕ) (parts : Parts) → read text ≡ Ok parts → IsTopic text parts
unfolding read
read_back text parts h =
    let front = passed (front_of (codes "shadow/") text) from_front parts h in
    let place = passed (tested faults.Part (has_class (place_of front.x.1).0) (place_of front.x.1)) (from_place front.x.0) parts front.others in
    let test = test_passed faults.Part (has_class (place_of front.x.1).0) (place_of front.x.1) place.x place.first in
    let kind = passed (or_fault faults.Kind (kind_of place.x.1)) (ended front.x.0 place.x.0) parts place.others in
    let word_is : word kind.x ≡ place.x.1 = word_back place.x.1 kind.x (some_passed faults.Kind (kind_of place.x.1) kind.x kind.first) in
    let rest_is : front.x.1 ≡ rest_text place.x.0 (word kind.x) = place_back front.x.1 place.x.0 place.x.1 test.1 ∙ ap (rest_text place.x.0) (sym word_is) in
    let found = front_back (codes "shadow/") text front.x.0 front.x.1 front.first in
    let class : has_class place.x.0 ≡ true = ap (λ (p : Option (List ℕ) × List ℕ). has_class p.0) (sym test.1) ∙ test.0 in
    let whole : parts_of front.x.0 place.x.0 kind.x ≡ parts = cc (kind.others) in
    subst (λ (p : Parts). IsTopic text p) whole (joined text front.x.0 front.x.1 place.x.0 kind.x found.class class found.written rest_is)

pub exact : (text : List ℕ) (parts : Parts) → (read text ≡ Ok parts) ↔ IsTopic text parts
exact text parts = (read_back text parts, written_read text parts)

-- what an answer that gives the reading says of topics
pub told : {M : Type 0} (view : M → Parts) (text : List ℕ) (answer : Result M TopicFault) → Gives view answer (read text) → IfOk answer (λ found. IsTopic text (view found))
told view text (Ok found) h = read_back text (view found) h
told view text (Err fault) h = tt

pub refused : {M : Type 0} (view : M → Parts) (text : List ℕ) (answer : Result M TopicFault) → Gives view answer (read text) → IfErr answer (λ _. (parts : Parts) → IsTopic text parts → ⊥)
refused view text (Ok found) h = tt
refused view text (Err fault) h = λ parts topic. cc (h, written_read text parts topic)
