-- The front that a topic is written with is the one that is read.
use Rattle.std.proofs.Common.{◌≡◌, ℕ, List, [], ◌∷◌, ◌++◌, Bool, true, false, cond, Option, Some, None, Result, Ok, refl, sym, ap, ◌∙◌, ap₂, append_assoc}
use Rattle.std.specs.Prelude.{◌==◌}
use Rattle.std.proofs.lemmas.Bool.{eqb-true}
use Rattle.thing_topics.specs.declared.faults.TopicFault.{TopicFault}
use Rattle.thing_topics.specs.declared.faults.TopicFault.TheVariants as faults
use Rattle.thing_topics.specs.Classes.{is_thing}
use Rattle.thing_topics.specs.Cuts.{behind, first_level, onto_level}
use Rattle.thing_topics.specs.Fronts.{root, front_of, front_text, behind_some}
use Rattle.thing_topics.specs.Faults.{StandsBehind}
use Rattle.thing_topics.specs.Readings.{◌>>=◌, or_fault, tested}
use Rattle.thing_topics.proofs.Cutting.{behind_front, front_behind, level_cut}
use Rattle.thing_topics.proofs.Slashes.{thing_no_slash}
use Rattle.thing_topics.proofs.Binding.{passed, some_passed, test_passed}

back_by : (slash : Bool) (b : ℕ) (text : List ℕ) (cut : List ℕ × Option (List ℕ)) (level below : List ℕ) → (b == 47) ≡ slash
    → ((l rest : List ℕ) → cut ≡ (l, Some rest) → text ≡ l ++ 47 ∷ rest) → cond slash ([], Some text) (onto_level b cut) ≡ (level, Some below) → b ∷ text ≡ level ++ 47 ∷ below
back_by true b text cut level below e others h =
    let first : [] ≡ level = ap (λ p. p.0) h in
    let some : Some text ≡ Some below = ap (λ p. p.1) h in
    let rest : text ≡ below = cc in
    ap (λ c. c ∷ text) (eqb-true b 47 e) ∙ ap (λ t. 47 ∷ t) rest ∙ ap (λ l. l ++ 47 ∷ below) first
back_by false b text (l, None) level below e others h =
    let none : None ≡ Some below = ap (λ p. p.1) h in
    absurd (cc none)
back_by false b text (l, Some rest) level below e others h =
    let first : b ∷ l ≡ level = ap (λ p. p.0) h in
    let some : Some rest ≡ Some below = ap (λ p. p.1) h in
    let same : rest ≡ below = cc in
    ap (λ t. b ∷ t) (others l rest refl) ∙ ap (λ t. b ∷ l ++ 47 ∷ t) same ∙ ap (λ f. f ++ 47 ∷ below) first

-- the text of a first level and what stands behind its `/`
pub level_back : (text level below : List ℕ) → first_level text ≡ (level, Some below) → text ≡ level ++ 47 ∷ below
unfolding first_level
level_back [] level below h =
    let none : None ≡ Some below = ap (λ p. p.1) h in
    absurd (cc none)
level_back (b ∷ text) level below h = back_by (b == 47) b text (first_level text) level below refl (level_back text) h

-- written and read
pub front_read : (service thing rest : List ℕ) → is_thing thing ≡ true → front_of service (front_text thing (47 ∷ service) ++ rest) ≡ Ok (thing, rest)
unfolding front_of
front_read service thing rest class =
    let inner : (thing ++ 47 ∷ service) ++ rest ≡ thing ++ 47 ∷ (service ++ rest) = append_assoc thing (47 ∷ service) rest in
    let whole : front_text thing (47 ∷ service) ++ rest ≡ root ++ (thing ++ 47 ∷ (service ++ rest)) =
    append_assoc (root ++ thing) (47 ∷ service) rest ∙ append_assoc root thing (47 ∷ service ++ rest) in
    rw (whole, behind_front root (thing ++ 47 ∷ (service ++ rest)), level_cut thing (service ++ rest) (thing_no_slash thing class), class, behind_front service rest) refl

abbrev pub ended : List ℕ → List ℕ → Result (List ℕ × List ℕ) TopicFault
ended thing below = Ok (thing, below)

abbrev pub from_level : List ℕ → List ℕ × Option (List ℕ) → Result (List ℕ × List ℕ) TopicFault
from_level service level = or_fault faults.Kind (behind_some service level.1) >>= ended level.0

abbrev pub from_root : List ℕ → List ℕ → Result (List ℕ × List ℕ) TopicFault
from_root service rest = tested faults.Thing (is_thing (first_level rest).0) (first_level rest) >>= from_level service

behind_level : (service text : List ℕ) (level : List ℕ × Option (List ℕ)) (below : List ℕ) → level ≡ first_level text → behind_some service level.1 ≡ Some below → text ≡ level.0 ++ 47 ∷ (service ++ below)
behind_level service text (l, None) below e h = absurd (cc h)
behind_level service text (l, Some rest) below e h = level_back text l rest (sym e) ∙ ap (λ t. l ++ 47 ∷ t) (front_behind service rest below h)

pub front_back : (service text thing rest : List ℕ) → front_of service text ≡ Ok (thing, rest) → StandsBehind service text thing rest
unfolding front_of
front_back service text thing rest h =
    let root_passed = passed (or_fault faults.Root (behind root text)) (from_root service) (thing, rest) h in
    let inner = root_passed.x in
    let whole : text ≡ root ++ inner = front_behind root text inner (some_passed faults.Root (behind root text) inner root_passed.first) in
    let thing_passed = passed (tested faults.Thing (is_thing (first_level inner).0) (first_level inner)) (from_level service) (thing, rest) root_passed.others in
    let level = thing_passed.x in
    let test = test_passed faults.Thing (is_thing (first_level inner).0) (first_level inner) level thing_passed.first in
    let service_passed = passed (or_fault faults.Kind (behind_some service level.1)) (ended level.0) (thing, rest) thing_passed.others in
    let below = service_passed.x in
    let below_is = some_passed faults.Kind (behind_some service level.1) below service_passed.first in
    let parts : ◌≡◌ {A = List ℕ × List ℕ} (level.0, below) (thing, rest) = cc (service_passed.others) in
    let thing_is : level.0 ≡ thing = ap (λ p. p.0) parts in
    let rest_is : below ≡ rest = ap (λ p. p.1) parts in
    let rest_text : inner ≡ level.0 ++ 47 ∷ (service ++ below) = behind_level service inner level below (sym test.1) below_is in
    record {
      class = ap is_thing (sym thing_is ∙ ap (λ p. p.0) (sym test.1)) ∙ test.0;
      written = whole ∙ ap (λ t. root ++ t) rest_text ∙ ap₂ (λ t r. root ++ (t ++ 47 ∷ (service ++ r))) thing_is rest_is ∙ sym (append_assoc root thing (47 ∷ service ++ rest)) ∙ sym (append_assoc (root ++ thing) (47 ∷ service) rest);
    }
