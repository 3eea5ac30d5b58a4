-- What waits for a task, gone through effect by effect and entry by entry.
use Rattle.std.proofs.Common.{◌≡◌, ◌≢◌, ℕ, ◌+◌, ◌<◌, ◌≤◌, Bool, true, false, cond, List, [], ◌∷◌, ◌++◌, length, drop, Some, None, refl, sym, ap, ◌∙◌, subst, arith, eq-eqb, ne_eqb}
use Rattle.std.specs.Prelude.{slice_get, get_or, nat_lt}
use Rattle.std.specs.List.{flat_map}
use Rattle.std.proofs.lemmas.Bool.{ltb-true, ltb-false}
use Rattle.std.proofs.lemmas.List.{drop_more, drop_all}
use Rattle.std.proofs.lemmas.Option.{slice_get_within, slice_get-get_or, get_or_from_slice_get}
use Rattle.agent_journal.specs.declared.effect.Effect.{Effect}
use Rattle.agent_journal.specs.declared.effect.Effect.TheVariants as f
use Rattle.agent_journal.specs.declared.entry.Entry.{Entry}
use Rattle.agent_journal.specs.Notes.{Told, for, told_by, noted}
use Rattle.agent_posts.specs.declared.place.Place.{Place}
use Rattle.agent_posts.specs.Waiting.{Placed, placed, told_in, told_from, waiting, among, addressee, told, IsNextIn, NoneIn, IsTold, WaitsAlike, NoneWaits, behind}

pub drop_here : {X : Type 0} (xs : List X) (k : ℕ) (x : X) → slice_get xs k ≡ Some x → drop k xs ≡ x ∷ drop (k + 1) xs
drop_here xs k x there = drop_more xs k x (slice_get_within xs k x there) ∙ ap (λ y. y ∷ drop (k + 1) xs) (get_or_from_slice_get xs k x x there)

pub got_here : {X : Type 0} (xs : List X) (k : ℕ) (x : X) → true ≡ nat_lt k (length xs) → x ≡ get_or xs k x → slice_get xs k ≡ Some x
got_here xs k x within is = slice_get-get_or xs k x (ltb-true k (length xs) (sym within)) ∙ ap (λ y. Some y) (sym is)

-- ---- Effects

-- what these effects tell task t, from one on
abbrev left : ℕ → List Effect → ℕ → List Told
left t effects k = flat_map (told_by t) (drop k effects)

left_here : (t : ℕ) (effects : List Effect) (k : ℕ) (e : Effect) → slice_get effects k ≡ Some e → left t effects k ≡ told_by t e ++ left t effects (k + 1)
left_here t effects k e there = ap (flat_map (told_by t)) (drop_here effects k e there)

for_other : (t task : ℕ) (told : Told) → t ≢ task → for t task told ≡ []
for_other t task told apart = ap (λ b. cond b (told ∷ []) []) (ne_eqb t task apart)

for_own : (t : ℕ) (told : Told) → for t t told ≡ told ∷ []
for_own t told = ap (λ b. cond b (told ∷ []) []) (eq-eqb t t refl)

-- by whether a task is one of the first
among_none : (tasks task : ℕ) → among tasks task ≡ None → tasks ≤ task
among_none tasks task e = by (nat_lt task tasks) refl
  where
    by : (b : Bool) → nat_lt task tasks ≡ b → tasks ≤ task
    by true is = absurd (cc (e, is))
    by false is = ltb-false task tasks is

among_some : (tasks task known : ℕ) → among tasks task ≡ Some known → (task ≡ known) × (task < tasks)
among_some tasks task known e = by (nat_lt task tasks) refl
  where
    by : (b : Bool) → nat_lt task tasks ≡ b → (task ≡ known) × (task < tasks)
    by true is = (cc (e, is), ltb-true task tasks is)
    by false is = absurd (cc (e, is))

apart_from : (tasks task t : ℕ) → among tasks task ≡ None → t < tasks → t ≢ task
apart_from tasks task t none known same = let above = among_none tasks task none in omega (arith, above, known, same)

pub told_none : (tasks t : ℕ) (e : Effect) → addressee tasks e ≡ None → t < tasks → told_by t e ≡ []
told_none tasks t (f.Send packet) none known = refl
told_none tasks t (f.Done task seq outcome) none known = for_other t task _ (apart_from tasks task t none known)
told_none tasks t (f.Pass task message) none known = for_other t task _ (apart_from tasks task t none known)
told_none tasks t (f.Closed task) none known = for_other t task _ (apart_from tasks task t none known)

apart_of : (tasks task known t : ℕ) → among tasks task ≡ Some known → t ≢ known → t ≢ task
apart_of tasks task known t some apart same = apart (same ∙ (among_some tasks task known some).0)

pub told_other : (tasks t known : ℕ) (e : Effect) → addressee tasks e ≡ Some known → t ≢ known → told_by t e ≡ []
told_other tasks t known (f.Send packet) some apart = refl
told_other tasks t known (f.Done task seq outcome) some apart = for_other t task _ (apart_of tasks task known t some apart)
told_other tasks t known (f.Pass task message) some apart = for_other t task _ (apart_of tasks task known t some apart)
told_other tasks t known (f.Closed task) some apart = for_other t task _ (apart_of tasks task known t some apart)

own : (tasks task known : ℕ) (what : Told) → among tasks task ≡ Some known → for known task what ≡ what ∷ []
own tasks task known what some = ap (λ n. for known n what) ((among_some tasks task known some).0) ∙ for_own known what

pub told_own : (tasks known : ℕ) (e : Effect) → addressee tasks e ≡ Some known → told_by known e ≡ told e
told_own tasks known (f.Send packet) some = refl
told_own tasks known (f.Done task seq outcome) some = own tasks task known _ some
told_own tasks known (f.Pass task message) some = own tasks task known _ some
told_own tasks known (f.Closed task) some = own tasks task known _ some

pub told_known : (tasks known : ℕ) (e : Effect) → addressee tasks e ≡ Some known → known < tasks
told_known tasks known (f.Send packet) some = absurd (cc some)
told_known tasks known (f.Done task seq outcome) some = let both = among_some tasks task known some in subst (λ n. n < tasks) both.0 both.1
told_known tasks known (f.Pass task message) some = let both = among_some tasks task known some in subst (λ n. n < tasks) both.0 both.1
told_known tasks known (f.Closed task) some = let both = among_some tasks task known some in subst (λ n. n < tasks) both.0 both.1

pub told_some : (tasks known : ℕ) (e : Effect) → addressee tasks e ≡ Some known → told e ≢ []
told_some tasks known (f.Send packet) some = absurd (cc some)
told_some tasks known (f.Done task seq outcome) some = λ none. absurd (cc none)
told_some tasks known (f.Pass task message) some = λ none. absurd (cc none)
told_some tasks known (f.Closed task) some = λ none. absurd (cc none)

-- what is gone past tells none of the tasks
abbrev pub Alike : ℕ → List Effect → ℕ → ℕ → Type 0
Alike tasks effects from at = (t : ℕ) → t < tasks → left t effects from ≡ left t effects at

pub alike_on : (tasks : ℕ) (effects : List Effect) (from at : ℕ) (e : Effect) → Alike tasks effects from at → slice_get effects at ≡ Some e → addressee tasks e ≡ None → Alike tasks effects from (at + 1)
alike_on tasks effects from at e alike there none t known =
    alike t known ∙ left_here t effects at e there ∙ ap (λ xs. xs ++ left t effects (at + 1)) (told_none tasks t e none known)

pub next_here : (tasks : ℕ) (effects : List Effect) (from at task : ℕ) (e : Effect) → Alike tasks effects from at → slice_get effects at ≡ Some e → addressee tasks e ≡ Some task → IsNextIn tasks effects from (at, task)
next_here tasks effects from at task e alike there some = record { effect = e; there = there; tells = some; none_between = alike }

pub none_in : (tasks : ℕ) (effects : List Effect) (from at : ℕ) → Alike tasks effects from at → length effects ≤ at → NoneIn tasks effects from
none_in tasks effects from at alike end t known = alike t known ∙ ap (flat_map (told_by t)) (drop_all at effects end)

-- ---- Entries

waiting_here : (t : ℕ) (entries : List Entry) (place : Place) (e : Entry) → slice_get entries place.entry ≡ Some e
    → waiting t entries place ≡ placed place.entry (noted e.at (left t e.effects place.effects)) ++ told_in t (place.entry + 1) (drop (place.entry + 1) entries)
waiting_here t entries place e there = ap (λ es. told_from t place.entry place.effects es) (drop_here entries place.entry e there)

pub from_start : (t number : ℕ) (entries : List Entry) → told_from t number 0 entries ≡ told_in t number entries
from_start t number [] = refl
from_start t number (e ∷ entries) = refl

-- The effects of an entry that none of the tasks is told of are gone past.
pub waits_on : (tasks : ℕ) (entries : List Entry) (from place : Place) (e : Entry) → WaitsAlike tasks entries from place → slice_get entries place.entry ≡ Some e → NoneIn tasks e.effects place.effects
    → WaitsAlike tasks entries from (record { entry = place.entry + 1; effects = 0 })
waits_on tasks entries from place e alike there none t known =
    alike t known ∙ waiting_here t entries place e there
    ∙ ap (λ told. placed place.entry (noted e.at told) ++ told_in t (place.entry + 1) (drop (place.entry + 1) entries)) (none t known)
    ∙ sym (from_start t (place.entry + 1) (drop (place.entry + 1) entries))

pub waits_within : (tasks : ℕ) (entries : List Entry) (from place : Place) (e : Entry) (next : ℕ × ℕ) → WaitsAlike tasks entries from place → slice_get entries place.entry ≡ Some e → IsNextIn tasks e.effects place.effects next
    → WaitsAlike tasks entries from (record place { effects = next.0 })
waits_within tasks entries from place e next alike there is t known =
    alike t known ∙ waiting_here t entries place e there
    ∙ ap (λ told. placed place.entry (noted e.at told) ++ told_in t (place.entry + 1) (drop (place.entry + 1) entries)) (is.none_between t known)
    ∙ sym (waiting_here t entries (record place { effects = next.0 }) e there)

pub told_there : (tasks : ℕ) (entries : List Entry) (place : Place) (e : Entry) (next : ℕ × ℕ) → slice_get entries place.entry ≡ Some e → IsNextIn tasks e.effects place.effects next
    → IsTold tasks entries (record place { effects = next.0 }) next.1
told_there tasks entries place e next there is = record { entry = e; effect = is.effect; entry_there = there; effect_there = is.there; tells = is.tells }

pub none_at_end : (t : ℕ) (entries : List Entry) (place : Place) → length entries ≤ place.entry → waiting t entries place ≡ []
none_at_end t entries place end = ap (λ es. told_from t place.entry place.effects es) (drop_all place.entry entries end)

pub none_waits : (tasks : ℕ) (entries : List Entry) (from place : Place) → WaitsAlike tasks entries from place → length entries ≤ place.entry → NoneWaits tasks entries from
none_waits tasks entries from place alike end t known = alike t known ∙ none_at_end t entries place end

-- ---- One note

module _ (tasks : ℕ) (entries : List Entry) (place : Place) (task : ℕ) (is : IsTold tasks entries place task) where
  one_on : (t : ℕ) → waiting t entries place ≡ placed place.entry (noted is.entry.at (told_by t is.effect ++ left t is.entry.effects (place.effects + 1))) ++ told_in t (place.entry + 1) (drop (place.entry + 1) entries)
  one_on t =
      waiting_here t entries place is.entry is.entry_there
      ∙ ap (λ told. placed place.entry (noted is.entry.at told) ++ told_in t (place.entry + 1) (drop (place.entry + 1) entries)) (left_here t is.entry.effects place.effects is.effect is.effect_there)

  pub waits_other : (t : ℕ) → t ≢ task → waiting t entries place ≡ waiting t entries (behind place)
  waits_other t apart =
      one_on t
      ∙ ap (λ told. placed place.entry (noted is.entry.at (told ++ left t is.entry.effects (place.effects + 1))) ++ told_in t (place.entry + 1) (drop (place.entry + 1) entries)) (told_other tasks t task is.effect is.tells apart)
      ∙ sym (waiting_here t entries (behind place) is.entry is.entry_there)

  pub waits_own : (note : _) → noted is.entry.at (told is.effect) ≡ note ∷ [] → waiting task entries place ≡ record { entry = place.entry; note = note } ∷ waiting task entries (behind place)
  waits_own note says =
      one_on task
      ∙ ap (λ told. placed place.entry (noted is.entry.at (told ++ rest)) ++ others) (told_own tasks task is.effect is.tells)
      ∙ ap (λ ns. placed place.entry ns ++ others) (noted_both (told is.effect) rest ∙ ap (λ ns. ns ++ noted is.entry.at rest) says)
      ∙ ap (λ ws. record { entry = place.entry; note = note } ∷ ws) (sym (waiting_here task entries (behind place) is.entry is.entry_there))
    where
      rest : List Told
      rest = left task is.entry.effects (place.effects + 1)

      others : List Placed
      others = told_in task (place.entry + 1) (drop (place.entry + 1) entries)

      noted_both : (xs ys : List Told) → noted is.entry.at (xs ++ ys) ≡ noted is.entry.at xs ++ noted is.entry.at ys
      noted_both [] ys = refl
      noted_both (x ∷ xs) ys = ap (λ ns. record { at = is.entry.at; told = x } ∷ ns) (noted_both xs ys)

  pub is_known : task < tasks
  is_known = told_known tasks task is.effect is.tells

  pub place_within : place.entry < length entries
  place_within = slice_get_within entries place.entry is.entry is.entry_there
