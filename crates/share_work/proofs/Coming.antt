-- What has come stays, and one step more that was gone past.
use Rattle.std.proofs.Common.{◌≡◌, ℕ, ◌+◌, true, false, Bool, ◌||◌, List, [], ◌∷◌, ◌++◌, map, length, refl, sym, ap, ◌∙◌, subst, ⊎_elim, inl, inr, append-nil, length-append, arith}
use Rattle.std.specs.List.{Contains}
use Rattle.std.proofs.lemmas.Grind.{flat_map-append}
use Rattle.std.proofs.lemmas.List.{map-append, append_assoc}
use Rattle.std.proofs.lemmas.List.Sums.{sum_by-append, sum_by-cons}
use Rattle.std.proofs.lemmas.List.Elements.{Contains-append_left, Contains-append_right}
use Rattle.agent_journal.specs.declared.outcome.Outcome.{Outcome}
use Rattle.agent_script.specs.declared.script.Step.{Step}
use Rattle.agent_script.specs.declared.script.Step.TheVariants as steps
use Rattle.agent_script.specs.Asked.{asked_by}
use Rattle.task_queues.specs.declared.note.Note.{Note}
use Rattle.task_end.specs.Commands.{Has}
use Rattle.task_end.specs.Notes.{outcome_in, outcomes_in, message_in, messages_in, completed_in, closes, has_closed}
use Rattle.share_work.specs.Steps.{asked_of, listened_by, listened_in, IsOver, HasHeard, HasCome, IsHeardOut, IsReady}

pub asked_both : (a b : List Step) → asked_of (a ++ b) ≡ asked_of a ++ asked_of b
asked_both a b = flat_map-append asked_by a b

pub asked_one : (a : List Step) (s : Step) → asked_of (a ++ s ∷ []) ≡ asked_of a ++ asked_by s
asked_one a s = asked_both a (s ∷ []) ∙ ap (λ l. asked_of a ++ l) (append-nil (asked_by s))

completed_both : (a b : List Note) → completed_in (a ++ b) ≡ completed_in a ++ completed_in b
completed_both a b = ap (map (λ (done : ℕ × Outcome). done.0)) (flat_map-append outcome_in a b) ∙ map-append (λ (done : ℕ × Outcome). done.0) (outcomes_in a) (outcomes_in b)

pub messages_both : (a b : List Note) → length (messages_in (a ++ b)) ≡ length (messages_in a) + length (messages_in b)
messages_both a b = ap length (flat_map-append message_in a b) ∙ length-append (messages_in a) (messages_in b)

pub over_more : (got more : List Note) (seq : ℕ) → IsOver got seq → IsOver (got ++ more) seq
over_more got more seq is = subst (λ l. Contains l seq) (sym (completed_both got more)) (Contains-append_left (completed_in got) (completed_in more) seq is)

or_more : (b was now : Bool) → (was ≡ true → now ≡ true) → (b || was) ≡ true → (b || now) ≡ true
or_more true was now stays is = refl
or_more false was now stays is = stays is

pub closed_more : (got more : List Note) → has_closed got ≡ true → has_closed (got ++ more) ≡ true
closed_more [] more is = absurd cc
closed_more (note ∷ got) more is = or_more (closes note) (has_closed got) (has_closed (got ++ more)) (closed_more got more) is

heard_many : (got more : List Note) (count : ℕ) → HasHeard got count → HasHeard (got ++ more) count
heard_many got more count has = ⊎_elim (λ enough. inl (omega (arith, messages_both got more, enough))) (λ is. inr (closed_more got more is)) has

come_more : (got more : List Note) (count listened : ℕ) (s : Step) → HasCome got count listened s → HasCome (got ++ more) count listened s
come_more got more count listened (steps.Do request) come = come
come_more got more count listened (steps.Shadow op name payload) come = come
come_more got more count listened (steps.Jobs op job payload) come = come
come_more got more count listened steps.Wait come = λ seq below. over_more got more seq (come seq below)
come_more got more count listened (steps.Listen n) come = heard_many got more (listened + n) come

pub heard_more : (got more : List Note) (count listened : ℕ) (done : List Step) → IsHeardOut got count listened done → IsHeardOut (got ++ more) count listened done
heard_more got more count listened [] heard = heard
heard_more got more count listened (s ∷ done) heard = (
  come_more got more count listened s heard.0,
  heard_more got more (count + length (asked_by s)) (listened + listened_by s) done heard.1,
)

at_counts : (got : List Note) (count count' listened listened' : ℕ) (s : Step) → count ≡ count' → listened ≡ listened' → HasCome got count listened s → HasCome got count' listened' s
at_counts got count count' listened listened' s e f come = subst (λ n. HasCome got n listened' s) e (subst (λ n. HasCome got count n s) f come)

-- one step more, for which what it waits for has come
pub heard_one : (got : List Note) (count listened : ℕ) (done : List Step) (s : Step) → IsHeardOut got count listened done
    → HasCome got (count + length (asked_of done)) (listened + listened_in done) s → IsHeardOut got count listened (done ++ s ∷ [])
heard_one got count listened [] s heard come = (at_counts got (count + 0) count (listened + 0) listened s (omega arith) (omega arith) come, heard)
heard_one got count listened (x ∷ done) s heard come = (
  heard.0,
  heard_one got (count + length (asked_by x)) (listened + listened_by x) done s heard.1
      (at_counts got (count + length (asked_of (x ∷ done))) ((count + length (asked_by x)) + length (asked_of done))
      (listened + listened_in (x ∷ done)) ((listened + listened_by x) + listened_in done) s
      (omega (arith, length-append (asked_by x) (asked_of done))) (omega (arith, sum_by-cons listened_by x done)) come),
)

pub ready_more : (all : List Step) (got more : List Note) (front : ℕ × ℕ × ℕ) → IsReady all got front → IsReady all (got ++ more) front
ready_more all got more front is = record {
  before = is.before;
  request = is.request;
  behind = is.behind;
  stands = is.stands;
  number = is.number;
  seen = is.seen;
  later = is.later ++ more;
  told = ap (λ l. l ++ more) is.told ∙ append_assoc is.seen is.later more;
  marked = is.marked;
  noted = is.noted;
  heard = is.heard;
}

pub listened_one : (done : List Step) (s : Step) → listened_in (done ++ s ∷ []) ≡ listened_in done + listened_by s
listened_one done s = omega (arith, sum_by-append listened_by done (s ∷ []), sum_by-cons listened_by s [])

-- a command whose outcome was told is over
pub over_told : (got : List Note) (seq : ℕ) (outcome : Outcome) → Has (outcomes_in got) (seq, outcome) → IsOver got seq
over_told got seq outcome (rest, is) = subst (λ l. Contains l seq)
    (sym (ap (map (λ (done : ℕ × Outcome). done.0)) is.stood ∙ map-append (λ (done : ℕ × Outcome). done.0) is.before ((seq, outcome) ∷ is.after)))
    (Contains-append_right (map (λ (done : ℕ × Outcome). done.0) is.before) (seq ∷ map (λ (done : ℕ × Outcome). done.0) is.after) seq (0, omega arith, refl))
