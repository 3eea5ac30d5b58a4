-- Notes are made and put, and what was told stays in order.
use Rattle.std.proofs.Common.{◌≡◌, ◌≢◌, ℕ, zero, suc, ◌+◌, ◌<◌, cond, List, [], ◌∷◌, ◌++◌, length, Option, Some, None, refl, sym, ap, ◌∙◌, subst, arith, eq-eqb, ne_eqb, append_assoc, append-nil, ◌⊎◌, inl, inr}
use Rattle.std.specs.Prelude.{slice_get, slice_set, get_or, Result, Ok, Err, OnErr}
use Rattle.std.proofs.lemmas.Option.{slice_get_within, slice_get-get_or}
use Rattle.agent_journal.specs.declared.entry.Entry.{Entry}
use Rattle.agent_journal.specs.Notes.{noted}
use Rattle.task_queues.specs.declared.note.Note.{Note}
use Rattle.task_queues.specs.MailboxPasses.{Putting}
use Rattle.agent_posts.specs.declared.place.Place.{Place}
use Rattle.agent_posts.specs.Waiting.{Placed, told, waiting, IsPlaceIn, IsTold, WaitsAlike, NoneWaits, behind}
use Rattle.agent_posts.specs.Mail.{said, Tells, IsMadeAt, AreTold, held_for, IsMadeTo, IsPosted, PutsOne, FindsFull}
use Rattle.agent_posts.proofs.Waiting.{waits_other, waits_own, place_within, none_at_end}

-- ---- Lists

pub same_some : {X : Type 0} (x y : X) → Some x ≡ Some y → x ≡ y
same_some x y e = cc e

pub get_set_same : {X : Type 0} (xs : List X) (i : ℕ) (x y : X) → slice_get xs i ≡ Some y → slice_get (slice_set xs i x) i ≡ Some x
get_set_same [] i x y there = absurd (cc there)
get_set_same (a ∷ xs) zero x y there = refl
get_set_same (a ∷ xs) (suc i) x y there = get_set_same xs i x y there

pub get_set_other : {X : Type 0} (xs : List X) (i j : ℕ) (x : X) → j ≢ i → slice_get (slice_set xs i x) j ≡ slice_get xs j
get_set_other [] i j x apart = refl
get_set_other (a ∷ xs) zero zero x apart = absurd (apart refl)
get_set_other (a ∷ xs) zero (suc j) x apart = refl
get_set_other (a ∷ xs) (suc i) zero x apart = refl
get_set_other (a ∷ xs) (suc i) (suc j) x apart = get_set_other xs i j x (λ e. apart (ap suc e))

told_more : (from : List Placed) (notes : List Note) (more : Placed) (note : Note) → AreTold from notes → Tells more note → AreTold (from ++ more ∷ []) (notes ++ note ∷ [])
told_more [] [] more note h k = (k, tt)
told_more [] (other ∷ notes) more note h k = absurd h
told_more (f ∷ from) [] more note h k = absurd h
told_more (f ∷ from) (other ∷ notes) more note h k = (h.0, told_more from notes more note h.1 k)

pub is_same : (a b : ℕ) → (a ≡ b) ⊎ (a ≢ b)
is_same zero zero = inl refl
is_same zero (suc b) = inr (λ e. absurd (omega (arith, e)))
is_same (suc a) zero = inr (λ e. absurd (omega (arith, e)))
is_same (suc a) (suc b) = elim (is_same a b) [
  | inl same ↦ inl (ap suc same)
  | inr apart ↦ inr (λ e. apart (omega (arith, e)))
]

pub held_own : (t : ℕ) (note : Note) → held_for t (Some (t, note)) ≡ note ∷ []
held_own t note = ap (λ b. cond b (note ∷ []) []) (eq-eqb t t refl)

pub held_other : (t task : ℕ) (note : Note) → t ≢ task → held_for t (Some (task, note)) ≡ []
held_other t task note apart = ap (λ b. cond b (note ∷ []) []) (ne_eqb t task apart)

pub on_err : {A E : Type 0} {X : Type 0} (r : Result A E) → X → OnErr r X
on_err (Ok a) x = tt
on_err (Err e) x = x

-- ---- The place moves on

moved : (entries : List Entry) (putters : List Putting) (from to : Place) (next : Option (ℕ × Note)) → WaitsAlike (length putters) entries from to → IsPlaceIn entries to
    → IsPosted entries (record { putters = putters; place = from; next = next }) → IsPosted entries (record { putters = putters; place = to; next = next })
moved entries putters from to next alike within h =
    record {
      place = within;
      made =
          λ t p there.
          let made = h.made t p there in
          record { before = made.before; in_order = made.in_order ∙ ap (λ w. made.before ++ w) (alike t (slice_get_within putters t p there)); told = made.told };
    }

pub moved_end : (entries : List Entry) (putters : List Putting) (from : Place) (next : Option (ℕ × Note)) → NoneWaits (length putters) entries from
    → IsPosted entries (record { putters = putters; place = from; next = next }) → IsPosted entries (record { putters = putters; place = record { entry = length entries; effects = 0 }; next = next })
moved_end entries putters from next none h =
    let end : Place = record { entry = length entries; effects = 0 } in
    moved entries putters from end next (λ t known. none t known ∙ sym (none_at_end t entries end (omega arith))) (record { within = omega arith; at_end = λ _. refl }) h

pub end_waits : (tasks : ℕ) (entries : List Entry) → NoneWaits tasks entries (record { entry = length entries; effects = 0 })
end_waits tasks entries t known = none_at_end t entries (record { entry = length entries; effects = 0 }) (omega arith)

pub moved_told : (entries : List Entry) (putters : List Putting) (from to : Place) (next : Option (ℕ × Note)) (task : ℕ) → WaitsAlike (length putters) entries from to → IsTold (length putters) entries to task
    → IsPosted entries (record { putters = putters; place = from; next = next }) → IsPosted entries (record { putters = putters; place = to; next = next })
moved_told entries putters from to next task alike is h =
    let below = place_within (length putters) entries to task is in
    moved entries putters from to next alike (record { within = omega (arith, below); at_end = λ e. absurd (omega (arith, below, e)) }) h

-- ---- A note is made

module _ (entries : List Entry) (putters : List Putting) (place : Place) (task : ℕ) (note : Note) (is : IsTold (length putters) entries place task) (is_made : IsMadeAt entries place note)
    (h : IsPosted entries (record { putters = putters; place = place; next = None })) where
  says : noted is.entry.at (told is.effect) ≡ said note ∷ []
  says =
      let same_entry : is_made.entry ≡ is.entry = same_some _ _ (sym is_made.entry_there ∙ is.entry_there) in
      let same_effect : is_made.effect ≡ is.effect =
      same_some _ _ (sym is_made.effect_there ∙ ap (λ (e : Entry). slice_get e.effects place.effects) same_entry ∙ is.effect_there) in
      sym (ap (λ (e : Entry). noted e.at (told is_made.effect)) same_entry ∙ ap (λ e. noted is.entry.at (told e)) same_effect) ∙ is_made.says

  abbrev next_one : Placed
  next_one = record { entry = place.entry; note = said note }

  tells : Tells next_one note
  tells = let below = place_within (length putters) entries place task is in let above = is_made.above in record { says = refl; above = omega (arith, below, above) }

  own : (made : List Note) → IsMadeTo task entries place made → IsMadeTo task entries (behind place) (made ++ note ∷ [])
  own made k =
      record {
        before = k.before ++ next_one ∷ [];
        in_order =
            k.in_order ∙ ap (λ w. k.before ++ w) (waits_own (length putters) entries place task is (said note) says)
            ∙ sym (append_assoc k.before (next_one ∷ []) (waiting task entries (behind place)));
        told = told_more k.before made next_one note k.told tells;
      }

  other : (t : ℕ) → t ≢ task → (made : List Note) → IsMadeTo t entries place made → IsMadeTo t entries (behind place) made
  other t apart made k =
      record { before = k.before; in_order = k.in_order ∙ ap (λ w. k.before ++ w) (waits_other (length putters) entries place task is t apart); told = k.told }

  made : IsPosted entries (record { putters = putters; place = behind place; next = Some (task, note) })
  made =
      let below = place_within (length putters) entries place task is in
      record {
        place = record { within = omega (arith, below); at_end = λ e. absurd (omega (arith, below, e)) };
        made = λ t p there. by t p there (is_same t task);
      }
    where
      by : (t : ℕ) (p : Putting) → slice_get putters t ≡ Some p → (t ≡ task) ⊎ (t ≢ task) → IsMadeTo t entries (behind place) (p.put ++ held_for t (Some (task, note)))
      by t p there (inl same) =
          let before : IsMadeTo task entries place p.put =
          subst (λ put. IsMadeTo task entries place put) (append-nil p.put) (h.made task p (subst (λ u. slice_get putters u ≡ Some p) same there)) in
          subst (λ u. IsMadeTo u entries (behind place) (p.put ++ held_for u (Some (task, note)))) (sym same)
          (subst (λ held. IsMadeTo task entries (behind place) (p.put ++ held)) (sym (held_own task note)) (own p.put before))
      by t p there (inr apart) =
          subst (λ held. IsMadeTo t entries (behind place) (p.put ++ held)) (sym (held_other t task note apart)) (other t apart (p.put ++ []) (h.made t p there))

pub made_next : (entries : List Entry) (putters : List Putting) (from place : Place) (next : Option (ℕ × Note)) (task : ℕ) (note : Note) → next ≡ None → WaitsAlike (length putters) entries from place
    → IsTold (length putters) entries place task → IsMadeAt entries place note
    → IsPosted entries (record { putters = putters; place = from; next = next }) → IsPosted entries (record { putters = putters; place = behind place; next = Some (task, note) })
made_next entries putters from place next task note none alike is is_made h =
    made entries putters place task note is is_made
    (subst (λ n. IsPosted entries (record { putters = putters; place = place; next = n })) none (moved_told entries putters from place next task alike is h))

-- ---- It is put, or held

pub put : (entries : List Entry) (putters new : List Putting) (place : Place) (task : ℕ) (note : Note) → PutsOne task note putters new
    → IsPosted entries (record { putters = putters; place = place; next = Some (task, note) }) → IsPosted entries (record { putters = new; place = place; next = None })
put entries putters new place task note one h = record { place = h.place; made = λ t p there. by t p there (is_same t task) }
  where
    behind_put : Putting
    behind_put = record one.before { put = one.before.put ++ note ∷ [] }

    by : (t : ℕ) (p : Putting) → slice_get new t ≡ Some p → (t ≡ task) ⊎ (t ≢ task) → IsMadeTo t entries place (p.put ++ [])
    by t p there (inl same) =
        let own_there : slice_get new task ≡ Some behind_put = ap (λ ps. slice_get ps task) one.put ∙ get_set_same putters task behind_put one.before one.there in
        let is : behind_put ≡ p = same_some _ _ (sym own_there ∙ ap (λ u. slice_get new u) (sym same) ∙ there) in
        let made : IsMadeTo task entries place (one.before.put ++ note ∷ []) =
        subst (λ held. IsMadeTo task entries place (one.before.put ++ held)) (held_own task note) (h.made task one.before one.there) in
        subst (λ u. IsMadeTo u entries place (p.put ++ [])) (sym same)
        (subst (λ ns. IsMadeTo task entries place ns) (ap (λ (q : Putting). q.put) is ∙ sym (append-nil p.put)) made)
    by t p there (inr apart) =
        let before : slice_get putters t ≡ Some p = sym (get_set_other putters task t behind_put apart) ∙ sym (ap (λ ps. slice_get ps t) one.put) ∙ there in
        subst (λ held. IsMadeTo t entries place (p.put ++ held)) (held_other t task note apart) (h.made t p before)

-- a mailbox that was found full once more has the same notes
pub kept_full : (entries : List Entry) (putters new : List Putting) (place : Place) (task : ℕ) (next : Option (ℕ × Note)) (full : Putting) → FindsFull task full putters new
    → IsPosted entries (record { putters = putters; place = place; next = next }) → IsPosted entries (record { putters = new; place = place; next = next })
kept_full entries putters new place task next full one h = record { place = h.place; made = λ t p there. by t p there (is_same t task) }
  where
    behind_full : Putting
    behind_full = record full { fulls = full.fulls + 1 }

    by : (t : ℕ) (p : Putting) → slice_get new t ≡ Some p → (t ≡ task) ⊎ (t ≢ task) → IsMadeTo t entries place (p.put ++ held_for t next)
    by t p there (inl same) =
        let own_there : slice_get new task ≡ Some behind_full = ap (λ ps. slice_get ps task) one.counted ∙ get_set_same putters task behind_full full one.there in
        let is : behind_full ≡ p = same_some _ _ (sym own_there ∙ ap (λ u. slice_get new u) (sym same) ∙ there) in
        subst (λ u. IsMadeTo u entries place (p.put ++ held_for u next)) (sym same)
        (subst (λ ns. IsMadeTo task entries place (ns ++ held_for task next)) (ap (λ (q : Putting). q.put) is) (h.made task full one.there))
    by t p there (inr apart) = h.made t p (sym (get_set_other putters task t behind_full apart) ∙ sym (ap (λ ps. slice_get ps t) one.counted) ∙ there)

-- ---- A mailbox of a list of them

module _ (putters items : List Putting) (task : ℕ) (own new : Putting) (same : items ≡ putters) (known : task < length putters) (is : own ≡ get_or items task own) where
  there : slice_get putters task ≡ Some own
  there = slice_get-get_or putters task own known ∙ ap (λ p. Some p) (sym (is ∙ ap (λ ps. get_or ps task own) same))

  pub puts_one : (note : Note) → new ≡ record own { put = own.put ++ note ∷ [] } → PutsOne task note putters (slice_set items task new)
  puts_one note e = record { before = own; there = there; put = ap (λ ps. slice_set ps task new) same ∙ ap (λ p. slice_set putters task p) e }

  pub finds_full : new ≡ record own { fulls = own.fulls + 1 } → FindsFull task own putters (slice_set items task new)
  finds_full e = record { there = there; counted = ap (λ ps. slice_set ps task new) same ∙ ap (λ p. slice_set putters task p) e }

pub put_then : (entries : List Entry) (putters new : List Putting) (place own : Place) (task : ℕ) (note : Note) (next : Option (ℕ × Note)) → own ≡ place → next ≡ None → PutsOne task note putters new
    → IsPosted entries (record { putters = putters; place = place; next = Some (task, note) }) → IsPosted entries (record { putters = new; place = own; next = next })
put_then entries putters new place own task note next same none one h =
    subst (λ n. IsPosted entries (record { putters = new; place = own; next = n })) (sym none)
    (subst (λ at. IsPosted entries (record { putters = new; place = at; next = None })) (sym same) (put entries putters new place task note one h))

pub held_then : (entries : List Entry) (putters new : List Putting) (place own : Place) (task : ℕ) (note : Note) (held : ℕ × Note) (full : Putting) → own ≡ place → held ≡ (task, note) → FindsFull task full putters new
    → IsPosted entries (record { putters = putters; place = place; next = Some (task, note) }) → IsPosted entries (record { putters = new; place = own; next = Some held })
held_then entries putters new place own task note held full same is one h =
    subst (λ n. IsPosted entries (record { putters = new; place = own; next = Some n })) (sym is)
    (subst (λ at. IsPosted entries (record { putters = new; place = at; next = Some (task, note) })) (sym same) (kept_full entries putters new place task (Some (task, note)) full one h))
