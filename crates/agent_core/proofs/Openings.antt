-- Commands that are opened, and packets that arrive, in the stages of publishes.
use Rattle.std.proofs.Common.{◌≡◌, ◌≢◌, ◌⊎◌, ℕ, ◌+◌, ◌<◌, ◌≤◌, Bool, true, false, not, List, [], ◌∷◌, ◌++◌, length, map, Option, Some, None, refl, ap, sym, ◌∙◌, subst, inl, inr, arith}
use Rattle.std.specs.Prelude.{◌&&◌, ◌||◌, ◌==◌, if◌then◌else◌, filter}
use Rattle.std.specs.List.{list_any, AllByRecursion}
use Rattle.std.proofs.lemmas.Bool.{eqb-true, lt-ltb}
use Rattle.std.proofs.lemmas.Bool.Decides.{nat_tests}
use Rattle.std.proofs.lemmas.List.{append-nil}
use Rattle.std.proofs.lemmas.List.Elements.{filter-append}
use Rattle.std.proofs.lemmas.List.{map-append}
use Rattle.std.proofs.lemmas.Map.Keys.{IsDistinct-push}
use Rattle.std.proofs.lemmas.Map.Made.{length-le_from_is_member}
use Rattle.std.specs.Cmp.{IsEquivalence}
use Rattle.mqtt_packet.specs.declared.qos.Qos.{Qos}
use Rattle.mqtt_packet.specs.declared.qos.Qos.TheVariants.{AtMostOnce, AtLeastOnce, ExactlyOnce}
use Rattle.agent_journal.specs.declared.entry.Cause.{Cause}
use Rattle.agent_journal.specs.declared.effect.Effect.{Effect}
use Rattle.agent_journal.specs.declared.request.Request.{Request}
use Rattle.agent_journal.specs.declared.request.Request.TheVariants as requests
use Rattle.std.proofs.lemmas.List.Filters.{length-filter_both}
use Rattle.agent_journal.specs.Readings.{Pending}
use Rattle.agent_table.specs.Deliveries.{publishes, is_open_publish, is_among, is_at_least_once, is_exactly_once, with_released, held_at}
use Rattle.agent_table.specs.Sends.{sends_received}
use Rattle.agent_core.specs.Tied.{IsTied, ids_at, is_same, begun_by, CanHoldAt}
use Rattle.pending_acks.specs.Commands.{Differ, has_id}
use Rattle.qos_state.specs.Deliveries.{Deliveries, stage_of, open_count, started, acknowledged, released_last, without, arrival, received}
use Rattle.qos_state.specs.declared.answers.AckKind.TheVariants.{PubRec}
use Rattle.qos_state.specs.declared.answers.Stage.{Stage}
use Rattle.qos_state.specs.declared.answers.Stage.TheVariants.{Sent1, Sent2, Released}
use Rattle.agent_core.proofs.Acknowledged.{tail_differs, second_skipped, other_id}

-- ---- Identifiers of publishes

among_ids : (at : Qos → Bool) (n : ℕ) (commands : List Pending) → is_among (ids_at at commands) n ≡ is_open_publish at commands n
among_ids at n [] = refl
among_ids at n (command ∷ commands) = go (publishes at command.request) refl (among_ids at n commands)
  where
    and_true : (b : Bool) → (b && true) ≡ b
    and_true true = refl
    and_true false = refl

    and_false : (b : Bool) → (b && false) ≡ false
    and_false true = refl
    and_false false = refl

    go : (wanted : Bool) → publishes at command.request ≡ wanted → is_among (ids_at at commands) n ≡ is_open_publish at commands n → is_among (ids_at at (command ∷ commands)) n ≡ is_open_publish at (command ∷ commands) n
    go true wanted rest = rw wanted (ap (λ b. (command.id == n) || b) rest ∙ ap (λ b. b || is_open_publish at commands n) (sym (and_true (command.id == n))))
    go false wanted rest = rw wanted (rest ∙ ap (λ b. b || is_open_publish at commands n) (sym (and_false (command.id == n))))

pub not_open : (at : Qos → Bool) (n : ℕ) (commands : List Pending) → list_any (has_id n) commands ≡ false → is_open_publish at commands n ≡ false
not_open at n [] none = refl
not_open at n (command ∷ commands) none = go (has_id n command) refl none (not_open at n commands)
  where
    go : (same : Bool) → has_id n command ≡ same → list_any (has_id n) (command ∷ commands) ≡ false → (list_any (has_id n) commands ≡ false → is_open_publish at commands n ≡ false) → is_open_publish at (command ∷ commands) n ≡ false
    go true same none rest = absurd (cc (rw same at none))
    go false same none rest = rw same (rest (rw same at none))

among_waiting : (released ids : List ℕ) (n : ℕ) → is_among (filter (λ m. not (is_among released m)) ids) n ≡ (is_among ids n && not (is_among released n))
among_waiting released [] n = refl
among_waiting released (id ∷ ids) n = go (is_among released id) (id == n) refl refl (among_waiting released ids n)
  where
    and_false : (b : Bool) → (b && false) ≡ false
    and_false true = refl
    and_false false = refl

    go : (gone same : Bool) → is_among released id ≡ gone → (id == n) ≡ same → is_among (filter (λ m. not (is_among released m)) ids) n ≡ (is_among ids n && not (is_among released n))
        → is_among (filter (λ m. not (is_among released m)) (id ∷ ids)) n ≡ (is_among (id ∷ ids) n && not (is_among released n))
    go true true gone same rest =
        let is : id ≡ n = eqb-true id n same in let there : is_among released n ≡ true = subst (λ (m : ℕ). is_among released m ≡ true) is gone in
        rw (gone, same) (rest ∙ rw there (and_false (is_among ids n)))
    go true false gone same rest = rw (gone, same) rest
    go false true gone same rest =
        let is : id ≡ n = eqb-true id n same in let out : is_among released n ≡ false = subst (λ (m : ℕ). is_among released m ≡ false) is gone in
        rw (gone, same, out) refl
    go false false gone same rest = rw (gone, same) rest

released_open : (commands : List Pending) (released : List ℕ) (n : ℕ) → AllByRecursion (λ m. is_open_publish is_exactly_once commands m ≡ true) released → is_among released n ≡ true → is_open_publish is_exactly_once commands n ≡ true
released_open commands [] n all here = absurd (cc here)
released_open commands (m ∷ released) n all here = go (m == n) refl here (released_open commands released n all.1)
  where
    go : (same : Bool) → (m == n) ≡ same → is_among (m ∷ released) n ≡ true → (is_among released n ≡ true → is_open_publish is_exactly_once commands n ≡ true) → is_open_publish is_exactly_once commands n ≡ true
    go true same here rest = subst (λ (k : ℕ). is_open_publish is_exactly_once commands k ≡ true) (eqb-true m n same) all.0
    go false same here rest = rest (rw same at here)

is_not : (b : Bool) → (b ≡ true → ⊥) → b ≡ false
is_not true h = absurd (h refl)
is_not false h = refl

same_laws : IsEquivalence is_same
same_laws = record {
  refl = λ x. grind (arith, nat_tests);
  symm = λ x y. grind (arith, nat_tests);
  congr = λ x y z e. grind (arith, nat_tests);
}

-- ---- A command that is opened

module _ (commands : List Pending) (e : Deliveries) (tie : IsTied commands e) where
  unreleased : (n : ℕ) → list_any (has_id n) commands ≡ false → is_among e.released n ≡ false
  unreleased n fresh = is_not (is_among e.released n) (λ here. absurd (cc (released_open commands e.released n tie.released here, not_open is_exactly_once n commands fresh)))

  pub none_yet : (n : ℕ) → list_any (has_id n) commands ≡ false → stage_of e n ≡ None
  none_yet n fresh =
      let first : is_among e.at_least_once n ≡ false = ap (λ ids. is_among ids n) tie.at_least_once ∙ among_ids is_at_least_once n commands ∙ not_open is_at_least_once n commands fresh in
      let waiting : is_among e.exactly_once n ≡ false = ap (λ ids. is_among ids n) tie.exactly_once ∙ among_waiting e.released (ids_at is_exactly_once commands) n
      ∙ ap (λ b. b && not (is_among e.released n)) (among_ids is_exactly_once n commands ∙ not_open is_exactly_once n commands fresh) in
      rw (first, waiting, unreleased n fresh) refl

  released_few : length e.released ≤ length (filter (λ m. is_among e.released m) (ids_at is_exactly_once commands))
  released_few = length-le_from_is_member same_laws e.released (filter (λ m. is_among e.released m) (ids_at is_exactly_once commands)) tie.once
      (λ n here. kept (ids_at is_exactly_once commands) n (among_ids is_exactly_once n commands ∙ released_open commands e.released n tie.released here) here)
    where
      kept : (ids : List ℕ) (n : ℕ) → is_among ids n ≡ true → is_among e.released n ≡ true → is_among (filter (λ m. is_among e.released m) ids) n ≡ true
      kept [] n in_ids here = absurd (cc in_ids)
      kept (id ∷ ids) n in_ids here = go (id == n) (is_among e.released id) refl refl in_ids (kept ids n)
        where
          go : (same gone : Bool) → (id == n) ≡ same → is_among e.released id ≡ gone → is_among (id ∷ ids) n ≡ true
              → (is_among ids n ≡ true → is_among e.released n ≡ true → is_among (filter (λ m. is_among e.released m) ids) n ≡ true) → is_among (filter (λ m. is_among e.released m) (id ∷ ids)) n ≡ true
          go true true same gone in_ids rest = rw (gone, same) refl
          go true false same gone in_ids rest = absurd (cc (gone, subst (λ (m : ℕ). is_among e.released m ≡ true) (sym (eqb-true id n same)) here))
          go false true same gone in_ids rest = rw (gone, same) (rest (rw same at in_ids) here)
          go false false same gone in_ids rest = rw gone (rest (rw same at in_ids) here)

  both_few : (cs : List Pending) → length (ids_at is_at_least_once cs) + length (ids_at is_exactly_once cs) ≤ length cs
  both_few [] = omega arith
  both_few (command ∷ cs) = go (publishes is_at_least_once command.request) (publishes is_exactly_once command.request) refl refl (never_both command.request) (both_few cs)
    where
      never_both : (request : Request) → publishes is_at_least_once request ≡ true → publishes is_exactly_once request ≡ false
      never_both (requests.Publish AtMostOnce topic payload) h = absurd (cc h)
      never_both (requests.Publish AtLeastOnce topic payload) h = refl
      never_both (requests.Publish ExactlyOnce topic payload) h = absurd (cc h)
      never_both (requests.Subscribe asks) h = refl
      never_both (requests.Unsubscribe filters) h = refl
      never_both requests.Ping h = refl
      never_both requests.Disconnect h = refl
      never_both requests.Terminate h = refl
      never_both requests.Leave h = refl

      go : (one two : Bool) → publishes is_at_least_once command.request ≡ one → publishes is_exactly_once command.request ≡ two → (publishes is_at_least_once command.request ≡ true → publishes is_exactly_once command.request ≡ false)
          → length (ids_at is_at_least_once cs) + length (ids_at is_exactly_once cs) ≤ length cs → length (ids_at is_at_least_once (command ∷ cs)) + length (ids_at is_exactly_once (command ∷ cs)) ≤ length (command ∷ cs)
      go true true one two never rest = absurd (cc (two, never one))
      go true false one two never rest = rw (one, two) (omega (arith, rest))
      go false true one two never rest = rw (one, two) (omega (arith, rest))
      go false false one two never rest = rw (one, two) (omega (arith, rest))

  pub few_open : (room : ℕ) → length commands < room → open_count e < room
  few_open room few =
      let halves = length-filter_both (λ m. is_among e.released m) (λ m. not (is_among e.released m)) (λ m. refl) (ids_at is_exactly_once commands) in
      let first = ap length tie.at_least_once in
      let second = ap length tie.exactly_once in
      omega (arith, few, released_few, both_few commands, halves, first, second)

  -- ---- Ties of what is opened

  ids_more : (at : Qos → Bool) (command : Pending) → ids_at at (commands ++ command ∷ []) ≡ ids_at at commands ++ ids_at at (command ∷ [])
  ids_more at command = ap (map (λ c. c.id)) (filter-append (λ c. publishes at c.request) commands (command ∷ [])) ∙ map-append (λ c. c.id) (filter (λ c. publishes at c.request) commands) (filter (λ c. publishes at c.request) (command ∷ []))

  open_more : (command : Pending) (n : ℕ) (cs : List Pending) → is_open_publish is_exactly_once cs n ≡ true → is_open_publish is_exactly_once (cs ++ command ∷ []) n ≡ true
  open_more command n [] here = absurd (cc here)
  open_more command n (c ∷ cs) here = go ((c.id == n) && publishes is_exactly_once c.request) refl here (open_more command n cs)
    where
      go : (b : Bool) → ((c.id == n) && publishes is_exactly_once c.request) ≡ b → is_open_publish is_exactly_once (c ∷ cs) n ≡ true
          → (is_open_publish is_exactly_once cs n ≡ true → is_open_publish is_exactly_once (cs ++ command ∷ []) n ≡ true) → is_open_publish is_exactly_once ((c ∷ cs) ++ command ∷ []) n ≡ true
      go true e here rest = rw e refl
      go false e here rest = rw e (rest (rw e at here))

  all_more : (command : Pending) (ns : List ℕ) → AllByRecursion (λ m. is_open_publish is_exactly_once commands m ≡ true) ns → AllByRecursion (λ m. is_open_publish is_exactly_once (commands ++ command ∷ []) m ≡ true) ns
  all_more command [] all = tt
  all_more command (n ∷ ns) all = (open_more command n commands all.0, all_more command ns all.1)

  waiting_more : (ids : List ℕ) → filter (λ m. not (is_among e.released m)) (ids_at is_exactly_once commands ++ ids) ≡ e.exactly_once ++ filter (λ m. not (is_among e.released m)) ids
  waiting_more ids = filter-append (λ m. not (is_among e.released m)) (ids_at is_exactly_once commands) ids ∙ ap (λ ms. ms ++ filter (λ m. not (is_among e.released m)) ids) (sym tie.exactly_once)

  pub tied_at_least_once : (command : Pending) (next : Deliveries) → publishes is_at_least_once command.request ≡ true → publishes is_exactly_once command.request ≡ false
      → next ≡ started command.id AtLeastOnce e → IsTied (commands ++ command ∷ []) next
  tied_at_least_once command next one two is = subst (λ (d : Deliveries). IsTied (commands ++ command ∷ []) d) (sym is) (record {
    at_least_once = ap (λ ids. ids ++ command.id ∷ []) tie.at_least_once ∙ sym (ids_more is_at_least_once command ∙ ap (λ ids. ids_at is_at_least_once commands ++ ids) (own is_at_least_once one));
    exactly_once = sym (ap (filter (λ m. not (is_among e.released m))) (ids_more is_exactly_once command ∙ ap (λ ids. ids_at is_exactly_once commands ++ ids) (other is_exactly_once two)) ∙ waiting_more [] ∙ append-nil e.exactly_once);
    released = all_more command e.released tie.released;
    once = tie.once;
  })
    where
      own : (at : Qos → Bool) → publishes at command.request ≡ true → ids_at at (command ∷ []) ≡ command.id ∷ []
      own at h = rw h refl

      other : (at : Qos → Bool) → publishes at command.request ≡ false → ids_at at (command ∷ []) ≡ []
      other at h = rw h refl

  pub tied_exactly_once : (command : Pending) (next : Deliveries) → publishes is_at_least_once command.request ≡ false → publishes is_exactly_once command.request ≡ true → list_any (has_id command.id) commands ≡ false
      → next ≡ started command.id ExactlyOnce e → IsTied (commands ++ command ∷ []) next
  tied_exactly_once command next one two fresh is = subst (λ (d : Deliveries). IsTied (commands ++ command ∷ []) d) (sym is) (record {
    at_least_once = tie.at_least_once ∙ sym (ids_more is_at_least_once command ∙ ap (λ ids. ids_at is_at_least_once commands ++ ids) (other is_at_least_once one) ∙ append-nil (ids_at is_at_least_once commands));
    exactly_once = sym (ap (filter (λ m. not (is_among e.released m))) (ids_more is_exactly_once command ∙ ap (λ ids. ids_at is_exactly_once commands ++ ids) (own is_exactly_once two)) ∙ waiting_more (command.id ∷ []) ∙ ap (λ ids. e.exactly_once ++ ids) waits);
    released = all_more command e.released tie.released;
    once = tie.once;
  })
    where
      own : (at : Qos → Bool) → publishes at command.request ≡ true → ids_at at (command ∷ []) ≡ command.id ∷ []
      own at h = rw h refl

      other : (at : Qos → Bool) → publishes at command.request ≡ false → ids_at at (command ∷ []) ≡ []
      other at h = rw h refl

      waits : filter (λ m. not (is_among e.released m)) (command.id ∷ []) ≡ command.id ∷ []
      waits = rw (unreleased command.id fresh) refl

  pub tied_other : (command : Pending) (next : Deliveries) → publishes is_at_least_once command.request ≡ false → publishes is_exactly_once command.request ≡ false → next ≡ e → IsTied (commands ++ command ∷ []) next
  tied_other command next one two is = subst (λ (d : Deliveries). IsTied (commands ++ command ∷ []) d) (sym is) (record {
    at_least_once = tie.at_least_once ∙ sym (ids_more is_at_least_once command ∙ ap (λ ids. ids_at is_at_least_once commands ++ ids) (other is_at_least_once one) ∙ append-nil (ids_at is_at_least_once commands));
    exactly_once = sym (ap (filter (λ m. not (is_among e.released m))) (ids_more is_exactly_once command ∙ ap (λ ids. ids_at is_exactly_once commands ++ ids) (other is_exactly_once two)) ∙ waiting_more [] ∙ append-nil e.exactly_once);
    released = all_more command e.released tie.released;
    once = tie.once;
  })
    where
      other : (at : Qos → Bool) → publishes at command.request ≡ false → ids_at at (command ∷ []) ≡ []
      other at h = rw h refl

  tied_publish : (id task seq : ℕ) (qos : Qos) (topic payload : List ℕ) (names : List (List ℕ)) (next : Deliveries) → list_any (has_id id) commands ≡ false → next ≡ started id qos e
      → IsTied (commands ++ record { id = id; task = task; seq = seq; request = requests.Publish qos topic payload; sent_filters = names } ∷ []) next
  tied_publish id task seq AtMostOnce topic payload names next fresh is = tied_other (record { id = id; task = task; seq = seq; request = requests.Publish AtMostOnce topic payload; sent_filters = names }) next refl refl is
  tied_publish id task seq AtLeastOnce topic payload names next fresh is = tied_at_least_once (record { id = id; task = task; seq = seq; request = requests.Publish AtLeastOnce topic payload; sent_filters = names }) next refl refl is
  tied_publish id task seq ExactlyOnce topic payload names next fresh is = tied_exactly_once (record { id = id; task = task; seq = seq; request = requests.Publish ExactlyOnce topic payload; sent_filters = names }) next refl refl fresh is

  tied_request : (id task seq : ℕ) (request : Request) (names : List (List ℕ)) (next : Deliveries) → list_any (has_id id) commands ≡ false → next ≡ begun_by id request e
      → IsTied (commands ++ record { id = id; task = task; seq = seq; request = request; sent_filters = names } ∷ []) next
  tied_request id task seq (requests.Publish qos topic payload) names next fresh is = tied_publish id task seq qos topic payload names next fresh is
  tied_request id task seq (requests.Subscribe asks) names next fresh is = tied_other (record { id = id; task = task; seq = seq; request = requests.Subscribe asks; sent_filters = names }) next refl refl is
  tied_request id task seq (requests.Unsubscribe filters) names next fresh is = tied_other (record { id = id; task = task; seq = seq; request = requests.Unsubscribe filters; sent_filters = names }) next refl refl is
  tied_request id task seq requests.Ping names next fresh is = tied_other (record { id = id; task = task; seq = seq; request = requests.Ping; sent_filters = names }) next refl refl is
  tied_request id task seq requests.Disconnect names next fresh is = tied_other (record { id = id; task = task; seq = seq; request = requests.Disconnect; sent_filters = names }) next refl refl is
  tied_request id task seq requests.Terminate names next fresh is = tied_other (record { id = id; task = task; seq = seq; request = requests.Terminate; sent_filters = names }) next refl refl is
  tied_request id task seq requests.Leave names next fresh is = tied_other (record { id = id; task = task; seq = seq; request = requests.Leave; sent_filters = names }) next refl refl is

  pub tied_opened : (command : Pending) (next : Deliveries) → list_any (has_id command.id) commands ≡ false → next ≡ begun_by command.id command.request e → IsTied (commands ++ command ∷ []) next
  tied_opened command next fresh is = tied_request command.id command.task command.seq command.request command.sent_filters next fresh is

  same_by : (id : ℕ) (request : Request) → (begun_by id request e).released ≡ e.released
  same_by id (requests.Publish AtMostOnce topic payload) = refl
  same_by id (requests.Publish AtLeastOnce topic payload) = refl
  same_by id (requests.Publish ExactlyOnce topic payload) = refl
  same_by id (requests.Subscribe asks) = refl
  same_by id (requests.Unsubscribe filters) = refl
  same_by id requests.Ping = refl
  same_by id requests.Disconnect = refl
  same_by id requests.Terminate = refl
  same_by id requests.Leave = refl

  held_by : (id : ℕ) (request : Request) → (begun_by id request e).held ≡ e.held
  held_by id (requests.Publish AtMostOnce topic payload) = refl
  held_by id (requests.Publish AtLeastOnce topic payload) = refl
  held_by id (requests.Publish ExactlyOnce topic payload) = refl
  held_by id (requests.Subscribe asks) = refl
  held_by id (requests.Unsubscribe filters) = refl
  held_by id requests.Ping = refl
  held_by id requests.Disconnect = refl
  held_by id requests.Terminate = refl
  held_by id requests.Leave = refl

  pub released_same : (id : ℕ) (request : Request) (next : Deliveries) → next ≡ begun_by id request e → next.released ≡ e.released
  released_same id request next is = ap (λ (d : Deliveries). d.released) is ∙ same_by id request

  pub held_same : (id : ℕ) (request : Request) (next : Deliveries) → next ≡ begun_by id request e → next.held ≡ e.held
  held_same id request next is = ap (λ (d : Deliveries). d.held) is ∙ held_by id request

-- ---- PUBREC

never_both : (n : ℕ) (commands : List Pending) → Differ commands → is_open_publish is_at_least_once commands n ≡ true → is_open_publish is_exactly_once commands n ≡ true → ⊥
never_both n [] differ one two = cc one
never_both n (command ∷ commands) differ one two = go (command.id == n) refl one two (never_both n commands (tail_differs command commands differ))
  where
    none_behind : (at : Qos → Bool) → (command.id == n) ≡ true → is_open_publish at commands n ≡ false
    none_behind at same = not_open at n commands (rest_differs same commands differ)
      where
        rest_differs : (command.id == n) ≡ true → (cs : List Pending) → Differ (command ∷ cs) → list_any (has_id n) cs ≡ false
        rest_differs same [] differ = refl
        rest_differs same (other ∷ cs) differ =
            let apart : command.id ≢ other.id = differ 0 1 command (omega arith) (omega arith) in
            rw (other_id command other n same apart) (rest_differs same cs (second_skipped command other cs differ))

    kinds : (request : Request) → publishes is_at_least_once request ≡ true → publishes is_exactly_once request ≡ true → ⊥
    kinds (requests.Publish AtMostOnce topic payload) a b = cc a
    kinds (requests.Publish AtLeastOnce topic payload) a b = cc b
    kinds (requests.Publish ExactlyOnce topic payload) a b = cc a
    kinds (requests.Subscribe asks) a b = cc a
    kinds (requests.Unsubscribe filters) a b = cc a
    kinds requests.Ping a b = cc a
    kinds requests.Disconnect a b = cc a
    kinds requests.Terminate a b = cc a
    kinds requests.Leave a b = cc a

    or_left : (a b : Bool) → (a || b) ≡ true → b ≡ false → a ≡ true
    or_left true b h e = refl
    or_left false b h e = absurd (cc (h, e))

    go : (same : Bool) → (command.id == n) ≡ same → is_open_publish is_at_least_once (command ∷ commands) n ≡ true → is_open_publish is_exactly_once (command ∷ commands) n ≡ true
        → (is_open_publish is_at_least_once commands n ≡ true → is_open_publish is_exactly_once commands n ≡ true → ⊥) → ⊥
    go true same one two rest =
        kinds command.request (or_left (publishes is_at_least_once command.request) (is_open_publish is_at_least_once commands n) (rw same at one) (none_behind is_at_least_once same))
        (or_left (publishes is_exactly_once command.request) (is_open_publish is_exactly_once commands n) (rw same at two) (none_behind is_exactly_once same))
    go false same one two rest = rest (rw same at one) (rw same at two)

waiting_released : (released ids : List ℕ) (n : ℕ) → filter (λ m. not (is_among (released ++ n ∷ []) m)) ids ≡ without n (filter (λ m. not (is_among released m)) ids)
waiting_released released [] n = refl
waiting_released released (id ∷ ids) n = go (is_among released id) (id == n) refl refl (waiting_released released ids n)
  where
    among_more : (ns : List ℕ) (m : ℕ) → is_among (ns ++ n ∷ []) m ≡ (is_among ns m || ((n == m) || false))
    among_more [] m = refl
    among_more (k ∷ ns) m = ap (λ b. (k == m) || b) (among_more ns m) ∙ or_assoc (k == m) (is_among ns m) ((n == m) || false)
      where
        or_assoc : (a b c : Bool) → (a || (b || c)) ≡ ((a || b) || c)
        or_assoc true b c = refl
        or_assoc false b c = refl

    flipped : (b : Bool) → (id == n) ≡ b → (n == id) ≡ b
    flipped b e = grind (arith, nat_tests)

    go : (gone same : Bool) → is_among released id ≡ gone → (id == n) ≡ same → filter (λ m. not (is_among (released ++ n ∷ []) m)) ids ≡ without n (filter (λ m. not (is_among released m)) ids)
        → filter (λ m. not (is_among (released ++ n ∷ []) m)) (id ∷ ids) ≡ without n (filter (λ m. not (is_among released m)) (id ∷ ids))
    go true same gone is rest = rw (among_more released id, gone) rest
    go false true gone is rest = rw (among_more released id, gone, flipped true is, is) rest
    go false false gone is rest = rw (among_more released id, gone, flipped false is, is) (ap (λ ms. id ∷ ms) rest)

module _ (commands : List Pending) (e : Deliveries) (tie : IsTied commands e) (differ : Differ commands) where
  at_least : (n : ℕ) → is_among e.at_least_once n ≡ is_open_publish is_at_least_once commands n
  at_least n = ap (λ ids. is_among ids n) tie.at_least_once ∙ among_ids is_at_least_once n commands

  exactly : (n : ℕ) → is_among e.exactly_once n ≡ (is_open_publish is_exactly_once commands n && not (is_among e.released n))
  exactly n = ap (λ ids. is_among ids n) tie.exactly_once ∙ among_waiting e.released (ids_at is_exactly_once commands) n ∙ ap (λ b. b && not (is_among e.released n)) (among_ids is_exactly_once n commands)

  all_and_one : (n : ℕ) (ns : List ℕ) → AllByRecursion (λ m. is_open_publish is_exactly_once commands m ≡ true) ns → is_open_publish is_exactly_once commands n ≡ true
      → AllByRecursion (λ m. is_open_publish is_exactly_once commands m ≡ true) (ns ++ n ∷ [])
  all_and_one n [] all here = (here, tt)
  all_and_one n (m ∷ ns) all here = (all.0, all_and_one n ns all.1 here)

  -- what a PUBREC makes of the stages
  abbrev pub Releases : ℕ → Deliveries → Type 0
  Releases n next = IsTied commands next × (next.released ≡ with_released commands e.released n) × (next.held ≡ e.held)

  same_stages : (n : ℕ) → with_released commands e.released n ≡ e.released → Releases n e
  same_stages n is = (tie, sym is, refl)

  releases : (n : ℕ) → is_open_publish is_exactly_once commands n ≡ true → is_among e.released n ≡ false → Releases n (released_last n e)
  releases n here out = (
    record {
      at_least_once = tie.at_least_once;
      exactly_once = ap (without n) tie.exactly_once ∙ sym (waiting_released e.released (ids_at is_exactly_once commands) n);
      released = all_and_one n e.released tie.released here;
      once = IsDistinct-push same_laws e.released n tie.once out_again;
    },
    rw (here, out) refl,
    refl,
  )
    where
      out_again : list_any (is_same n) e.released ≡ false
      out_again = out

  pub pubrec : (n : ℕ) → Releases n (acknowledged PubRec n (stage_of e n) e)
  pubrec n = go (is_among e.at_least_once n) (is_among e.exactly_once n) (is_among e.released n) refl refl refl
    where
      and_not : (b c : Bool) → (b && not c) ≡ true → (b ≡ true) × (c ≡ false)
      and_not true true h = absurd (cc h)
      and_not true false h = (refl, refl)
      and_not false c h = absurd (cc h)

      none_or : (b c : Bool) → (b && not c) ≡ false → (if b && not c then e.released ++ n ∷ [] else e.released) ≡ e.released
      none_or true true h = refl
      none_or true false h = absurd (cc h)
      none_or false c h = refl

      by : (stage : Option Stage) → stage_of e n ≡ stage → Releases n (acknowledged PubRec n stage e) → Releases n (acknowledged PubRec n (stage_of e n) e)
      by stage is h = subst (λ (st : Option Stage). Releases n (acknowledged PubRec n st e)) (sym is) h

      go : (a b c : Bool) → is_among e.at_least_once n ≡ a → is_among e.exactly_once n ≡ b → is_among e.released n ≡ c → Releases n (acknowledged PubRec n (stage_of e n) e)
      go true b c one two three =
          let none : is_open_publish is_exactly_once commands n ≡ false = is_not (is_open_publish is_exactly_once commands n) (never_both n commands differ (sym (at_least n) ∙ one)) in
          by (Some Sent1) (rw one refl) (same_stages n (rw none refl))
      go false true c one two three =
          let is = and_not (is_open_publish is_exactly_once commands n) (is_among e.released n) (sym (exactly n) ∙ two) in by (Some Sent2) (rw (one, two) refl) (releases n is.0 is.1)
      go false false true one two three =
          by (Some Released) (rw (one, two, three) refl) (same_stages n (none_or (is_open_publish is_exactly_once commands n) (is_among e.released n) (sym (exactly n) ∙ two)))
      go false false false one two three =
          by None (rw (one, two, three) refl) (same_stages n (none_or (is_open_publish is_exactly_once commands n) (is_among e.released n) (sym (exactly n) ∙ two)))

  pub pubrec_tied : (n : ℕ) (next : Deliveries) → next ≡ acknowledged PubRec n (stage_of e n) e → IsTied commands next
  pubrec_tied n next is = subst (λ (d : Deliveries). IsTied commands d) (sym is) (pubrec n).0

  pub pubrec_released : (n : ℕ) (next : Deliveries) → next ≡ acknowledged PubRec n (stage_of e n) e → next.released ≡ with_released commands e.released n
  pubrec_released n next is = ap (λ (d : Deliveries). d.released) is ∙ (pubrec n).1

  pub pubrec_held : (n : ℕ) (next : Deliveries) → next ≡ acknowledged PubRec n (stage_of e n) e → next.held ≡ e.held
  pubrec_held n next is = ap (λ (d : Deliveries). d.held) is ∙ (pubrec n).2

-- ---- What is held

pub held_new : (n room : ℕ) (effects : List Effect) (e next : Deliveries) → sends_received n effects ≡ true → CanHoldAt n effects room e.held → next ≡ received (arrival room e n) n e
    → (at : ℕ) (cause : Cause) → next.held ≡ held_at ExactlyOnce n (record { at = at; cause = cause; effects = effects }) e.held
held_new n room effects e next sends can is at cause = ap (λ (d : Deliveries). d.held) is ∙ go (is_among e.held n) refl (can sends)
  where
    go : (there : Bool) → is_among e.held n ≡ there → (is_among e.held n ≡ true) ⊎ (length e.held < room) → (received (arrival room e n) n e).held ≡ (if sends_received n effects && not (is_among e.held n) then e.held ++ n ∷ [] else e.held)
    go true there can = rw (sends, there) refl
    go false there (inl here) = absurd (cc (there, here))
    go false there (inr few) = rw (sends, there, lt-ltb (length e.held) room few) refl

pub held_not : (n : ℕ) (effects : List Effect) (e : Deliveries) → sends_received n effects ≡ false → (at : ℕ) (cause : Cause) → e.held ≡ held_at ExactlyOnce n (record { at = at; cause = cause; effects = effects }) e.held
held_not n effects e sends at cause = rw sends refl
