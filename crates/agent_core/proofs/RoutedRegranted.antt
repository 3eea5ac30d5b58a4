-- The qualities of service that are kept, behind a SUBACK that grants a subscribe.
use Rattle.std.proofs.Common.{◌≡◌, ◌⊎◌, ℕ, Bool, true, false, not, List, [], ◌∷◌, ◌++◌, map, Option, Some, None, refl, ap, sym, ◌∙◌, subst, inl, inr}
use Rattle.std.specs.Prelude.{◌&&◌, ◌||◌, ◌==◌, filter, find, nat_lt, if◌then◌else◌}
use Rattle.std.specs.List.{AllByRecursion}
use Rattle.std.specs.Str.{bytes_eq}
use Rattle.std.proofs.lemmas.Slice.Eq.{bytes_eq-Decides}
use Rattle.mqtt_packet.specs.declared.packet.Packet.TheVariants as p
use Rattle.mqtt_packet.specs.declared.qos.Qos.{Qos}
use Rattle.mqtt_packet.specs.declared.qos.Qos.TheVariants.{AtMostOnce}
use Rattle.mqtt_packet.specs.declared.will.Ask.{Ask}
use Rattle.agent_journal.specs.declared.entry.Cause.TheVariants as c
use Rattle.agent_journal.specs.declared.entry.Entry.{Entry}
use Rattle.agent_journal.specs.Readings.{Pending, pending_of}
use Rattle.agent_table.specs.Filters.{is_one_of}
use Rattle.agent_table.specs.Routes.{Grant, grants_of, grants, asked_in, asks_in, last_asked, or_last, or_earlier, granted_to, granted_in, coded, qos_of}
use Rattle.pending_acks.specs.Commands.{has_id, is_command}
use Rattle.subscriptions.specs.Routing.{Granted, Asked, settled, settled_before, renewed_as, granted_by}
use Rattle.agent_core.specs.Routed.{Matched, IsAsked, IsAskedFor, grant, qos_if, filters_of}
use Rattle.agent_core.proofs.RoutedEnds.{AreApart, IsApart, one_false}
use Rattle.agent_core.proofs.RoutedLists.{all_found, all_map, filter_all}
use Rattle.agent_core.proofs.RoutedPast.{AreOrdered, IsBefore}
use Rattle.agent_core.proofs.RoutedQualified.{last_some, granted_itself}
use Rattle.agent_core.proofs.RoutedQuiet.{asked_same, grants_append, grants_by, grants_nothing}
use Rattle.agent_core.proofs.RoutedRenewed.{all_granted_by, members, settled_filters}
use Rattle.agent_core.proofs.RoutedSteps.{entry}
use Rattle.agent_core.proofs.RoutedSuback.{grants_it, other_grants, its_grants}

-- ---- Bools

swapped : (a b d : Bool) → ((a || b) || d) ≡ (b || (a || d))
swapped true true d = refl
swapped true false d = refl
swapped false true d = refl
swapped false false d = refl

or_none : (b : Bool) → (b || false) ≡ b
or_none true = refl
or_none false = refl

and_true : (b : Bool) → (b && true) ≡ b
and_true true = refl
and_true false = refl

and_false : (b : Bool) → (b && false) ≡ false
and_false true = refl
and_false false = refl

module _ (past : List Entry) (time : ℕ) (codes : List ℕ) (command : Pending) (apart : AreApart (pending_of past)) (there : find (is_command command.task command.seq) (pending_of past) ≡ Some command) where
  -- the filters that it is granted
  abbrev pub filters : List (List ℕ)
  filters = granted_in (coded (asks_in command.request) codes)

  abbrev pub now : List Entry
  now = entry time (c.Arrived (p.SubAck command.id codes)) (grants_it command codes) ∷ past

  grants_now : (task seq : ℕ) (topics : List ℕ) (commands : List Pending) → AreApart commands → find (is_command command.task command.seq) commands ≡ Some command
      → grants (grants_by (grants_it command codes) commands) task seq topics ≡ ((command.task == task && command.seq == seq) && is_one_of filters topics)
  grants_now task seq topics [] differ e = absurd (cc e)
  grants_now task seq topics (first ∷ commands) differ e = go (is_command command.task command.seq first) refl (grants_now task seq topics commands differ.1)
    where
      go : (b : Bool) → is_command command.task command.seq first ≡ b
          → (find (is_command command.task command.seq) commands ≡ Some command → grants (grants_by (grants_it command codes) commands) task seq topics ≡ ((command.task == task && command.seq == seq) && is_one_of (granted_in (coded (asks_in command.request) codes)) topics))
          → grants (grants_by (grants_it command codes) (first ∷ commands)) task seq topics ≡ ((command.task == task && command.seq == seq) && is_one_of (granted_in (coded (asks_in command.request) codes)) topics)
      go true is rest =
          let same : first ≡ command = cc (rw is at e) in
          ap (λ b. ((first.task == task && first.seq == seq) && is_one_of (granted_to (grants_it command codes) first) topics) || b)
          (grants_nothing commands (grants_it command codes) task seq topics (all_map (IsApart first) (λ (other : Pending). granted_to (grants_it command codes) other ≡ []) commands (λ other far. other_grants command.task command.seq codes other (one_false true true command.task command.seq first other is far.1)) differ.0))
          ∙ or_none ((first.task == task && first.seq == seq) && is_one_of (granted_to (grants_it command codes) first) topics)
          ∙ ap (λ (x : Pending). (x.task == task && x.seq == seq) && is_one_of (granted_to (grants_it command codes) x) topics) same
          ∙ ap (λ fs. (command.task == task && command.seq == seq) && is_one_of fs topics) (its_grants command codes)
      go false is rest =
          ap (λ fs. ((first.task == task && first.seq == seq) && is_one_of fs topics) || grants (grants_by (grants_it command codes) commands) task seq topics) (other_grants command.task command.seq codes first is)
          ∙ ap (λ b. b || grants (grants_by (grants_it command codes) commands) task seq topics) (and_false (first.task == task && first.seq == seq)) ∙ rest (rw is at e)

  all_grants : (task seq : ℕ) (topics : List ℕ) (extra : List Grant) (b : Bool) → is_one_of filters topics ≡ b
      → grants ((grants_of past ++ grants_by (grants_it command codes) (pending_of past)) ++ extra) task seq topics ≡ ((grants (grants_of past) task seq topics || ((command.task == task && command.seq == seq) && b)) || grants extra task seq topics)
  all_grants task seq topics extra b e =
      grants_append (grants_of past ++ grants_by (grants_it command codes) (pending_of past)) extra task seq topics
      ∙ ap (λ x. x || grants extra task seq topics) (grants_append (grants_of past) (grants_by (grants_it command codes) (pending_of past)) task seq topics
      ∙ ap (λ x. grants (grants_of past) task seq topics || x) (grants_now task seq topics (pending_of past) apart there ∙ ap (λ y. (command.task == task && command.seq == seq) && y) e))

  own_grant : (task seq : ℕ) (topics : List ℕ) → ((command.task == task && command.seq == seq) && is_one_of (topics ∷ []) topics) ≡ ((command.task == task && command.seq == seq) && true)
  own_grant task seq topics = rw ((bytes_eq-Decides topics topics).1 refl) refl

  hit : (extra : List Grant) (topics : List ℕ) → is_one_of filters topics ≡ true → asked_in (grants_of now ++ extra) topics now ≡ asked_in (grant command topics ∷ (grants_of past ++ extra)) topics past
  hit extra topics e = asked_same ((grants_of past ++ grants_by (grants_it command codes) (pending_of past)) ++ extra) (grant command topics ∷ (grants_of past ++ extra)) topics past
      (λ task seq. all_grants task seq topics extra true e
      ∙ swapped (grants (grants_of past) task seq topics) ((command.task == task && command.seq == seq) && true) (grants extra task seq topics)
      ∙ ap (λ x. ((command.task == task && command.seq == seq) && true) || x) (sym (grants_append (grants_of past) extra task seq topics))
      ∙ ap (λ x. x || grants (grants_of past ++ extra) task seq topics) (sym (own_grant task seq topics)))

  miss : (extra : List Grant) (topics : List ℕ) → is_one_of filters topics ≡ false → asked_in (grants_of now ++ extra) topics now ≡ asked_in (grants_of past ++ extra) topics past
  miss extra topics e = asked_same ((grants_of past ++ grants_by (grants_it command codes) (pending_of past)) ++ extra) (grants_of past ++ extra) topics past
      (λ task seq. all_grants task seq topics extra false e
      ∙ ap (λ x. (grants (grants_of past) task seq topics || x) || grants extra task seq topics) (and_false (command.task == task && command.seq == seq))
      ∙ ap (λ x. x || grants extra task seq topics) (or_none (grants (grants_of past) task seq topics)) ∙ sym (grants_append (grants_of past) extra task seq topics))

  append_none : (all : List Grant) → all ++ [] ≡ all
  append_none [] = refl
  append_none (g ∷ all) = ap (λ gs. g ∷ gs) (append_none all)

  moved : (other : Pending) (all : List Grant) (topics : List ℕ) → asked_in (grant other topics ∷ all) topics past ≡ asked_in (all ++ grant other topics ∷ []) topics past
  moved other all topics = asked_same (grant other topics ∷ all) (all ++ grant other topics ∷ []) topics past
      (λ task seq. turn ((other.task == task && other.seq == seq) && is_one_of (topics ∷ []) topics) (grants all task seq topics) ∙ sym (grants_append all (grant other topics ∷ []) task seq topics))
    where
      turn : (a b : Bool) → (a || b) ≡ (b || (a || false))
      turn true true = refl
      turn true false = refl
      turn false true = refl
      turn false false = refl

  pub qos_hit : (topics : List ℕ) → is_one_of filters topics ≡ true → qos_of now topics ≡ qos_if past command topics
  qos_hit topics e = ap (λ all. asked_in all topics now) (sym (append_none (grants_of now))) ∙ hit [] topics e ∙ ap (λ all. asked_in (grant command topics ∷ all) topics past) (append_none (grants_of past)) ∙ moved command (grants_of past) topics

  pub qos_miss : (topics : List ℕ) → is_one_of filters topics ≡ false → qos_of now topics ≡ qos_of past topics
  qos_miss topics e = ap (λ all. asked_in all topics now) (sym (append_none (grants_of now))) ∙ miss [] topics e ∙ ap (λ all. asked_in all topics past) (append_none (grants_of past))

  -- of a later subscribe nothing changes, and an earlier one has what this one has
  later_if : (later : Pending) (topics : List ℕ) (qos : Qos) → IsBefore past command later → last_asked (asks_in later.request) topics ≡ Some qos → qos_if now later topics ≡ qos_if past later topics
  later_if later topics qos before last = go (is_one_of filters topics) refl
    where
      go : (b : Bool) → is_one_of filters topics ≡ b → qos_if now later topics ≡ qos_if past later topics
      go true e = hit (grant later topics ∷ []) topics e ∙ before topics (grants_of past ++ grant later topics ∷ []) qos (granted_itself (grants_of past) later topics) last
      go false e = miss (grant later topics ∷ []) topics e

  earlier_if : (earlier : Pending) (topics : List ℕ) (qos : Qos) → IsBefore past earlier command → last_asked (asks_in command.request) topics ≡ Some qos → is_one_of filters topics ≡ true → qos_if now earlier topics ≡ qos_if past command topics
  earlier_if earlier topics qos before last e =
      hit (grant earlier topics ∷ []) topics e ∙ moved command (grants_of past ++ grant earlier topics ∷ []) topics
      ∙ asked_same ((grants_of past ++ grant earlier topics ∷ []) ++ grant command topics ∷ []) (grant earlier topics ∷ (grants_of past ++ grant command topics ∷ [])) topics past
      (λ task seq. grants_append (grants_of past ++ grant earlier topics ∷ []) (grant command topics ∷ []) task seq topics
      ∙ ap (λ x. x || grants (grant command topics ∷ []) task seq topics) (grants_append (grants_of past) (grant earlier topics ∷ []) task seq topics)
      ∙ turn (grants (grants_of past) task seq topics) ((earlier.task == task && earlier.seq == seq) && is_one_of (topics ∷ []) topics) (grants (grant command topics ∷ []) task seq topics)
      ∙ ap (λ x. ((earlier.task == task && earlier.seq == seq) && is_one_of (topics ∷ []) topics) || x) (sym (grants_append (grants_of past) (grant command topics ∷ []) task seq topics)))
      ∙ before topics (grants_of past ++ grant command topics ∷ []) qos (granted_itself (grants_of past) command topics) last
    where
      turn : (a b d : Bool) → ((a || (b || false)) || d) ≡ (b || (a || d))
      turn true true d = refl
      turn true false d = refl
      turn false true d = refl
      turn false false d = refl

  -- ---- What an earlier subscribe is left with

  settled_hit : (asks own : List Ask) (topics : List ℕ) (qos : Qos) → is_one_of filters topics ≡ true → last_asked asks topics ≡ Some qos → (last_asked (map (settled filters asks) own) topics ≡ None) ⊎ (last_asked (map (settled filters asks) own) topics ≡ Some qos)
  settled_hit asks [] topics qos e last = inl refl
  settled_hit asks (ask ∷ own) topics qos e last = go (bytes_eq ask.filter topics) refl (settled_hit asks own topics qos e last)
    where
      its : bytes_eq ask.filter topics ≡ true → settled filters asks ask ≡ record { filter = ask.filter; qos = qos }
      its is =
          let same : ask.filter ≡ topics = (bytes_eq-Decides ask.filter topics).0 is in
          let one : is_one_of filters ask.filter ≡ true = ap (is_one_of filters) same ∙ e in
          let two : last_asked asks ask.filter ≡ Some qos = ap (last_asked asks) same ∙ last in
          rw (one, two) refl

      skipped : bytes_eq ask.filter topics ≡ false → last_asked (map (settled filters asks) (ask ∷ own)) topics ≡ last_asked (map (settled filters asks) own) topics
      skipped is = by (is_one_of filters ask.filter) refl
        where
          by : (b : Bool) → is_one_of filters ask.filter ≡ b → last_asked (map (settled filters asks) (ask ∷ own)) topics ≡ last_asked (map (settled filters asks) own) topics
          by true h = rw (h, is) refl
          by false h = rw (h, is) refl

      taken : (found : Option Qos) → ((found ≡ None) ⊎ (found ≡ Some qos)) → or_last found qos ≡ Some qos
      taken None h = refl
      taken (Some q) (inl h) = absurd (cc h)
      taken (Some q) (inr h) = h

      go : (b : Bool) → bytes_eq ask.filter topics ≡ b → (last_asked (map (settled filters asks) own) topics ≡ None) ⊎ (last_asked (map (settled filters asks) own) topics ≡ Some qos)
          → (last_asked (map (settled filters asks) (ask ∷ own)) topics ≡ None) ⊎ (last_asked (map (settled filters asks) (ask ∷ own)) topics ≡ Some qos)
      go true is rest = inr (ap (λ (x : Ask). last_asked (x ∷ map (settled filters asks) own) topics) (its is) ∙ (rw is (taken (last_asked (map (settled filters asks) own) topics) rest)))
      go false is (inl rest) = inl (skipped is ∙ rest)
      go false is (inr rest) = inr (skipped is ∙ rest)

  settled_miss : (asks own : List Ask) (topics : List ℕ) → is_one_of filters topics ≡ false → last_asked (map (settled filters asks) own) topics ≡ last_asked own topics
  settled_miss asks [] topics e = refl
  settled_miss asks (ask ∷ own) topics e = go (bytes_eq ask.filter topics) (is_one_of filters ask.filter) refl refl (settled_miss asks own topics e)
    where
      go : (x y : Bool) → bytes_eq ask.filter topics ≡ x → is_one_of filters ask.filter ≡ y → last_asked (map (settled filters asks) own) topics ≡ last_asked own topics
          → last_asked (map (settled filters asks) (ask ∷ own)) topics ≡ last_asked (ask ∷ own) topics
      go true true is one rest = let same : ask.filter ≡ topics = (bytes_eq-Decides ask.filter topics).0 is in absurd (cc (sym (ap (is_one_of filters) same) ∙ one, e))
      go true false is one rest = rw (one, is) (ap (λ q. or_last q ask.qos) rest)
      go false true is one rest = rw (one, is) rest
      go false false is one rest = rw (one, is) rest

  pub regranted : (asks : List Ask) (asked : List Asked) (commands : List Pending) → ((topics : List ℕ) → is_one_of filters topics ≡ true → last_asked asks topics ≡ Some (qos_if past command topics))
      → ((topics : List ℕ) → is_one_of filters topics ≡ true → (qos : Qos) × (last_asked (asks_in command.request) topics ≡ Some qos)) → AreApart commands → AreOrdered past commands → Matched (IsAsked past) asked commands
      → Matched (IsAskedFor past) asked commands → find (has_id command.id) commands ≡ Some command → Matched (IsAskedFor now) (settled_before command.id filters asks asked) (filter (λ other. not (has_id command.id other)) commands)
  regranted asks [] [] own has differ order m q e = absurd (cc e)
  regranted asks [] (first ∷ commands) own has differ order m q e = absurd m
  regranted asks (a ∷ asked) [] own has differ order m q e = absurd m
  regranted asks (a ∷ asked) (first ∷ commands) own has differ order m q e = go (first.id == command.id) refl (λ there. regranted asks asked commands own has differ.1 order.1 m.1 q.1 there)
    where
      behind : (xs : List Asked) (cs : List Pending) → AllByRecursion (IsBefore past command) cs → Matched (IsAsked past) xs cs → Matched (IsAskedFor past) xs cs → Matched (IsAskedFor now) xs cs
      behind [] [] all n k = tt
      behind [] (y ∷ cs) all n k = absurd n
      behind (x ∷ xs) [] all n k = absurd n
      behind (x ∷ xs) (y ∷ cs) all n k = (
        record { id = k.0.id; asks = λ topics one. let last = last_some (asks_in y.request) topics (ap (λ fs. is_one_of fs topics) (sym n.0.filters) ∙ one) in k.0.asks topics one ∙ ap Some (sym (later_if y topics last.0 all.0 last.1)) },
        behind xs cs all.1 n.1 k.1,
      )

      front : IsBefore past first command → IsAskedFor now (record a { asks = map (settled filters asks) a.asks }) first
      front before = record { id = q.0.id; asks = λ topics one. by topics (ap (λ fs. is_one_of fs topics) (sym (settled_filters filters asks a.asks)) ∙ one) one (is_one_of filters topics) refl }
        where
          some : (own_asks : List Ask) (topics : List ℕ) (qos : Qos) → (last_asked own_asks topics ≡ None) ⊎ (last_asked own_asks topics ≡ Some qos) → is_one_of (filters_of own_asks) topics ≡ true → last_asked own_asks topics ≡ Some qos
          some own_asks topics qos (inl none) one = let last = last_some own_asks topics one in absurd (cc (none, last.1))
          some own_asks topics qos (inr last) one = last

          by : (topics : List ℕ) → is_one_of (filters_of a.asks) topics ≡ true → is_one_of (filters_of (map (settled filters asks) a.asks)) topics ≡ true → (b : Bool) → is_one_of filters topics ≡ b
              → last_asked (map (settled filters asks) a.asks) topics ≡ Some (qos_if now first topics)
          by topics one still true h = let last = has topics h in
              some (map (settled filters asks) a.asks) topics (qos_if past command topics) (settled_hit asks a.asks topics (qos_if past command topics) h (own topics h)) still
              ∙ ap Some (sym (earlier_if first topics last.0 before last.1 h))
          by topics one still false h = settled_miss asks a.asks topics h ∙ q.0.asks topics one ∙ ap Some (sym (miss (grant first topics ∷ []) topics h))

      go : (b : Bool) → (first.id == command.id) ≡ b → (find (has_id command.id) commands ≡ Some command → Matched (IsAskedFor now) (settled_before command.id filters asks asked) (filter (λ other. not (has_id command.id other)) commands))
          → Matched (IsAskedFor now) (settled_before command.id filters asks (a ∷ asked)) (filter (λ other. not (has_id command.id other)) (first ∷ commands))
      go true is rest =
          let same : first ≡ command = cc (rw is at e) in
          let its : (a.id == command.id) ≡ true = ap (λ n. n == command.id) q.0.id ∙ is in
          let all : filter (λ other. not (has_id command.id other)) commands ≡ commands =
          filter_all (λ other. not (has_id command.id other)) commands (all_map (IsApart first) (λ (other : Pending). not (has_id command.id other) ≡ true) commands (λ other far. ap not (ap (λ (x : Pending). other.id == x.id) (sym same) ∙ far.0)) differ.0) in
          rw (its, is) (subst (λ (cs : List Pending). Matched (IsAskedFor now) asked cs) (sym all) (behind asked commands (subst (λ (x : Pending). AllByRecursion (IsBefore past x) commands) same order.0) m.1 q.1))
      go false is rest =
          let its : (a.id == command.id) ≡ false = ap (λ n. n == command.id) q.0.id ∙ is in
          let found : find (has_id command.id) commands ≡ Some command = rw is at e in
          rw (its, is) (front (all_found (IsBefore past first) (has_id command.id) commands command order.0 found).0, rest found)

  -- the granted routes
  pub regranted_routes : (a : Asked) (gs : List Granted) → ((topics : List ℕ) → is_one_of filters topics ≡ true → last_asked a.asks topics ≡ Some (qos_if past command topics))
      → AllByRecursion (λ (g : Granted). g.qos ≡ qos_of past g.topics) gs → AllByRecursion (λ (g : Granted). g.qos ≡ qos_of now g.topics) (granted_by a filters gs)
  regranted_routes a gs own all =
      all_granted_by (λ (g : Granted). g.qos ≡ qos_of past g.topics) (λ (g : Granted). g.qos ≡ qos_of now g.topics) a filters gs all (λ g is. go g is (is_one_of filters g.topics) refl)
      (all_map (λ (topics : List ℕ). is_one_of filters topics ≡ true) (λ (topics : List ℕ). or_earlier (last_asked a.asks topics) AtMostOnce ≡ qos_of now topics) filters
      (λ topics e. ap (λ q. or_earlier q AtMostOnce) (own topics e) ∙ sym (qos_hit topics e)) (members filters))
    where
      go : (g : Granted) → g.qos ≡ qos_of past g.topics → (b : Bool) → is_one_of filters g.topics ≡ b → (renewed_as filters a.asks g).qos ≡ qos_of now (renewed_as filters a.asks g).topics
      go g is true e = subst (λ (b : Bool). (if b then record g { qos = or_earlier (last_asked a.asks g.topics) g.qos; sure = true } else g).qos ≡ qos_of now (if b then record g { qos = or_earlier (last_asked a.asks g.topics) g.qos; sure = true } else g).topics) (sym e) (ap (λ q. or_earlier q g.qos) (own g.topics e) ∙ sym (qos_hit g.topics e))
      go g is false e = subst (λ (b : Bool). (if b then record g { qos = or_earlier (last_asked a.asks g.topics) g.qos; sure = true } else g).qos ≡ qos_of now (if b then record g { qos = or_earlier (last_asked a.asks g.topics) g.qos; sure = true } else g).topics) (sym e) (is ∙ sym (qos_miss g.topics e))

-- what is granted was asked for
pub granted_asked : (asks : List Ask) (codes : List ℕ) (topics : List ℕ) → is_one_of (granted_in (coded asks codes)) topics ≡ true → is_one_of (filters_of asks) topics ≡ true
granted_asked [] codes topics e = e
granted_asked (ask ∷ asks) [] topics e = absurd (cc e)
granted_asked (ask ∷ asks) (code ∷ codes) topics e = go (nat_lt code 128) (bytes_eq ask.filter topics) refl refl (granted_asked asks codes topics)
  where
    go : (x y : Bool) → nat_lt code 128 ≡ x → bytes_eq ask.filter topics ≡ y → (is_one_of (granted_in (coded asks codes)) topics ≡ true → is_one_of (filters_of asks) topics ≡ true) → is_one_of (filters_of (ask ∷ asks)) topics ≡ true
    go x true h i rest = rw i refl
    go true false h i rest = rw i (rest (rw (h, i) at e))
    go false false h i rest = rw i (rest (rw h at e))
