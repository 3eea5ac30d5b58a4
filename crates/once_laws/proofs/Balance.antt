-- What holds of a world, of each publish at quality of service 2.
use Rattle.std.proofs.Common.{◌≡◌, ℕ, ◌+◌, ◌≤◌, Bool, true, false, cond, List, [], ◌∷◌, ◌++◌, map, find, count_by, Some, refl, sym, ap, ◌∙◌, subst, arith}
use Rattle.std.specs.Prelude.{◌==◌, ◌&&◌, ◌||◌, if◌then◌else◌}
use Rattle.std.specs.Option.{option_map}
use Rattle.std.specs.List.{AllByRecursion}
use Rattle.std.proofs.lemmas.Bool.{eqb-true, eq-eqb, and_parts}
use mathlib.Core.Logic.{inl, inr}
use Rattle.mqtt_packet.specs.declared.packet.Packet.{Packet}
use Rattle.mqtt_packet.specs.declared.packet.Packet.TheVariants as p
use Rattle.agent_journal.specs.declared.entry.Cause.{Cause}
use Rattle.agent_journal.specs.declared.entry.Cause.TheVariants as c
use Rattle.agent_journal.specs.declared.entry.Entry.{Entry}
use Rattle.agent_journal.specs.declared.request.Request.{Request}
use Rattle.agent_journal.specs.declared.setup.Setup.{Setup}
use Rattle.agent_journal.specs.declared.setup.Phase.{Phase}
use Rattle.agent_journal.specs.declared.setup.Phase.TheVariants.{Down, Opening, Up, Spilled, Off}
use Rattle.agent_journal.specs.Readings.{Pending, pending_of, takes_of, takes_by, accepted_of}
use Rattle.agent_table.specs.Deliveries.{is_among, released_of}
use Rattle.agent_table.specs.Histories.{IsLegalPast, phase_of, row}
use Rattle.agent_table.specs.Laws.{IsOneOf}
use Rattle.agent_table.specs.Rows.{Row}
use Rattle.agent_table.specs.Sessions.{is_first}
use Rattle.agent_table.specs.Sizes.{Sizes}
use Rattle.agent_table.proofs.Counts.{is_command, opened}
use Rattle.agent_table.proofs.Received.{open_were_taken}
use Rattle.session_world.specs.World.{World, Rising, Falling, Command, entries, kept, phase, rising, origin_of}
use Rattle.once_laws.specs.Counted.{digit, is_second, is_ours, rises_second, rises_release, falls_receive, falls_complete, brings, IsTidy, IsCounted}
use Rattle.once_laws.specs.Followed.{is_of, is_beginning, comes_from}
use Rattle.once_laws.specs.Home.{IsHome, has_session, received_of, IsOwnConnect, is_connect, is_connack}
use Rattle.once_laws.specs.Once.{takes_it, was_taken, is_from, times}
use Rattle.once_laws.proofs.Counting.{IsTold, second_of}
use Rattle.once_laws.proofs.Numbered.{take_is, next, below}
use Rattle.once_laws.proofs.OpeningSeconds.{IsAgain, AreAgain}
use Rattle.once_laws.proofs.Parts.{IsIn, digit_most, counted, weaker, some}
use Rattle.once_laws.proofs.Settled as settling
use Rattle.once_laws.proofs.Stepping.{phase_behind, legal_behind, is_new}
use Rattle.once_laws.proofs.TakenSeconds.{asks_at, IsAsked}
use Rattle.once_laws.proofs.UpSeconds.{IsAside, AreAside}

-- ---- Labels

abbrev pub asks : Packet → Request → Bool
asks (p.Publish dup qos retain topic id payload) request = asks_at qos request
asks _ request = false

-- A packet comes from a command that asked for it.
abbrev pub IsLabelled : List Entry → Rising → Type 0
IsLabelled past x = (t q : ℕ) → comes_from t q x.origin ≡ true → was_taken (asks x.packet) t q past ≡ true

abbrev pub AreLabelled : List Entry → List Rising → Type 0
AreLabelled past up = AllByRecursion (IsLabelled past) up

pub labelled_later : (past : List Entry) (e : Entry) (up : List Rising) → AreLabelled past up → AreLabelled (e ∷ past) up
labelled_later past e [] h = tt
labelled_later past e (x ∷ up) h = (λ t q from. settling.later (takes_it (asks x.packet) t q e.cause) (was_taken (asks x.packet) t q past) (h.0 t q from), labelled_later past e up h.1)

pub all_both : {X : Type 0} (P : X → Type 0) (xs ys : List X) → AllByRecursion P xs → AllByRecursion P ys → AllByRecursion P (xs ++ ys)
all_both P [] ys h g = g
all_both P (x ∷ xs) ys h g = (h.0, all_both P xs ys h.1 g)

module _ (s : Setup) (l : Sizes) where
  -- packets that aren't PUBLISHes come from none
  aside_one : (past : List Entry) (cause : Cause) (commands : List Pending) (packet : Packet) → IsAside packet → IsLabelled past (rising s l cause commands packet)
  aside_one past cause commands (p.Publish dup qos retain topic id payload) h = absurd h
  aside_one past cause commands (p.Connect a b d e f g) h = absurd h
  aside_one past cause commands (p.ConnAck a b) h = λ t q from. absurd (cc from)
  aside_one past cause commands (p.PubAck a) h = λ t q from. absurd (cc from)
  aside_one past cause commands (p.PubRec a) h = λ t q from. absurd (cc from)
  aside_one past cause commands (p.PubRel a) h = λ t q from. absurd (cc from)
  aside_one past cause commands (p.PubComp a) h = λ t q from. absurd (cc from)
  aside_one past cause commands (p.Subscribe a b) h = λ t q from. absurd (cc from)
  aside_one past cause commands (p.SubAck a b) h = λ t q from. absurd (cc from)
  aside_one past cause commands (p.Unsubscribe a b) h = λ t q from. absurd (cc from)
  aside_one past cause commands (p.UnsubAck a) h = λ t q from. absurd (cc from)
  aside_one past cause commands p.PingReq h = λ t q from. absurd (cc from)
  aside_one past cause commands p.PingResp h = λ t q from. absurd (cc from)
  aside_one past cause commands p.Disconnect h = λ t q from. absurd (cc from)

  pub aside_labelled : (past : List Entry) (cause : Cause) (commands : List Pending) (packets : List Packet) → AreAside packets → AreLabelled past (map (rising s l cause commands) packets)
  aside_labelled past cause commands [] h = tt
  aside_labelled past cause commands (packet ∷ packets) h = (aside_one past cause commands packet h.0, aside_labelled past cause commands packets h.1)

  -- what a Take sends comes from it
  asked_one : (past : List Entry) (e : Entry) (task seq : ℕ) (request : Request) (commands : List Pending) (packet : Packet) → e.cause ≡ c.Take task seq request → IsAsked request packet
      → IsLabelled (e ∷ past) (rising s l (c.Take task seq request) commands packet)
  asked_one past e task seq request commands (p.Publish dup qos retain topic id payload) is h = λ t q from.
      let here : takes_it (asks_at qos) t q e.cause ≡ true = ap (λ (cause : Cause). takes_it (asks_at qos) t q cause) is ∙ both (task == t && seq == q) (asks_at qos request) from h in
      ap (λ b. b || was_taken (asks_at qos) t q past) here
    where
      both : (a b : Bool) → a ≡ true → b ≡ true → (a && b) ≡ true
      both true b e f = f
      both false b e f = e
  asked_one past e task seq request commands (p.Connect a b d f g i) is h = absurd h
  asked_one past e task seq request commands (p.ConnAck a b) is h = aside_one (e ∷ past) (c.Take task seq request) commands (p.ConnAck a b) tt
  asked_one past e task seq request commands (p.PubAck a) is h = aside_one (e ∷ past) (c.Take task seq request) commands (p.PubAck a) tt
  asked_one past e task seq request commands (p.PubRec a) is h = aside_one (e ∷ past) (c.Take task seq request) commands (p.PubRec a) tt
  asked_one past e task seq request commands (p.PubRel a) is h = aside_one (e ∷ past) (c.Take task seq request) commands (p.PubRel a) tt
  asked_one past e task seq request commands (p.PubComp a) is h = aside_one (e ∷ past) (c.Take task seq request) commands (p.PubComp a) tt
  asked_one past e task seq request commands (p.Subscribe a b) is h = aside_one (e ∷ past) (c.Take task seq request) commands (p.Subscribe a b) tt
  asked_one past e task seq request commands (p.SubAck a b) is h = aside_one (e ∷ past) (c.Take task seq request) commands (p.SubAck a b) tt
  asked_one past e task seq request commands (p.Unsubscribe a b) is h = aside_one (e ∷ past) (c.Take task seq request) commands (p.Unsubscribe a b) tt
  asked_one past e task seq request commands (p.UnsubAck a) is h = aside_one (e ∷ past) (c.Take task seq request) commands (p.UnsubAck a) tt
  asked_one past e task seq request commands p.PingReq is h = aside_one (e ∷ past) (c.Take task seq request) commands p.PingReq tt
  asked_one past e task seq request commands p.PingResp is h = aside_one (e ∷ past) (c.Take task seq request) commands p.PingResp tt
  asked_one past e task seq request commands p.Disconnect is h = aside_one (e ∷ past) (c.Take task seq request) commands p.Disconnect tt

  pub asked_labelled : (past : List Entry) (e : Entry) (task seq : ℕ) (request : Request) (commands : List Pending) (packets : List Packet) → e.cause ≡ c.Take task seq request → AllByRecursion (IsAsked request) packets
      → AreLabelled (e ∷ past) (map (rising s l (c.Take task seq request) commands) packets)
  asked_labelled past e task seq request commands [] is h = tt
  asked_labelled past e task seq request commands (packet ∷ packets) is h = (asked_one past e task seq request commands packet is h.0, asked_labelled past e task seq request commands packets is h.1)

  -- what is sent again comes from its open command
  pub in_list : (command : Pending) (commands : List Pending) → IsOneOf command commands → IsIn command commands
  in_list command [] here = here
  in_list command (other ∷ commands) (inl same) = inl same
  in_list command (other ∷ commands) (inr here) = inr (in_list command commands here)

  find_is : (command : Pending) (id : ℕ) (commands : List Pending) → IsOneOf command commands → command.id ≡ id → count_by (is_of id) commands ≤ 1 → find (λ (other : Pending). other.id == id) commands ≡ Some command
  find_is command id [] here is alone = absurd here
  find_is command id (x ∷ commands) (inl same) is alone = ap (λ b. cond b (Some x) (find (λ (other : Pending). other.id == id) commands)) (eq-eqb x.id id (ap (λ (y : Pending). y.id) (sym same) ∙ is)) ∙ ap (λ y. Some y) (sym same)
  find_is command id (x ∷ commands) (inr here) is alone = go (x.id == id) refl (find_is command id commands here is)
    where
      go : (b : Bool) → (x.id == id) ≡ b → (count_by (is_of id) commands ≤ 1 → find (λ (other : Pending). other.id == id) commands ≡ Some command)
          → cond b (Some x) (find (λ (other : Pending). other.id == id) commands) ≡ Some command
      go true e rest = absurd (omega (arith, alone, counted (is_of id) x commands, ap digit e, some (is_of id) command commands (in_list command commands here) (eq-eqb command.id id is)))
      go false e rest = rest (omega (arith, alone, counted (is_of id) x commands))

  again_one : (past : List Entry) (e : Entry) (arrived packet : Packet) → ((n : ℕ) → count_by (is_of n) (pending_of past) ≤ 1) → IsAgain (pending_of past) packet → IsLabelled (e ∷ past) (rising s l (c.Arrived arrived) (pending_of past) packet)
  again_one past e arrived (p.Publish dup qos retain topic id payload) alone (command, here, is, asked) = λ t q from.
      let found : comes_from t q (Some (Command command.task command.seq)) ≡ true = subst (λ x. comes_from t q (option_map (origin_of s l) x) ≡ true) (find_is command id (pending_of past) here is (alone id)) from in
      let two = and_parts (command.task == t) (command.seq == q) found in
      settling.later (takes_it (asks_at qos) t q e.cause) (was_taken (asks_at qos) t q past)
      (settling.taken_as (asks_at qos) past command t q (open_were_taken past command here) (eqb-true command.task t two.0) (eqb-true command.seq q two.1) asked)
  again_one past e arrived (p.Connect a b d f g i) alone h = absurd h
  again_one past e arrived (p.ConnAck a b) alone h = aside_one (e ∷ past) (c.Arrived arrived) (pending_of past) (p.ConnAck a b) tt
  again_one past e arrived (p.PubAck a) alone h = aside_one (e ∷ past) (c.Arrived arrived) (pending_of past) (p.PubAck a) tt
  again_one past e arrived (p.PubRec a) alone h = aside_one (e ∷ past) (c.Arrived arrived) (pending_of past) (p.PubRec a) tt
  again_one past e arrived (p.PubRel a) alone h = aside_one (e ∷ past) (c.Arrived arrived) (pending_of past) (p.PubRel a) tt
  again_one past e arrived (p.PubComp a) alone h = aside_one (e ∷ past) (c.Arrived arrived) (pending_of past) (p.PubComp a) tt
  again_one past e arrived (p.Subscribe a b) alone h = aside_one (e ∷ past) (c.Arrived arrived) (pending_of past) (p.Subscribe a b) tt
  again_one past e arrived (p.SubAck a b) alone h = aside_one (e ∷ past) (c.Arrived arrived) (pending_of past) (p.SubAck a b) tt
  again_one past e arrived (p.Unsubscribe a b) alone h = aside_one (e ∷ past) (c.Arrived arrived) (pending_of past) (p.Unsubscribe a b) tt
  again_one past e arrived (p.UnsubAck a) alone h = aside_one (e ∷ past) (c.Arrived arrived) (pending_of past) (p.UnsubAck a) tt
  again_one past e arrived p.PingReq alone h = aside_one (e ∷ past) (c.Arrived arrived) (pending_of past) p.PingReq tt
  again_one past e arrived p.PingResp alone h = aside_one (e ∷ past) (c.Arrived arrived) (pending_of past) p.PingResp tt
  again_one past e arrived p.Disconnect alone h = aside_one (e ∷ past) (c.Arrived arrived) (pending_of past) p.Disconnect tt

  pub again_labelled : (past : List Entry) (e : Entry) (arrived : Packet) (packets : List Packet) → ((n : ℕ) → count_by (is_of n) (pending_of past) ≤ 1) → AreAgain (pending_of past) packets
      → AreLabelled (e ∷ past) (map (rising s l (c.Arrived arrived) (pending_of past)) packets)
  again_labelled past e arrived [] alone h = tt
  again_labelled past e arrived (packet ∷ packets) alone h = (again_one past e arrived packet alone h.0, again_labelled past e arrived packets alone h.1)

  -- nothing under way comes from a command that wasn't taken
  none_brought : (past : List Entry) (t q n : ℕ) (up : List Rising) → IsLegalPast s l past → takes_of t past ≤ q → AreLabelled past up → count_by (brings t q n) up ≡ 0
  none_brought past t q n [] legal unborn h = refl
  none_brought past t q n (x ∷ up) legal unborn h = go (comes_from t q x.origin) refl (none_brought past t q n up legal unborn h.1)
    where
      none : (b : Bool) → digit (b && false) ≡ 0
      none true = refl
      none false = refl

      go : (b : Bool) → comes_from t q x.origin ≡ b → count_by (brings t q n) up ≡ 0 → count_by (brings t q n) (x ∷ up) ≡ 0
      go true from rest = absurd (omega (arith, unborn, below s l (asks x.packet) t q past legal (h.0 t q from)))
      go false from rest = omega (arith, rest, counted (brings t q n) x up, ap (λ b. digit (rises_second n x && b)) from ∙ none (rises_second n x))

  -- ---- What holds

  abbrev pub ShownIn : Bool → Bool → Packet → Type 0
  ShownIn has first (p.ConnAck present code) = (code == 0) ≡ true → (has ≡ true) × (first ≡ false → present ≡ true)
  ShownIn has first _ = Unit {0}

  abbrev pub is_opening : Phase → Bool
  is_opening Opening = true
  is_opening Down = false
  is_opening Up = false
  is_opening Spilled = false
  is_opening Off = false

  -- whether the session is the first one yet
  abbrev pub first_yet : List Entry → Bool
  first_yet past = is_first s (accepted_of past)

  pub record IsAtHome (w : World) : Type 0 where
    pub home : IsHome s.client (kept w)
    pub connects : AllByRecursion (λ (x : Rising). IsOwnConnect s.client x.packet) w.up
    pub known : first_yet (entries w) ≡ false → has_session (kept w) ≡ true
    pub present : AllByRecursion (λ (x : Falling). ShownIn (has_session (kept w)) (first_yet (entries w)) x.packet) w.down
    pub one : (phase s l w ≡ Off → ⊥) → count_by (λ (x : Rising). is_connect x.packet) w.up + count_by (λ (x : Falling). is_connack x.packet) w.down ≤ digit (is_opening (phase s l w))

  pub record IsBalanced (w : World) (commands : List Pending) (released : List ℕ) : Type 0 where
    pub single : (i j : ℕ) → opened i j commands ≤ 1
    pub tidy : (n : ℕ) → IsTidy n commands released (received_of (kept w)) w.up w.down
    pub counts : (t q n : ℕ) → was_taken settling.is_second t q (entries w) ≡ true → IsCounted t q n commands released (received_of (kept w)) w.up (times t q w)

  pub record IsStill (n : ℕ) (up : List Rising) (down : List Falling) : Type 0 where
    pub second : count_by (rises_second n) up ≡ 0
    pub release : count_by (rises_release n) up ≡ 0
    pub receive : count_by (falls_receive n) down ≡ 0
    pub complete : count_by (falls_complete n) down ≡ 0

  -- In Off the commands and the released are those of before.
  pub record Keeps (w : World) : Type 0 where
    pub legal : IsLegalPast s l (entries w)
    pub most : (t q : ℕ) → was_taken settling.is_second t q (entries w) ≡ true → times t q w ≤ 1
    pub unborn : (t q : ℕ) → takes_of t (entries w) ≤ q → times t q w ≡ 0
    pub labelled : AreLabelled (entries w) w.up
    pub settled : (t q : ℕ) → settling.IsSettled settling.is_second t q (entries w) (times t q w)
    pub commands : List Pending
    pub released : List ℕ
    pub balanced : IsBalanced w commands released
    pub now : (phase s l w ≡ Off → ⊥) → (commands ≡ pending_of (entries w)) × (released ≡ released_of (entries w))
    pub quiet : is_beginning (phase s l w) ≡ true → (n : ℕ) → IsStill n w.up w.down
    pub at_home : IsAtHome w

  abbrev pub entry_of : ℕ → Cause → Row → Entry
  entry_of at cause found = record { at = at; cause = cause; effects = found.effects }

  -- ---- An entry

  -- what holds where the agent goes on
  pub balance_now : (w : World) → Keeps w → (phase s l w ≡ Off → ⊥) → IsBalanced w (pending_of (entries w)) (released_of (entries w))
  balance_now w h on = let is = h.now on in subst (λ cs. IsBalanced w cs (released_of (entries w))) is.0 (subst (λ ids. IsBalanced w h.commands ids) is.1 h.balanced)

  more_takes : (b : Bool) (n q : ℕ) → (if b then n + 1 else n) ≤ q → n ≤ q
  more_takes true n q h = omega (arith, h)
  more_takes false n q h = h

  pub entered : (w new : World) (at : ℕ) (cause : Cause) (found : Row) → row s l (entries w) at cause ≡ Some found → Keeps w → entries new ≡ entry_of at cause found ∷ entries w → new.origins ≡ w.origins
      → ((t q : ℕ) → settling.IsHeard settling.is_second (λ id. p.PubComp id) t q (pending_of (entries w)) cause (times t q w)) → AreLabelled (entry_of at cause found ∷ entries w) new.up
      → (commands : List Pending) (released : List ℕ) → ((i j : ℕ) → opened i j commands ≤ 1) → ((n : ℕ) → IsTidy n commands released (received_of (kept new)) new.up new.down)
      → ((t q n : ℕ) → was_taken settling.is_second t q (entry_of at cause found ∷ entries w) ≡ true → times t q w ≤ 1 → IsCounted t q n commands released (received_of (kept new)) new.up (times t q w))
      → ((found.phase ≡ Off → ⊥) → (commands ≡ pending_of (entry_of at cause found ∷ entries w)) × (released ≡ released_of (entry_of at cause found ∷ entries w)))
      → (is_beginning found.phase ≡ true → (n : ℕ) → IsStill n new.up new.down) → IsAtHome new → Keeps new
  entered w new at cause found e h past origins heard labelled commands released single tidy counts now quiet at_home =
      let legal = legal_behind s l (entries w) at cause found e h.legal in
      let phase_is : phase s l new ≡ found.phase = ap (phase_of s l) past ∙ phase_behind s l (entries w) at cause found e in
      let times_is : (t q : ℕ) → times t q new ≡ times t q w = λ t q. ap (count_by (is_from t q)) origins in
      let most : (t q : ℕ) → was_taken settling.is_second t q (entry_of at cause found ∷ entries w) ≡ true → times t q w ≤ 1 = λ t q taken. most_by t q (takes_it settling.is_second t q cause) refl taken in
      record {
        legal = subst (IsLegalPast s l) (sym past) legal;
        most = λ t q taken. omega (arith, times_is t q, most t q (ap (was_taken settling.is_second t q) (sym past) ∙ taken));
        unborn = λ t q few. times_is t q ∙ h.unborn t q (more_takes (takes_by t cause) (takes_of t (entries w)) q (subst (λ es. takes_of t es ≤ q) past few));
        labelled = subst (λ es. AreLabelled es new.up) (sym past) labelled;
        settled = λ t q.
            subst (λ es. settling.IsSettled settling.is_second t q es (times t q new)) (sym past)
            (subst (λ m. settling.IsSettled settling.is_second t q (entry_of at cause found ∷ entries w) m) (sym (times_is t q))
            (settling.settled_behind settling.is_second (λ id. p.PubComp id) settling.other_second settling.by_pubcomp s l (entries w) (entry_of at cause found) t q (times t q w) legal (h.settled t q) (heard t q)));
        commands = commands;
        released = released;
        balanced = record {
          single = single;
          tidy = tidy;
          counts = λ t q n taken.
              let was = ap (was_taken settling.is_second t q) (sym past) ∙ taken in
              subst (λ m. IsCounted t q n commands released (received_of (kept new)) new.up m) (sym (times_is t q)) (counts t q n was (most t q was));
        };
        now = λ on. let is = now (λ off. on (phase_is ∙ off)) in (is.0 ∙ ap pending_of (sym past), is.1 ∙ ap released_of (sym past));
        quiet = λ begins. quiet (sym (ap is_beginning phase_is) ∙ begins);
        at_home = at_home;
      }
    where
      most_by : (t q : ℕ) (b : Bool) → takes_it settling.is_second t q cause ≡ b → (b || was_taken settling.is_second t q (entries w)) ≡ true → times t q w ≤ 1
      most_by t q true here any =
          let take = take_is settling.is_second t q cause here in
          omega (arith, h.unborn t q (omega (arith, next s l (entries w) (entry_of at cause found) (legal_behind s l (entries w) at cause found e h.legal) t q take.request take.cause_is)))
      most_by t q false here any = h.most t q any

  -- ours among the open ones
  ours_open : (t q n : ℕ) (commands : List Pending) → count_by (is_ours t q n) commands ≤ opened t q commands
  ours_open t q n commands = weaker (is_ours t q n) (is_command t q) commands (λ command e. (and_parts (is_second n command) (is_command t q command) e).1)

  -- of a command that is taken now, too
  pub counts_now : (w : World) (at : ℕ) (cause : Cause) (found : Row) → row s l (entries w) at cause ≡ Some found → Keeps w → (phase s l w ≡ Off → ⊥) → (t q n : ℕ)
      → was_taken settling.is_second t q (entry_of at cause found ∷ entries w) ≡ true → IsCounted t q n (pending_of (entries w)) (released_of (entries w)) (received_of (kept w)) w.up (times t q w)
  counts_now w at cause found e h on t q n taken = go (takes_it settling.is_second t q cause) refl taken
    where
      go : (b : Bool) → takes_it settling.is_second t q cause ≡ b → (b || was_taken settling.is_second t q (entries w)) ≡ true → IsCounted t q n (pending_of (entries w)) (released_of (entries w)) (received_of (kept w)) w.up (times t q w)
      go true here any =
          let take = take_is settling.is_second t q cause here in
          let few : takes_of t (entries w) ≤ q = omega (arith, next s l (entries w) (entry_of at cause found) (legal_behind s l (entries w) at cause found e h.legal) t q take.request take.cause_is) in
          let none = none_brought (entries w) t q n w.up h.legal few h.labelled in
          let zero_is = h.unborn t q few in
          let new = is_new s l (entries w) at t q take.request found (ap (row s l (entries w) at) (sym take.cause_is) ∙ e) h.legal in
          let ours = ours_open t q n (pending_of (entries w)) in
          let tidy = (balance_now w h on).tidy n in
          record {
            brought = omega (arith, none);
            own = omega (arith, none, ours, new, tidy.two);
            counted = omega (arith, zero_is, ours, new);
            heard = omega (arith, ours, new, digit_most (is_among (received_of (kept w)) n));
            passed = omega (arith, ours, new, digit_most (is_among (released_of (entries w)) n));
          }
      go false here any = (balance_now w h on).counts t q n any

-- commands and released that stay as they were
pub frozen : (t q n : ℕ) (commands : List Pending) (released : List ℕ) (hears finishes : ℕ) → count_by (is_of n) commands ≤ 1 → IsTold t q n commands commands released released hears finishes 0
frozen t q n commands released hears finishes alone = record {
  all = omega arith;
  ours = omega arith;
  removed = omega arith;
  fewer = omega arith;
  received = omega arith;
  answered = omega arith;
  freed = omega arith;
  keeps = omega (arith, alone, second_of n commands);
  completed = omega arith;
}
