-- The broker keeps its client's session through every step, and a CONNACK says so.
use Rattle.std.proofs.Common.{◌≡◌, ◌⊎◌, ℕ, ◌+◌, ◌≤◌, Bool, true, false, List, [], ◌∷◌, ◌++◌, map, count_by, Some, refl, sym, ap, ◌∙◌, subst, arith}
use Rattle.std.specs.Prelude.{if◌then◌else◌}
use Rattle.std.specs.List.{AllByRecursion}
use mathlib.Core.Logic.{inl, inr}
use Rattle.mqtt_packet.specs.declared.packet.Packet.{Packet}
use Rattle.mqtt_packet.specs.declared.packet.Packet.TheVariants as p
use Rattle.agent_journal.specs.declared.entry.Cause.{Cause}
use Rattle.agent_journal.specs.declared.entry.Cause.TheVariants as c
use Rattle.agent_journal.specs.declared.entry.Entry.{Entry}
use Rattle.agent_journal.specs.declared.request.Request.{Request}
use Rattle.agent_journal.specs.declared.setup.Setup.{Setup}
use Rattle.agent_journal.specs.declared.setup.Phase.TheVariants.{Off}
use Rattle.agent_journal.specs.Readings.{Pending, accepts, accepted_of}
use Rattle.agent_table.specs.Histories.{phase_of, row}
use Rattle.agent_table.specs.Rows.{Row}
use Rattle.agent_table.specs.Sessions.{is_first}
use Rattle.agent_table.specs.Sizes.{Sizes}
use Rattle.agent_table.proofs.Counts.{count_append}
use Rattle.broker_core.specs.declared.link.Link.{Link}
use Rattle.broker_core.specs.declared.link.Link.TheVariants.{Gone, Opened, Accepted}
use Rattle.broker_core.specs.Kept.{Kept, keeps, ended}
use Rattle.broker_core.specs.Session.{Session}
use Rattle.session_world.specs.World.{World, Rising, Falling, entries, kept, phase, rising, falling}
use Rattle.session_world.proofs.Falling.{fallen}
use Rattle.session_world.proofs.Risen.{risen}
use Rattle.once_laws.specs.Counted.{digit}
use Rattle.once_laws.specs.Home.{IsHomeOn, IsHome, has_session, received_of, IsOwnConnect, is_connect, is_connack}
use Rattle.once_laws.proofs.Balance.{IsAtHome, ShownIn, is_opening, first_yet, entry_of, all_both}
use Rattle.once_laws.proofs.Connacks.{Presents}
use Rattle.once_laws.proofs.OpeningSeconds.{IsAgain, AreAgain}
use Rattle.once_laws.proofs.Parts.{counted}
use Rattle.once_laws.proofs.Stepping.{phase_behind}
use Rattle.once_laws.proofs.TakenSeconds.{IsAsked}
use Rattle.once_laws.proofs.UpSeconds.{IsAside, AreAside}

-- ---- A connection that ends

pub record IsEnded (client : List ℕ) (k new : Kept) : Type 0 where
  pub home : IsHome client new
  pub received : received_of new ≡ received_of k
  pub kept : has_session k ≡ true → has_session new ≡ true

ended_on : (client : List ℕ) (link : Link) (others : List Session) (passed : List Packet) → IsHomeOn client link others → IsEnded client (keeps link others passed) (ended (keeps link others passed))
ended_on client Gone [] passed own = record { home = tt; received = refl; kept = λ has. has }
ended_on client Gone (t ∷ []) passed own = record { home = own; received = refl; kept = λ has. has }
ended_on client Gone (t ∷ u ∷ others) passed own = absurd own
ended_on client Opened [] passed own = record { home = tt; received = refl; kept = λ has. has }
ended_on client Opened (t ∷ []) passed own = record { home = own; received = refl; kept = λ has. has }
ended_on client Opened (t ∷ u ∷ others) passed own = absurd own
ended_on client (Accepted true t) others passed own = absurd (cc own.0)
ended_on client (Accepted false t) (u ∷ others) passed own = absurd (cc own.2)
ended_on client (Accepted false t) [] passed own = record { home = own.1; received = refl; kept = λ has. refl }

pub ended_home : (client : List ℕ) (k : Kept) → IsHome client k → IsEnded client k (ended k)
ended_home client k home = ended_on client k.link k.others k.passed home

-- one that begins, where there was none
pub begun_home : (client : List ℕ) (k : Kept) → k.link ≡ Gone → IsHome client k → IsEnded client k (record k { link = Opened })
begun_home client k gone home =
    let own : IsHomeOn client Gone k.others = subst (λ link. IsHomeOn client link k.others) gone home in
    record {
      home = own;
      received = sym (ap (λ (link : Link). received_of (record k { link = link })) gone);
      kept = λ has. sym (ap (λ (link : Link). has_session (record k { link = link })) gone) ∙ has;
    }

-- ---- Packets

-- packets that aren't CONNECTs
abbrev pub IsNoConnect : Packet → Type 0
IsNoConnect packet = is_connect packet ≡ false

aside_connects : (packet : Packet) → IsAside packet → IsNoConnect packet
aside_connects (p.Publish a b d e f g) h = refl
aside_connects (p.Connect a b d e f g) h = absurd h
aside_connects (p.ConnAck a b) h = refl
aside_connects (p.PubAck a) h = refl
aside_connects (p.PubRec a) h = refl
aside_connects (p.PubRel a) h = refl
aside_connects (p.PubComp a) h = refl
aside_connects (p.Subscribe a b) h = refl
aside_connects (p.SubAck a b) h = refl
aside_connects (p.Unsubscribe a b) h = refl
aside_connects (p.UnsubAck a) h = refl
aside_connects p.PingReq h = refl
aside_connects p.PingResp h = refl
aside_connects p.Disconnect h = refl

again_connects : (commands : List Pending) (packet : Packet) → IsAgain commands packet → IsNoConnect packet
again_connects commands (p.Publish a b d e f g) h = refl
again_connects commands (p.Connect a b d e f g) h = absurd h
again_connects commands (p.ConnAck a b) h = refl
again_connects commands (p.PubAck a) h = refl
again_connects commands (p.PubRec a) h = refl
again_connects commands (p.PubRel a) h = refl
again_connects commands (p.PubComp a) h = refl
again_connects commands (p.Subscribe a b) h = refl
again_connects commands (p.SubAck a b) h = refl
again_connects commands (p.Unsubscribe a b) h = refl
again_connects commands (p.UnsubAck a) h = refl
again_connects commands p.PingReq h = refl
again_connects commands p.PingResp h = refl
again_connects commands p.Disconnect h = refl

asked_connects : (request : Request) (packet : Packet) → IsAsked request packet → IsNoConnect packet
asked_connects request (p.Publish a b d e f g) h = refl
asked_connects request (p.Connect a b d e f g) h = absurd h
asked_connects request (p.ConnAck a b) h = refl
asked_connects request (p.PubAck a) h = refl
asked_connects request (p.PubRec a) h = refl
asked_connects request (p.PubRel a) h = refl
asked_connects request (p.PubComp a) h = refl
asked_connects request (p.Subscribe a b) h = refl
asked_connects request (p.SubAck a b) h = refl
asked_connects request (p.Unsubscribe a b) h = refl
asked_connects request (p.UnsubAck a) h = refl
asked_connects request p.PingReq h = refl
asked_connects request p.PingResp h = refl
asked_connects request p.Disconnect h = refl

all_weaker : {X : Type 0} (P Q : X → Type 0) (xs : List X) → ((x : X) → P x → Q x) → AllByRecursion P xs → AllByRecursion Q xs
all_weaker P Q [] so h = tt
all_weaker P Q (x ∷ xs) so h = (so x h.0, all_weaker P Q xs so h.1)

pub asides : (packets : List Packet) → AreAside packets → AllByRecursion IsNoConnect packets
asides packets h = all_weaker IsAside IsNoConnect packets aside_connects h

pub agains : (commands : List Pending) (packets : List Packet) → AreAgain commands packets → AllByRecursion IsNoConnect packets
agains commands packets h = all_weaker (IsAgain commands) IsNoConnect packets (again_connects commands) h

pub askeds : (request : Request) (packets : List Packet) → AllByRecursion (IsAsked request) packets → AllByRecursion IsNoConnect packets
askeds request packets h = all_weaker (IsAsked request) IsNoConnect packets (asked_connects request) h

own_unless : (client : List ℕ) (packet : Packet) → IsNoConnect packet → IsOwnConnect client packet
own_unless client (p.Connect a b d e f g) h = absurd (cc h)
own_unless client (p.Publish a b d e f g) h = tt
own_unless client (p.ConnAck a b) h = tt
own_unless client (p.PubAck a) h = tt
own_unless client (p.PubRec a) h = tt
own_unless client (p.PubRel a) h = tt
own_unless client (p.PubComp a) h = tt
own_unless client (p.Subscribe a b) h = tt
own_unless client (p.SubAck a b) h = tt
own_unless client (p.Unsubscribe a b) h = tt
own_unless client (p.UnsubAck a) h = tt
own_unless client p.PingReq h = tt
own_unless client p.PingResp h = tt
own_unless client p.Disconnect h = tt

abbrev pub connects_in : List Rising → ℕ
connects_in up = count_by (λ (x : Rising). is_connect x.packet) up

abbrev pub connacks_in : List Falling → ℕ
connacks_in down = count_by (λ (x : Falling). is_connack x.packet) down

module _ (s : Setup) (l : Sizes) where
  abbrev AreOwn : List Rising → Type 0
  AreOwn up = AllByRecursion (λ (x : Rising). IsOwnConnect s.client x.packet) up

  pub rising_own : (cause : Cause) (commands : List Pending) (packets : List Packet) → AllByRecursion IsNoConnect packets → AllByRecursion (λ (x : Rising). IsOwnConnect s.client x.packet) (map (rising s l cause commands) packets)
  rising_own cause commands [] h = tt
  rising_own cause commands (packet ∷ packets) h = (subst (IsOwnConnect s.client) (sym (risen s l cause commands packet)) (own_unless s.client packet h.0), rising_own cause commands packets h.1)

  pub rising_none : (cause : Cause) (commands : List Pending) (packets : List Packet) → AllByRecursion IsNoConnect packets → connects_in (map (rising s l cause commands) packets) ≡ 0
  rising_none cause commands [] h = refl
  rising_none cause commands (packet ∷ packets) h =
      omega (
        arith,
        counted (λ (x : Rising). is_connect x.packet) (rising s l cause commands packet) (map (rising s l cause commands) packets),
        ap (λ (x : Packet). digit (is_connect x)) (risen s l cause commands packet),
        ap digit h.0,
        rising_none cause commands packets h.1,
      )

  -- ---- CONNACKs on their way

  shown_later : (has has2 first : Bool) (packet : Packet) → (has ≡ true → has2 ≡ true) → ShownIn s l has first packet → ShownIn s l has2 first packet
  shown_later has has2 first (p.ConnAck present code) so h = λ zero_is. (so (h zero_is).0, (h zero_is).1)
  shown_later has has2 first (p.Publish a b d e f g) so h = tt
  shown_later has has2 first (p.Connect a b d e f g) so h = tt
  shown_later has has2 first (p.PubAck a) so h = tt
  shown_later has has2 first (p.PubRec a) so h = tt
  shown_later has has2 first (p.PubRel a) so h = tt
  shown_later has has2 first (p.PubComp a) so h = tt
  shown_later has has2 first (p.Subscribe a b) so h = tt
  shown_later has has2 first (p.SubAck a b) so h = tt
  shown_later has has2 first (p.Unsubscribe a b) so h = tt
  shown_later has has2 first (p.UnsubAck a) so h = tt
  shown_later has has2 first p.PingReq so h = tt
  shown_later has has2 first p.PingResp so h = tt
  shown_later has has2 first p.Disconnect so h = tt

  pub all_later : (has has2 first : Bool) (down : List Falling) → (has ≡ true → has2 ≡ true) → AllByRecursion (λ (x : Falling). ShownIn s l has first x.packet) down → AllByRecursion (λ (x : Falling). ShownIn s l has2 first x.packet) down
  all_later has has2 first [] so h = tt
  all_later has has2 first (x ∷ down) so h = (shown_later has has2 first x.packet so h.0, all_later has has2 first down so h.1)

  none_shown : (has first : Bool) (down : List Falling) → connacks_in down ≡ 0 → AllByRecursion (λ (x : Falling). ShownIn s l has first x.packet) down
  none_shown has first [] h = tt
  none_shown has first (x ∷ down) h = (one x.packet (omega (arith, h, counted (λ (y : Falling). is_connack y.packet) x down)), none_shown has first down (omega (arith, h, counted (λ (y : Falling). is_connack y.packet) x down)))
    where
      one : (packet : Packet) → digit (is_connack packet) ≡ 0 → ShownIn s l has first packet
      one (p.ConnAck present code) e = absurd (omega (arith, e))
      one (p.Connect a b d e f g) z = tt
      one (p.Publish a b d e f g) z = tt
      one (p.PubAck a) z = tt
      one (p.PubRec a) z = tt
      one (p.PubRel a) z = tt
      one (p.PubComp a) z = tt
      one (p.Subscribe a b) z = tt
      one (p.SubAck a b) z = tt
      one (p.Unsubscribe a b) z = tt
      one (p.UnsubAck a) z = tt
      one p.PingReq z = tt
      one p.PingResp z = tt
      one p.Disconnect z = tt

  shown_by : (before behind first : Bool) (packet : Packet) → (first ≡ false → before ≡ true) → Presents before behind packet → ShownIn s l behind first packet
  shown_by before behind first (p.ConnAck present code) known h = λ zero_is. ((h zero_is).0, λ not_first. (h zero_is).1 (known not_first))
  shown_by before behind first (p.Publish a b d e f g) known h = tt
  shown_by before behind first (p.Connect a b d e f g) known h = tt
  shown_by before behind first (p.PubAck a) known h = tt
  shown_by before behind first (p.PubRec a) known h = tt
  shown_by before behind first (p.PubRel a) known h = tt
  shown_by before behind first (p.PubComp a) known h = tt
  shown_by before behind first (p.Subscribe a b) known h = tt
  shown_by before behind first (p.SubAck a b) known h = tt
  shown_by before behind first (p.Unsubscribe a b) known h = tt
  shown_by before behind first (p.UnsubAck a) known h = tt
  shown_by before behind first p.PingReq known h = tt
  shown_by before behind first p.PingResp known h = tt
  shown_by before behind first p.Disconnect known h = tt

  pub falling_shown : (k : Kept) (before behind first : Bool) (packets : List Packet) → (first ≡ false → before ≡ true) → AllByRecursion (Presents before behind) packets
      → AllByRecursion (λ (x : Falling). ShownIn s l behind first x.packet) (map (falling s l k) packets)
  falling_shown k before behind first [] known h = tt
  falling_shown k before behind first (packet ∷ packets) known h =
      (subst (ShownIn s l behind first) (sym (fallen s l k packet)) (shown_by before behind first packet known h.0), falling_shown k before behind first packets known h.1)

  pub falling_any : (test : Packet → Bool) (k : Kept) (packets : List Packet) → count_by (λ (x : Falling). test x.packet) (map (falling s l k) packets) ≡ count_by test packets
  falling_any test k [] = refl
  falling_any test k (packet ∷ packets) =
      omega (arith, counted (λ (x : Falling). test x.packet) (falling s l k packet) (map (falling s l k) packets), ap (λ (x : Packet). digit (test x)) (fallen s l k packet), falling_any test k packets, counted test packet packets)

  -- ---- Entries

  first_same : (past : List Entry) (e : Entry) → accepts e.cause ≡ false → first_yet s l (e ∷ past) ≡ first_yet s l past
  first_same past e other = ap (λ b. is_first s (if b then accepted_of past + 1 else accepted_of past)) other

  -- one that isn't of a packet, nor of a break
  pub home_entered : (w new : World) (at : ℕ) (cause : Cause) (found : Row) (more : List Rising) → row s l (entries w) at cause ≡ Some found → IsAtHome s l w → (phase s l w ≡ Off → ⊥) → entries new ≡ entry_of s l at cause found ∷ entries w
      → accepts cause ≡ false → IsEnded s.client (kept w) (kept new) → new.up ≡ w.up ++ more → new.down ≡ w.down → AllByRecursion (λ (x : Rising). IsOwnConnect s.client x.packet) more → is_opening s l (phase s l w) ≡ false
      → connects_in more ≤ digit (is_opening s l found.phase) → IsAtHome s l new
  home_entered w new at cause found more e h on past other after up down own closed few =
      let first : first_yet s l (entries new) ≡ first_yet s l (entries w) = ap (first_yet s l) past ∙ first_same (entries w) (entry_of s l at cause found) other in
      let phase_is : phase s l new ≡ found.phase = ap (phase_of s l) past ∙ phase_behind s l (entries w) at cause found e in
      record {
        home = after.home;
        connects = subst (AllByRecursion (λ (x : Rising). IsOwnConnect s.client x.packet)) (sym up) (all_both (λ (x : Rising). IsOwnConnect s.client x.packet) w.up more h.connects own);
        known = λ not_first. after.kept (h.known (sym first ∙ not_first));
        present = subst (λ b. AllByRecursion (λ (x : Falling). ShownIn s l (has_session (kept new)) b x.packet) new.down) (sym first)
            (subst (AllByRecursion (λ (x : Falling). ShownIn s l (has_session (kept new)) (first_yet s l (entries w)) x.packet)) (sym down)
            (all_later (has_session (kept w)) (has_session (kept new)) (first_yet s l (entries w)) w.down after.kept h.present));
        one = λ goes_on. omega (arith, h.one on, ap digit closed, few, ap connects_in up, count_append (λ (x : Rising). is_connect x.packet) w.up more, ap connacks_in down, ap (λ x. digit (is_opening s l x)) phase_is);
      }

  pub stays_home : (client : List ℕ) (k : Kept) → IsHome client k → IsEnded client k k
  stays_home client k home = record { home = home; received = refl; kept = λ has. has }

  -- a break
  pub home_emptied : (w new : World) → IsAtHome s l w → IsEnded s.client (kept w) (kept new) → new.up ≡ [] → new.down ≡ [] → first_yet s l (entries new) ≡ first_yet s l (entries w) → IsAtHome s l new
  home_emptied w new h after up down first = record {
    home = after.home;
    connects = subst (AllByRecursion (λ (x : Rising). IsOwnConnect s.client x.packet)) (sym up) tt;
    known = λ not_first. after.kept (h.known (sym first ∙ not_first));
    present = subst (AllByRecursion (λ (x : Falling). ShownIn s l (has_session (kept new)) (first_yet s l (entries new)) x.packet)) (sym down) tt;
    one = λ on. omega (arith, ap connects_in up, ap connacks_in down);
  }

  pub first_broke : (past : List Entry) (e : Entry) → accepts e.cause ≡ false → first_yet s l (e ∷ past) ≡ first_yet s l past
  first_broke past e other = first_same past e other

  -- ---- A packet that arrives

  accepted_shown : (has first : Bool) (packet : Packet) → accepts (c.Arrived packet) ≡ true → ShownIn s l has first packet → (is_connack packet ≡ true) × (has ≡ true)
  accepted_shown has first (p.ConnAck present code) e h = (refl, (h e).0)
  accepted_shown has first (p.Publish a b d f g i) e h = absurd (cc e)
  accepted_shown has first (p.Connect a b d f g i) e h = absurd (cc e)
  accepted_shown has first (p.PubAck a) e h = absurd (cc e)
  accepted_shown has first (p.PubRec a) e h = absurd (cc e)
  accepted_shown has first (p.PubRel a) e h = absurd (cc e)
  accepted_shown has first (p.PubComp a) e h = absurd (cc e)
  accepted_shown has first (p.Subscribe a b) e h = absurd (cc e)
  accepted_shown has first (p.SubAck a b) e h = absurd (cc e)
  accepted_shown has first (p.Unsubscribe a b) e h = absurd (cc e)
  accepted_shown has first (p.UnsubAck a) e h = absurd (cc e)
  accepted_shown has first p.PingReq e h = absurd (cc e)
  accepted_shown has first p.PingResp e h = absurd (cc e)
  accepted_shown has first p.Disconnect e h = absurd (cc e)

  pub home_arrived : (w new : World) (at : ℕ) (x : Falling) (rest : List Falling) (found : Row) (more : List Rising) → IsAtHome s l w → (phase s l w ≡ Off → ⊥) → w.down ≡ x ∷ rest
      → entries new ≡ entry_of s l at (c.Arrived x.packet) found ∷ entries w → kept new ≡ kept w → new.up ≡ w.up ++ more → new.down ≡ rest → AllByRecursion (λ (y : Rising). IsOwnConnect s.client y.packet) more → connects_in more ≡ 0
      → ((phase s l new ≡ Off → ⊥) → (is_opening s l (phase s l w) ≡ false) ⊎ (is_connack x.packet ≡ true)) → IsAtHome s l new
  home_arrived w new at x rest found more h on is past same up down own none or_connack = record {
    home = subst (IsHome s.client) (sym same) h.home;
    connects = subst (AllByRecursion (λ (y : Rising). IsOwnConnect s.client y.packet)) (sym up) (all_both (λ (y : Rising). IsOwnConnect s.client y.packet) w.up more h.connects own);
    known = λ not_first. ap has_session same ∙ known_by (accepts (c.Arrived x.packet)) refl (sym (ap (first_yet s l) past) ∙ not_first);
    present = subst (λ b. AllByRecursion (λ (y : Falling). ShownIn s l b (first_yet s l (entries new)) y.packet) new.down) (sym (ap has_session same))
        (subst (λ es. AllByRecursion (λ (y : Falling). ShownIn s l (has_session (kept w)) (first_yet s l es) y.packet) new.down) (sym past)
        (subst (AllByRecursion (λ (y : Falling). ShownIn s l (has_session (kept w)) (first_yet s l (entry_of s l at (c.Arrived x.packet) found ∷ entries w)) y.packet)) (sym down) (shown_rest (accepts (c.Arrived x.packet)) refl)));
    one = λ goes_on. omega (arith, one_by (or_connack goes_on), none, ap connects_in up, count_append (λ (y : Rising). is_connect y.packet) w.up more, ap connacks_in down);
  }
    where
      all : AllByRecursion (λ (y : Falling). ShownIn s l (has_session (kept w)) (first_yet s l (entries w)) y.packet) (x ∷ rest)
      all = subst (AllByRecursion (λ (y : Falling). ShownIn s l (has_session (kept w)) (first_yet s l (entries w)) y.packet)) is h.present

      most : (b : Bool) → digit b ≤ 1
      most true = omega arith
      most false = omega arith

      first : connacks_in w.down ≡ digit (is_connack x.packet) + connacks_in rest
      first = ap connacks_in is ∙ counted (λ (y : Falling). is_connack y.packet) x rest

      known_by : (b : Bool) → accepts (c.Arrived x.packet) ≡ b → first_yet s l (entry_of s l at (c.Arrived x.packet) found ∷ entries w) ≡ false → has_session (kept w) ≡ true
      known_by true e not_first = (accepted_shown (has_session (kept w)) (first_yet s l (entries w)) x.packet e all.0).1
      known_by false e not_first = h.known (sym (first_same (entries w) (entry_of s l at (c.Arrived x.packet) found) e) ∙ not_first)

      shown_rest : (b : Bool) → accepts (c.Arrived x.packet) ≡ b → AllByRecursion (λ (y : Falling). ShownIn s l (has_session (kept w)) (first_yet s l (entry_of s l at (c.Arrived x.packet) found ∷ entries w)) y.packet) rest
      shown_rest true e =
          let it = (accepted_shown (has_session (kept w)) (first_yet s l (entries w)) x.packet e all.0).0 in
          none_shown (has_session (kept w)) (first_yet s l (entry_of s l at (c.Arrived x.packet) found ∷ entries w)) rest (omega (arith, h.one on, most (is_opening s l (phase s l w)), first, ap digit it))
      shown_rest false e =
          subst (λ b. AllByRecursion (λ (y : Falling). ShownIn s l (has_session (kept w)) b y.packet) rest) (sym (first_same (entries w) (entry_of s l at (c.Arrived x.packet) found) e)) all.1

      one_by : (is_opening s l (phase s l w) ≡ false) ⊎ (is_connack x.packet ≡ true) → connects_in w.up + connacks_in rest ≤ 0
      one_by (inl closed) = omega (arith, h.one on, ap digit closed, first)
      one_by (inr it) = omega (arith, h.one on, most (is_opening s l (phase s l w)), first, ap digit it)
