-- A PUBLISH that is sent again comes from the open command of its identifier.
use Rattle.std.proofs.Common.{◌≡◌, ℕ, ◌+◌, ◌≤◌, Bool, true, false, cond, List, [], ◌∷◌, map, find, count_by, Some, refl, sym, ap, ◌∙◌, arith}
use Rattle.std.specs.Prelude.{◌==◌, ◌&&◌, if◌then◌else◌}
use Rattle.std.specs.Option.{option_map}
use Rattle.std.proofs.lemmas.Bool.{eqb-true}
use Rattle.mqtt_packet.specs.declared.packet.Packet.{Packet}
use Rattle.mqtt_packet.specs.declared.packet.Packet.TheVariants as p
use Rattle.agent_journal.specs.declared.entry.Cause.TheVariants as c
use Rattle.agent_journal.specs.declared.setup.Setup.{Setup}
use Rattle.agent_journal.specs.Readings.{Pending}
use Rattle.agent_table.specs.Deliveries.{publishes, is_exactly_once}
use Rattle.agent_table.specs.Sizes.{Sizes}
use Rattle.session_world.specs.World.{Rising, rising, origin_of}
use Rattle.once_laws.specs.Counted.{digit, is_second, is_ours, publishes_second, rises_second, brings}
use Rattle.once_laws.specs.Followed.{is_of, comes_from}
use Rattle.once_laws.proofs.Counting.{second_of, ours_second}
use Rattle.once_laws.proofs.Parts.{counted}

module _ (s : Setup) (l : Sizes) where
  -- whether the open command of an identifier is command q of task t
  abbrev pub is_its : ℕ → ℕ → ℕ → List Pending → Bool
  is_its t q n commands = comes_from t q (option_map (origin_of s l) (find (λ (command : Pending). command.id == n) commands))

  none_of : (t q n : ℕ) (commands : List Pending) → count_by (is_of n) commands ≤ 0 → (count_by (is_second n) commands ≡ 0) × (count_by (is_ours t q n) commands ≡ 0)
  none_of t q n commands few = (omega (arith, few, second_of n commands), omega (arith, few, second_of n commands, ours_second t q n commands))

  -- If it is, the publishes at quality of service 2 of this identifier are it, and if it isn't, none is.
  pub its_own : (t q n : ℕ) (commands : List Pending) → count_by (is_of n) commands ≤ 1
      → count_by (is_ours t q n) commands ≡ (if is_its t q n commands then count_by (is_second n) commands else 0)
  its_own t q n [] alone = refl
  its_own t q n (command ∷ commands) alone = go (command.id == n) refl (its_own t q n commands)
    where
      here : (y : Bool) → (command.task == t && command.seq == q) ≡ y → (command.id == n) ≡ true → count_by (is_of n) commands ≤ 0
          → count_by (is_ours t q n) (command ∷ commands) ≡ (if y then count_by (is_second n) (command ∷ commands) else 0)
      here true is e few =
          let none = none_of t q n commands few in
          omega (arith, none.0, none.1, counted (is_ours t q n) command commands, counted (is_second n) command commands, ap (λ y. digit (is_second n command && y)) is ∙ and_true (is_second n command))
        where
          and_true : (b : Bool) → digit (b && true) ≡ digit b
          and_true true = refl
          and_true false = refl
      here false is e few =
          let none = none_of t q n commands few in
          omega (arith, none.1, counted (is_ours t q n) command commands, ap (λ y. digit (is_second n command && y)) is ∙ and_false (is_second n command))
        where
          and_false : (b : Bool) → digit (b && false) ≡ 0
          and_false true = refl
          and_false false = refl

      go : (b : Bool) → (command.id == n) ≡ b → (count_by (is_of n) commands ≤ 1 → count_by (is_ours t q n) commands ≡ (if is_its t q n commands then count_by (is_second n) commands else 0))
          → count_by (is_ours t q n) (command ∷ commands)
          ≡ (if comes_from t q (option_map (origin_of s l) (cond b (Some command) (find (λ (other : Pending). other.id == n) commands))) then count_by (is_second n) (command ∷ commands) else 0)
      go true e later = here (command.task == t && command.seq == q) refl e (omega (arith, alone, counted (is_of n) command commands, ap digit e))
      go false e later =
          let kind = ap (λ b. digit (b && publishes is_exactly_once command.request)) e in
          let ours = ap (λ b. digit ((b && publishes is_exactly_once command.request) && (command.task == t && command.seq == q))) e in
          let seconds : count_by (is_second n) (command ∷ commands) ≡ count_by (is_second n) commands = omega (arith, counted (is_second n) command commands, kind) in
          let mine : count_by (is_ours t q n) (command ∷ commands) ≡ count_by (is_ours t q n) commands = omega (arith, counted (is_ours t q n) command commands, ours) in
          mine ∙ later (omega (arith, alone, counted (is_of n) command commands, ap digit e)) ∙ ap (λ m. if is_its t q n commands then m else 0) (sym seconds)

  -- ---- What is sent at a packet that arrives

  one_brought : (t q n : ℕ) (arrived : Packet) (commands : List Pending) (packet : Packet) → digit (brings t q n (rising s l (c.Arrived arrived) commands packet)) ≡ digit (publishes_second n packet && is_its t q n commands)
  one_brought t q n arrived commands (p.Publish dup qos retain topic id payload) = go (id == n) refl
    where
      go : (b : Bool) → (id == n) ≡ b → digit ((id == n && is_exactly_once qos) && is_its t q id commands) ≡ digit ((id == n && is_exactly_once qos) && is_its t q n commands)
      go true e = ap (λ m. digit ((id == n && is_exactly_once qos) && is_its t q m commands)) (eqb-true id n e)
      go false e = ap (λ b. digit ((b && is_exactly_once qos) && is_its t q id commands)) e ∙ sym (ap (λ b. digit ((b && is_exactly_once qos) && is_its t q n commands)) e)
  one_brought t q n arrived commands p.PingReq = refl
  one_brought t q n arrived commands p.PingResp = refl
  one_brought t q n arrived commands p.Disconnect = refl
  one_brought t q n arrived commands (p.Connect a b d e f g) = refl
  one_brought t q n arrived commands (p.ConnAck a b) = refl
  one_brought t q n arrived commands (p.PubAck a) = refl
  one_brought t q n arrived commands (p.PubRec a) = refl
  one_brought t q n arrived commands (p.PubRel a) = refl
  one_brought t q n arrived commands (p.PubComp a) = refl
  one_brought t q n arrived commands (p.Subscribe a b) = refl
  one_brought t q n arrived commands (p.SubAck a b) = refl
  one_brought t q n arrived commands (p.Unsubscribe a b) = refl
  one_brought t q n arrived commands (p.UnsubAck a) = refl

  pub brought_is : (t q n : ℕ) (arrived : Packet) (commands : List Pending) (packets : List Packet)
      → count_by (brings t q n) (map (rising s l (c.Arrived arrived) commands) packets) ≡ (if is_its t q n commands then count_by (publishes_second n) packets else 0)
  brought_is t q n arrived commands packets = go (is_its t q n commands) refl packets
    where
      and_one : (a b : Bool) → b ≡ true → digit (a && b) ≡ digit a
      and_one true b e = ap digit e
      and_one false b e = refl

      and_none : (a b : Bool) → b ≡ false → digit (a && b) ≡ 0
      and_none true b e = ap digit e
      and_none false b e = refl

      all_of : is_its t q n commands ≡ true → (packets : List Packet) → count_by (brings t q n) (map (rising s l (c.Arrived arrived) commands) packets) ≡ count_by (publishes_second n) packets
      all_of is [] = refl
      all_of is (packet ∷ packets) = many is packet packets (all_of is packets)
        where
          many : is_its t q n commands ≡ true → (packet : Packet) (packets : List Packet) → count_by (brings t q n) (map (rising s l (c.Arrived arrived) commands) packets) ≡ count_by (publishes_second n) packets
              → count_by (brings t q n) (map (rising s l (c.Arrived arrived) commands) (packet ∷ packets)) ≡ count_by (publishes_second n) (packet ∷ packets)
          many is packet packets rest =
              omega (
                arith,
                counted (brings t q n) (rising s l (c.Arrived arrived) commands packet) (map (rising s l (c.Arrived arrived) commands) packets),
                one_brought t q n arrived commands packet,
                and_one (publishes_second n packet) (is_its t q n commands) is,
                rest,
                counted (publishes_second n) packet packets,
              )

      none_at_all : is_its t q n commands ≡ false → (packets : List Packet) → count_by (brings t q n) (map (rising s l (c.Arrived arrived) commands) packets) ≡ 0
      none_at_all is [] = refl
      none_at_all is (packet ∷ packets) = many is packet packets (none_at_all is packets)
        where
          many : is_its t q n commands ≡ false → (packet : Packet) (packets : List Packet) → count_by (brings t q n) (map (rising s l (c.Arrived arrived) commands) packets) ≡ 0
              → count_by (brings t q n) (map (rising s l (c.Arrived arrived) commands) (packet ∷ packets)) ≡ 0
          many is packet packets rest =
              omega (
                arith,
                counted (brings t q n) (rising s l (c.Arrived arrived) commands packet) (map (rising s l (c.Arrived arrived) commands) packets),
                one_brought t q n arrived commands packet,
                and_none (publishes_second n packet) (is_its t q n commands) is,
                rest,
              )

      go : (b : Bool) → is_its t q n commands ≡ b → (packets : List Packet) → count_by (brings t q n) (map (rising s l (c.Arrived arrived) commands) packets) ≡ (if b then count_by (publishes_second n) packets else 0)
      go true is packets = all_of is packets
      go false is packets = none_at_all is packets

  -- What is sent of an identifier comes from it, or nothing does.
  pub record IsBrought (t q n : ℕ) (commands : List Pending) (more : List Rising) : Type 0 where
    pub brought : count_by (brings t q n) more ≤ count_by (is_ours t q n) commands
    pub own : count_by (rises_second n) more + count_by (is_ours t q n) commands ≤ count_by (brings t q n) more + count_by (is_second n) commands

  pub all_brought : (t q n : ℕ) (arrived : Packet) (commands : List Pending) (packets : List Packet) → count_by (is_of n) commands ≤ 1 → count_by (publishes_second n) packets ≤ count_by (is_second n) commands
      → count_by (rises_second n) (map (rising s l (c.Arrived arrived) commands) packets) ≡ count_by (publishes_second n) packets → IsBrought t q n commands (map (rising s l (c.Arrived arrived) commands) packets)
  all_brought t q n arrived commands packets alone most risen = go (is_its t q n commands) (its_own t q n commands alone) (brought_is t q n arrived commands packets)
    where
      go : (b : Bool) → count_by (is_ours t q n) commands ≡ (if b then count_by (is_second n) commands else 0)
          → count_by (brings t q n) (map (rising s l (c.Arrived arrived) commands) packets) ≡ (if b then count_by (publishes_second n) packets else 0)
          → IsBrought t q n commands (map (rising s l (c.Arrived arrived) commands) packets)
      go true ours brought = record { brought = omega (arith, ours, brought, most); own = omega (arith, ours, brought, risen) }
      go false ours brought = record { brought = omega (arith, brought); own = omega (arith, ours, brought, risen, most) }
