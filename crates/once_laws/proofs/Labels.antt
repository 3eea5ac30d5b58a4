-- What is sent is labelled with its command.
use Rattle.std.proofs.Common.{◌≡◌, ℕ, zero, suc, ◌+◌, ◌≤◌, Bool, true, false, cond, List, [], ◌∷◌, map, find, count_by, Some, refl, sym, ap, ◌∙◌, subst, arith}
use Rattle.std.specs.Prelude.{◌==◌, ◌&&◌}
use Rattle.std.specs.Option.{option_map}
use Rattle.std.proofs.lemmas.Bool.{eqb-true, and_parts}
use Rattle.mqtt_packet.specs.declared.packet.Packet.{Packet}
use Rattle.mqtt_packet.specs.declared.packet.Packet.TheVariants as p
use Rattle.agent_journal.specs.declared.entry.Cause.{Cause}
use Rattle.agent_journal.specs.declared.entry.Cause.TheVariants as c
use Rattle.agent_journal.specs.declared.setup.Setup.{Setup}
use Rattle.agent_journal.specs.Readings.{Pending}
use Rattle.agent_table.specs.Deliveries.{publishes, is_at_least_once}
use Rattle.agent_table.specs.Sizes.{Sizes}
use Rattle.session_world.specs.World.{Rising, rising, origin_of}
use Rattle.session_world.proofs.Risen.{risen}
use Rattle.once_laws.specs.Counted.{publishes_second, rises_second}
use Rattle.once_laws.specs.Followed.{is_of, is_first, is_mine, publishes_first, rises_first, comes_from, carries}
use Rattle.once_laws.proofs.Following.{mine_first, first_of}
use Rattle.once_laws.proofs.Parts.{digit, counted}

module _ (s : Setup) (l : Sizes) where
  -- ---- Labels change no packet

  pub risen_any : (test : Packet → Bool) (cause : Cause) (commands : List Pending) (packets : List Packet) → count_by (λ (x : Rising). test x.packet) (map (rising s l cause commands) packets) ≡ count_by test packets
  risen_any test cause commands [] = refl
  risen_any test cause commands (packet ∷ packets) =
      omega (
        arith,
        counted (λ (x : Rising). test x.packet) (rising s l cause commands packet) (map (rising s l cause commands) packets),
        ap (λ (x : Packet). digit (test x)) (risen s l cause commands packet),
        risen_any test cause commands packets,
        counted test packet packets,
      )

  pub risen_count : (n : ℕ) (cause : Cause) (commands : List Pending) (packets : List Packet) → count_by (rises_first n) (map (rising s l cause commands) packets) ≡ count_by (publishes_first n) packets
  risen_count n cause commands packets = risen_any (publishes_first n) cause commands packets

  pub risen_second : (n : ℕ) (cause : Cause) (commands : List Pending) (packets : List Packet) → count_by (rises_second n) (map (rising s l cause commands) packets) ≡ count_by (publishes_second n) packets
  risen_second n cause commands packets = risen_any (publishes_second n) cause commands packets

  -- ---- The open command of an identifier

  found : (t q n : ℕ) (commands : List Pending) → count_by (is_of n) commands ≤ 1 → 1 ≤ count_by (is_mine t q n) commands
      → comes_from t q (option_map (origin_of s l) (find (λ (command : Pending). command.id == n) commands)) ≡ true
  found t q n [] alone some = absurd (omega (arith, some))
  found t q n (command ∷ commands) alone some = go (command.id == n) refl (is_mine t q n command) refl (found t q n commands)
    where
      rest : List Pending
      rest = commands

      go : (b : Bool) → (command.id == n) ≡ b → (m : Bool) → is_mine t q n command ≡ m
          → (count_by (is_of n) commands ≤ 1 → 1 ≤ count_by (is_mine t q n) commands → comes_from t q (option_map (origin_of s l) (find (λ (other : Pending). other.id == n) commands)) ≡ true)
          → comes_from t q (option_map (origin_of s l) (cond b (Some command) (find (λ (other : Pending). other.id == n) commands))) ≡ true
      go true e true mine later = (and_parts (is_first n command) (command.task == t && command.seq == q) mine).1
      go true e false mine later =
          absurd (omega (arith, some, alone, counted (is_mine t q n) command commands, counted (is_of n) command commands, ap digit e, ap digit mine, mine_first t q n commands, first_of n commands))
      go false e true mine later =
          let is = (and_parts (command.id == n) (publishes is_at_least_once command.request) (and_parts (is_first n command) (command.task == t && command.seq == q) mine).0).0 in
          absurd (cc (sym e ∙ is))
      go false e false mine later =
          later (omega (arith, alone, counted (is_of n) command commands, ap digit e)) (omega (arith, some, counted (is_mine t q n) command commands, ap digit mine))

  -- ---- Packets of an entry that isn't a Take

  -- a PUBLISH of its identifier comes from it
  one_own : (t q n : ℕ) (arrived : Packet) (commands : List Pending) (packet : Packet) → count_by (is_of n) commands ≤ 1 → 1 ≤ count_by (is_mine t q n) commands → publishes_first n packet ≡ true
      → carries t q n (rising s l (c.Arrived arrived) commands packet) ≡ true
  one_own t q n arrived commands (p.Publish dup qos retain topic id payload) alone some is =
      let same : id ≡ n = eqb-true id n (and_parts (id == n) (is_at_least_once qos) is).0 in
      let from : comes_from t q (option_map (origin_of s l) (find (λ (command : Pending). command.id == id) commands)) ≡ true = subst (λ m. comes_from t q (option_map (origin_of s l) (find (λ (command : Pending). command.id == m) commands)) ≡ true) (sym same) (found t q n commands alone some) in
      ap (λ b. b && comes_from t q (option_map (origin_of s l) (find (λ (command : Pending). command.id == id) commands))) is ∙ from
  one_own t q n arrived commands p.PingReq alone some is = absurd (cc is)
  one_own t q n arrived commands p.PingResp alone some is = absurd (cc is)
  one_own t q n arrived commands p.Disconnect alone some is = absurd (cc is)
  one_own t q n arrived commands (p.Connect a b d e f g) alone some is = absurd (cc is)
  one_own t q n arrived commands (p.ConnAck a b) alone some is = absurd (cc is)
  one_own t q n arrived commands (p.PubAck a) alone some is = absurd (cc is)
  one_own t q n arrived commands (p.PubRec a) alone some is = absurd (cc is)
  one_own t q n arrived commands (p.PubRel a) alone some is = absurd (cc is)
  one_own t q n arrived commands (p.PubComp a) alone some is = absurd (cc is)
  one_own t q n arrived commands (p.Subscribe a b) alone some is = absurd (cc is)
  one_own t q n arrived commands (p.SubAck a b) alone some is = absurd (cc is)
  one_own t q n arrived commands (p.Unsubscribe a b) alone some is = absurd (cc is)
  one_own t q n arrived commands (p.UnsubAck a) alone some is = absurd (cc is)

  at_least : (a b : Bool) → (a ≡ true → b ≡ true) → digit a ≤ digit b
  at_least true true h = omega arith
  at_least true false h = absurd (cc (h refl))
  at_least false b h = omega arith

  all_own : (t q n : ℕ) (arrived : Packet) (commands : List Pending) (packets : List Packet) → count_by (is_of n) commands ≤ 1 → 1 ≤ count_by (is_mine t q n) commands
      → count_by (publishes_first n) packets ≤ count_by (carries t q n) (map (rising s l (c.Arrived arrived) commands) packets)
  all_own t q n arrived commands [] alone some = omega arith
  all_own t q n arrived commands (packet ∷ packets) alone some =
      omega (
        arith,
        counted (publishes_first n) packet packets,
        counted (carries t q n) (rising s l (c.Arrived arrived) commands packet) (map (rising s l (c.Arrived arrived) commands) packets),
        all_own t q n arrived commands packets alone some,
        at_least (publishes_first n packet) (carries t q n (rising s l (c.Arrived arrived) commands packet)) (one_own t q n arrived commands packet alone some),
      )

  pub labelled : (t q n : ℕ) (arrived : Packet) (commands : List Pending) (packets : List Packet) → count_by (is_of n) commands ≤ 1 → count_by (publishes_first n) packets ≤ count_by (is_first n) commands
      → count_by (publishes_first n) packets + count_by (is_mine t q n) commands ≤ count_by (carries t q n) (map (rising s l (c.Arrived arrived) commands) packets) + count_by (is_first n) commands
  labelled t q n arrived commands packets alone most = go (count_by (is_mine t q n) commands) refl
    where
      go : (m : ℕ) → count_by (is_mine t q n) commands ≡ m
          → count_by (publishes_first n) packets + count_by (is_mine t q n) commands ≤ count_by (carries t q n) (map (rising s l (c.Arrived arrived) commands) packets) + count_by (is_first n) commands
      go zero e = omega (arith, e, most)
      go (suc m) e = omega (arith, all_own t q n arrived commands packets alone (omega (arith, e)), mine_first t q n commands)
