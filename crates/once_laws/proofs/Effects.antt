-- What effects send, and commands that they leave open.
use Rattle.std.proofs.Common.{◌≡◌, ℕ, zero, suc, Bool, true, false, cond, List, [], ◌∷◌, ◌++◌, map, filter, count_by, refl, ap, ◌∙◌, arith, append-nil}
use Rattle.std.specs.Prelude.{take, drop, length, if◌then◌else◌}
use Rattle.std.proofs.lemmas.Bool.{eq-eqb}
use Rattle.mqtt_packet.specs.declared.packet.Packet.{Packet}
use Rattle.mqtt_packet.specs.declared.packet.Packet.TheVariants as p
use Rattle.mqtt_packet.specs.declared.will.Ask.{Ask}
use Rattle.agent_journal.specs.declared.message.Message.{Message}
use Rattle.agent_journal.specs.declared.outcome.Outcome.{Outcome}
use Rattle.agent_journal.specs.declared.effect.Effect.{Effect}
use Rattle.agent_journal.specs.declared.effect.Effect.TheVariants as f
use Rattle.agent_journal.specs.Readings.{Pending, stays_open, completes}
use Rattle.agent_journal.specs.Wires.{sends}
use Rattle.agent_table.specs.Effects.{done, is_reached, passed_below, renew, subscribes, used}
use Rattle.agent_table.specs.Identifiers.{fresh}
use Rattle.agent_table.specs.Readings.{Readings}
use Rattle.agent_table.proofs.Completions.{AtMost}
use Rattle.agent_table.proofs.Counts.{count_append, dones, stays_is}
use Rattle.once_laws.proofs.Parts.{own}

-- ---- Sends

pub sends_append : (xs ys : List Effect) → sends (xs ++ ys) ≡ sends xs ++ sends ys
sends_append [] ys = refl
sends_append (f.Send packet ∷ xs) ys = ap (λ ps. packet ∷ ps) (sends_append xs ys)
sends_append (f.Done t q outcome ∷ xs) ys = sends_append xs ys
sends_append (f.Pass t m ∷ xs) ys = sends_append xs ys
sends_append (f.Closed t ∷ xs) ys = sends_append xs ys

pub dones_send : (outcome : Outcome) (commands : List Pending) → sends (map (done outcome) commands) ≡ []
dones_send outcome [] = refl
dones_send outcome (command ∷ commands) = dones_send outcome commands

pub passes_send : (r : Readings) (m : Message) (n : ℕ) → sends (passed_below n r m) ≡ []
passes_send r m zero = refl
passes_send r m (suc n) =
    sends_append (passed_below n r m) _ ∙ ap (λ ps. ps ++ sends (if is_reached r m.topic n then f.Pass n m ∷ [] else [])) (passes_send r m n) ∙ one (is_reached r m.topic n)
  where
    one : (b : Bool) → sends (if b then f.Pass n m ∷ [] else []) ≡ []
    one true = refl
    one false = refl

pub then_sends : (xs : List Effect) (packet : Packet) → sends xs ≡ [] → sends (xs ++ f.Send packet ∷ []) ≡ packet ∷ []
then_sends xs packet e = sends_append xs (f.Send packet ∷ []) ∙ ap (λ ps. ps ++ packet ∷ []) e

-- a test that no SUBSCRIBE passes counts none in renewals
pub none_renewed : (test : Packet → Bool) → ((id : ℕ) (asks : List Ask) → test (p.Subscribe id asks) ≡ false) → (r : Readings) (asks : List Ask) → count_by test (sends (renew r asks)) ≡ 0
none_renewed test no_one r asks = go (length asks) r.last_drawn (used r) asks
  where
    more : (packet : Packet) (packets : List Packet) → test packet ≡ false → count_by test packets ≡ 0 → count_by test (packet ∷ packets) ≡ 0
    more packet packets e rest = omega (arith, count_append test (packet ∷ []) packets, count_one packet e, rest)
      where
        count_one : (packet : Packet) → test packet ≡ false → count_by test (packet ∷ []) ≡ 0
        count_one packet e = rw e refl

    go : (k last : ℕ) (in_use : List ℕ) (asks : List Ask) → count_by test (sends (subscribes k last in_use asks)) ≡ 0
    go zero last in_use asks = refl
    go (suc k) last in_use [] = refl
    go (suc k) last in_use (ask ∷ asks) =
        more (p.Subscribe (fresh last in_use) (take 8 (ask ∷ asks))) (sends (subscribes k (fresh last in_use) (fresh last in_use ∷ in_use) (drop 8 (ask ∷ asks)))) (no_one (fresh last in_use) (take 8 (ask ∷ asks)))
        (go k (fresh last in_use) (fresh last in_use ∷ in_use) (drop 8 (ask ∷ asks)))

-- ---- Commands

-- effects that complete no command
abbrev pub IsQuiet : List Effect → Type 0
IsQuiet effects = (t q : ℕ) → AtMost t q 0 effects

abbrev pub left : List Pending → List Effect → List Pending
left commands effects = filter (stays_open effects) (commands ++ [])

all_stay : (effects : List Effect) (commands : List Pending) → IsQuiet effects → filter (stays_open effects) commands ≡ commands
all_stay effects [] h = refl
all_stay effects (command ∷ commands) h =
    let none : dones command.task command.seq effects ≡ 0 = omega (arith, h command.task command.seq) in
    let is : stays_open effects command ≡ true = stays_is command.task command.seq effects command (own command) ∙ eq-eqb (dones command.task command.seq effects) 0 none in
    ap (λ b. cond b (command ∷ filter (stays_open effects) commands) (filter (stays_open effects) commands)) is ∙ ap (λ cs. command ∷ cs) (all_stay effects commands h)

pub all_left : (effects : List Effect) (commands : List Pending) → IsQuiet effects → left commands effects ≡ commands
all_left effects commands h = ap (filter (stays_open effects)) (append-nil commands) ∙ all_stay effects commands h

pub joined : (xs ys : List Effect) → IsQuiet xs → IsQuiet ys → IsQuiet (xs ++ ys)
joined xs ys a b t q = omega (arith, count_append (completes t q) xs ys, a t q, b t q)

pub sent : (packet : Packet) → IsQuiet (f.Send packet ∷ [])
sent packet t q = omega arith

pub nothing : IsQuiet []
nothing t q = omega arith
