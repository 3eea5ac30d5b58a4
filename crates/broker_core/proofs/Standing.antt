-- What is kept stands for the events behind each call.
use Rattle.std.proofs.Common.{◌≡◌, ℕ, ◌≤◌, Bool, true, List, [], ◌∷◌, length, Option, sym, ap, subst, ◌∙◌, IsUtf8}
use Rattle.std.specs.Prelude.{slice_get}
use Rattle.std.specs.List.{AllByRecursion}
use Rattle.mqtt_packet.specs.declared.qos.Qos.{Qos}
use Rattle.mqtt_packet.specs.declared.packet.Packet.{Packet}
use Rattle.mqtt_packet.specs.Spelling.{is_sound}
use Rattle.topic_filter.specs.Texts.{is_name}
use Rattle.broker_core.specs.declared.link.Link.TheVariants.{Gone, Opened}
use Rattle.broker_core.specs.Kept.{Kept, nothing, ended}
use Rattle.broker_core.specs.Rules.{Answer, with_link, answer, answer_own}
use Rattle.broker_core.specs.Laws.{IsSound}
use Rattle.broker_core.proofs.Sound.{replies_are_sound}
use Rattle.broker_core.specs.Past.{Event, Begins, Ends, Comes, Publishes, answer_to, kept_of, reply, IsThere, MayCome, StandsFor}

pub begins_standing : (k : Kept) → k ≡ nothing → StandsFor k []
begins_standing k e = record { possible = tt; kept = e }

-- an event that may come, and what is kept behind it
behind : (k new : Kept) (event : Event) (past : List Event) → MayCome event k → new ≡ (answer_to event k).kept → StandsFor k past → StandsFor new (event ∷ past)
behind k new event past may is stands = record {
  possible = (subst (MayCome event) stands.kept may, stands.possible);
  kept = is ∙ ap (λ before. (answer_to event before).kept) stands.kept;
}

pub open_stands : (k new : Kept) (past : List Event) → k.link ≡ Gone → new ≡ with_link Opened k → StandsFor k past → StandsFor new (Begins ∷ past)
open_stands k new past gone is stands = behind k new Begins past gone is stands

pub broke_stands : (k new : Kept) (past : List Event) → new ≡ ended k → StandsFor k past → StandsFor new (Ends ∷ past)
broke_stands k new past is stands = behind k new Ends past tt is stands

pub came_past : (k : Kept) (packet : Packet) (past : List Event) (a : Answer) → answer k packet ≡ a → StandsFor k past → reply past (Comes packet) ≡ a
came_past k packet past a e stands = ap (λ before. answer before packet) (sym stands.kept) ∙ e

pub came_stands : (k new : Kept) (packet : Packet) (past : List Event) (packets : List Packet) (close : Bool) → IsThere k.link → is_sound packet ≡ true → answer k packet ≡ record { packets = packets; close = close; kept = new } → StandsFor k past → StandsFor new (Comes packet ∷ past)
came_stands k new packet past packets close there sound e stands = behind k new (Comes packet) past (there, sound) (sym (ap (λ (a : Answer). a.kept) e)) stands

pub own_past : (k : Kept) (qos : Qos) (topic payload : List ℕ) (past : List Event) (a : Answer) → answer_own k qos topic payload ≡ a → StandsFor k past → reply past (Publishes qos topic payload) ≡ a
own_past k qos topic payload past a e stands = ap (λ before. answer_own before qos topic payload) (sym stands.kept) ∙ e

pub own_stands : (k new : Kept) (qos : Qos) (topic payload : List ℕ) (past : List Event) (packets : List Packet) (close : Bool) → is_name topic ≡ true → IsUtf8 topic → length payload ≤ 131072 → answer_own k qos topic payload ≡ record { packets = packets; close = close; kept = new }
    → StandsFor k past → StandsFor new (Publishes qos topic payload ∷ past)
own_stands k new qos topic payload past packets close name text size e stands = behind k new (Publishes qos topic payload) past (name, text, size) (sym (ap (λ (a : Answer). a.kept) e)) stands

pub count_past : (k : Kept) (past : List Event) (n : ℕ) → n ≡ length k.passed → StandsFor k past → n ≡ length (kept_of past).passed
count_past k past n e stands = e ∙ ap (λ (before : Kept). length before.passed) stands.kept

pub message_past : (k : Kept) (past : List Event) (at : ℕ) (message : Option Packet) → message ≡ slice_get k.passed at → StandsFor k past → message ≡ slice_get (kept_of past).passed at
message_past k past at message e stands = e ∙ ap (λ (before : Kept). slice_get before.passed at) stands.kept

-- ---- The packets of the replies

sound_at : (k : Kept) (event : Event) (past : List Event) (packets : List Packet) (close : Bool) (new : Kept) → MayCome event k → answer_to event k ≡ record { packets = packets; close = close; kept = new } → StandsFor k past → AllByRecursion IsSound packets
sound_at k event past packets close new may e stands =
    subst (AllByRecursion IsSound) (ap (λ before. (answer_to event before).packets) (sym stands.kept) ∙ ap (λ (a : Answer). a.packets) e) (replies_are_sound past event stands.possible (subst (MayCome event) stands.kept may))

pub came_sound : (k new : Kept) (packet : Packet) (past : List Event) (packets : List Packet) (close : Bool) → IsThere k.link → is_sound packet ≡ true → answer k packet ≡ record { packets = packets; close = close; kept = new } → StandsFor k past → AllByRecursion IsSound packets
came_sound k new packet past packets close there sound e stands = sound_at k (Comes packet) past packets close new (there, sound) e stands

pub own_sound : (k new : Kept) (qos : Qos) (topic payload : List ℕ) (past : List Event) (packets : List Packet) (close : Bool) → is_name topic ≡ true → IsUtf8 topic → length payload ≤ 131072 → answer_own k qos topic payload ≡ record { packets = packets; close = close; kept = new }
    → StandsFor k past → AllByRecursion IsSound packets
own_sound k new qos topic payload past packets close name text size e stands = sound_at k (Publishes qos topic payload) past packets close new (name, text, size) e stands
