-- The subscriptions of a session (MQTT 3.1.1, sections 3.8 to 3.11).
use Rattle.std.specs.Prelude.{ℕ, Bool, not, List, [], ◌∷◌, ◌++◌, map, Option, Some, None, if◌then◌else◌, filter}
use Rattle.std.specs.List.{list_any}
use Rattle.std.specs.Option.{option_map}
use Rattle.std.specs.Str.{bytes_eq}
use Rattle.mqtt_packet.specs.declared.qos.Qos.{Qos}
use Rattle.mqtt_packet.specs.declared.qos.Qos.TheVariants.{AtMostOnce, AtLeastOnce, ExactlyOnce}
use Rattle.mqtt_packet.specs.declared.will.Ask.{Ask}
use Rattle.mqtt_packet.specs.Flags.{level}
use Rattle.topic_filter.specs.Fitting.{fits}
use Rattle.topic_filter.specs.Texts.{is_filter}

-- ---- SUBSCRIBE and UNSUBSCRIBE

-- Whether an ask has a topic filter (section 4.7). One that has none isn't entered.
abbrev pub is_valid : Ask → Bool
is_valid ask = is_filter ask.filter

-- The filter is entered with this quality of service, in place of its earlier subscription (MQTT-3.8.4-3).
abbrev pub entered : Ask → List Ask → List Ask
entered ask held = filter (λ other. not (bytes_eq other.filter ask.filter)) held ++ ask ∷ []

abbrev pub all_entered : List Ask → List Ask → List Ask
all_entered [] held = held
all_entered (ask ∷ asks) held = all_entered asks (entered ask held)

-- behind a SUBSCRIBE
abbrev pub subscribed : List Ask → List Ask → List Ask
subscribed asks held = all_entered (filter is_valid asks) held

-- The return code of an ask (section 3.9.3): the quality of service that it asks for, or 128 where its filter isn't valid.
abbrev pub return_code : Ask → ℕ
return_code ask = if is_valid ask then level ask.qos else 128

-- behind an UNSUBSCRIBE (section 3.10.4)
abbrev pub is_one_of : List (List ℕ) → Ask → Bool
is_one_of filters ask = list_any (λ f. bytes_eq f ask.filter) filters

abbrev pub unsubscribed : List (List ℕ) → List Ask → List Ask
unsubscribed filters held = filter (λ ask. not (is_one_of filters ask)) held

-- ---- The quality of service of a copy (sections 3.3.5 and 3.8.4)

abbrev pub lesser : Qos → Qos → Qos
lesser AtMostOnce other = AtMostOnce
lesser AtLeastOnce AtMostOnce = AtMostOnce
lesser AtLeastOnce AtLeastOnce = AtLeastOnce
lesser AtLeastOnce ExactlyOnce = AtLeastOnce
lesser ExactlyOnce other = other

abbrev pub greater : Qos → Qos → Qos
greater AtMostOnce other = other
greater AtLeastOnce AtMostOnce = AtLeastOnce
greater AtLeastOnce AtLeastOnce = AtLeastOnce
greater AtLeastOnce ExactlyOnce = ExactlyOnce
greater ExactlyOnce other = ExactlyOnce

abbrev pub or_greater : Option Qos → Qos → Option Qos
or_greater None other = Some other
or_greater (Some qos) other = Some (greater qos other)

-- the greatest of these and the one that is given
abbrev pub greatest : Option Qos → List Qos → Option Qos
greatest so_far [] = so_far
greatest so_far (qos ∷ others) = greatest (or_greater so_far qos) others

-- the greatest quality of service of the subscriptions that fit the name, if one does
abbrev pub granted : List Ask → List ℕ → Option Qos
granted held name = greatest None (map (λ ask. ask.qos) (filter (λ ask. fits ask.filter name) held))

-- The quality of service of the one copy of a message: the lesser of the message's and of what was granted. None without a
-- fitting subscription.
abbrev pub copied_at : Qos → List ℕ → List Ask → Option Qos
copied_at qos name held = option_map (lesser qos) (granted held name)
