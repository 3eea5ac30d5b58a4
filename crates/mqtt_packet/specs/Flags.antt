-- Flags and qualities of service as bits (MQTT 3.1.1, sections 2.2.2 and 3.3.1).
use Rattle.std.specs.Prelude.{ℕ, Bool, true, false}
use Rattle.mqtt_packet.specs.declared.qos.Qos.{Qos}
use Rattle.mqtt_packet.specs.declared.qos.Qos.TheVariants.{AtMostOnce, AtLeastOnce, ExactlyOnce}

abbrev pub bit : Bool → ℕ
bit true = 1
bit false = 0

-- a quality of service as two bits
abbrev pub level : Qos → ℕ
level AtMostOnce = 0
level AtLeastOnce = 1
level ExactlyOnce = 2
