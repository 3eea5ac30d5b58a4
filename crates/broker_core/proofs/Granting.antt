-- The greatest quality of service of fitting subscriptions, one by one.
use Rattle.std.proofs.Common.{◌≡◌, ℕ, ◌+◌, ◌<◌, ◌≤◌, true, false, List, length, drop, map, get_or, Option, Some, refl, ap, sym, ◌∙◌}
use Rattle.std.specs.Prelude.{filter}
use Rattle.mqtt_packet.specs.declared.qos.Qos.{Qos}
use Rattle.mqtt_packet.specs.declared.will.Ask.{Ask}
use Rattle.topic_filter.specs.Fitting.{fits}
use Rattle.broker_core.specs.Subscribed.{greatest, or_greater}
use Rattle.broker_core.proofs.Loops.{next_of, end_of}

abbrev rest : Option Qos → List ℕ → List Ask → Option Qos
rest best name held = greatest best (map (λ ask. ask.qos) (filter (λ ask. fits ask.filter name) held))

pub granted_more : (whole best : Option Qos) (name : List ℕ) (held : List Ask) (i : ℕ) (ask : Ask) (new : Qos) → i < length held → ask ≡ get_or held i ask → fits ask.filter name ≡ true
    → Some new ≡ or_greater best ask.qos → rest best name (drop i held) ≡ whole → rest (Some new) name (drop (i + 1) held) ≡ whole
granted_more whole best name held i ask new lt is fit e so_far =
    ap (λ b. rest b name (drop (i + 1) held)) e ∙ sym (ap (rest best name) (next_of held i ask lt is) ∙ rw fit refl) ∙ so_far

pub granted_skips : (whole best : Option Qos) (name : List ℕ) (held : List Ask) (i : ℕ) (ask : Ask) → i < length held → ask ≡ get_or held i ask → fits ask.filter name ≡ false
    → rest best name (drop i held) ≡ whole → rest best name (drop (i + 1) held) ≡ whole
granted_skips whole best name held i ask lt is other so_far = sym (ap (rest best name) (next_of held i ask lt is) ∙ rw other refl) ∙ so_far

pub granted_all : (whole best : Option Qos) (name : List ℕ) (held : List Ask) (i : ℕ) → length held ≤ i → rest best name (drop i held) ≡ whole → best ≡ whole
granted_all whole best name held i past so_far = sym (ap (rest best name) (end_of held i past)) ∙ so_far
