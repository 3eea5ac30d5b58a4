-- What is true of the identifiers of own publishes at every moment.
use Rattle.std.specs.Prelude.{◌≡◌, ℕ, List, true, false}
use Rattle.qos_state.specs.Deliveries.{is_among}

-- none that awaits PUBREC awaits PUBCOMP too
abbrev pub AreApart : List ℕ → List ℕ → Type 0
AreApart exactly_once released = (n : ℕ) → is_among exactly_once n ≡ true → is_among released n ≡ false
