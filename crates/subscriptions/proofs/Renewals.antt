-- What the SUBACK of a renewal leaves.
use Rattle.std.proofs.Common.{◌≡◌, ℕ, not, List, Some, None, refl}
use Rattle.std.specs.List.{find, filter, flat_map}
use Rattle.agent_table.specs.Routes.{Renewal}
use Rattle.subscriptions.specs.Routing.{Routing, is_renewal, renewal_len, renewal_coded, renewal_granted}

pub confirmed_as : (id : ℕ) (codes : List ℕ) (k : Routing) (renewal : Renewal) → Some renewal ≡ find (is_renewal id) k.renewals
    → record k { granted = flat_map (renewal_coded renewal.asks codes) k.granted; renewals = filter (λ other. not (is_renewal id other)) k.renewals } ≡ renewal_granted id codes k
confirmed_as id codes k renewal found = rw (← found) refl

pub is_there : (id n : ℕ) (k : Routing) → None ≡ find (is_renewal id) k.renewals → renewal_len id k ≡ Some n → ⊥
is_there id n k none len = cc (rw (← none) at len)
