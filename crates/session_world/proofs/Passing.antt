-- Messages that were passed on, counted one by one.
use Rattle.std.proofs.Common.{◌≡◌, ℕ, ◌+◌, ◌<◌, Bool, true, false, cond, List, length, take, get_or, count_by, Option, Some, None, sym, ap, ◌∙◌}
use Rattle.std.specs.List.{slice_get}
use Rattle.std.proofs.lemmas.List.Sums.{count_by_more_no, count_by_more_yes}
use Rattle.std.proofs.lemmas.Option.{get_or_from_slice_get, slice_get-get_or, slice_get_within}
use Rattle.mqtt_packet.specs.declared.packet.Packet.{Packet}

pub one_more : (test : Packet → Bool) (passed : List Packet) (k : ℕ) (message : Packet) (b : Bool) → Some message ≡ slice_get passed k → b ≡ test message
    → count_by test (take (k + 1) passed) ≡ cond b (count_by test (take k passed) + 1) (count_by test (take k passed))
one_more test passed k message b is same = go b same
  where
    within : k < length passed
    within = slice_get_within passed k message (sym is)

    there : (b : Bool) → b ≡ test message → test (get_or passed k message) ≡ b
    there b same = ap test (get_or_from_slice_get passed k message message (sym is)) ∙ sym same

    go : (b : Bool) → b ≡ test message → count_by test (take (k + 1) passed) ≡ cond b (count_by test (take k passed) + 1) (count_by test (take k passed))
    go true same = count_by_more_yes test passed k message within (there true same)
    go false same = count_by_more_no test passed k message within (there false same)

pub none_missing : (passed : List Packet) (k : ℕ) (d : Packet) → k < length passed → None ≡ slice_get passed k → ⊥
none_missing passed k d within none = absurd (cc (none ∙ slice_get-get_or passed k d within))
