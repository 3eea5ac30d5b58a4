-- A valid request of a task that hasn't left has a row in Up and in Off.
use Rattle.std.proofs.Common.{◌≡◌, ℕ, ◌<◌, ◌≤◌, true, false, List, is_some, refl, ap, ◌∙◌, arith}
use Rattle.std.proofs.lemmas.Bool.{lt-ltb, eq-eqb}
use Rattle.mqtt_packet.specs.declared.qos.Qos.{Qos}
use Rattle.mqtt_packet.specs.declared.qos.Qos.TheVariants.{AtMostOnce, AtLeastOnce, ExactlyOnce}
use Rattle.agent_journal.specs.declared.entry.Cause.TheVariants as c
use Rattle.agent_journal.specs.declared.request.Request.{Request}
use Rattle.agent_journal.specs.declared.request.Request.TheVariants as requests
use Rattle.agent_journal.specs.declared.setup.Setup.{Setup}
use Rattle.agent_journal.specs.declared.setup.Phase.TheVariants.{Up, Off}
use Rattle.agent_journal.specs.Requests.{is_valid}
use Rattle.agent_table.specs.Readings.{Readings}
use Rattle.agent_table.specs.Sizes.{Sizes}
use Rattle.agent_table.specs.Table.{row_of}
use Rattle.agent_table.specs.Takes as takes
use Rattle.agent_ties.proofs.Rows.{timely}

module _ (s : Setup) (l : Sizes) (r : Readings) where
  publish_some : (task seq : ℕ) (qos : Qos) (topic payload : List ℕ) → is_some (takes.publish_row l r task seq qos topic payload) ≡ true
  unfolding takes.publish_row
  publish_some task seq AtMostOnce topic payload = refl
  publish_some task seq AtLeastOnce topic payload = refl
  publish_some task seq ExactlyOnce topic payload = refl

  up_some : (task seq : ℕ) (request : Request) → is_some (takes.up_row s l r task seq request) ≡ true
  unfolding takes.subscribe_row takes.unsubscribe_row takes.disconnect_row
  up_some task seq (requests.Publish qos topic payload) = publish_some task seq qos topic payload
  up_some task seq (requests.Subscribe asks) = refl
  up_some task seq (requests.Unsubscribe filters) = refl
  up_some task seq requests.Ping = refl
  up_some task seq requests.Disconnect = refl
  up_some task seq requests.Terminate = refl
  up_some task seq requests.Leave = refl

  off_some : (task seq : ℕ) (request : Request) → is_some (takes.off_row r task seq request) ≡ true
  off_some task seq (requests.Publish qos topic payload) = refl
  off_some task seq (requests.Subscribe asks) = refl
  off_some task seq (requests.Unsubscribe filters) = refl
  off_some task seq requests.Ping = refl
  off_some task seq requests.Disconnect = refl
  off_some task seq requests.Terminate = refl
  off_some task seq requests.Leave = refl

  may_take_now : (task seq : ℕ) (request : Request) → task < s.tasks → r.left task ≡ false → seq ≡ r.takes task → is_valid request ≡ true → takes.may_take s r task seq request ≡ true
  unfolding takes.may_take
  may_take_now task seq request known left turn valid = rw (lt-ltb task s.tasks known, left, eq-eqb seq (r.takes task) turn, valid) refl

  module _ (at : ℕ) (fits : r.last_time ≤ at) (request : Request) (valid : is_valid request ≡ true) where
    pub taken_up_by : (task seq : ℕ) → task < s.tasks → r.left task ≡ false → seq ≡ r.takes task → r.phase ≡ Up → is_some (row_of s l r at (c.Take task seq request)) ≡ true
    unfolding takes.take_row
    taken_up_by task seq known left turn is =
        ap is_some (timely s l r at (c.Take task seq request) fits)
        ∙ rw (may_take_now task seq request known left turn valid) (ap (λ phase. is_some (takes.take_in s l r task seq request phase)) is ∙ up_some task seq request)

    pub taken_off_by : (task seq : ℕ) → task < s.tasks → r.left task ≡ false → seq ≡ r.takes task → r.phase ≡ Off → is_some (row_of s l r at (c.Take task seq request)) ≡ true
    unfolding takes.take_row
    taken_off_by task seq known left turn is =
        ap is_some (timely s l r at (c.Take task seq request) fits)
        ∙ rw (may_take_now task seq request known left turn valid) (ap (λ phase. is_some (takes.take_in s l r task seq request phase)) is ∙ off_some task seq request)

  -- the same of the one task of a replay
  module _ (at : ℕ) (fits : r.last_time ≤ at) (request : Request) (one : s.tasks ≡ 1) (left : r.left 0 ≡ false) (valid : is_valid request ≡ true) where
    pub taken_up : r.phase ≡ Up → is_some (row_of s l r at (c.Take 0 (r.takes 0) request)) ≡ true
    taken_up is = taken_up_by at fits request valid 0 (r.takes 0) (omega (arith, one)) left refl is

    pub taken_off : r.phase ≡ Off → is_some (row_of s l r at (c.Take 0 (r.takes 0) request)) ≡ true
    taken_off is = taken_off_by at fits request valid 0 (r.takes 0) (omega (arith, one)) left refl is
