-- Requests have a row in Up and in Off, and it is the one that is looked up by the phase.
use Rattle.std.proofs.Common.{◌≡◌, ℕ, true, false, List, Some, is_some, refl, ap, sym, ◌∙◌}
use Rattle.std.proofs.Common.{◌+◌, ◌<◌, not, [], ◌∷◌, ◌++◌, length, take, arith}
use Rattle.std.specs.Prelude.{nat_lt, nat_le}
use Rattle.std.specs.List.{slice_get}
use Rattle.std.proofs.lemmas.Bool.Decides.{nat_tests}
use Rattle.std.proofs.lemmas.List.{append-nil}
use Rattle.std.proofs.lemmas.List.Elements.{filter-append}
use Rattle.mqtt_packet.specs.declared.packet.Packet.TheVariants as p
use Rattle.mqtt_packet.specs.declared.will.Ask.{Ask}
use Rattle.agent_journal.specs.declared.effect.Effect.TheVariants as f
use Rattle.agent_journal.specs.declared.outcome.Outcome.TheVariants as o
use Rattle.agent_table.specs.Effects.{fresh_id}
use Rattle.mqtt_packet.specs.declared.qos.Qos.{Qos}
use Rattle.mqtt_packet.specs.declared.qos.Qos.TheVariants.{AtMostOnce, AtLeastOnce, ExactlyOnce}
use Rattle.agent_journal.specs.declared.request.Request.{Request}
use Rattle.agent_journal.specs.declared.request.Request.TheVariants as requests
use Rattle.agent_journal.specs.declared.setup.Setup.{Setup}
use Rattle.agent_journal.specs.declared.setup.Phase.{Phase}
use Rattle.agent_journal.specs.declared.setup.Phase.TheVariants.{Down, Opening, Up, Spilled, Off}
use Rattle.agent_table.specs.Readings.{Readings}
use Rattle.agent_table.specs.Rows.{Row, to}
use Rattle.agent_table.specs.Sizes.{Sizes}
use Rattle.agent_table.specs.Takes.{take_row, take_in, may_take, up_row, off_row, publish_row, subscribe_row, unsubscribe_row, disconnect_row, at_once, routes_with, other_has, own_filters}
use Rattle.session_resume.proofs.Loops.{taken_more}
use Rattle.agent_core.proofs.Breaks.{is_when, some_when}

module _ (s : Setup) (l : Sizes) (r : Readings) (task seq : ℕ) where
  publish_taken : (qos : Qos) (topic payload : List ℕ) → true ≡ is_some (publish_row l r task seq qos topic payload)
  unfolding publish_row
  publish_taken AtMostOnce topic payload = refl
  publish_taken AtLeastOnce topic payload = refl
  publish_taken ExactlyOnce topic payload = refl

  pub taken_in_up : (request : Request) → true ≡ is_some (up_row s l r task seq request)
  unfolding subscribe_row unsubscribe_row disconnect_row
  taken_in_up (requests.Publish qos topic payload) = publish_taken qos topic payload
  taken_in_up (requests.Subscribe asks) = refl
  taken_in_up (requests.Unsubscribe filters) = refl
  taken_in_up requests.Ping = refl
  taken_in_up requests.Disconnect = refl
  taken_in_up requests.Terminate = refl
  taken_in_up requests.Leave = refl

  pub taken_in_off : (request : Request) → true ≡ is_some (off_row r task seq request)
  taken_in_off (requests.Publish qos topic payload) = refl
  taken_in_off (requests.Subscribe asks) = refl
  taken_in_off (requests.Unsubscribe filters) = refl
  taken_in_off requests.Ping = refl
  taken_in_off requests.Disconnect = refl
  taken_in_off requests.Terminate = refl
  taken_in_off requests.Leave = refl

  in_up : (request : Request) (row : Row) (phase : Phase) → phase ≡ Up → up_row s l r task seq request ≡ Some row → take_in s l r task seq request phase ≡ Some row
  in_up request row phase e is = ap (take_in s l r task seq request) e ∙ is

  pub take_up_is : (request : Request) (row : Row) → is_some (take_row s l r task seq request) ≡ true → r.phase ≡ Up → up_row s l r task seq request ≡ Some row → take_row s l r task seq request ≡ Some row
  unfolding take_row
  take_up_is request row some e is = is_when (may_take s r task seq request) _ some ∙ in_up request row r.phase e is

  not_up : (request : Request) (row : Row) (phase : Phase) → is_some (take_in s l r task seq request phase) ≡ true → (phase ≡ Up → ⊥) → off_row r task seq request ≡ Some row → take_in s l r task seq request phase ≡ Some row
  not_up request row Down some other is = absurd (cc some)
  not_up request row Opening some other is = absurd (cc some)
  not_up request row Up some other is = absurd (other refl)
  not_up request row Spilled some other is = absurd (cc some)
  not_up request row Off some other is = is

  pub take_off_is : (request : Request) (row : Row) → is_some (take_row s l r task seq request) ≡ true → (r.phase ≡ Up → ⊥) → off_row r task seq request ≡ Some row → take_row s l r task seq request ≡ Some row
  unfolding take_row
  take_off_is request row some other is =
      is_when (may_take s r task seq request) _ some ∙ not_up request row r.phase (some_when (may_take s r task seq request) _ some).1 other is

-- ---- Subscribes

room_or_not : (n m : ℕ) → nat_le n m ≡ true → nat_lt m n ≡ false
room_or_not n m few = grind (arith, nat_tests)

none_or_not : (n m : ℕ) → nat_le n m ≡ false → nat_lt m n ≡ true
none_or_not n m many = grind (arith, nat_tests)

module _ (l : Sizes) (r : Readings) (task seq : ℕ) (asks : List Ask) (row : Row) where
  pub no_room : length r.pending ≡ l.acks → to Up (at_once task seq o.NoRoom) ≡ Some row → subscribe_row l r task seq asks ≡ Some row
  unfolding subscribe_row
  no_room full e = let is : nat_le l.acks (length r.pending) ≡ true = grind (arith, nat_tests) in rw is e

  pub no_route : length r.pending < l.acks → nat_le (length (routes_with r task asks)) l.routes ≡ false → to Up (at_once task seq o.NoRoute) ≡ Some row → subscribe_row l r task seq asks ≡ Some row
  unfolding subscribe_row
  no_route room many e =
      let is : nat_le l.acks (length r.pending) ≡ false = grind (arith, nat_tests) in
      rw (is, none_or_not (length (routes_with r task asks)) l.routes many) e

  pub with_room : length r.pending < l.acks → nat_le (length (routes_with r task asks)) l.routes ≡ true → to Up (f.Send (p.Subscribe (fresh_id r) asks) ∷ []) ≡ Some row → subscribe_row l r task seq asks ≡ Some row
  unfolding subscribe_row
  with_room room few e =
      let is : nat_le l.acks (length r.pending) ≡ false = grind (arith, nat_tests) in
      rw (is, room_or_not (length (routes_with r task asks)) l.routes few) e

-- ---- The filters that no other task needs

module _ (r : Readings) (task : ℕ) (filters : List (List ℕ)) where
  own_one : (topics : List ℕ) → other_has r task topics ≡ false → own_filters r task (topics ∷ []) ≡ topics ∷ []
  own_one topics free = rw free refl

  own_none : (topics : List ℕ) → other_has r task topics ≡ true → own_filters r task (topics ∷ []) ≡ []
  own_none topics taken = rw taken refl

  pub own_more : (now new : List (List ℕ)) (k : ℕ) (topics : List ℕ) → slice_get filters k ≡ Some topics → other_has r task topics ≡ false → now ≡ own_filters r task (take k filters)
      → new ≡ now ++ topics ∷ [] → new ≡ own_filters r task (take (k + 1) filters)
  own_more now new k topics at free so_far pushed =
      pushed ∙ ap (λ ts. ts ++ topics ∷ []) so_far ∙ ap (λ ts. own_filters r task (take k filters) ++ ts) (sym (own_one topics free))
      ∙ sym (ap (own_filters r task) (taken_more filters k topics at) ∙ filter-append (λ ts. not (other_has r task ts)) (take k filters) (topics ∷ []))

  pub own_skips : (now : List (List ℕ)) (k : ℕ) (topics : List ℕ) → slice_get filters k ≡ Some topics → other_has r task topics ≡ true → now ≡ own_filters r task (take k filters)
      → now ≡ own_filters r task (take (k + 1) filters)
  own_skips now k topics at taken so_far =
      so_far ∙ sym (append-nil (own_filters r task (take k filters))) ∙ ap (λ ts. own_filters r task (take k filters) ++ ts) (sym (own_none topics taken))
      ∙ sym (ap (own_filters r task) (taken_more filters k topics at) ∙ filter-append (λ ts. not (other_has r task ts)) (take k filters) (topics ∷ []))
