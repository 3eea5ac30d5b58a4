-- A command that is taken and not completed is open.
use Rattle.std.proofs.Common.{◌≡◌, ℕ, zero, suc, ◌≤◌, Bool, true, false, cond, List, [], ◌∷◌, ◌++◌, map, Option, Some, None, refl, sym, ap, ◌∙◌, arith}
use Rattle.std.specs.Prelude.{◌&&◌, ◌==◌, nat_lt, length}
use Rattle.mqtt_packet.specs.declared.qos.Qos.{Qos}
use Rattle.mqtt_packet.specs.declared.qos.Qos.TheVariants.{AtMostOnce, AtLeastOnce, ExactlyOnce}
use Rattle.mqtt_packet.specs.declared.packet.Packet.TheVariants as p
use Rattle.agent_journal.specs.declared.request.Request.{Request}
use Rattle.agent_journal.specs.declared.request.Request.TheVariants as requests
use Rattle.agent_journal.specs.declared.outcome.Outcome.{Outcome}
use Rattle.agent_journal.specs.declared.outcome.Outcome.TheVariants as o
use Rattle.agent_journal.specs.declared.effect.Effect.{Effect}
use Rattle.agent_journal.specs.declared.effect.Effect.TheVariants as f
use Rattle.agent_journal.specs.declared.setup.Setup.{Setup}
use Rattle.agent_journal.specs.declared.setup.Phase.{Phase}
use Rattle.agent_journal.specs.declared.setup.Phase.TheVariants.{Down, Opening, Up, Spilled, Off}
use Rattle.agent_journal.specs.Readings.{Pending, completes, sent_filters, sent_id, opened_by}
use Rattle.agent_table.proofs.Commands.{answered_in}
use Rattle.agent_table.specs.Effects.{done, cancel_all, close, closed_below, fresh_id}
use Rattle.agent_table.specs.Readings.{Readings}
use Rattle.agent_table.specs.Rows.{Row, when}
use Rattle.agent_table.specs.Sizes.{Sizes}
use Rattle.agent_table.specs.Takes as takes
use Rattle.agent_table.proofs.Counts.{opened, dones, count_append, count_more}

assoc : (xs ys zs : List Effect) → (xs ++ ys) ++ zs ≡ xs ++ (ys ++ zs)
assoc [] ys zs = refl
assoc (x ∷ xs) ys zs = ap (λ (es : List Effect). x ∷ es) (assoc xs ys zs)

one_drawn : (gone : Bool) (n : ℕ) (rest : List Effect) → sent_id (cond gone [] (f.Closed n ∷ []) ++ rest) ≡ sent_id rest
one_drawn true n rest = refl
one_drawn false n rest = refl

none_drawn : (n : ℕ) (left : ℕ → Bool) (rest : List Effect) → sent_id (closed_below n left ++ rest) ≡ sent_id rest
none_drawn zero left rest = refl
none_drawn (suc n) left rest = ap sent_id (assoc (closed_below n left) (cond (left n) [] (f.Closed n ∷ [])) rest) ∙ none_drawn n left (cond (left n) [] (f.Closed n ∷ []) ++ rest) ∙ one_drawn (left n) n rest

nil : (xs : List Effect) → xs ++ [] ≡ xs
nil [] = refl
nil (x ∷ xs) = ap (λ (es : List Effect). x ∷ es) (nil xs)

pub none_closed : (n : ℕ) (left : ℕ → Bool) → sent_id (closed_below n left) ≡ None
none_closed n left = ap sent_id (sym (nil (closed_below n left))) ∙ none_drawn n left []

pub done_draws : (outcome : Outcome) (commands : List Pending) (rest : List Effect) → sent_id (map (done outcome) commands ++ rest) ≡ sent_id rest
done_draws outcome [] rest = refl
done_draws outcome (c ∷ commands) rest = done_draws outcome commands rest

module _ (t q : ℕ) where
  abbrev own : ℕ → ℕ → ℕ
  own task seq = cond ((task == t) && (seq == q)) 1 0

  -- where nothing completes it, the command is open then exactly if it is this one
  abbrev Opens : ℕ → ℕ → Request → List Effect → Type 0
  Opens task seq request effects = dones t q effects ≡ 0 → opened t q (opened_by task seq request (sent_filters effects) (sent_id effects)) ≡ own task seq

  drawn : (task seq : ℕ) (request : Request) (effects : List Effect) (id : ℕ) → sent_id effects ≡ Some id → Opens task seq request effects
  drawn task seq request effects id is none =
      ap (λ (n : Option ℕ). opened t q (opened_by task seq request (sent_filters effects) n)) is ∙ count_more (λ (c : Pending). (c.task == t) && (c.seq == q)) (record { id = id; task = task; seq = seq; request = request; sent_filters = sent_filters effects }) [] ∙ omega arith

  completed : (task seq : ℕ) (request : Request) (effects : List Effect) → sent_id effects ≡ None → own task seq ≤ dones t q effects → Opens task seq request effects
  completed task seq request effects is h none = ap (λ (n : Option ℕ). opened t q (opened_by task seq request (sent_filters effects) n)) is ∙ (omega (arith, none, h))

  at_once_opens : (task seq : ℕ) (request : Request) (outcome : Outcome) → Opens task seq request (takes.at_once task seq outcome)
  at_once_opens task seq request outcome =
      let one = count_more (completes t q) (f.Done task seq outcome) [] in completed task seq request (f.Done task seq outcome ∷ []) refl (omega (arith, one))

  sent_opens : (task seq : ℕ) (request : Request) (outcome : Outcome) (effects : List Effect) → sent_id effects ≡ None → dones t q effects ≡ own task seq → Opens task seq request effects
  sent_opens task seq request outcome effects is h = completed task seq request effects is (omega (arith, h))

  opens_if : (task seq : ℕ) (request : Request) (b : Bool) (x y : List Effect) → Opens task seq request x → Opens task seq request y → Opens task seq request (cond b x y)
  opens_if task seq request true x y h k = h
  opens_if task seq request false x y h k = k

  two_dones : (task seq : ℕ) (first : Effect) → completes t q first ≡ false → (outcome : Outcome) (rest : List Effect) → own task seq ≤ dones t q (first ∷ f.Done task seq outcome ∷ rest)
  two_dones task seq first none outcome rest =
      let a = count_more (completes t q) first (f.Done task seq outcome ∷ rest) in let b = count_more (completes t q) (f.Done task seq outcome) rest in omega (arith, a, b)

  -- of a row
  abbrev pub RowOpens : ℕ → ℕ → Request → Option Row → Type 0
  RowOpens task seq request None = Unit {0}
  RowOpens task seq request (Some row) = dones t q row.effects ≡ 0 → opened t q (opened_by task seq request (sent_filters row.effects) (sent_id row.effects)) ≡ answered_in t q task seq request

  delivered_opens : (l : Sizes) (r : Readings) (task seq : ℕ) (qos : Qos) (topic payload : List ℕ) → ((id : ℕ) → sent_id (f.Send (p.Publish false qos false topic id payload) ∷ []) ≡ Some id)
      → Opens task seq (requests.Publish qos topic payload) (takes.delivered l r task seq qos topic payload)
  delivered_opens l r task seq qos topic payload has =
      let request = requests.Publish qos topic payload in
      opens_if task seq request (takes.is_full l r) (takes.at_once task seq o.NoRoom) (f.Send (p.Publish false qos false topic (fresh_id r) payload) ∷ []) (at_once_opens task seq request o.NoRoom)
      (drawn task seq request (f.Send (p.Publish false qos false topic (fresh_id r) payload) ∷ []) (fresh_id r) (has (fresh_id r)))

  publish_opens : (l : Sizes) (r : Readings) (task seq : ℕ) (qos : Qos) (topic payload : List ℕ) → RowOpens task seq (requests.Publish qos topic payload) (takes.publish_row l r task seq qos topic payload)
  unfolding takes.publish_row
  publish_opens l r task seq AtMostOnce topic payload =
      completed task seq (requests.Publish AtMostOnce topic payload) (f.Send (p.Publish false AtMostOnce false topic 0 payload) ∷ f.Done task seq o.Done ∷ []) refl (two_dones task seq (f.Send (p.Publish false AtMostOnce false topic 0 payload)) refl o.Done [])
  publish_opens l r task seq AtLeastOnce topic payload = delivered_opens l r task seq AtLeastOnce topic payload (λ id. refl)
  publish_opens l r task seq ExactlyOnce topic payload = delivered_opens l r task seq ExactlyOnce topic payload (λ id. refl)

  subscribe_opens : (l : Sizes) (r : Readings) (task seq : ℕ) (request : Request) (rest : List Effect) (room more : Bool) (id : ℕ) → sent_id rest ≡ Some id
      → Opens task seq request (cond room (takes.at_once task seq o.NoRoom) (cond more (takes.at_once task seq o.NoRoute) rest))
  subscribe_opens l r task seq request rest room more id is =
      opens_if task seq request room (takes.at_once task seq o.NoRoom) (cond more (takes.at_once task seq o.NoRoute) rest) (at_once_opens task seq request o.NoRoom)
      (opens_if task seq request more (takes.at_once task seq o.NoRoute) rest (at_once_opens task seq request o.NoRoute) (drawn task seq request rest id is))

  unsubscribe_opens : (l : Sizes) (r : Readings) (task seq : ℕ) (request : Request) (filters : List (List ℕ)) → Opens task seq request (takes.unsubscribed l r task seq filters)
  unsubscribe_opens l r task seq request [] = at_once_opens task seq request o.Done
  unsubscribe_opens l r task seq request (topics ∷ filters) =
      opens_if task seq request (takes.is_full l r) (takes.at_once task seq o.NoRoom) (f.Send (p.Unsubscribe (fresh_id r) (topics ∷ filters)) ∷ []) (at_once_opens task seq request o.NoRoom)
      (drawn task seq request (f.Send (p.Unsubscribe (fresh_id r) (topics ∷ filters)) ∷ []) (fresh_id r) refl)

  disconnect_opens : (s : Setup) (r : Readings) (task seq : ℕ) (request : Request) → Opens task seq request (cancel_all r ++ f.Send p.Disconnect ∷ f.Done task seq o.Done ∷ close s r)
  disconnect_opens s r task seq request =
      let rest = f.Send p.Disconnect ∷ f.Done task seq o.Done ∷ close s r in
      let sum = count_append (completes t q) (cancel_all r) rest in
      let two = two_dones task seq (f.Send p.Disconnect) refl o.Done (close s r) in
      completed task seq request (cancel_all r ++ rest) (done_draws o.Cancelled r.pending rest ∙ none_closed s.tasks r.left) (omega (arith, sum, two))

  up_opens : (s : Setup) (l : Sizes) (r : Readings) (task seq : ℕ) (request : Request) → RowOpens task seq request (takes.up_row s l r task seq request)
  unfolding takes.subscribe_row takes.unsubscribe_row takes.disconnect_row
  up_opens s l r task seq (requests.Publish qos topic payload) = publish_opens l r task seq qos topic payload
  up_opens s l r task seq (requests.Subscribe asks) =
      subscribe_opens l r task seq (requests.Subscribe asks) (f.Send (p.Subscribe (fresh_id r) asks) ∷ []) (takes.is_full l r) (nat_lt l.routes (length (takes.routes_with r task asks))) (fresh_id r) refl
  up_opens s l r task seq (requests.Unsubscribe filters) = unsubscribe_opens l r task seq (requests.Unsubscribe filters) (takes.own_filters r task filters)
  up_opens s l r task seq requests.Ping = completed task seq requests.Ping (f.Send p.PingReq ∷ f.Done task seq o.Done ∷ []) refl (two_dones task seq (f.Send p.PingReq) refl o.Done [])
  up_opens s l r task seq requests.Disconnect = disconnect_opens s r task seq requests.Disconnect
  up_opens s l r task seq requests.Terminate = disconnect_opens s r task seq requests.Terminate
  up_opens s l r task seq requests.Leave = λ none. refl

  off_opens : (r : Readings) (task seq : ℕ) (request : Request) → RowOpens task seq request (takes.off_row r task seq request)
  off_opens r task seq (requests.Publish qos topic payload) = at_once_opens task seq (requests.Publish qos topic payload) (takes.refusal r)
  off_opens r task seq (requests.Subscribe asks) = at_once_opens task seq (requests.Subscribe asks) (takes.refusal r)
  off_opens r task seq (requests.Unsubscribe filters) = at_once_opens task seq (requests.Unsubscribe filters) (takes.refusal r)
  off_opens r task seq requests.Ping = at_once_opens task seq requests.Ping (takes.refusal r)
  off_opens r task seq requests.Disconnect = at_once_opens task seq requests.Disconnect (takes.refusal r)
  off_opens r task seq requests.Terminate = at_once_opens task seq requests.Terminate o.Done
  off_opens r task seq requests.Leave = λ none. refl

  pub take_opens : (s : Setup) (l : Sizes) (r : Readings) (task seq : ℕ) (request : Request) (phase : Phase) → RowOpens task seq request (takes.take_in s l r task seq request phase)
  take_opens s l r task seq request Down = tt
  take_opens s l r task seq request Opening = tt
  take_opens s l r task seq request Up = up_opens s l r task seq request
  take_opens s l r task seq request Spilled = tt
  take_opens s l r task seq request Off = off_opens r task seq request

  pub opens_when : (task seq : ℕ) (request : Request) (b : Bool) (row : Option Row) → RowOpens task seq request row → RowOpens task seq request (when b row)
  opens_when task seq request true row h = h
  opens_when task seq request false row h = tt
