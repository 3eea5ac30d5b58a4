-- Which entries have effects that grant nothing and drop nothing.
use Rattle.std.proofs.Common.{◌≡◌, ◌⊎◌, ℕ, Bool, true, false, List, [], ◌∷◌, ◌++◌, Option, Some, None, refl, ap, sym, ◌∙◌, subst, inl, inr}
use Rattle.std.specs.Prelude.{nat_le, if◌then◌else◌}
use Rattle.std.specs.List.{AllByRecursion}
use Rattle.std.proofs.lemmas.Bool.{eq-eqb}
use Rattle.mqtt_packet.specs.declared.packet.Packet.{Packet}
use Rattle.mqtt_packet.specs.declared.packet.Packet.TheVariants as p
use Rattle.mqtt_packet.specs.declared.qos.Qos.TheVariants.{AtMostOnce, AtLeastOnce, ExactlyOnce}
use Rattle.agent_journal.specs.declared.request.Request.{Request}
use Rattle.agent_journal.specs.declared.request.Request.TheVariants as requests
use Rattle.agent_journal.specs.declared.outcome.Outcome.{Outcome}
use Rattle.agent_journal.specs.declared.outcome.Outcome.TheVariants as o
use Rattle.agent_journal.specs.declared.effect.Effect.{Effect}
use Rattle.agent_journal.specs.declared.effect.Effect.TheVariants as f
use Rattle.agent_journal.specs.declared.entry.Cause.{Cause}
use Rattle.agent_journal.specs.declared.entry.Cause.TheVariants as c
use Rattle.agent_journal.specs.declared.entry.Entry.{Entry}
use Rattle.agent_journal.specs.declared.setup.Setup.{Setup}
use Rattle.agent_journal.specs.declared.setup.Phase.{Phase}
use Rattle.agent_journal.specs.declared.setup.Phase.TheVariants.{Down, Opening, Up, Spilled, Off}
use Rattle.agent_journal.specs.Readings.{Pending, pending_of, opens, opened_by, sent_id, takes_of, sent_filters}
use Rattle.agent_table.specs.Arrivals.{is_unsubscribe}
use Rattle.agent_table.specs.Effects.{fresh_id}
use Rattle.agent_table.specs.Histories.{IsLegalPast, readings, row, effects_of}
use Rattle.agent_table.specs.Laws.{IsOneOf, Acknowledges, EarnsOutcome, Earns}
use Rattle.agent_table.specs.Readings.{Readings}
use Rattle.agent_table.specs.Rows.{Row, when}
use Rattle.agent_table.specs.Sizes.{Sizes}
use Rattle.agent_table.specs.Table.{row_of}
use Rattle.agent_table.specs.Takes as takes
use Rattle.agent_table.specs.Takes.{take_row, take_in, may_take, unsubscribe_row}
use Rattle.agent_table.proofs.Earned.{outcomes_are_earned}
use Rattle.pending_acks.specs.Commands.{is_command}
use Rattle.agent_core.proofs.RoutedEnds.{IsQuiet, QuietBy, AreQuiet, one_false}
use Rattle.agent_core.proofs.RoutedLists.{all_map, all_append}
use Rattle.agent_core.proofs.RoutedPast.{AreNumbered, AreTaken, new_number, are_numbered, are_taken, is_next}

-- ---- Causes that neither take nor acknowledge a subscribe or an unsubscribe

abbrev pub IsPlainPacket : Packet → Type 0
IsPlainPacket (p.Connect clean keep_alive client will user password) = Unit {0}
IsPlainPacket (p.ConnAck present code) = Unit {0}
IsPlainPacket (p.Publish dup qos retain topic id payload) = Unit {0}
IsPlainPacket (p.PubAck id) = Unit {0}
IsPlainPacket (p.PubRec id) = Unit {0}
IsPlainPacket (p.PubRel id) = Unit {0}
IsPlainPacket (p.PubComp id) = Unit {0}
IsPlainPacket (p.Subscribe id asks) = Unit {0}
IsPlainPacket (p.SubAck id codes) = ⊥
IsPlainPacket (p.Unsubscribe id filters) = Unit {0}
IsPlainPacket (p.UnsubAck id) = ⊥
IsPlainPacket p.PingReq = Unit {0}
IsPlainPacket p.PingResp = Unit {0}
IsPlainPacket p.Disconnect = Unit {0}

abbrev pub IsPlain : Cause → Type 0
IsPlain c.Opened = Unit {0}
IsPlain (c.Take task seq request) = ⊥
IsPlain (c.Arrived packet) = IsPlainPacket packet
IsPlain (c.Broke why) = Unit {0}
IsPlain c.Tick = Unit {0}
IsPlain c.GaveUp = Unit {0}
IsPlain c.Finish = Unit {0}

is_it : (command : Pending) → is_command command.task command.seq command ≡ true
is_it command = rw (eq-eqb command.task command.task refl, eq-eqb command.seq command.seq refl) refl

-- what is so of the command of these numbers is so of each that has them
of_each : (P : Request → Type 0) (t q : ℕ) (commands : List Pending) (command : Pending) → AreNumbered commands → IsOneOf command commands → command.task ≡ t → command.seq ≡ q → P command.request
    → AllByRecursion (λ (other : Pending). is_command t q other ≡ true → P other.request) commands
of_each P t q [] command apart is task seq holds = absurd is
of_each P t q (first ∷ commands) command apart (inl same) task seq holds =
    let its : is_command t q first ≡ true =
    subst (λ (x : Pending). is_command t q x ≡ true) same (subst (λ u. is_command u q command ≡ true) task (subst (λ u. is_command command.task u command ≡ true) seq (is_it command))) in (
      λ e. subst (λ (x : Pending). P x.request) same holds,
      all_map (λ (other : Pending). is_command first.task first.seq other ≡ false) (λ (other : Pending). is_command t q other ≡ true → P other.request) commands
          (λ other differs e. absurd (cc (e, one_false true true t q first other its differs))) apart.0,
    )
of_each P t q (first ∷ commands) command apart (inr rest) task seq holds =
    (λ e. absurd (clash commands apart.0 rest e), of_each P t q commands command apart.1 rest task seq holds)
  where
    here : is_command t q command ≡ true
    here = subst (λ u. is_command u q command ≡ true) task (subst (λ u. is_command command.task u command ≡ true) seq (is_it command))

    clash : (cs : List Pending) → AllByRecursion (λ (other : Pending). is_command first.task first.seq other ≡ false) cs → IsOneOf command cs → is_command t q first ≡ true → ⊥
    clash [] all is e = is
    clash (x ∷ cs) all (inl same) e =
        let differs : is_command first.task first.seq command ≡ false = subst (λ (y : Pending). is_command first.task first.seq y ≡ false) (sym same) all.0 in
        cc (here, one_false true true t q first command e differs)
    clash (x ∷ cs) all (inr more) e = clash cs all.1 more e

quiet_unless : (request : Request) (outcome : Outcome) → (outcome ≡ o.Done) → is_unsubscribe request ≡ false → IsQuiet request outcome
quiet_unless request outcome is other = (rw is refl, λ e. absurd (cc (e, other)))

-- each other outcome is quiet
all_quiet : (outcome : Outcome) (t q : ℕ) (commands : List Pending) → ((request : Request) → IsQuiet request outcome) → AllByRecursion (λ (other : Pending). is_command t q other ≡ true → IsQuiet other.request outcome) commands
all_quiet outcome t q [] each = tt
all_quiet outcome t q (command ∷ commands) each = (λ e. each command.request, all_quiet outcome t q commands each)

acknowledged_quiet : (r : Readings) (cause : Cause) (id : ℕ) (request : Request) → IsPlain cause → Acknowledges r cause id request → IsQuiet request o.Done
acknowledged_quiet r cause id (requests.Publish qos topic payload) plain ack = (refl, λ e. absurd (cc e))
acknowledged_quiet r cause id (requests.Subscribe asks) plain ack = absurd ack
acknowledged_quiet r cause id (requests.Unsubscribe filters) plain ack = absurd (subst IsPlain ack plain)
acknowledged_quiet r cause id requests.Ping plain ack = absurd ack
acknowledged_quiet r cause id requests.Disconnect plain ack = absurd ack
acknowledged_quiet r cause id requests.Terminate plain ack = absurd ack
acknowledged_quiet r cause id requests.Leave plain ack = absurd ack

quiet_outcome : (r : Readings) (cause : Cause) (t q : ℕ) (outcome : Outcome) → IsPlain cause → AreNumbered r.pending → EarnsOutcome r cause t q outcome → QuietBy r.pending (f.Done t q outcome)
quiet_outcome r cause t q o.Done plain apart (inl (request, is, at_once)) = absurd (subst IsPlain is plain)
quiet_outcome r cause t q o.Done plain apart (inr (command, one, task, seq, ack)) =
    of_each (λ request. IsQuiet request o.Done) t q r.pending command apart one task seq (acknowledged_quiet r cause command.id command.request plain ack)
quiet_outcome r cause t q (o.Granted codes) plain apart (command, one, task, seq, is, subscribes, many) = absurd (subst IsPlain is plain)
quiet_outcome r cause t q o.NoRoom plain apart earned = all_quiet o.NoRoom t q r.pending (λ request. (refl, λ e. refl))
quiet_outcome r cause t q o.NoRoute plain apart earned = all_quiet o.NoRoute t q r.pending (λ request. (refl, λ e. refl))
quiet_outcome r cause t q o.NotConnected plain apart earned = all_quiet o.NotConnected t q r.pending (λ request. (refl, λ e. refl))
quiet_outcome r cause t q o.LinkLost plain apart earned = all_quiet o.LinkLost t q r.pending (λ request. (refl, λ e. refl))
quiet_outcome r cause t q o.SessionLost plain apart earned = all_quiet o.SessionLost t q r.pending (λ request. (refl, λ e. refl))
quiet_outcome r cause t q o.Cancelled plain apart earned = all_quiet o.Cancelled t q r.pending (λ request. (refl, λ e. refl))
quiet_outcome r cause t q o.NoMemory plain apart earned = absurd earned

quiet_effect : (r : Readings) (cause : Cause) (effect : Effect) → IsPlain cause → AreNumbered r.pending → Earns r cause effect → QuietBy r.pending effect
quiet_effect r cause (f.Send packet) plain apart earned = tt
quiet_effect r cause (f.Done t q outcome) plain apart earned = quiet_outcome r cause t q outcome plain apart earned
quiet_effect r cause (f.Pass task message) plain apart earned = tt
quiet_effect r cause (f.Closed task) plain apart earned = tt

pub plain_quiet : (s : Setup) (l : Sizes) (past : List Entry) (at : ℕ) (cause : Cause) (effects : List Effect) → IsLegalPast s l past → effects_of (row s l past at cause) ≡ Some effects → IsPlain cause → AreQuiet (pending_of past) effects
plain_quiet s l past at cause effects legal e plain =
    let apart = are_numbered s l past legal in
    all_map (Earns (readings s l past) cause) (QuietBy (pending_of past)) effects (λ effect earned. quiet_effect (readings s l past) cause effect plain apart earned) (outcomes_are_earned s l past at cause effects e)

-- ---- Takes

-- A property of the effects of a row.
abbrev pub OfRow : (List Effect → Type 0) → Option Row → Type 0
OfRow P None = Unit {0}
OfRow P (Some row) = P row.effects

pub row_when : (P : List Effect → Type 0) (b : Bool) (row : Option Row) → OfRow P row → OfRow P (when b row)
row_when P true row h = h
row_when P false row h = tt

pub of_effects : (P : List Effect → Type 0) (found : Option Row) (effects : List Effect) → effects_of found ≡ Some effects → OfRow P found → P effects
of_effects P None effects e h = absurd (cc e)
of_effects P (Some row) effects e h = let is : row.effects ≡ effects = cc in subst P is h

-- An unsubscribe that is sent isn't completed with its Take.
abbrev SentOrNot : List Effect → Type 0
SentOrNot effects = (sent_id effects ≡ None) ⊎ ((packet : Packet) × (effects ≡ f.Send packet ∷ []))

sent_or_not : (l : Sizes) (r : Readings) (task seq : ℕ) (filters : List (List ℕ)) → SentOrNot (takes.unsubscribed l r task seq filters)
sent_or_not l r task seq [] = inl refl
sent_or_not l r task seq (topics ∷ filters) = go (takes.is_full l r)
  where
    go : (b : Bool) → SentOrNot (if b then takes.at_once task seq o.NoRoom else f.Send (p.Unsubscribe (fresh_id r) (topics ∷ filters)) ∷ [])
    go true = inl refl
    go false = inr (p.Unsubscribe (fresh_id r) (topics ∷ filters), refl)

unsubscribe_in : (s : Setup) (l : Sizes) (r : Readings) (task seq : ℕ) (filters : List (List ℕ)) (phase : Phase) → OfRow SentOrNot (take_in s l r task seq (requests.Unsubscribe filters) phase)
unfolding unsubscribe_row
unsubscribe_in s l r task seq filters Down = tt
unsubscribe_in s l r task seq filters Opening = tt
unsubscribe_in s l r task seq filters Up = sent_or_not l r task seq (takes.own_filters r task filters)
unsubscribe_in s l r task seq filters Spilled = tt
unsubscribe_in s l r task seq filters Off = inl refl

unsubscribe_sent : (s : Setup) (l : Sizes) (r : Readings) (at task seq : ℕ) (filters : List (List ℕ)) → OfRow SentOrNot (row_of s l r at (c.Take task seq (requests.Unsubscribe filters)))
unfolding row_of take_row
unsubscribe_sent s l r at task seq filters =
    let inner = take_in s l r task seq (requests.Unsubscribe filters) r.phase in
    row_when SentOrNot (nat_le r.last_time at) (when (may_take s r task seq (requests.Unsubscribe filters)) inner)
    (row_when SentOrNot (may_take s r task seq (requests.Unsubscribe filters)) inner (unsubscribe_in s l r task seq filters r.phase))

-- none of these commands has the numbers
none_named : (outcome : Outcome) (past : List Entry) (task seq : ℕ) (commands : List Pending) → seq ≡ takes_of task past → AreTaken past commands
    → AllByRecursion (λ (other : Pending). is_command task seq other ≡ true → IsQuiet other.request outcome) commands
none_named outcome past task seq [] is taken = tt
none_named outcome past task seq (command ∷ commands) is taken =
    (λ e. absurd (cc (e, new_number past task seq command.task command.seq is taken.0)), none_named outcome past task seq commands is taken.1)

abbrev IsTake : Cause → Type 0
IsTake c.Opened = ⊥
IsTake (c.Take task seq request) = Unit {0}
IsTake (c.Arrived packet) = ⊥
IsTake (c.Broke why) = ⊥
IsTake c.Tick = ⊥
IsTake c.GaveUp = ⊥
IsTake c.Finish = ⊥

abbrev task_in : Cause → ℕ
task_in c.Opened = 0
task_in (c.Take task seq request) = task
task_in (c.Arrived packet) = 0
task_in (c.Broke why) = 0
task_in c.Tick = 0
task_in c.GaveUp = 0
task_in c.Finish = 0

abbrev seq_in : Cause → ℕ
seq_in c.Opened = 0
seq_in (c.Take task seq request) = seq
seq_in (c.Arrived packet) = 0
seq_in (c.Broke why) = 0
seq_in c.Tick = 0
seq_in c.GaveUp = 0
seq_in c.Finish = 0

not_acknowledged : (r : Readings) (task seq : ℕ) (taken : Request) (id : ℕ) (request : Request) → Acknowledges r (c.Take task seq taken) id request → ⊥
not_acknowledged r task seq taken id (requests.Publish AtMostOnce topic payload) ack = ack
not_acknowledged r task seq taken id (requests.Publish AtLeastOnce topic payload) ack = subst IsTake ack tt
not_acknowledged r task seq taken id (requests.Publish ExactlyOnce topic payload) ack = subst IsTake ack.0 tt
not_acknowledged r task seq taken id (requests.Subscribe asks) ack = ack
not_acknowledged r task seq taken id (requests.Unsubscribe filters) ack = subst IsTake ack tt
not_acknowledged r task seq taken id requests.Ping ack = ack
not_acknowledged r task seq taken id requests.Disconnect ack = ack
not_acknowledged r task seq taken id requests.Terminate ack = ack
not_acknowledged r task seq taken id requests.Leave ack = ack

-- An outcome of a Take is quiet for the commands that were open, and for others where it isn't Done.
take_outcome : (r : Readings) (past : List Entry) (task seq : ℕ) (request : Request) (more : List Pending) (t q : ℕ) (outcome : Outcome) → r.pending ≡ pending_of past → seq ≡ takes_of task past → AreTaken past (pending_of past)
    → (AllByRecursion (λ (other : Pending). is_unsubscribe other.request ≡ false) more) → EarnsOutcome r (c.Take task seq request) t q outcome → QuietBy (pending_of past ++ more) (f.Done t q outcome)
take_outcome r past task seq request more t q o.Done same is taken others (inl (own, e, at_once)) =
    let a : task ≡ t = ap task_in e in let b : seq ≡ q = ap seq_in e in
    all_append (λ (other : Pending). is_command t q other ≡ true → IsQuiet other.request o.Done) (pending_of past) more
    (none_named o.Done past t q (pending_of past) (sym b ∙ is ∙ ap (λ u. takes_of u past) a) taken)
    (all_map (λ (other : Pending). is_unsubscribe other.request ≡ false) (λ (other : Pending). is_command t q other ≡ true → IsQuiet other.request o.Done) more (λ other nay h. quiet_unless other.request o.Done refl nay) others)
take_outcome r past task seq request more t q o.Done same is taken others (inr (command, one, its_task, its_seq, ack)) = absurd (not_acknowledged r task seq request command.id command.request ack)
take_outcome r past task seq request more t q (o.Granted codes) same is taken others (command, one, its_task, its_seq, e, subscribes, many) = absurd (subst IsTake e tt)
take_outcome r past task seq request more t q o.NoRoom same is taken others earned = all_quiet o.NoRoom t q (pending_of past ++ more) (λ request. (refl, λ e. refl))
take_outcome r past task seq request more t q o.NoRoute same is taken others earned = all_quiet o.NoRoute t q (pending_of past ++ more) (λ request. (refl, λ e. refl))
take_outcome r past task seq request more t q o.NotConnected same is taken others earned = all_quiet o.NotConnected t q (pending_of past ++ more) (λ request. (refl, λ e. refl))
take_outcome r past task seq request more t q o.LinkLost same is taken others earned = all_quiet o.LinkLost t q (pending_of past ++ more) (λ request. (refl, λ e. refl))
take_outcome r past task seq request more t q o.SessionLost same is taken others earned = all_quiet o.SessionLost t q (pending_of past ++ more) (λ request. (refl, λ e. refl))
take_outcome r past task seq request more t q o.Cancelled same is taken others earned = all_quiet o.Cancelled t q (pending_of past ++ more) (λ request. (refl, λ e. refl))
take_outcome r past task seq request more t q o.NoMemory same is taken others earned = absurd earned

take_effect : (r : Readings) (past : List Entry) (task seq : ℕ) (request : Request) (more : List Pending) (effect : Effect) → r.pending ≡ pending_of past → seq ≡ takes_of task past → AreTaken past (pending_of past)
    → (AllByRecursion (λ (other : Pending). is_unsubscribe other.request ≡ false) more) → Earns r (c.Take task seq request) effect → QuietBy (pending_of past ++ more) effect
take_effect r past task seq request more (f.Send packet) same is taken others earned = tt
take_effect r past task seq request more (f.Done t q outcome) same is taken others earned = take_outcome r past task seq request more t q outcome same is taken others earned
take_effect r past task seq request more (f.Pass t message) same is taken others earned = tt
take_effect r past task seq request more (f.Closed t) same is taken others earned = tt

-- where what is opened is no unsubscribe
take_others : (s : Setup) (l : Sizes) (past : List Entry) (at task seq : ℕ) (request : Request) (more : List Pending) (effects : List Effect) → IsLegalPast s l past → effects_of (row s l past at (c.Take task seq request)) ≡ Some effects
    → AllByRecursion (λ (other : Pending). is_unsubscribe other.request ≡ false) more → AreQuiet (pending_of past ++ more) effects
take_others s l past at task seq request more effects legal e others =
    let next = is_next s l past at (c.Take task seq request) effects e in let taken = are_taken s l past legal in
    all_map (Earns (readings s l past) (c.Take task seq request)) (QuietBy (pending_of past ++ more)) effects
    (λ effect earned. take_effect (readings s l past) past task seq request more effect refl next.0 taken others earned) (outcomes_are_earned s l past at (c.Take task seq request) effects e)

opened_as : (task seq : ℕ) (request : Request) (names : List (List ℕ)) (id : Option ℕ) → is_unsubscribe request ≡ false → AllByRecursion (λ (other : Pending). is_unsubscribe other.request ≡ false) (opened_by task seq request names id)
opened_as task seq request names None nay = tt
opened_as task seq request names (Some id) nay = (nay, tt)

append_none : (commands : List Pending) → commands ++ [] ≡ commands
append_none [] = refl
append_none (command ∷ commands) = ap (λ cs. command ∷ cs) (append_none commands)

pub take_quiet : (s : Setup) (l : Sizes) (past : List Entry) (at task seq : ℕ) (request : Request) (effects : List Effect) → IsLegalPast s l past → effects_of (row s l past at (c.Take task seq request)) ≡ Some effects
    → AreQuiet (pending_of past ++ opens (c.Take task seq request) effects) effects
take_quiet s l past at task seq (requests.Publish qos topic payload) effects legal e = take_others s l past at task seq (requests.Publish qos topic payload) (opens (c.Take task seq (requests.Publish qos topic payload)) effects) effects legal e (opened_as task seq (requests.Publish qos topic payload) (sent_filters effects) (sent_id effects) refl)
take_quiet s l past at task seq (requests.Subscribe asks) effects legal e = take_others s l past at task seq (requests.Subscribe asks) (opens (c.Take task seq (requests.Subscribe asks)) effects) effects legal e (opened_as task seq (requests.Subscribe asks) (sent_filters effects) (sent_id effects) refl)
take_quiet s l past at task seq (requests.Unsubscribe filters) effects legal e = go (of_effects SentOrNot (row s l past at (c.Take task seq (requests.Unsubscribe filters))) effects e (unsubscribe_sent s l (readings s l past) at task seq filters))
  where
    go : SentOrNot effects → AreQuiet (pending_of past ++ opens (c.Take task seq (requests.Unsubscribe filters)) effects) effects
    go (inl none) = subst (λ (id : Option ℕ). AreQuiet (pending_of past ++ opened_by task seq (requests.Unsubscribe filters) (sent_filters effects) id) effects) (sym none) (take_others s l past at task seq (requests.Unsubscribe filters) [] effects legal e tt)
    go (inr (packet, is)) = subst (λ (es : List Effect). AreQuiet (pending_of past ++ opens (c.Take task seq (requests.Unsubscribe filters)) effects) es) (sym is) (tt, tt)
take_quiet s l past at task seq requests.Ping effects legal e = take_others s l past at task seq requests.Ping (opens (c.Take task seq requests.Ping) effects) effects legal e (opened_as task seq requests.Ping (sent_filters effects) (sent_id effects) refl)
take_quiet s l past at task seq requests.Disconnect effects legal e = take_others s l past at task seq requests.Disconnect (opens (c.Take task seq requests.Disconnect) effects) effects legal e (opened_as task seq requests.Disconnect (sent_filters effects) (sent_id effects) refl)
take_quiet s l past at task seq requests.Terminate effects legal e = take_others s l past at task seq requests.Terminate (opens (c.Take task seq requests.Terminate) effects) effects legal e (opened_as task seq requests.Terminate (sent_filters effects) (sent_id effects) refl)
take_quiet s l past at task seq requests.Leave effects legal e = take_others s l past at task seq requests.Leave (opens (c.Take task seq requests.Leave) effects) effects legal e (opened_as task seq requests.Leave (sent_filters effects) (sent_id effects) refl)
