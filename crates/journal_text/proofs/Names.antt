-- The words of a line name what it says, and the lines of a text name its entries.
use Rattle.std.proofs.Common.{◌≡◌, ℕ, ◌^◌, ◌<◌, false, List, [], ◌∷◌, ◌++◌, map, refl, sym, ap, ◌∙◌, arith}
use Rattle.std.specs.Prelude.{codes, decimal}
use Rattle.std.specs.List.{flat_map, AllByRecursion}
use Rattle.std.specs.Str.{bytes_eq}
use Rattle.std.proofs.lemmas.Slice.Eq.{bytes_eq-Decides}
use Rattle.hex.specs.Hex.{encode_lower}
use Rattle.mqtt_packet.specs.declared.qos.Qos.{Qos}
use Rattle.mqtt_packet.specs.declared.qos.Qos.TheVariants.{AtMostOnce, AtLeastOnce, ExactlyOnce}
use Rattle.mqtt_packet.specs.declared.will.Ask.{Ask}
use Rattle.mqtt_packet.specs.Spelling.{spelling}
use Rattle.plain_text.specs.Escapes.{escaped}
use Rattle.plain_text.specs.Payloads.{payload_text}
use Rattle.agent_journal.specs.declared.request.Request.{Request}
use Rattle.agent_journal.specs.declared.request.Request.TheVariants as requests
use Rattle.agent_journal.specs.declared.outcome.Outcome.{Outcome}
use Rattle.agent_journal.specs.declared.outcome.Outcome.TheVariants as o
use Rattle.agent_journal.specs.declared.entry.Why.{Why}
use Rattle.agent_journal.specs.declared.entry.Why.TheVariants as why
use Rattle.agent_journal.specs.declared.entry.Cause.{Cause}
use Rattle.agent_journal.specs.declared.entry.Cause.TheVariants as c
use Rattle.agent_journal.specs.declared.entry.Entry.{Entry}
use Rattle.agent_journal.specs.declared.effect.Effect.{Effect}
use Rattle.agent_journal.specs.declared.effect.Effect.TheVariants as f
use Rattle.agent_journal.specs.Sound.{IsSoundCause, IsSoundEffect, IsSoundEntry}
use Rattle.journal_text.specs.Texts.{qos_text}
use Rattle.journal_text.specs.Laws.{TextsNameJournals}
use Rattle.journal_text.specs.Typed.{IsTypedRequest, IsTypedWhy, IsTypedCause, IsTypedOutcome, IsTypedEffect, IsTypedEntry, AreBytes, HasBytes}
use Rattle.journal_text.proofs.Marks.{Line, lines_same, head_same, tail_same}
use Rattle.journal_text.proofs.Pieces.{decimal_same, hex_same, payload_same, escaped_same}
use Rattle.journal_text.proofs.Spelled.{packet_same}
use Rattle.journal_text.proofs.Lines.{ask_words, request_words, why_words, cause_words, outcome_words, effect_words, cause_in, effect_in, lines_in, journal_is, journal_lines}

abbrev first_of : List (List ℕ) → List ℕ
first_of [] = []
first_of (word ∷ words) = word

-- where the first words are written otherwise
apart : (one other : List (List ℕ)) → bytes_eq (first_of one) (first_of other) ≡ false → one ≡ other → ⊥
apart one other differ e = absurd (cc (sym differ ∙ (bytes_eq-Decides (first_of one) (first_of other)).1 (ap first_of e)))

short_same : (m n : ℕ) → m < 2 ^ 32 → n < 2 ^ 32 → decimal m ≡ decimal n → m ≡ n
short_same m n p q e = decimal_same m n (omega (arith, p)) (omega (arith, q)) e

qos_same : (one other : Qos) → qos_text one ≡ qos_text other → one ≡ other
qos_same AtMostOnce AtMostOnce e = refl
qos_same AtLeastOnce AtLeastOnce e = refl
qos_same ExactlyOnce ExactlyOnce e = refl
qos_same one other e = absurd (apart (qos_text one ∷ []) (qos_text other ∷ []) refl (ap (λ word. word ∷ []) e))

-- ---- Requests

asks_same : (ones others : List Ask) → AllByRecursion HasBytes ones → AllByRecursion HasBytes others → flat_map ask_words ones ≡ flat_map ask_words others → ones ≡ others
asks_same [] [] p q e = refl
asks_same [] (other ∷ others) p q e = absurd (cc e)
asks_same (one ∷ ones) [] p q e = absurd (cc e)
asks_same (one ∷ ones) (other ∷ others) p q e =
    let topics : escaped one.filter ≡ escaped other.filter = cc in
    let levels : qos_text one.qos ≡ qos_text other.qos = cc in
    let more : flat_map ask_words ones ≡ flat_map ask_words others = cc in
    let filter = escaped_same one.filter other.filter p.0 q.0 topics in
    let qos = qos_same one.qos other.qos levels in
    let rest = asks_same ones others p.1 q.1 more in
    (λ i. record { filter = filter i; qos = qos i } ∷ rest i)

filters_same : (ones others : List (List ℕ)) → AllByRecursion AreBytes ones → AllByRecursion AreBytes others → map escaped ones ≡ map escaped others → ones ≡ others
filters_same [] [] p q e = refl
filters_same [] (other ∷ others) p q e = absurd (cc e)
filters_same (one ∷ ones) [] p q e = absurd (cc e)
filters_same (one ∷ ones) (other ∷ others) p q e =
    let first = escaped_same one other p.0 q.0 (head_same (escaped one) (escaped other) (map escaped ones) (map escaped others) e) in
    let rest = filters_same ones others p.1 q.1 (tail_same (escaped one) (escaped other) (map escaped ones) (map escaped others) e) in
    (λ i. first i ∷ rest i)

request_same : (one other : Request) → IsTypedRequest one → IsTypedRequest other → request_words one ≡ request_words other → one ≡ other
request_same (requests.Publish qos topic payload) (requests.Publish level name bytes) p q e =
    let levels : qos_text qos ≡ qos_text level = cc in
    let topics : escaped topic ≡ escaped name = cc in
    let payloads : payload_text payload ≡ payload_text bytes = cc in
    let a = qos_same qos level levels in let b = escaped_same topic name p.0 q.0 topics in let d = payload_same payload bytes p.1 q.1 payloads in
    (λ i. requests.Publish (a i) (b i) (d i))
request_same (requests.Subscribe asks) (requests.Subscribe others) p q e =
    let a = asks_same asks others p q (tail_same (codes "subscribe") (codes "subscribe") (flat_map ask_words asks) (flat_map ask_words others) e) in (λ i. requests.Subscribe (a i))
request_same (requests.Unsubscribe filters) (requests.Unsubscribe others) p q e =
    let a = filters_same filters others p q (tail_same (codes "unsubscribe") (codes "unsubscribe") (map escaped filters) (map escaped others) e) in (λ i. requests.Unsubscribe (a i))
request_same requests.Ping requests.Ping p q e = refl
request_same requests.Disconnect requests.Disconnect p q e = refl
request_same requests.Terminate requests.Terminate p q e = refl
request_same requests.Leave requests.Leave p q e = refl
request_same one other p q e = absurd (apart (request_words one) (request_words other) refl e)

-- ---- Causes

why_same : (one other : Why) → IsTypedWhy one → IsTypedWhy other → why_words one ≡ why_words other → one ≡ other
why_same why.Fault why.Fault p q e = refl
why_same why.End why.End p q e = refl
why_same why.Idle why.Idle p q e = refl
why_same (why.Bad at) (why.Bad offset) p q e = let number : decimal at ≡ decimal offset = cc in ap why.Bad (decimal_same at offset p q number)
why_same (why.TooLong len) (why.TooLong size) p q e = let number : decimal len ≡ decimal size = cc in ap why.TooLong (decimal_same len size p q number)
why_same why.KeepAlive why.KeepAlive p q e = refl
why_same why.InFull why.InFull p q e = refl
why_same one other p q e = absurd (apart (why_words one) (why_words other) refl e)

cause_same : (one other : Cause) → IsSoundCause one → IsSoundCause other → IsTypedCause one → IsTypedCause other → cause_words one ≡ cause_words other → one ≡ other
cause_same c.Opened c.Opened m n p q e = refl
cause_same (c.Take task seq request) (c.Take number place asked) m n p q e =
    let tasks : decimal task ≡ decimal number = cc in
    let seqs : decimal seq ≡ decimal place = cc in
    let words : request_words request ≡ request_words asked = cc in
    let a = short_same task number p.0 q.0 tasks in let b = short_same seq place p.1 q.1 seqs in let d = request_same request asked p.2 q.2 words in
    (λ i. c.Take (a i) (b i) (d i))
cause_same (c.Arrived packet) (c.Arrived other) m n p q e = let words : encode_lower (spelling packet) ≡ encode_lower (spelling other) = cc in ap c.Arrived (packet_same packet other m n p q words)
cause_same (c.Broke reason) (c.Broke other) m n p q e = ap c.Broke (why_same reason other p q (tail_same (codes "broke") (codes "broke") (why_words reason) (why_words other) e))
cause_same c.Tick c.Tick m n p q e = refl
cause_same c.GaveUp c.GaveUp m n p q e = refl
cause_same c.Finish c.Finish m n p q e = refl
cause_same one other m n p q e = absurd (apart (cause_words one) (cause_words other) refl e)

-- ---- Effects

outcome_same : (one other : Outcome) → IsTypedOutcome one → IsTypedOutcome other → outcome_words one ≡ outcome_words other → one ≡ other
outcome_same o.Done o.Done p q e = refl
outcome_same (o.Granted bytes) (o.Granted others) p q e = let words : encode_lower bytes ≡ encode_lower others = cc in ap o.Granted (hex_same bytes others p q words)
outcome_same o.NoRoom o.NoRoom p q e = refl
outcome_same o.NoRoute o.NoRoute p q e = refl
outcome_same o.NotConnected o.NotConnected p q e = refl
outcome_same o.LinkLost o.LinkLost p q e = refl
outcome_same o.SessionLost o.SessionLost p q e = refl
outcome_same o.Cancelled o.Cancelled p q e = refl
outcome_same o.NoMemory o.NoMemory p q e = refl
outcome_same one other p q e = absurd (apart (outcome_words one) (outcome_words other) refl e)

effect_same : (one other : Effect) → IsSoundEffect one → IsSoundEffect other → IsTypedEffect one → IsTypedEffect other → effect_words one ≡ effect_words other → one ≡ other
effect_same (f.Send packet) (f.Send other) m n p q e = let words : encode_lower (spelling packet) ≡ encode_lower (spelling other) = cc in ap f.Send (packet_same packet other m n p q words)
effect_same (f.Done task seq outcome) (f.Done number place other) m n p q e =
    let tasks : decimal task ≡ decimal number = cc in
    let seqs : decimal seq ≡ decimal place = cc in
    let words : outcome_words outcome ≡ outcome_words other = cc in
    let a = short_same task number p.0 q.0 tasks in let b = short_same seq place p.1 q.1 seqs in let d = outcome_same outcome other p.2 q.2 words in
    (λ i. f.Done (a i) (b i) (d i))
effect_same (f.Pass task message) (f.Pass number other) m n p q e =
    let tasks : decimal task ≡ decimal number = cc in
    let levels : qos_text message.qos ≡ qos_text other.qos = cc in
    let topics : escaped message.topic ≡ escaped other.topic = cc in
    let payloads : payload_text message.payload ≡ payload_text other.payload = cc in
    let a = short_same task number p.0 q.0 tasks in
    let b = escaped_same message.topic other.topic p.1 q.1 topics in
    let d = qos_same message.qos other.qos levels in
    let g = payload_same message.payload other.payload p.2 q.2 payloads in
    (λ i. f.Pass (a i) (record { topic = b i; qos = d i; payload = g i }))
effect_same (f.Closed task) (f.Closed number) m n p q e = let tasks : decimal task ≡ decimal number = cc in ap f.Closed (short_same task number p q tasks)
effect_same one other m n p q e = absurd (apart (effect_words one) (effect_words other) refl e)

-- ---- Entries

-- a cause's line begins with a mark, and an effect's line doesn't
marked : (at : ℕ) (cause : Cause) (effect : Effect) → cause_in at cause ≡ effect_in effect → ⊥
marked at cause effect e = let first : 64 ∷ decimal at ≡ [] = ap (λ (line : Line). line.first) e in cc first

effects_cut : (ones others : List Effect) (rest more : List Entry) → AllByRecursion IsSoundEffect ones → AllByRecursion IsSoundEffect others → AllByRecursion IsTypedEffect ones → AllByRecursion IsTypedEffect others → map effect_in ones ++ flat_map lines_in rest ≡ map effect_in others ++ flat_map lines_in more
    → (ones ≡ others) × (flat_map lines_in rest ≡ flat_map lines_in more)
effects_cut [] [] rest more m n p q e = (refl, e)
effects_cut [] (other ∷ others) [] more m n p q e = absurd (cc e)
effects_cut [] (other ∷ others) (entry ∷ rest) more m n p q e =
    absurd (marked entry.at entry.cause other (head_same (cause_in entry.at entry.cause) (effect_in other) (map effect_in entry.effects ++ flat_map lines_in rest) (map effect_in others ++ flat_map lines_in more) e))
effects_cut (one ∷ ones) [] rest [] m n p q e = absurd (cc e)
effects_cut (one ∷ ones) [] rest (entry ∷ more) m n p q e =
    absurd (marked entry.at entry.cause one (sym (head_same (effect_in one) (cause_in entry.at entry.cause) (map effect_in ones ++ flat_map lines_in rest) (map effect_in entry.effects ++ flat_map lines_in more) e)))
effects_cut (one ∷ ones) (other ∷ others) rest more m n p q e =
    let line = head_same (effect_in one) (effect_in other) (map effect_in ones ++ flat_map lines_in rest) (map effect_in others ++ flat_map lines_in more) e in
    let first = effect_same one other m.0 n.0 p.0 q.0 (tail_same [] [] (effect_words one) (effect_words other) (ap (λ (it : Line). it.words) line)) in
    let both = effects_cut ones others rest more m.1 n.1 p.1 q.1 (tail_same (effect_in one) (effect_in other) (map effect_in ones ++ flat_map lines_in rest) (map effect_in others ++ flat_map lines_in more) e) in
    ((λ i. first i ∷ both.0 i), both.1)

entries_same : (ones others : List Entry) → AllByRecursion IsSoundEntry ones → AllByRecursion IsSoundEntry others → AllByRecursion IsTypedEntry ones → AllByRecursion IsTypedEntry others → flat_map lines_in ones ≡ flat_map lines_in others → ones ≡ others
entries_same [] [] m n p q e = refl
entries_same [] (other ∷ others) m n p q e = absurd (cc e)
entries_same (one ∷ ones) [] m n p q e = absurd (cc e)
entries_same (one ∷ ones) (other ∷ others) m n p q e =
    let a = p.0 in let b = q.0 in let first = m.0 in let second = n.0 in
    let line = head_same (cause_in one.at one.cause) (cause_in other.at other.cause) (map effect_in one.effects ++ flat_map lines_in ones) (map effect_in other.effects ++ flat_map lines_in others) e in
    let behind = tail_same (cause_in one.at one.cause) (cause_in other.at other.cause) (map effect_in one.effects ++ flat_map lines_in ones) (map effect_in other.effects ++ flat_map lines_in others) e in
    let at = decimal_same one.at other.at a.at b.at (tail_same 64 64 (decimal one.at) (decimal other.at) (ap (λ (it : Line). it.first) line)) in
    let cause = cause_same one.cause other.cause first.cause second.cause a.cause b.cause (ap (λ (it : Line). it.words) line) in
    let both = effects_cut one.effects other.effects ones others first.effects second.effects a.effects b.effects behind in
    let rest = entries_same ones others m.1 n.1 p.1 q.1 both.1 in
    (λ i. record { at = at i; cause = cause i; effects = both.0 i } ∷ rest i)

pub texts_name_journals : TextsNameJournals
texts_name_journals one other m n p q e =
    entries_same one other m n p q (lines_same (flat_map lines_in one) (flat_map lines_in other) (journal_lines one p) (journal_lines other q) (sym (journal_is one) ∙ e ∙ journal_is other))
