-- The lines of an entry, as lists of words: its text is theirs.
use Rattle.std.proofs.Common.{◌≡◌, ℕ, ◌^◌, ◌<◌, List, [], ◌∷◌, ◌++◌, map, refl, sym, ap, ◌∙◌, arith, append_assoc}
use Rattle.std.specs.Prelude.{codes, decimal}
use Rattle.std.specs.List.{flat_map, AllByRecursion}
use Rattle.hex.specs.Hex.{encode_lower, encode_with}
use Rattle.mqtt_packet.specs.declared.qos.Qos.{Qos}
use Rattle.mqtt_packet.specs.declared.qos.Qos.TheVariants.{AtMostOnce, AtLeastOnce, ExactlyOnce}
use Rattle.mqtt_packet.specs.declared.will.Ask.{Ask}
use Rattle.mqtt_packet.specs.Spelling.{spelling}
use Rattle.plain_text.specs.Escapes.{escaped}
use Rattle.plain_text.specs.Payloads.{payload_text}
use Rattle.agent_journal.specs.declared.request.Request.{Request}
use Rattle.agent_journal.specs.declared.request.Request.TheVariants as requests
use Rattle.agent_journal.specs.declared.outcome.Outcome.{Outcome}
use Rattle.agent_journal.specs.declared.outcome.Outcome.TheVariants as o
use Rattle.agent_journal.specs.declared.entry.Why.{Why}
use Rattle.agent_journal.specs.declared.entry.Why.TheVariants as why
use Rattle.agent_journal.specs.declared.entry.Cause.{Cause}
use Rattle.agent_journal.specs.declared.entry.Cause.TheVariants as c
use Rattle.agent_journal.specs.declared.entry.Entry.{Entry}
use Rattle.agent_journal.specs.declared.effect.Effect.{Effect}
use Rattle.agent_journal.specs.declared.effect.Effect.TheVariants as f
use Rattle.journal_text.specs.Texts.{qos_text, ask_text, filter_text, take_line, cause_line, effect_text, entry_text, journal_text, line_end}
use Rattle.agent_table.proofs.SoundRows.{all_both}
use Rattle.journal_text.specs.Typed.{IsTypedRequest, IsTypedWhy, IsTypedCause, IsTypedOutcome, IsTypedEffect, IsTypedEntry, AreBytes, HasBytes}
use Rattle.journal_text.proofs.Marks.{IsWord, Line, IsLine, line_text, ended}
use Rattle.journal_text.proofs.Pieces.{letters, decimal_word, hex_word, payload_word, escaped_word}
use Rattle.journal_text.proofs.Spelled.{packet_word}

-- ---- The words

abbrev pub ask_words : Ask → List (List ℕ)
ask_words ask = escaped ask.filter ∷ qos_text ask.qos ∷ []

abbrev pub request_words : Request → List (List ℕ)
request_words (requests.Publish qos topic payload) = codes "publish" ∷ qos_text qos ∷ escaped topic ∷ payload_text payload ∷ []
request_words (requests.Subscribe asks) = codes "subscribe" ∷ flat_map ask_words asks
request_words (requests.Unsubscribe filters) = codes "unsubscribe" ∷ map escaped filters
request_words requests.Ping = codes "ping" ∷ []
request_words requests.Disconnect = codes "disconnect" ∷ []
request_words requests.Terminate = codes "terminate" ∷ []
request_words requests.Leave = codes "leave" ∷ []

abbrev pub why_words : Why → List (List ℕ)
why_words why.Fault = codes "fault" ∷ []
why_words why.End = codes "end" ∷ []
why_words why.Idle = codes "idle" ∷ []
why_words (why.Bad at) = codes "bad" ∷ decimal at ∷ []
why_words (why.TooLong len) = codes "long" ∷ decimal len ∷ []
why_words why.KeepAlive = codes "keepalive" ∷ []
why_words why.InFull = codes "infull" ∷ []

abbrev pub cause_words : Cause → List (List ℕ)
cause_words c.Opened = codes "opened" ∷ []
cause_words (c.Take task seq request) = codes "take" ∷ decimal task ∷ decimal seq ∷ request_words request
cause_words (c.Arrived packet) = codes "arrived" ∷ encode_lower (spelling packet) ∷ []
cause_words (c.Broke reason) = codes "broke" ∷ why_words reason
cause_words c.Tick = codes "tick" ∷ []
cause_words c.GaveUp = codes "gaveup" ∷ []
cause_words c.Finish = codes "finish" ∷ []

abbrev pub outcome_words : Outcome → List (List ℕ)
outcome_words o.Done = codes "done" ∷ []
outcome_words (o.Granted bytes) = codes "granted" ∷ encode_lower bytes ∷ []
outcome_words o.NoRoom = codes "noroom" ∷ []
outcome_words o.NoRoute = codes "noroute" ∷ []
outcome_words o.NotConnected = codes "notconnected" ∷ []
outcome_words o.LinkLost = codes "linklost" ∷ []
outcome_words o.SessionLost = codes "sessionlost" ∷ []
outcome_words o.Cancelled = codes "cancelled" ∷ []
outcome_words o.NoMemory = codes "nomemory" ∷ []

abbrev pub effect_words : Effect → List (List ℕ)
effect_words (f.Send packet) = codes "send" ∷ encode_lower (spelling packet) ∷ []
effect_words (f.Done task seq outcome) = codes "done" ∷ decimal task ∷ decimal seq ∷ outcome_words outcome
effect_words (f.Pass task message) = codes "pass" ∷ decimal task ∷ qos_text message.qos ∷ escaped message.topic ∷ payload_text message.payload ∷ []
effect_words (f.Closed task) = codes "closed" ∷ decimal task ∷ []

-- ---- The lines

abbrev pub cause_in : ℕ → Cause → Line
cause_in at cause = record { first = 64 ∷ decimal at; words = cause_words cause }

-- two spaces are two empty words
abbrev pub effect_in : Effect → Line
effect_in effect = record { first = []; words = [] ∷ effect_words effect }

abbrev pub lines_in : Entry → List Line
lines_in e = cause_in e.at e.cause ∷ map effect_in e.effects

-- ---- They are the text

asks_text : (asks : List Ask) → flat_map ask_text asks ++ line_end ≡ ended (flat_map ask_words asks)
asks_text [] = refl
asks_text (ask ∷ asks) = append_assoc (ask_text ask) (flat_map ask_text asks) line_end ∙ ap (λ rest. ask_text ask ++ rest) (asks_text asks) ∙ one
  where
    rest : List ℕ
    rest = ended (flat_map ask_words asks)

    one : ask_text ask ++ rest ≡ ended (ask_words ask ++ flat_map ask_words asks)
    one = ap (λ text. 32 ∷ text) (append_assoc (escaped ask.filter) (32 ∷ (qos_text ask.qos ++ [])) rest ∙ ap (λ text. escaped ask.filter ++ 32 ∷ text) (append_assoc (qos_text ask.qos) [] rest))

filters_text : (filters : List (List ℕ)) → flat_map filter_text filters ++ line_end ≡ ended (map escaped filters)
filters_text [] = refl
filters_text (filter ∷ filters) = append_assoc (filter_text filter) (flat_map filter_text filters) line_end ∙ ap (λ rest. filter_text filter ++ rest) (filters_text filters) ∙ one
  where
    rest : List ℕ
    rest = ended (map escaped filters)

    one : filter_text filter ++ rest ≡ ended (escaped filter ∷ map escaped filters)
    one = ap (λ text. 32 ∷ text) (append_assoc (escaped filter) [] rest)

-- the front of a Take's line, with more behind it
open_line : (at task seq word rest : List ℕ) → (at ++ (codes " take " ++ (task ++ (32 ∷ (seq ++ word))))) ++ rest ≡ at ++ (codes " take " ++ (task ++ (32 ∷ (seq ++ (word ++ rest)))))
open_line at task seq word rest =
    append_assoc at (codes " take " ++ (task ++ (32 ∷ (seq ++ word)))) rest
    ∙ ap (λ text. at ++ (codes " take " ++ text)) (append_assoc task (32 ∷ (seq ++ word)) rest ∙ ap (λ text. task ++ (32 ∷ text)) (append_assoc seq word rest))

more_line : (at task seq : ℕ) (word first : List ℕ) (rest words : List ℕ) → first ++ rest ≡ words
    → ((64 ∷ (decimal at ++ (codes " take " ++ (decimal task ++ (32 ∷ (decimal seq ++ word)))))) ++ first) ++ rest ≡ 64 ∷ (decimal at ++ (codes " take " ++ (decimal task ++ (32 ∷ (decimal seq ++ (word ++ words))))))
more_line at task seq word first rest words is =
    append_assoc (64 ∷ (decimal at ++ (codes " take " ++ (decimal task ++ (32 ∷ (decimal seq ++ word)))))) first rest
    ∙ ap (λ text. 64 ∷ text) (open_line (decimal at) (decimal task) (decimal seq) word (first ++ rest))
    ∙ ap (λ text. 64 ∷ (decimal at ++ (codes " take " ++ (decimal task ++ (32 ∷ (decimal seq ++ (word ++ text))))))) is

take_text : (at task seq : ℕ) (request : Request) → take_line at task seq request ≡ line_text (cause_in at (c.Take task seq request))
take_text at task seq (requests.Publish qos topic payload) = refl
take_text at task seq (requests.Subscribe asks) = more_line at task seq (codes " subscribe") (flat_map ask_text asks) line_end (ended (flat_map ask_words asks)) (asks_text asks)
take_text at task seq (requests.Unsubscribe filters) = more_line at task seq (codes " unsubscribe") (flat_map filter_text filters) line_end (ended (map escaped filters)) (filters_text filters)
take_text at task seq requests.Ping = refl
take_text at task seq requests.Disconnect = refl
take_text at task seq requests.Terminate = refl
take_text at task seq requests.Leave = refl

broke_text : (at : ℕ) (reason : Why) → cause_line at (c.Broke reason) ≡ line_text (cause_in at (c.Broke reason))
broke_text at why.Fault = refl
broke_text at why.End = refl
broke_text at why.Idle = refl
broke_text at (why.Bad offset) = refl
broke_text at (why.TooLong len) = refl
broke_text at why.KeepAlive = refl
broke_text at why.InFull = refl

cause_text : (at : ℕ) (cause : Cause) → cause_line at cause ≡ line_text (cause_in at cause)
cause_text at c.Opened = refl
cause_text at (c.Take task seq request) = take_text at task seq request
cause_text at (c.Arrived packet) = refl
cause_text at (c.Broke reason) = broke_text at reason
cause_text at c.Tick = refl
cause_text at c.GaveUp = refl
cause_text at c.Finish = refl

done_text : (task seq : ℕ) (outcome : Outcome) → effect_text (f.Done task seq outcome) ≡ line_text (effect_in (f.Done task seq outcome))
unfolding encode_with
done_text task seq o.Done = refl
done_text task seq (o.Granted bytes) = refl
done_text task seq o.NoRoom = refl
done_text task seq o.NoRoute = refl
done_text task seq o.NotConnected = refl
done_text task seq o.LinkLost = refl
done_text task seq o.SessionLost = refl
done_text task seq o.Cancelled = refl
done_text task seq o.NoMemory = refl

effect_is : (effect : Effect) → effect_text effect ≡ line_text (effect_in effect)
effect_is (f.Send packet) = refl
effect_is (f.Done task seq outcome) = done_text task seq outcome
effect_is (f.Pass task message) = refl
effect_is (f.Closed task) = refl

pub effects_are : (effects : List Effect) → flat_map effect_text effects ≡ flat_map line_text (map effect_in effects)
effects_are [] = refl
effects_are (effect ∷ effects) = λ i. effect_is effect i ++ effects_are effects i

entry_is : (e : Entry) → entry_text e ≡ flat_map line_text (lines_in e)
unfolding entry_text
entry_is e = λ i. cause_text e.at e.cause i ++ effects_are e.effects i

texts_append : (one other : List Line) → flat_map line_text (one ++ other) ≡ flat_map line_text one ++ flat_map line_text other
texts_append [] other = refl
texts_append (line ∷ one) other = ap (λ rest. line_text line ++ rest) (texts_append one other) ∙ sym (append_assoc (line_text line) (flat_map line_text one) (flat_map line_text other))

pub journal_is : (journal : List Entry) → journal_text journal ≡ flat_map line_text (flat_map lines_in journal)
journal_is [] = refl
journal_is (e ∷ journal) = (λ i. entry_is e i ++ journal_is journal i) ∙ sym (texts_append (lines_in e) (flat_map lines_in journal))

-- ---- They are of words

qos_word : (qos : Qos) → IsWord (qos_text qos)
qos_word AtMostOnce = letters (codes "0") refl
qos_word AtLeastOnce = letters (codes "1") refl
qos_word ExactlyOnce = letters (codes "2") refl

asks_are : (asks : List Ask) → AllByRecursion HasBytes asks → AllByRecursion IsWord (flat_map ask_words asks)
asks_are [] all = tt
asks_are (ask ∷ asks) all = (escaped_word ask.filter all.0, (qos_word ask.qos, asks_are asks all.1))

filters_are : (filters : List (List ℕ)) → AllByRecursion AreBytes filters → AllByRecursion IsWord (map escaped filters)
filters_are [] all = tt
filters_are (filter ∷ filters) all = (escaped_word filter all.0, filters_are filters all.1)

request_are : (request : Request) → IsTypedRequest request → AllByRecursion IsWord (request_words request)
request_are (requests.Publish qos topic payload) typed = (letters (codes "publish") refl, (qos_word qos, (escaped_word topic typed.0, (payload_word payload typed.1, tt))))
request_are (requests.Subscribe asks) typed = (letters (codes "subscribe") refl, asks_are asks typed)
request_are (requests.Unsubscribe filters) typed = (letters (codes "unsubscribe") refl, filters_are filters typed)
request_are requests.Ping typed = (letters (codes "ping") refl, tt)
request_are requests.Disconnect typed = (letters (codes "disconnect") refl, tt)
request_are requests.Terminate typed = (letters (codes "terminate") refl, tt)
request_are requests.Leave typed = (letters (codes "leave") refl, tt)

why_are : (reason : Why) → IsTypedWhy reason → AllByRecursion IsWord (why_words reason)
why_are why.Fault typed = (letters (codes "fault") refl, tt)
why_are why.End typed = (letters (codes "end") refl, tt)
why_are why.Idle typed = (letters (codes "idle") refl, tt)
why_are (why.Bad at) typed = (letters (codes "bad") refl, (decimal_word at typed, tt))
why_are (why.TooLong len) typed = (letters (codes "long") refl, (decimal_word len typed, tt))
why_are why.KeepAlive typed = (letters (codes "keepalive") refl, tt)
why_are why.InFull typed = (letters (codes "infull") refl, tt)

short_word : (n : ℕ) → n < 2 ^ 32 → IsWord (decimal n)
short_word n fits = decimal_word n (omega (arith, fits))

cause_are : (cause : Cause) → IsTypedCause cause → AllByRecursion IsWord (cause_words cause)
cause_are c.Opened typed = (letters (codes "opened") refl, tt)
cause_are (c.Take task seq request) typed = (letters (codes "take") refl, (short_word task typed.0, (short_word seq typed.1, request_are request typed.2)))
cause_are (c.Arrived packet) typed = (letters (codes "arrived") refl, (packet_word packet typed, tt))
cause_are (c.Broke reason) typed = (letters (codes "broke") refl, why_are reason typed)
cause_are c.Tick typed = (letters (codes "tick") refl, tt)
cause_are c.GaveUp typed = (letters (codes "gaveup") refl, tt)
cause_are c.Finish typed = (letters (codes "finish") refl, tt)

outcome_are : (outcome : Outcome) → IsTypedOutcome outcome → AllByRecursion IsWord (outcome_words outcome)
outcome_are o.Done typed = (letters (codes "done") refl, tt)
outcome_are (o.Granted bytes) typed = (letters (codes "granted") refl, (hex_word bytes typed, tt))
outcome_are o.NoRoom typed = (letters (codes "noroom") refl, tt)
outcome_are o.NoRoute typed = (letters (codes "noroute") refl, tt)
outcome_are o.NotConnected typed = (letters (codes "notconnected") refl, tt)
outcome_are o.LinkLost typed = (letters (codes "linklost") refl, tt)
outcome_are o.SessionLost typed = (letters (codes "sessionlost") refl, tt)
outcome_are o.Cancelled typed = (letters (codes "cancelled") refl, tt)
outcome_are o.NoMemory typed = (letters (codes "nomemory") refl, tt)

effect_are : (effect : Effect) → IsTypedEffect effect → AllByRecursion IsWord (effect_words effect)
effect_are (f.Send packet) typed = (letters (codes "send") refl, (packet_word packet typed, tt))
effect_are (f.Done task seq outcome) typed = (letters (codes "done") refl, (short_word task typed.0, (short_word seq typed.1, outcome_are outcome typed.2)))
effect_are (f.Pass task message) typed = (letters (codes "pass") refl, (short_word task typed.0, (qos_word message.qos, (escaped_word message.topic typed.1, (payload_word message.payload typed.2, tt)))))
effect_are (f.Closed task) typed = (letters (codes "closed") refl, (short_word task typed, tt))

effects_lines : (effects : List Effect) → AllByRecursion IsTypedEffect effects → AllByRecursion IsLine (map effect_in effects)
effects_lines [] all = tt
effects_lines (effect ∷ effects) all = (record { first = tt; words = (tt, effect_are effect all.0) }, effects_lines effects all.1)

pub journal_lines : (journal : List Entry) → AllByRecursion IsTypedEntry journal → AllByRecursion IsLine (flat_map lines_in journal)
journal_lines [] all = tt
journal_lines (e ∷ journal) all =
    let typed = all.0 in
    all_both IsLine (lines_in e) (flat_map lines_in journal) (record { first = (omega arith, decimal_word e.at typed.at); words = cause_are e.cause typed.cause }, effects_lines e.effects typed.effects) (journal_lines journal all.1)
