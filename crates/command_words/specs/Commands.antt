-- The six commands and the tables of their options.
use Rattle.std.specs.Prelude.{ℕ, List, [], ◌∷◌, Option, Some, None, if◌then◌else◌, codes}
use Rattle.std.specs.Int.{is_power_of_two}
use Rattle.std.specs.Option.{option_map}
use Rattle.std.specs.Str.{bytes_eq}
use Rattle.plain_text.specs.Numbers.{number_in}
use Rattle.plain_text.specs.Reading.{◌>>=◌}
use Rattle.agent_journal.specs.Setups.{is_client}
use Rattle.thing_topics.specs.Classes.{is_thing}
use Rattle.command_words.specs.declared.words.Words.{Words}
use Rattle.command_words.specs.declared.words.Words.TheVariants.{Replay, Share, Fetch, Broker, World, Mirror}
use Rattle.command_words.specs.declared.words.RunWords.{RunWords}
use Rattle.command_words.specs.declared.words.FetchWords.{FetchWords}
use Rattle.command_words.specs.declared.words.BrokerWords.{BrokerWords}
use Rattle.command_words.specs.declared.words.WorldWords.{WorldWords}
use Rattle.command_words.specs.declared.words.MirrorWords.{MirrorWords}
use Rattle.command_words.specs.declared.words.Size.{Size}
use Rattle.command_words.specs.declared.words.Size.TheVariants.{Tiny, Usual}
use Rattle.command_words.specs.declared.rows.Kind.TheVariants.{Required, Optional, Flag}
use Rattle.command_words.specs.Names as names
use Rattle.command_words.specs.Options.{Given}
use Rattle.command_words.specs.Tables.{Table, is_given, options_of, value_of}
use Rattle.command_words.specs.Values.{is_address, number, number_or, read_or, text, text_or_none}

-- ---- Values of their own

abbrev pub size_in : List ℕ → Option Size
size_in value =
    if bytes_eq value (codes "tiny") then Some Tiny
    else if bytes_eq value (codes "usual") then Some Usual
    else None

-- `tiny` or `usual`
unfoldable pub size_or : Size → List ℕ → List Given → Option Size
size_or default name options = read_or default size_in (value_of name options)

-- a power of two from 256 to 65,536
abbrev pub power_in : List ℕ → Option ℕ
power_in value = number_in 256 65536 value >>= λ n. if is_power_of_two n then Some n else None

-- a power of two, or its default
unfoldable pub power_or : ℕ → List ℕ → List Given → Option ℕ
power_or default name options = read_or default power_in (value_of name options)

-- ---- The tables, and what the options that are given ask for

abbrev pub replay_table : Table
replay_table =
    (names.client, Required)
    ∷ (names.keep_alive, Optional)
    ∷ (names.reopen, Optional)
    ∷ (names.tick, Optional)
    ∷ (names.size, Optional)
    ∷ (names.thing, Optional)
    ∷ (names.wipe, Flag)
    ∷ []

unfoldable pub replay_of : List Given → Option RunWords
replay_of options = do
  client ← text is_client names.client options
  keep_alive ← number_or 60 0 65535 names.keep_alive options
  reopen ← number_or 5 0 1000 names.reopen options
  tick ← number_or 0 0 1000000 names.tick options
  size ← size_or Usual names.size options
  thing ← text_or_none is_thing names.thing options
  Some (record { to = []; client = client; keep_alive = keep_alive; reopen = reopen; wipe = is_given names.wipe options; tick = tick; size = size; thing = thing })

abbrev pub share_table : Table
share_table =
    (names.connect, Required)
    ∷ (names.client, Required)
    ∷ (names.keep_alive, Optional)
    ∷ (names.reopen, Optional)
    ∷ (names.size, Optional)
    ∷ (names.thing, Optional)
    ∷ (names.wipe, Flag)
    ∷ []

unfoldable pub share_of : List Given → Option RunWords
share_of options = do
  to ← text is_address names.connect options
  client ← text is_client names.client options
  keep_alive ← number_or 60 0 65535 names.keep_alive options
  reopen ← number_or 5 0 1000 names.reopen options
  size ← size_or Usual names.size options
  thing ← text_or_none is_thing names.thing options
  Some (record { to = to; client = client; keep_alive = keep_alive; reopen = reopen; wipe = is_given names.wipe options; tick = 0; size = size; thing = thing })

abbrev pub fetch_table : Table
fetch_table =
    (names.connect, Required)
    ∷ (names.client, Required)
    ∷ (names.thing, Required)
    ∷ (names.keep_alive, Optional)
    ∷ (names.reopen, Optional)
    ∷ (names.wipe, Flag)
    ∷ (names.block, Optional)
    ∷ (names.tries, Optional)
    ∷ (names.dump, Flag)
    ∷ []

unfoldable pub fetch_of : List Given → Option FetchWords
fetch_of options = do
  to ← text is_address names.connect options
  client ← text is_client names.client options
  thing ← text is_thing names.thing options
  keep_alive ← number_or 60 0 65535 names.keep_alive options
  reopen ← number_or 5 0 1000 names.reopen options
  block ← power_or 4096 names.block options
  tries ← number_or 5 0 100 names.tries options
  Some (record { to = to; client = client; keep_alive = keep_alive; reopen = reopen; wipe = is_given names.wipe options; thing = thing; block = block; tries = tries; dump = is_given names.dump options })

abbrev pub broker_table : Table
broker_table = (names.listen, Required) ∷ (names.connections, Required) ∷ []

unfoldable pub broker_of : List Given → Option BrokerWords
broker_of options = do
  at ← text is_address names.listen options
  connections ← number 1 1000000 names.connections options
  Some (record { at = at; connections = connections })

abbrev pub world_table : Table
world_table = (names.seed, Required) ∷ (names.events, Required) ∷ []

unfoldable pub world_of : List Given → Option WorldWords
world_of options = do
  seed ← number 0 18446744073709551615 names.seed options
  events ← number 1 1000000 names.events options
  Some (record { seed = seed; events = events })

abbrev pub mirror_table : Table
mirror_table = (names.readers, Required) ∷ (names.reads, Required) ∷ []

unfoldable pub mirror_of : List Given → Option MirrorWords
mirror_of options = do
  readers ← number 1 8 names.readers options
  reads ← number 0 1000000 names.reads options
  Some (record { readers = readers; reads = reads })

-- ---- The command line

-- A table's options are picked from the words, and make the command.
abbrev pub read_by : {A : Type 0} → Table → (List Given → Option A) → (A → Words) → List (List ℕ) → Option Words
read_by table read make words = option_map make (options_of table words >>= read)

abbrev pub command_of : List ℕ → List (List ℕ) → Option Words
command_of command words =
    if bytes_eq command (codes "replay") then read_by replay_table replay_of Replay words
    else if bytes_eq command (codes "share") then read_by share_table share_of Share words
    else if bytes_eq command (codes "fetch") then read_by fetch_table fetch_of Fetch words
    else if bytes_eq command (codes "broker") then read_by broker_table broker_of Broker words
    else if bytes_eq command (codes "world") then read_by world_table world_of World words
    else if bytes_eq command (codes "mirror") then read_by mirror_table mirror_of Mirror words
    else None

-- The first word is the command, and its options follow.
unfoldable pub words_of : List (List ℕ) → Option Words
words_of [] = None
words_of (command ∷ words) = command_of command words
