-- What words spell picks one command, and what that promises holds of the program.
use Rattle.std.proofs.Common.{◌≡◌, ℕ, List, Option, Some, None, IfSome, refl, sym, ◌∙◌, subst}
use Rattle.agent_main.specs.Commands.{EndsAs, IsNotBuilt, Prints, not_built}
use Rattle.command_answers.specs.Answers.{Ends, SinkNow, sink_now}
use Rattle.command_answers.specs.Sources.{EndsBySource, SourceNow, source_now}
use Rattle.command_answers.proofs.Sourced.{nothing, no_memory}
use Rattle.command_words.specs.declared.words.MirrorWords.{MirrorWords}
use Rattle.command_words.specs.declared.words.RunWords.{RunWords}
use Rattle.command_words.specs.declared.words.Words.{Words}
use Rattle.command_words.specs.declared.words.Words.TheVariants.{Broker, Fetch, Mirror, Replay, Share, World}
use Rattle.command_words.specs.declared.words.WorldWords.{WorldWords}
use Rattle.mirror_run.specs.Answers.{EndsMirror}
use Rattle.mirror_run.proofs.Sourced.{unread}
use Rattle.replay_run.specs.Commands.{source_answer}
use Rattle.replay_run.specs.Headline.{HasRun, PrintsReplay}
use Rattle.world_run.specs.Answers.{world_answer}

some_words : (a b : Words) → Some a ≡ Some b → a ≡ b
some_words a b e = cc

-- ---- Of words that spell a command

-- the command that was read is this one, so what is said of that holds of this
as_read : (P : Words → Type 0) (read : Option Words) (command this : Words) → read ≡ Some command → P command → read ≡ Some this → P this
as_read P read command this is h e = subst P (some_words command this (sym is ∙ e)) h

pub replay_picked : (read : Option Words) (command : Words) (status : ℕ) (a b : Option (List ℕ)) (m n : ℕ) (old new : Option (List ℕ)) (f g : ℕ) → read ≡ Some command
    → EndsAs command status (source_now a m) (source_now b n) (sink_now old f) (sink_now new g)
    → (w : RunWords) → read ≡ Some (Replay w) → EndsBySource status (source_now a m) (source_now b n) (sink_now old f) (sink_now new g) (source_answer w)
replay_picked read command status a b m n old new f g is h w e =
    as_read (λ (c : Words). EndsAs c status (source_now a m) (source_now b n) (sink_now old f) (sink_now new g)) read command (Replay w) is h e

pub history_picked : (read : Option Words) (command : Words) (status : ℕ) (told old new : Option (List ℕ)) → read ≡ Some command → Prints command told status old new
    → (w : RunWords) → read ≡ Some (Replay w) → HasRun status → PrintsReplay w told status old new
history_picked read command status told old new is h w e = as_read (λ (c : Words). Prints c told status old new) read command (Replay w) is h e

pub world_picked : (read : Option Words) (command : Words) (status : ℕ) (a b : Option (List ℕ)) (m n : ℕ) (old new : Option (List ℕ)) (f g : ℕ) → read ≡ Some command
    → EndsAs command status (source_now a m) (source_now b n) (sink_now old f) (sink_now new g)
    → (w : WorldWords) → read ≡ Some (World w) → Ends status (sink_now old f) (sink_now new g) (world_answer w)
world_picked read command status a b m n old new f g is h w e =
    as_read (λ (c : Words). EndsAs c status (source_now a m) (source_now b n) (sink_now old f) (sink_now new g)) read command (World w) is h e

pub mirror_picked : (read : Option Words) (command : Words) (status : ℕ) (a b : Option (List ℕ)) (m n : ℕ) (old new : Option (List ℕ)) (f g : ℕ) → read ≡ Some command
    → EndsAs command status (source_now a m) (source_now b n) (sink_now old f) (sink_now new g)
    → (w : MirrorWords) → read ≡ Some (Mirror w) → EndsMirror w status (source_now a m) (source_now b n) (sink_now old f) (sink_now new g)
mirror_picked read command status a b m n old new f g is h w e =
    as_read (λ (c : Words). EndsAs c status (source_now a m) (source_now b n) (sink_now old f) (sink_now new g)) read command (Mirror w) is h e

not_built_ends : (command : Words) (status : ℕ) (source source_then : SourceNow) (before now : SinkNow) → EndsAs command status source source_then before now → IsNotBuilt command → Ends status before now not_built
not_built_ends (Replay w) status source source_then before now h other = absurd other
not_built_ends (World w) status source source_then before now h other = absurd other
not_built_ends (Mirror w) status source source_then before now h other = absurd other
not_built_ends (Share w) status source source_then before now h other = h
not_built_ends (Fetch w) status source source_then before now h other = h
not_built_ends (Broker w) status source source_then before now h other = h

pub other_picked : (read : Option Words) (command : Words) (status : ℕ) (a b : Option (List ℕ)) (m n : ℕ) (old new : Option (List ℕ)) (f g : ℕ) → read ≡ Some command
    → EndsAs command status (source_now a m) (source_now b n) (sink_now old f) (sink_now new g)
    → IfSome read (λ c. IsNotBuilt c → Ends status (sink_now old f) (sink_now new g) not_built)
other_picked read command status a b m n old new f g is h = rw is (not_built_ends command status (source_now a m) (source_now b n) (sink_now old f) (sink_now new g) h)

-- ---- Of words without a reading

pub none_ends : (read : Option Words) (status : ℕ) (a b : Option (List ℕ)) (m n : ℕ) (old new : Option (List ℕ)) (f g : ℕ) → read ≡ None → (w : RunWords) → read ≡ Some (Replay w) → EndsBySource status (source_now a m) (source_now b n) (sink_now old f) (sink_now new g) (source_answer w)
none_ends read status a b m n old new f g none w e = absurd (cc (none, e))

pub none_prints : (read : Option Words) (status : ℕ) (told old new : Option (List ℕ)) → read ≡ None → (w : RunWords) → read ≡ Some (Replay w) → HasRun status → PrintsReplay w told status old new
none_prints read status told old new none w e ran = absurd (cc (none, e))

pub none_world : (read : Option Words) (status : ℕ) (old new : Option (List ℕ)) (f g : ℕ) → read ≡ None → (w : WorldWords) → read ≡ Some (World w) → Ends status (sink_now old f) (sink_now new g) (world_answer w)
none_world read status old new f g none w e = absurd (cc (none, e))

pub none_mirror : (read : Option Words) (status : ℕ) (a b : Option (List ℕ)) (m n : ℕ) (old new : Option (List ℕ)) (f g : ℕ) → read ≡ None → (w : MirrorWords) → read ≡ Some (Mirror w) → EndsMirror w status (source_now a m) (source_now b n) (sink_now old f) (sink_now new g)
none_mirror read status a b m n old new f g none w e = absurd (cc (none, e))

pub none_picked : (read : Option Words) (status : ℕ) (old new : Option (List ℕ)) (f g : ℕ) → read ≡ None → IfSome read (λ c. IsNotBuilt c → Ends status (sink_now old f) (sink_now new g) not_built)
none_picked read status old new f g none = rw none tt

-- ---- Of words that memory ran out over

pub unread_ends : (read : Option Words) (a old : Option (List ℕ)) (n f : ℕ) (w : RunWords) → read ≡ Some (Replay w) → EndsBySource 7 (source_now a n) (source_now a n) (sink_now old f) (sink_now old f) (source_answer w)
unread_ends read a old n f w e = no_memory (source_answer w) a a n n (sink_now old f) refl

pub unread_prints : (read : Option Words) (told old new : Option (List ℕ)) (w : RunWords) → read ≡ Some (Replay w) → HasRun 7 → PrintsReplay w told 7 old new
unread_prints read told old new w e ran = absurd (ran.had_memory refl)

pub unread_world : (read : Option Words) (old : Option (List ℕ)) (f : ℕ) (w : WorldWords) → read ≡ Some (World w) → Ends 7 (sink_now old f) (sink_now old f) (world_answer w)
unread_world read old f w e = nothing (sink_now old f) (world_answer w)

pub unread_mirror : (read : Option Words) (a old : Option (List ℕ)) (n f : ℕ) (w : MirrorWords) → read ≡ Some (Mirror w) → EndsMirror w 7 (source_now a n) (source_now a n) (sink_now old f) (sink_now old f)
unread_mirror read a old n f w e = unread w a n (sink_now old f)

pub unread_picked : (read : Option Words) (old : Option (List ℕ)) (f : ℕ) → IfSome read (λ c. IsNotBuilt c → Ends 7 (sink_now old f) (sink_now old f) not_built)
unread_picked None old f = tt
unread_picked (Some command) old f = λ other. nothing (sink_now old f) not_built
