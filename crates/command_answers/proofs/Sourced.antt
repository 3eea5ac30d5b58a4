-- How a command ends over what came of its source.
use Rattle.std.proofs.Common.{◌≡◌, ℕ, ◌<◌, ◌≤◌, List, [], ◌++◌, length, Option, Some, None, IfSome, refl, sym, ap, ◌∙◌, subst, arith, inl, inr, cond, length-append, append-nil}
use Rattle.std.specs.Io.KnownBytes.{Consumes, IsAtEnd}
use Rattle.std.proofs.KnownBytes.{Consumes-whole}
use Rattle.std.proofs.lemmas.Bool.{le-ltb, lt-ltb}
use Rattle.agent_link.specs.Counts.{raised}
use Rattle.agent_link.proofs.Writing.{front_none}
use Rattle.command_answers.specs.Answers.{Answer, Ends, SinkNow, sink_now}
use Rattle.command_answers.specs.Sources.{EndsBySource, source_failed, source_limit, source_now, too_long, within_limit}

-- all of the source was read
pub whole : (a b : Option (List ℕ)) (bytes : List ℕ) → Consumes a b bytes → (length bytes ≤ 1048576 → IsAtEnd b) → length bytes ≤ 1048576 → IfSome a (λ all. all ≡ bytes)
whole a b bytes taken end short = Consumes-whole a b bytes (λ all. all ≡ bytes) taken (end short) refl

is_long : (to : List ℕ → Answer) (text : List ℕ) → source_limit < length text → within_limit to text ≡ too_long
unfolding within_limit
is_long to text h = rw (lt-ltb source_limit (length text) h) refl

is_within : (to : List ℕ → Answer) (text : List ℕ) → length text ≤ source_limit → within_limit to text ≡ to text
unfolding within_limit
is_within to text short = ap (λ b. cond b too_long (to text)) (le-ltb source_limit (length text) short)

-- a source that was read to its end is judged by its text
pub by_text : (to : List ℕ → Answer) (text : List ℕ) (status : ℕ) (a b : Option (List ℕ)) (faults faults_then : ℕ) (before now : SinkNow) → IfSome a (λ all. all ≡ text) → length text ≤ source_limit → faults_then ≡ faults
    → Ends status before now (to text) → EndsBySource status (source_now a faults) (source_now b faults_then) before now (within_limit to)
by_text to text status a b faults faults_then before now all short same h =
    inl (record { text = text; is_all = all; faults = same; ends = subst (Ends status before now) (sym (is_within to text short)) h })

-- more than may be was read
pub long : (to : List ℕ → Answer) (status : ℕ) (a b : Option (List ℕ)) (bytes : List ℕ) (faults faults_then : ℕ) (before now : SinkNow) → Consumes a b bytes → 1048576 < length bytes → faults_then ≡ faults
    → Ends status before now too_long → EndsBySource status (source_now a faults) (source_now b faults_then) before now (within_limit to)
long to status None b bytes faults faults_then before now taken more same h =
    inl (record { text = bytes; is_all = tt; faults = same; ends = subst (Ends status before now) (sym (is_long to bytes more)) h })
long to status (Some text) None bytes faults faults_then before now taken more same h = absurd taken
long to status (Some text) (Some rest) bytes faults faults_then before now taken more same h =
    let longer : source_limit < length text = omega (arith, ap length taken, length-append bytes rest) in
    inl (record { text = text; is_all = refl; faults = same; ends = subst (Ends status before now) (sym (is_long to text longer)) h })

-- the source failed
pub failed : (to : List ℕ → Answer) (status : ℕ) (a b : Option (List ℕ)) (faults faults_then : ℕ) (before now : SinkNow) → faults_then ≡ raised faults → Ends status before now source_failed
    → EndsBySource status (source_now a faults) (source_now b faults_then) before now (within_limit to)
failed to status a b faults faults_then before now rose h = inr (record { faults = rose; ends = h })

pub nothing : (sink : SinkNow) (a : Answer) → Ends 7 sink sink a
nothing sink a = record {
  whole = λ n m. absurd (n refl);
  told = λ n m. absurd (n refl);
  memory = λ e. front_none sink.written a.text;
  sink = λ e. absurd (omega (arith, e));
  faults = refl;
}

abbrev text_of : Option (List ℕ) → List ℕ
text_of None = []
text_of (Some text) = text

told_of : (a : Option (List ℕ)) → IfSome a (λ all. all ≡ text_of a)
told_of None = tt
told_of (Some text) = refl

-- it was more than memory holds: nothing was written
pub no_memory : (to : List ℕ → Answer) (a b : Option (List ℕ)) (faults faults_then : ℕ) (sink : SinkNow) → faults_then ≡ faults
    → EndsBySource 7 (source_now a faults) (source_now b faults_then) sink sink to
no_memory to a b faults faults_then sink same = inl (record { text = text_of a; is_all = told_of a; faults = same; ends = nothing sink (to (text_of a)) })
