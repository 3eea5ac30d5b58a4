-- What the command `mirror` prints.
use Rattle.std.specs.Prelude.{◌≡◌, ℕ, ◌+◌, ℤ, pos, negsuc, Bool, true, false, List, [], ◌∷◌, ◌++◌, length, map, flat_map, Result, Ok, Err, if◌then◌else◌, codes, decimal}
use Rattle.std.specs.List.{list_any}
use Rattle.command_answers.specs.Answers.{Answer, Ends, SinkNow, answer}
use Rattle.command_answers.specs.Sources.{EndsBySource, SourceNow, bad_line, within_limit}
use Rattle.command_words.specs.declared.words.MirrorWords.{MirrorWords}
use Rattle.device_docs.specs.declared.changes.Change.{Change}
use Rattle.device_docs.specs.declared.changes.Scalar.{Scalar}
use Rattle.device_docs.specs.declared.changes.Scalar.TheVariants as v
use Rattle.journal_text.specs.Texts.{joined, line_end, space}
use Rattle.plain_text.specs.Escapes.{escaped}
use Rattle.shadow_mirror.specs.Documents.{Doc, Entry, doc}
use Rattle.mirror_run.specs.declared.steps.MirrorStep.{MirrorStep}
use Rattle.mirror_run.specs.declared.steps.MirrorStep.TheVariants as s
use Rattle.mirror_run.specs.Steps.{steps_of}

-- ---- Which changes are published

abbrev pub is_publish : MirrorStep → Bool
is_publish s.Publish = true
is_publish (s.Change c) = false

-- each change that a publish comes behind
abbrev pub published : List MirrorStep → List Change
published [] = []
published (s.Publish ∷ steps) = published steps
published (s.Change c ∷ steps) = if list_any is_publish steps then c ∷ published steps else []

-- ---- The text

-- a text as one word
abbrev pub word_text : List ℕ → List ℕ
word_text [] = codes "-"
word_text (b ∷ bytes) = escaped (b ∷ bytes)

abbrev pub int_text : ℤ → List ℕ
int_text (pos n) = decimal n
int_text (negsuc n) = codes "-" ++ decimal (n + 1)

abbrev pub scalar_text : Scalar → List ℕ
scalar_text (v.Word text) = word_text text
scalar_text (v.Int number) = int_text number
scalar_text (v.Flag true) = codes "true"
scalar_text (v.Flag false) = codes "false"

-- a key of the document, and its value
abbrev pub entry_line : Entry → List ℕ
entry_line entry = codes "key " ++ word_text entry.0 ++ space ++ scalar_text entry.1 ++ line_end

-- a reader's number, how often it read, and the version of its last read
abbrev pub reader_line : ℕ → ℕ × ℕ → List ℕ
reader_line reads row =
    joined (codes "reader " ∷ decimal row.0 ∷ codes " reads " ∷ decimal reads ∷ codes " last " ∷ decimal row.1
    ∷ line_end ∷ [])

abbrev pub numbered : ℕ → List ℕ → List (ℕ × ℕ)
numbered n [] = []
numbered n (version ∷ versions) = (n, version) ∷ numbered (n + 1) versions

-- the readers with these last versions, the document, and the end
abbrev pub mirror_text : ℕ → List ℕ → Doc → List ℕ
mirror_text reads versions d =
    flat_map (reader_line reads) (numbered 0 versions) ++ flat_map entry_line d.entries ++ codes "ok\n"

-- The text of so many readers and of a document: each reader's last version is the document's, or so much later.
abbrev pub IsText : ℕ → ℕ → Doc → List ℕ → Type 0
IsText readers reads d text =
    (ahead : List ℕ) × (length ahead ≡ readers)
    × (text ≡ mirror_text reads (map (λ more. d.version + more) ahead) d)

-- The same of these steps, as the command's answer.
abbrev pub mirror_answer : MirrorWords → List MirrorStep → List ℕ → Answer
mirror_answer words steps ahead =
    answer 0 (mirror_text words.reads (map (λ more. (doc (published steps)).version + more) ahead) (doc (published steps)))

-- How a mirror of so many readers ended that answers so to how far their last versions are ahead: some `ahead` says it.
abbrev pub EndsAhead : ℕ → ℕ → SinkNow → SinkNow → (List ℕ → Answer) → Type 0
EndsAhead readers status before now to =
    (ahead : List ℕ) × (length ahead ≡ readers) × Ends status before now (to ahead)

-- ---- From the source

abbrev pub steps_answer : MirrorWords → List ℕ → Result (List MirrorStep) ℕ → Answer
steps_answer words ahead (Ok steps) = mirror_answer words steps ahead
steps_answer words ahead (Err number) = bad_line number

abbrev pub source_answer : MirrorWords → List ℕ → List ℕ → Answer
source_answer words ahead = within_limit (λ text. steps_answer words ahead (steps_of text))

-- The same of a mirror with these words, over its source.
unfoldable pub EndsMirror : MirrorWords → ℕ → SourceNow → SourceNow → SinkNow → SinkNow → Type 0
EndsMirror words status source source_then before now =
    (ahead : List ℕ) × (length ahead ≡ words.readers)
    × EndsBySource status source source_then before now (source_answer words ahead)
