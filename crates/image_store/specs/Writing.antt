-- A writer of an image: which job it serves, and which blocks are missing.
use Rattle.std.specs.Prelude.{◌≡◌, ℕ, ◌==◌, nat_lt, Bool, false, List, length, set, Option, Some, None, Result, Ok, Err, if◌then◌else◌}
use Rattle.agent_link.specs.declared.fault.Fault.{Fault}
use Rattle.image_store.specs.Banks.{Shape, Contents, written, tested}
use Rattle.image_store.specs.Images.{blocks_in, len_of}
use Rattle.image_store.specs.declared.answers.Put.{Put}
use Rattle.image_store.specs.declared.answers.Put.TheVariants as put
use Rattle.image_store.specs.declared.answers.PutFault.{PutFault}
use Rattle.image_store.specs.declared.answers.PutFault.TheVariants as fault
use Rattle.image_store.specs.declared.answers.Verdict.{Verdict}
use Rattle.image_store.specs.declared.answers.Verdict.TheVariants as verdict
use Rattle.std.specs.Option.{option_map}

pub record Progress : Type 0 where
  pub file : ℕ
  pub size : ℕ
  -- bytes of a block
  pub block : ℕ
  -- the digest that the image is to have
  pub digest : List ℕ
  -- whether each block is missing
  pub missing : List Bool

abbrev pub blocks_of : Progress → ℕ
blocks_of w = blocks_in w.size w.block

-- The index of a block that is the job's, or the first of its fields that isn't: its file, its index, its length.
abbrev pub checked : Progress → ℕ → ℕ → ℕ → Result ℕ PutFault
checked w file index len =
    if file == w.file then
    (if nat_lt index (blocks_of w) then
    (if len == len_of w.size w.block index then Ok index else Err (fault.Length (len_of w.size w.block index)))
    else Err (fault.Index (blocks_of w)))
    else Err (fault.File w.file)

-- A block that is missing is written, or the bank has a fault.
abbrev pub IsWriting : Result Put PutFault → Type 0
IsWriting (Ok put.New) = Unit {0}
IsWriting (Ok put.Again) = ⊥
IsWriting (Err (fault.File wanted)) = ⊥
IsWriting (Err (fault.Index blocks)) = ⊥
IsWriting (Err (fault.Length wanted)) = ⊥
IsWriting (Err fault.Bank) = Unit {0}
IsWriting (Err fault.NoMemory) = Unit {0}

-- A block that was written is there from then on. After each other answer all blocks count as before.
abbrev pub after_put : Result Put PutFault → ℕ → Progress → Progress
after_put (Ok put.New) index w = record w { missing = set w.missing index false }
after_put (Ok put.Again) index w = w
after_put (Err _) index w = w

-- The bank behind a put at this place: the range of a block that is new holds its payload, and after a fault of the bank
-- it may hold anything. All else is as it was.
abbrev pub Placed : Result Put PutFault → ℕ → List ℕ → Option Contents → Option Contents → Type 0
Placed (Ok put.New) at payload old new = new ≡ written at payload old
Placed (Ok put.Again) at payload old new = new ≡ old
Placed (Err (fault.File _)) at payload old new = new ≡ old
Placed (Err (fault.Index _)) at payload old new = new ≡ old
Placed (Err (fault.Length _)) at payload old new = new ≡ old
Placed (Err fault.Bank) at payload old new = (any : List ℕ) × (length any ≡ length payload) × (new ≡ written at any old)
Placed (Err fault.NoMemory) at payload old new = (any : List ℕ) × (length any ≡ length payload) × (new ≡ written at any old)

-- the first missing block, where the verdict names one
abbrev pub missing_of : Verdict → Option ℕ
missing_of (verdict.Missing first) = Some first
missing_of (verdict.Differs wanted found) = None
missing_of verdict.Testing = None

-- The verdict on a whole image with this digest.
abbrev pub IsJudged : Verdict → List ℕ → List ℕ → Type 0
IsJudged (verdict.Missing first) wanted found = Unit {0}
IsJudged (verdict.Differs w f) wanted found = (w ≡ wanted) × (f ≡ found) × (wanted ≡ found → ⊥)
IsJudged verdict.Testing wanted found = wanted ≡ found

-- The new image is Testing exactly behind this verdict; else it is as it was.
abbrev pub after_verdict : Result Verdict Fault → Option Shape → Option Shape
after_verdict (Ok (verdict.Missing first)) shape = shape
after_verdict (Ok (verdict.Differs wanted found)) shape = shape
after_verdict (Ok verdict.Testing) shape = option_map tested shape
after_verdict (Err _) shape = shape
