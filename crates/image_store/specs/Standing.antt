-- What a writer and the bytes of its bank stand for: the list of the blocks that were put.
use Rattle.std.specs.Prelude.{◌≡◌, ℕ, ◌+◌, ◌*◌, ◌<◌, true, false, List, [], ◌∷◌, ◌++◌, length, set, get_or, replicate, Option, Some, None, Result, Ok, Err}
use Rattle.std.specs.List.{splice}
use Rattle.stream_blocks.specs.Sets.{first}
use Rattle.image_store.specs.Images.{blocks_in, len_of, first_payload, image}
use Rattle.image_store.specs.Banks.{Contents, fresh_of}
use Rattle.image_store.specs.Writing.{Progress, blocks_of}
use Rattle.image_store.specs.declared.answers.Put.{Put}
use Rattle.image_store.specs.declared.answers.PutFault.{PutFault}

-- The block's first payload has its length, and stands in its place.
pub record IsHeld (bs : List (ℕ × List ℕ)) (w : Progress) (bytes : List ℕ) (i : ℕ) : Type 0 where
  pub payload : List ℕ
  pub first : first_payload i bs ≡ Some payload
  pub len : length payload ≡ len_of w.size w.block i
  pub place : (j : ℕ) → j < length payload → get_or bytes (i * w.block + j) 0 ≡ get_or payload j 0

-- Each block that isn't missing is held, and of one that is missing none was put.
pub record StandsFor (bs : List (ℕ × List ℕ)) (w : Progress) (bytes : List ℕ) : Type 0 where
  pub size : length bytes ≡ w.size
  pub flags : length w.missing ≡ blocks_of w
  pub held : (i : ℕ) → i < blocks_of w → get_or w.missing i false ≡ false → IsHeld bs w bytes i
  pub missing : (i : ℕ) → get_or w.missing i false ≡ true → first_payload i bs ≡ None

-- A writer over a bank: where the bank tells the bytes of its new image, both stand for these blocks.
abbrev pub IsOf : List (ℕ × List ℕ) → Progress → Option Contents → Type 0
IsOf bs w told = (bytes : List ℕ) → fresh_of told ≡ Some bytes → StandsFor bs w bytes

-- the blocks that were put, behind one more put: a repeat is one of them too
abbrev pub put_behind : List (ℕ × List ℕ) → Result Put PutFault → ℕ → List ℕ → List (ℕ × List ℕ)
put_behind bs (Ok _) index payload = bs ++ (index, payload) ∷ []
put_behind bs (Err _) index payload = bs

-- A new writer stands for no blocks.
abbrev pub NewStands : Type 0
NewStands =
    (file size block : ℕ) (digest : List ℕ) → StandsFor [] (record { file = file; size = size; block = block; digest = digest; missing = replicate (blocks_in size block) true }) (replicate size 0)

-- Where no block is missing, the bytes are the image of the blocks that were put.
abbrev pub WholeStands : Type 0
WholeStands =
    (bs : List (ℕ × List ℕ)) (w : Progress) (bytes : List ℕ) → 0 < w.block → StandsFor bs w bytes → first w.missing ≡ None → image bs w.size w.block ≡ Some bytes

-- A block that was missing and is put in its place is one more of those blocks.
abbrev pub PutStands : Type 0
PutStands =
    (bs : List (ℕ × List ℕ)) (w : Progress) (bytes payload : List ℕ) (index : ℕ) → 0 < w.block → StandsFor bs w bytes
    → index < blocks_of w → length payload ≡ len_of w.size w.block index → get_or w.missing index false ≡ true
    → StandsFor (bs ++ (index, payload) ∷ []) (record w { missing = set w.missing index false }) (splice bytes (index * w.block) (index * w.block + length payload) payload)

-- A block that is there already is one more of those blocks, whatever its payload is.
abbrev pub AgainStands : Type 0
AgainStands =
    (bs : List (ℕ × List ℕ)) (w : Progress) (bytes payload : List ℕ) (index : ℕ) → StandsFor bs w bytes → get_or w.missing index false ≡ false → StandsFor (bs ++ (index, payload) ∷ []) w bytes

-- After a fault the range of a block that is missing may hold anything, and the writer stands for the same blocks.
abbrev pub FaultStands : Type 0
FaultStands =
    (bs : List (ℕ × List ℕ)) (w : Progress) (bytes any : List ℕ) (index : ℕ) → 0 < w.block → StandsFor bs w bytes
    → index < blocks_of w → length any ≡ len_of w.size w.block index → get_or w.missing index false ≡ true
    → StandsFor bs w (splice bytes (index * w.block) (index * w.block + length any) any)
