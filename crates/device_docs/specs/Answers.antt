-- How the answers of functions stand to what the definitions say. Want of memory may be answered at any time.
use Rattle.std.specs.Prelude.{◌≡◌, Option, Some, None, Result, Ok, Err}
use Rattle.device_docs.specs.declared.faults.Absent.{Absent}
use Rattle.device_docs.specs.declared.faults.ChangeFault.{ChangeFault}
use Rattle.device_docs.specs.declared.faults.ChangeFault.TheVariants as c
use Rattle.device_docs.specs.declared.faults.DocFault.{DocFault}
use Rattle.device_docs.specs.declared.faults.DocFault.TheVariants as f
use Rattle.device_docs.specs.declared.faults.Unread.{Unread}
use Rattle.device_docs.specs.declared.faults.Unread.TheVariants as u
use Rattle.device_docs.specs.declared.keys.Key.{Key}

-- Seen by view, the answer is what a document is said to say.
abbrev pub Fails : {Y : Type 0} → DocFault → Result Y DocFault → Type 0
Fails f.NotJson said = said ≡ Err f.NotJson
Fails (f.Missing key) said = said ≡ Err (f.Missing key)
Fails (f.Range key) said = said ≡ Err (f.Range key)
Fails (f.Files count) said = said ≡ Err (f.Files count)
Fails f.Digest said = said ≡ Err f.Digest
Fails f.NoMemory said = Unit {0}

abbrev pub Gives : {X Y : Type 0} → (X → Y) → Result X DocFault → Result Y DocFault → Type 0
Gives view (Ok x) said = said ≡ Ok (view x)
Gives view (Err fault) said = Fails fault said

-- the value of a text, where it has one
abbrev pub Reads : {X Y : Type 0} → (X → Y) → Result X Unread → Option Y → Type 0
Reads view (Ok x) value = value ≡ Some (view x)
Reads view (Err u.NotJson) value = value ≡ None
Reads view (Err u.NoMemory) value = Unit {0}

-- the member of a key, where it is there
abbrev pub Has : {X Y : Type 0} → (X → Y) → Key → Result X Absent → Option Y → Type 0
Has view key (Ok x) member = member ≡ Some (view x)
Has view key (Err absent) member = (member ≡ None) × (absent.key ≡ key)

abbrev pub unread_document : Unread → DocFault
unread_document u.NotJson = f.NotJson
unread_document u.NoMemory = f.NoMemory

abbrev pub unread_change : Unread → ChangeFault
unread_change u.NotJson = c.NotJson
unread_change u.NoMemory = c.NoMemory
