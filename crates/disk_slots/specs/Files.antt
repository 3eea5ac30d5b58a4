-- A file of two slots, and how its calls end.
use Rattle.std.specs.Prelude.{◌≡◌, ℕ, List, Result, Ok, Err}
use Rattle.agent_link.specs.Counts.{raised}
use Rattle.disk_slots.specs.declared.faults.OpenFault.{OpenFault}
use Rattle.disk_slots.specs.declared.faults.OpenFault.TheVariants as open_fault
use Rattle.disk_slots.specs.declared.faults.SaveFault.{SaveFault}
use Rattle.disk_slots.specs.declared.faults.SaveFault.TheVariants as save_fault

-- The disk, how many bytes a slot has, and the text that the file holds.
pub record Filed (D : Type 0) : Type 0 where
  pub disk : D
  pub slot_len : ℕ
  pub text : List ℕ

-- ---- `format` and `open`

-- what holds of the disk, however the call ended
abbrev pub InAnyEnd : {D : Type 0} → Result (Filed D) (OpenFault D) → (D → Type 0) → Type 0
InAnyEnd (Ok file) P = P file.disk
InAnyEnd (Err (open_fault.Disk disk)) P = P disk
InAnyEnd (Err (open_fault.TooLong disk)) P = P disk
InAnyEnd (Err (open_fault.NoMemory disk)) P = P disk

abbrev pub OnTooLong : {D : Type 0} → Result (Filed D) (OpenFault D) → (D → Type 0) → Type 0
OnTooLong (Err (open_fault.TooLong disk)) P = P disk
OnTooLong _ P = Unit {0}

abbrev pub OnNoMemory : {D : Type 0} → Result (Filed D) (OpenFault D) → (D → Type 0) → Type 0
OnNoMemory (Err (open_fault.NoMemory disk)) P = P disk
OnNoMemory _ P = Unit {0}

-- The count of faults is one more where the disk failed, and else as it was.
abbrev pub Opened : {D : Type 0} → (D → ℕ) → ℕ → Result (Filed D) (OpenFault D) → Type 0
Opened faults before (Ok file) = faults file.disk ≡ before
Opened faults before (Err (open_fault.Disk disk)) = faults disk ≡ raised before
Opened faults before (Err (open_fault.TooLong disk)) = faults disk ≡ before
Opened faults before (Err (open_fault.NoMemory disk)) = faults disk ≡ before

-- ---- `save`

abbrev pub OnBroken : {D : Type 0} → Result (Filed D) (SaveFault (Filed D) D) → (D → Type 0) → Type 0
OnBroken (Err (save_fault.Disk disk)) P = P disk
OnBroken _ P = Unit {0}

abbrev pub OnRefused : {D : Type 0} → Result (Filed D) (SaveFault (Filed D) D) → (Filed D → Type 0) → Type 0
OnRefused (Err (save_fault.TooLong file)) P = P file
OnRefused _ P = Unit {0}

abbrev pub Saved : {D : Type 0} → (D → ℕ) → ℕ → Result (Filed D) (SaveFault (Filed D) D) → Type 0
Saved faults before (Ok file) = faults file.disk ≡ before
Saved faults before (Err (save_fault.Disk disk)) = faults disk ≡ raised before
Saved faults before (Err (save_fault.TooLong file)) = faults file.disk ≡ before
