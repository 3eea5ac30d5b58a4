-- What the images of a disk count as, behind each call of a save.
use Rattle.std.proofs.Common.{refl, ◌≡◌, inl, inr, ⊎_elim, ℕ, ◌+◌, ◌*◌, ◌<◌, ◌≤◌, ◌^◌, List, [], ◌∷◌, length, take, Result, Ok, Err, sym, ◌∙◌, ap, subst, arith}
use Rattle.std.specs.Prelude.{OnOk, OnErr, slice_index}
use Rattle.disk_slots.specs.declared.slot.Slot.{Slot}
use Rattle.disk_slots.specs.declared.slot.Slot.TheVariants.{First}
use Rattle.disk_slots.specs.Disks.{overwritten, Torn, Only, Same, Widens}
use Rattle.disk_slots.specs.Slots.{gate_of, named_in, other, start, bytes_of, text_in, framed_text, IsFramed, HasText, AllCount, HoldsOneOf}
use Rattle.disk_slots.proofs.Slots.{other_kept, slots_kept, counted_as, alike, has_written, named_or_other, gate_written, gate_leaves, bytes_before}
use Rattle.disk_slots.proofs.Marks.{overwritten_len, overwritten_torn}

-- behind the write of a slot that doesn't count
pub staged : (n m : ℕ) (to : Slot) (text : List ℕ) (at : ℕ) (was now : List ℕ → Type 0) → m ≤ n → at ≡ start n to → Widens (Torn at m) was now → AllCount n (other to) text was → AllCount n (other to) text now
staged n m to text at was now fits begins crash all c left =
    let d = (crash c).0 left in
    alike n (other to) text c d.0 (other_kept n m to c d.0 fits (subst (λ (k : ℕ). Torn k m d.0 c) begins d.2)) (all d.0 d.1)

-- behind the write of the gate, from a file that is all of it on the disk
pub turned : (n : ℕ) (to : Slot) (old new file : List ℕ) (was now : List ℕ → Type 0) → Only file was → HasText n (other to) old file → HasText n to new file → Widens (Torn 0 1) was now → HoldsOneOf n old new now
turned n to old new file was now only has_old has_new crash c left =
    let d = (crash c).0 left in
    let torn : Torn 0 1 file c = subst (λ (f : List ℕ). Torn 0 1 f c) ((only d.0).0 d.1) d.2 in
    ⊎_elim (λ (e : named_in c ≡ to). inr (counted_as n to new c (e, ap (text_in n) (slots_kept n to c file torn) ∙ has_new)))
    (λ (e : named_in c ≡ other to). inl (counted_as n (other to) old c (e, ap (text_in n) (slots_kept n (other to) c file torn) ∙ has_old)))
    (named_or_other to (slice_index c 0))

-- and behind the last sync
pub saved_at : (n : ℕ) (to : Slot) (gate : ℕ) (text file new : List ℕ) (now : List ℕ → Type 0) → gate ≡ gate_of to → HasText n to text file → new ≡ overwritten 0 (gate ∷ []) file → Only new now → AllCount n to text now
saved_at n to gate text file new now names has is_new only c left =
    let e = (only c).0 left ∙ is_new in
    (ap named_in e ∙ gate_written to gate file names, ap (λ f. text_in n (bytes_of n to f)) e ∙ (ap (text_in n) (gate_leaves n to gate file) ∙ has))

-- a sync leaves what held of all images before it
pub sync_keeps : {T E : Type 0} (r : Result T E) (file : List ℕ) (was now : List ℕ → Type 0) (P : List ℕ → Type 0) → OnOk r (Only file now) → OnErr r (Same was now) → was file → ((c : List ℕ) → was c → P c) → (c : List ℕ) → now c → P c
sync_keeps (Ok _) file was now P only same possible all c left = subst P (sym ((only c).0 left)) (all file possible)
sync_keeps (Err _) file was now P only same possible all c left = all c ((same c).0 left)

-- both slots have the text, and the gate names the first one
pub formatted : (n : ℕ) (frame s one both gate : List ℕ) (now : List ℕ → Type 0) → n < 2 ^ 32 → IsFramed n frame → length s ≡ 1 + 2 * n → one ≡ overwritten 1 frame s → both ≡ overwritten (1 + n) frame one → gate ≡ overwritten 0 (0 ∷ []) both → Only gate now
    → AllCount n First (framed_text frame) now
formatted n frame s one both gate now small is long is_one is_both is_gate only =
    let one_long : length one ≡ length s = ap length is_one ∙ overwritten_len 1 frame s (omega (arith, long, is.fits)) in
    let kept : bytes_of n First both ≡ bytes_of n First one = bytes_before n First (1 + n) both one (omega arith) (ap (λ (f : List ℕ). take (1 + n) f) is_both ∙ (overwritten_torn (1 + n) frame one (omega (arith, one_long, long, is.fits))).before) in
    let has : HasText n First (framed_text frame) one = has_written n First frame 1 s one small is refl long is_one in
    saved_at n First 0 (framed_text frame) both gate now refl (ap (text_in n) kept ∙ has) is_gate only
