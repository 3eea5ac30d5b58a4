-- What the writes of a save leave of the slots and of the gate.
use Rattle.std.proofs.Common.{◌≡◌, ◌⊎◌, inl, inr, ℕ, ◌+◌, ◌-◌, ◌*◌, ◌%◌, ◌==◌, ◌<◌, ◌≤◌, ◌^◌, Bool, true, false, List, [], ◌∷◌, ◌++◌, length, take, drop, get_or, Some, refl, sym, ◌∙◌, ap, subst, cond, arith, append_assoc}
use Rattle.std.proofs.lemmas.List.{take-take, drop-drop, drop-take, get_or-take, take_at, drop_at, length-take-le}
use Rattle.std.proofs.lemmas.Bool.{le-leb, cond-true}
use Rattle.std.proofs.lemmas.Nat.{from_be_bytes-to_be_bytes_4}
use Rattle.std.specs.Int.{w32, to_be_bytes, from_be_bytes}
use Rattle.disk_slots.specs.declared.slot.Slot.{Slot}
use Rattle.disk_slots.specs.declared.slot.Slot.TheVariants.{First, Second}
use Rattle.disk_slots.specs.Disks.{overwritten, Torn}
use Rattle.disk_slots.specs.Slots.{gate_of, named, named_in, other, start, bytes_of, text_with, text_in, counting, framed_text, IsFramed, HasText, Counts}

front_same : (at k : ℕ) (c d : List ℕ) → k ≤ at → take at c ≡ take at d → take k c ≡ take k d
front_same at k c d le e = sym (take-take k at c le) ∙ ap (λ (l : List ℕ). take k l) e ∙ take-take k at d le

back_same : (from k : ℕ) (c d : List ℕ) → from ≤ k → drop from c ≡ drop from d → drop k c ≡ drop k d
back_same from k c d le e = sym (further c) ∙ ap (λ (l : List ℕ). drop (k - from) l) e ∙ further d
  where
    further : (l : List ℕ) → drop (k - from) (drop from l) ≡ drop k l
    further l = drop-drop (k - from) from l ∙ ap (λ (j : ℕ). drop j l) (omega (arith, le))

pub bytes_before : (n : ℕ) (s : Slot) (at : ℕ) (c d : List ℕ) → start n s + n ≤ at → take at c ≡ take at d → bytes_of n s c ≡ bytes_of n s d
bytes_before n s at c d le e = sym (drop-take (start n s) n c) ∙ ap (λ (l : List ℕ). drop (start n s) l) (front_same at (start n s + n) c d le e) ∙ drop-take (start n s) n d

pub bytes_after : (n : ℕ) (s : Slot) (from : ℕ) (c d : List ℕ) → from ≤ start n s → drop from c ≡ drop from d → bytes_of n s c ≡ bytes_of n s d
bytes_after n s from c d le e = ap (λ (l : List ℕ). take n l) (back_same from (start n s) c d le e)

gate_same : (at : ℕ) (c d : List ℕ) → 0 < at → take at c ≡ take at d → named_in c ≡ named_in d
gate_same at c d lt e = ap named (sym (get_or-take at c 0 0 lt) ∙ ap (λ (l : List ℕ). get_or l 0 0) e ∙ get_or-take at d 0 0 lt)

-- a write into a slot leaves the gate and the other one
pub other_kept : (n m : ℕ) (to : Slot) (c d : List ℕ) → m ≤ n → Torn (start n to) m d c → (named_in c ≡ named_in d) × (bytes_of n (other to) c ≡ bytes_of n (other to) d)
other_kept n m First c d le torn = (gate_same 1 c d (omega arith) torn.before, bytes_after n Second (1 + m) c d (omega (arith, le)) torn.after)
other_kept n m Second c d le torn = (gate_same (1 + n) c d (omega arith) torn.before, bytes_before n First (1 + n) c d (omega arith) torn.before)

starts_later : (n : ℕ) (s : Slot) → 1 ≤ start n s
starts_later n First = omega arith
starts_later n Second = omega arith

-- a write of the gate leaves both slots
pub slots_kept : (n : ℕ) (s : Slot) (c d : List ℕ) → Torn 0 1 d c → bytes_of n s c ≡ bytes_of n s d
slots_kept n s c d torn = bytes_after n s 1 c d (starts_later n s) torn.after

pub counted_as : (n : ℕ) (s : Slot) (text c : List ℕ) → Counts n s text c → counting n c ≡ Some text
counted_as n s text c k = ap (λ w. text_in n (bytes_of n w c)) k.0 ∙ k.1

pub alike : (n : ℕ) (s : Slot) (text c d : List ℕ) → (named_in c ≡ named_in d) × (bytes_of n s c ≡ bytes_of n s d) → Counts n s text d → Counts n s text c
alike n s text c d same k = (same.0 ∙ k.0, ap (text_in n) same.1 ∙ k.1)

pub framed_len : (n : ℕ) (frame : List ℕ) → IsFramed n frame → length frame ≡ 4 + length (framed_text frame)
framed_len n frame f = omega (arith, ap length f.is)

-- a slot that begins with a framed text has this text
pub text_reads : (n : ℕ) (frame bytes : List ℕ) → n < 2 ^ 32 → IsFramed n frame → take (length frame) bytes ≡ frame → text_in n bytes ≡ Some (framed_text frame)
text_reads n frame bytes small f e =
    let text = framed_text frame in
    let long = framed_len n frame f in
    let four : take 4 bytes ≡ to_be_bytes w32 (length text) =
    sym (take-take 4 (length frame) bytes (omega (arith, long))) ∙ ap (λ (l : List ℕ). take 4 l) (e ∙ f.is) in
    let len : from_be_bytes w32 (take 4 bytes) ≡ length text = ap (from_be_bytes w32) four ∙ from_be_bytes-to_be_bytes_4 (length text) (omega (arith, long, f.fits, small)) in
    let rest : take (length text) (drop 4 bytes) ≡ text =
    sym (drop-take 4 (length text) bytes) ∙ ap (λ (j : ℕ). drop 4 (take j bytes)) (sym long) ∙ ap (λ (l : List ℕ). drop 4 l) e in
    ap (λ k. text_with n k bytes) len ∙ cond-true _ _ _ (le-leb (4 + length text) n (omega (arith, long, f.fits))) ∙ ap Some rest

-- what is written into a slot stands at its front
slot_written : (n at : ℕ) (frame old : List ℕ) → length frame ≤ n → at ≤ length old → take (length frame) (take n (drop at (overwritten at frame old))) ≡ frame
slot_written n at frame old fits within =
    let rest = drop (at + length frame) old in
    let behind : drop at (overwritten at frame old) ≡ frame ++ rest =
    ap (λ (l : List ℕ). drop at l) (append_assoc (take at old) frame rest) ∙ drop_at (take at old) (frame ++ rest) at (length-take-le at old within) in
    take-take (length frame) n (drop at (overwritten at frame old)) fits ∙ ap (λ (l : List ℕ). take (length frame) l) behind ∙ take_at frame rest (length frame) refl

start_within : (n : ℕ) (s : Slot) (len : ℕ) → len ≡ 1 + 2 * n → start n s ≤ len
start_within n First len e = omega (arith, e)
start_within n Second len e = omega (arith, e)

pub has_written : (n : ℕ) (to : Slot) (frame : List ℕ) (at : ℕ) (file new : List ℕ) → n < 2 ^ 32 → IsFramed n frame → at ≡ start n to → length file ≡ 1 + 2 * n → new ≡ overwritten at frame file → HasText n to (framed_text frame) new
has_written n to frame at file new small is begins long is_new =
    let e : new ≡ overwritten (start n to) frame file = is_new ∙ ap (λ (k : ℕ). overwritten k frame file) begins in
    subst (HasText n to (framed_text frame)) (sym e) (text_reads n frame _ small is (slot_written n (start n to) frame file is.fits (start_within n to (length file) long)))

pub named_or_other : (s : Slot) (gate : ℕ) → (named gate ≡ s) ⊎ (named gate ≡ other s)
named_or_other s gate = go s (gate % 2 == 0)
  where
    go : (s : Slot) (even : Bool) → (cond even First Second ≡ s) ⊎ (cond even First Second ≡ other s)
    go First true = inl refl
    go First false = inr refl
    go Second true = inr refl
    go Second false = inl refl

-- the gate that was written
pub gate_written : (s : Slot) (gate : ℕ) (old : List ℕ) → gate ≡ gate_of s → named_in (overwritten 0 (gate ∷ []) old) ≡ s
gate_written s gate old e = ap named e ∙ go s
  where
    go : (s : Slot) → named (gate_of s) ≡ s
    go First = refl
    go Second = refl

pub gate_leaves : (n : ℕ) (s : Slot) (gate : ℕ) (file : List ℕ) → bytes_of n s (overwritten 0 (gate ∷ []) file) ≡ bytes_of n s file
gate_leaves n s gate file = bytes_after n s 1 (overwritten 0 (gate ∷ []) file) file (starts_later n s) refl

pub other_of : (counts to : Slot) → to ≡ other counts → other to ≡ counts
other_of counts to e = ap other e ∙ go counts
  where
    go : (s : Slot) → other (other s) ≡ s
    go First = refl
    go Second = refl
