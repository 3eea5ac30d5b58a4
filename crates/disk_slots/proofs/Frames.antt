-- A frame that was put together, and the text in it.
use Rattle.std.proofs.Common.{◌≡◌, ℕ, ◌+◌, ◌≤◌, List, ◌++◌, length, take, drop, refl, ◌∙◌, ap, subst, arith, length-append}
use Rattle.std.proofs.lemmas.List.{take_at, drop-take, length-take-le}
use Rattle.std.specs.Int.{w32, to_be_bytes}
use Rattle.disk_slots.specs.Disks.{overwritten}
use Rattle.disk_slots.specs.declared.slot.Slot.{Slot}
use Rattle.disk_slots.specs.Slots.{framed, framed_text, AllCount, Holds, HoldsOneOf}
use Rattle.disk_slots.proofs.Slots.{counted_as}
use Rattle.disk_slots.proofs.Marks.{overwritten_len}

pub frame_put : (text old mid new four : List ℕ) → 4 + length text ≤ length old → four ≡ to_be_bytes w32 (length text) → mid ≡ overwritten 0 four old → new ≡ overwritten 4 text mid → take (4 + length text) new ≡ framed text
frame_put text old mid new four fits is_four is_mid is_new =
    let len : length four ≡ 4 = ap length is_four in
    let long : length mid ≡ length old = ap length is_mid ∙ overwritten_len 0 four old (omega (arith, len, fits)) in
    let head : take 4 mid ≡ four = ap (λ (l : List ℕ). take 4 l) is_mid ∙ take_at four (drop (0 + length four) old) 4 len in
    let front : length (take 4 mid ++ text) ≡ 4 + length text = omega (arith, length-append (take 4 mid) text, length-take-le 4 mid (omega (arith, long, fits))) in
    ap (λ (l : List ℕ). take (4 + length text) l) is_new ∙ (take_at (take 4 mid ++ text) (drop (4 + length text) mid) (4 + length text) front ∙ ap (λ (l : List ℕ). l ++ text) (head ∙ is_four))

-- the text of a frame is what stands behind the length
pub text_of : (len : ℕ) (frame : List ℕ) → framed_text (take (4 + len) frame) ≡ take len (drop 4 frame)
text_of len frame = drop-take 4 len frame

-- what the images count as, by other words for the same slot and text
pub all_count : (n m : ℕ) (s s' : Slot) (text text' : List ℕ) (images : List ℕ → Type 0) → n ≡ m → s ≡ s' → text ≡ text' → AllCount n s text images → AllCount m s' text' images
all_count n m s s' text text' images en es et all =
    subst (λ (k : ℕ). AllCount k s' text' images) en (subst (λ (w : Slot). AllCount n w text' images) es (subst (λ (l : List ℕ). AllCount n s l images) et all))

pub holds : (n m : ℕ) (s : Slot) (text text' : List ℕ) (images : List ℕ → Type 0) → n ≡ m → text ≡ text' → AllCount n s text images → Holds m text' images
holds n m s text text' images en et all image left =
    let counts = all_count n m s s text text' images en refl et all image left in
    counted_as m s text' image counts

pub holds_one : (n m : ℕ) (old old' new new' : List ℕ) (images : List ℕ → Type 0) → n ≡ m → old ≡ old' → new ≡ new' → HoldsOneOf n old new images → HoldsOneOf m old' new' images
holds_one n m old old' new new' images en eo ew one =
    subst (λ (k : ℕ). HoldsOneOf k old' new' images) en (subst (λ (l : List ℕ). HoldsOneOf n l new' images) eo (subst (λ (l : List ℕ). HoldsOneOf n old l images) ew one))
