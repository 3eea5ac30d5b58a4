-- Flags as the bits of bytes.
use Rattle.std.proofs.Common.{◌≡◌, ℕ, zero, suc, ◌+◌, ◌-◌, ◌*◌, ◌/◌, ◌%◌, ◌^◌, ◌<◌, ◌≤◌, min, Bool, true, false, cond, List, [], ◌∷◌, ◌++◌, length, drop, get_or, Some, refl, sym, ap, ◌∙◌, ⊎_elim, count_ones, arith, length-append}
use Rattle.std.specs.Prelude.{◌==◌}
use mir.Val.{bool_byte}
use native.Mathlib.Nat.{pow-suc}
use Rattle.std.proofs.lemmas.Bool.{cases_lt}
use Rattle.std.proofs.lemmas.List.{get_or_append_left, get_or-append_right, get_or-take, get_or_past, get_or-drop, length-take, length-drop, flat_map_more}
use Rattle.std.proofs.lemmas.List.Sums.{sum_by-cons, sum_by-append, count_by-le-length}
use Rattle.stream_blocks.specs.Sets.{bits, count, first, first_from}
use Rattle.stream_blocks.proofs.Bits.{ones_bits, none_counted}
use Rattle.ota_agent.specs.Requests.{window, map_flags}

-- ---- The window

pub window_len : (offset : ℕ) (flags : List Bool) → length (window offset flags) ≡ min 256 (length flags - offset)
window_len offset flags = length-take 256 (drop offset flags) ∙ ap (min 256) (length-drop offset flags)

pub window_at : (offset : ℕ) (flags : List Bool) (j : ℕ) → j < length (window offset flags) → get_or flags (offset + j) false ≡ get_or (window offset flags) j false
window_at offset flags j low = sym (get_or-take 256 (drop offset flags) j false (omega (arith, low, window_len offset flags)) ∙ get_or-drop offset flags j false)

first_inside : (flags : List Bool) (at i : ℕ) → first_from at flags ≡ Some i → i < at + length flags
first_inside [] at i e = absurd cc
first_inside (true ∷ flags) at i e = let same : at ≡ i = cc in omega (arith, same)
first_inside (false ∷ flags) at i e = omega (arith, first_inside flags (suc at) i e)

pub first_low : (flags : List Bool) (i : ℕ) → first flags ≡ Some i → i < length flags
first_low flags i e = omega (arith, first_inside flags 0 i e)

-- ---- A byte, its highest flag first

low_flag : (byte : ℕ) (flag : Bool) → ((2 * byte + bool_byte flag) % 2 == 1) ≡ flag
low_flag byte true = let e : (2 * byte + 1) % 2 ≡ 1 = omega arith in rw e refl
low_flag byte false = let e : (2 * byte + 0) % 2 ≡ 0 = omega arith in rw e refl

half : (byte : ℕ) (flag : Bool) → (2 * byte + bool_byte flag) / 2 ≡ byte
half byte true = omega arith
half byte false = omega arith

step_at : (w : List Bool) (end k byte : ℕ) (flag : Bool) → k < end → flag ≡ get_or w (end - suc k) false → ((j : ℕ) → j < k → get_or (bits k byte) j false ≡ get_or w (end - k + j) false)
    → (j : ℕ) → j < suc k → get_or (bits (suc k) (2 * byte + bool_byte flag)) j false ≡ get_or w (end - suc k + j) false
step_at w end k byte flag lt is so_far zero low = low_flag byte flag ∙ is ∙ ap (λ (n : ℕ). get_or w n false) (omega arith)
step_at w end k byte flag lt is so_far (suc j) low =
    ap (λ (n : ℕ). get_or (bits k n) j false) (half byte flag) ∙ so_far j (omega (arith, low)) ∙ ap (λ (n : ℕ). get_or w n false) (omega (arith, lt))

pub next_flag : (w : List Bool) (end k byte : ℕ) (flag : Bool) → k < end → flag ≡ get_or w (end - (k + 1)) false → ((j : ℕ) → j < k → get_or (bits k byte) j false ≡ get_or w (end - k + j) false)
    → (j : ℕ) → j < k + 1 → get_or (bits (k + 1) (2 * byte + bool_byte flag)) j false ≡ get_or w (end - (k + 1) + j) false
next_flag w end k byte flag lt is so_far j low =
    let e : k + 1 ≡ suc k = omega arith in
    rw e (step_at w end k byte flag lt (rw (← e) is) so_far j (omega (arith, low)))

pub whole_byte : (w : List Bool) (end k byte : ℕ) → k ≡ 8 → ((j : ℕ) → j < k → get_or (bits k byte) j false ≡ get_or w (end + 8 - k + j) false)
    → (j : ℕ) → j < 8 → get_or (bits 8 byte) j false ≡ get_or w (end + j) false
whole_byte w end k byte e so_far j low =
    ap (λ (n : ℕ). get_or (bits n byte) j false) (sym e) ∙ so_far j (omega (arith, e, low)) ∙ ap (λ (n : ℕ). get_or w n false) (omega (arith, e))

pub next_small : (k byte : ℕ) (flag : Bool) → byte < 2 ^ k → 2 * byte + bool_byte flag < 2 ^ (k + 1)
next_small k byte true lt = let e : k + 1 ≡ suc k = omega arith in rw e (omega (arith, lt, pow-suc 2 k))
next_small k byte false lt = let e : k + 1 ≡ suc k = omega arith in rw e (omega (arith, lt, pow-suc 2 k))

-- ---- A byte more

pub flags_len : (map : List ℕ) → length (map_flags map) ≡ 8 * length map
flags_len [] = refl
flags_len (byte ∷ map) = length-append (bits 8 byte) (map_flags map) ∙ omega (arith, flags_len map)

pub next_byte : (w : List Bool) (map : List ℕ) (k byte : ℕ) → length map ≡ k → ((j : ℕ) → j < 8 * k → get_or (map_flags map) j false ≡ get_or w j false)
    → ((j : ℕ) → j < 8 → get_or (bits 8 byte) j false ≡ get_or w (8 * k + j) false)
    → (j : ℕ) → j < 8 * (k + 1) → get_or (map_flags (map ++ byte ∷ [])) j false ≡ get_or w j false
next_byte w map k byte len so_far here j low =
    ap (λ (t : List Bool). get_or t j false) (sym (flat_map_more (bits 8) [] map byte))
    ∙ ⊎_elim (λ lt. get_or_append_left (map_flags map) (bits 8 byte) false j (omega (arith, lt, len, flags_len map)) ∙ so_far j lt)
    (λ le. get_or-append_right (map_flags map) (bits 8 byte) (8 * k) j false (omega (arith, len, flags_len map)) le ∙ here (j - 8 * k) (omega (arith, low, le)) ∙ ap (λ (n : ℕ). get_or w n false) (omega (arith, le)))
    (cases_lt j (8 * k))

pub next_count : (map : List ℕ) (byte : ℕ) → byte < 256 → count (map_flags map) + count_ones byte ≡ count (map_flags (map ++ byte ∷ []))
next_count map byte lt =
    omega (arith, ones_bits 8 byte lt, sum_by-append (λ b. cond b 1 0) (map_flags map) (bits 8 byte), ap count (flat_map_more (bits 8) [] map byte))

pub few : (map : List ℕ) (byte : ℕ) → byte < 256 → count (map_flags map) + count_ones byte ≤ 8 * length map + 8
few map byte lt = omega (arith, ones_bits 8 byte lt, count_by-le-length (λ b. b) (bits 8 byte), count_by-le-length (λ b. b) (map_flags map), flags_len map)

-- ---- All bytes

pub count_same : (xs ys : List Bool) → ((j : ℕ) → get_or xs j false ≡ get_or ys j false) → count xs ≡ count ys
count_same [] ys same = sym (none_counted ys (λ j. sym (same j)))
count_same (x ∷ xs) [] same = none_counted (x ∷ xs) same
count_same (x ∷ xs) (y ∷ ys) same =
    sum_by-cons (λ b. cond b 1 0) x xs ∙ (let tail : count xs ≡ count ys = count_same xs ys (λ j. same (suc j)) in let head : x ≡ y = same zero in rw (head, tail) refl) ∙ sym (sum_by-cons (λ b. cond b 1 0) y ys)

pub whole : (w : List Bool) (map : List ℕ) (k : ℕ) → length map ≡ k → length w ≤ 8 * k → ((j : ℕ) → j < 8 * k → get_or (map_flags map) j false ≡ get_or w j false) → (j : ℕ) → get_or (map_flags map) j false ≡ get_or w j false
whole w map k len room so_far j =
    ⊎_elim (so_far j) (λ le. get_or_past (map_flags map) j false (omega (arith, le, len, flags_len map)) ∙ sym (get_or_past w j false (omega (arith, room, le)))) (cases_lt j (8 * k))
