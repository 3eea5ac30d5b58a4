-- What a writer stands for.
use Rattle.std.proofs.Common.{◌≡◌, ℕ, zero, suc, ◌+◌, ◌-◌, ◌*◌, ◌<◌, ◌≤◌, min, Bool, true, false, List, [], ◌∷◌, ◌++◌, length, take, drop, get_or, Some, None, refl, sym, ap, ◌∙◌, ⊎_elim, arith, eq-eqb}
use Rattle.std.specs.List.{slice_range}
use Rattle.std.proofs.lemmas.Bool.{cases_lt}
use Rattle.std.proofs.lemmas.List.{get_or-take, get_or-drop, length-take-le, length-drop, ext_get_or, length-replicate, get_or-replicate, drop_all}
use Rattle.std.proofs.lemmas.List.Folds.{drop_split}
use Rattle.std.proofs.lemmas.Grind.{div_ceil_times}
use Rattle.std.proofs.Math.Nat.{mul-le-mul_right}
use Rattle.stream_blocks.specs.Sets.{first_from}
use Rattle.image_store.specs.Images.{blocks_in, len_of, joined}
use Rattle.image_store.specs.Writing.{Progress, blocks_of}
use Rattle.image_store.specs.Standing.{IsHeld, NewStands, WholeStands}

none_from : (flags : List Bool) (at i : ℕ) → first_from at flags ≡ None → get_or flags i false ≡ false
none_from [] at i e = refl
none_from (true ∷ flags) at i e = absurd cc
none_from (false ∷ flags) at zero e = refl
none_from (false ∷ flags) at (suc i) e = none_from flags (suc at) i e

pub new_stands : NewStands
new_stands file size block digest = record {
  size = length-replicate size 0;
  flags = length-replicate (blocks_in size block) true;
  held = λ i low there. absurd (let e = sym (get_or-replicate (blocks_in size block) i true false low) ∙ there in cc);
  missing = λ i lost. refl;
}

-- the range of a block that is held has its payload
range_is : (bytes payload : List ℕ) (at : ℕ) → at + length payload ≤ length bytes → ((j : ℕ) → j < length payload → get_or bytes (at + j) 0 ≡ get_or payload j 0) → slice_range bytes at (at + length payload) ≡ payload
range_is bytes payload at inside place =
    let n : at + length payload - at ≡ length payload = omega arith in
    let len : length (take (length payload) (drop at bytes)) ≡ length payload = length-take-le (length payload) (drop at bytes) (omega (arith, inside, length-drop at bytes)) in
    ap (λ (k : ℕ). take k (drop at bytes)) n
    ∙ ext_get_or 0 (take (length payload) (drop at bytes)) payload len (λ j low. get_or-take (length payload) (drop at bytes) j 0 (omega (arith, low, len)) ∙ get_or-drop at bytes j 0 ∙ place j (omega (arith, low, len)))

-- a block, and what is behind it, is what is left of the image
next_block : (bytes payload : List ℕ) (size block i : ℕ) → length bytes ≡ size → i * block < size → length payload ≡ min block (size - i * block)
    → ((j : ℕ) → j < length payload → get_or bytes (i * block + j) 0 ≡ get_or payload j 0) → payload ++ drop (suc i * block) bytes ≡ drop (i * block) bytes
next_block bytes payload size block i all low len place =
    let at : ℕ = i * block in
    let inside : i * block + length payload ≤ length bytes = omega (arith, all, low, len) in
    let next : suc i * block ≡ i * block + block = omega arith in
    let rest : drop (suc i * block) bytes ≡ drop (i * block + length payload) bytes =
    ⊎_elim (λ short. drop_all (suc i * block) bytes (omega (arith, all, next, len, short)) ∙ sym (drop_all (i * block + length payload) bytes (omega (arith, all, len, short))))
    (λ full. ap (λ (n : ℕ). drop n bytes) (omega (arith, next, len, full))) (cases_lt (size - i * block) block) in
    ap (λ (t : List ℕ). payload ++ t) rest ∙ ap (λ (t : List ℕ). t ++ drop (i * block + length payload) bytes) (sym (range_is bytes payload (i * block) inside place))
    ∙ sym (drop_split bytes (i * block) (i * block + length payload) (omega arith))

pub block_low : (size block i : ℕ) → 0 < block → i < blocks_in size block → i * block < size
block_low size block i some low =
    omega (arith, (div_ceil_times size block some).1, mul-le-mul_right {m = suc i} {n = blocks_in size block} block (omega (arith, low)))

join_is : (bs : List (ℕ × List ℕ)) (w : Progress) (bytes : List ℕ) → 0 < w.block → length bytes ≡ w.size → ((i : ℕ) → i < blocks_of w → IsHeld bs w bytes i)
    → (k i : ℕ) → i + k ≡ blocks_of w → joined bs w.size w.block i k ≡ Some (drop (i * w.block) bytes)
join_is bs w bytes some all held zero i e =
    let end : i ≡ blocks_of w = omega (arith, e) in
    ap (λ (t : List ℕ). Some t) (sym (drop_all (i * w.block) bytes (rw end (omega (arith, all, (div_ceil_times w.size w.block some).0)))))
join_is bs w bytes some all held (suc k) i e =
    let low : i < blocks_of w = omega (arith, e) in
    let h = held i low in
    let rest = join_is bs w bytes some all held k (suc i) (omega (arith, e)) in
    rw (h.first, rest, eq-eqb (length h.payload) (len_of w.size w.block i) h.len)
    (ap (λ (t : List ℕ). Some t) (next_block bytes h.payload w.size w.block i all (block_low w.size w.block i some low) h.len h.place))

pub whole_stands : WholeStands
whole_stands bs w bytes some stands none =
    join_is bs w bytes some stands.size (λ i low. stands.held i low (none_from w.missing 0 i none)) (blocks_of w) 0 (omega arith)
    ∙ (let start : 0 * w.block ≡ 0 = omega arith in ap (λ (n : ℕ). Some (drop n bytes)) start)
