-- The blocks that a bitmap names, found flag by flag.
use Rattle.std.proofs.Common.{◌≡◌, ℕ, suc, ◌+◌, ◌-◌, ◌/◌, ◌%◌, ◌<◌, ◌≤◌, Bool, true, false, List, [], ◌∷◌, ◌++◌, length, take, filter, refl, sym, ap, ◌∙◌, arith, append_assoc, length-append}
use Rattle.std.specs.Prelude.{◌==◌, nat_lt}
use Rattle.std.proofs.lemmas.Bool.{lt-ltb, le-ltb}
use Rattle.stream_blocks.specs.Sets.{bits}
use Rattle.thing_service.specs.Blocks.{named, more}

-- a block that exists, while there is room for it
pub more_taken : (number blocks at : ℕ) (found : List ℕ) (flags : List Bool) → at < blocks → length found < number → more number blocks at found (true ∷ flags) ≡ more number blocks (at + 1) (found ++ at ∷ []) flags
more_taken number blocks at found flags lt room =
    let one : number - length found ≡ suc (number - length (found ++ at ∷ [])) = omega (arith, room, length-append found (at ∷ [])) in
    let next : suc at ≡ at + 1 = omega arith in
    rw (lt-ltb at blocks lt, one, next) (sym (append_assoc found (at ∷ []) _))

filtered_none : (n blocks at : ℕ) (flags : List Bool) → take 0 (filter (λ i. nat_lt i blocks) (named at flags)) ≡ []
filtered_none n blocks at flags = refl

-- there is no room for another one
pub more_full : (number blocks at : ℕ) (found : List ℕ) (flag : Bool) (flags : List Bool) → number ≤ length found → more number blocks at found (flag ∷ flags) ≡ more number blocks (at + 1) found flags
more_full number blocks at found flag flags full =
    let none : number - length found ≡ 0 = omega (arith, full) in
    rw none refl

-- a block that doesn't exist
pub more_beyond : (number blocks at : ℕ) (found : List ℕ) (flags : List Bool) → blocks ≤ at → more number blocks at found (true ∷ flags) ≡ more number blocks (at + 1) found flags
more_beyond number blocks at found flags le = let next : suc at ≡ at + 1 = omega arith in rw (le-ltb at blocks le, next) refl

-- a flag that isn't set
pub more_unset : (number blocks at : ℕ) (found : List ℕ) (flags : List Bool) → more number blocks at found (false ∷ flags) ≡ more number blocks (at + 1) found flags
more_unset number blocks at found flags = let next : suc at ≡ at + 1 = omega arith in rw next refl

-- the flags of a byte and the next ones
pub next_flag : (k byte : ℕ) (rest : List Bool) → bits (suc k) byte ++ rest ≡ (byte % 2 == 1) ∷ (bits k (byte / 2) ++ rest)
next_flag k byte rest = refl

-- the same from a place that is the same
moved : (number blocks at place : ℕ) (found : List ℕ) (flags : List Bool) → at ≡ place → more number blocks at found flags ≡ more number blocks place found flags
moved number blocks at place found flags e = ap (λ (k : ℕ). more number blocks k found flags) e

pub bits_begin : (number blocks at byte : ℕ) (found : List ℕ) (rest : List Bool) → more number blocks (at + 0) found (bits 8 byte ++ rest) ≡ more number blocks at found (bits 8 byte ++ rest)
bits_begin number blocks at byte found rest = moved number blocks (at + 0) at found (bits 8 byte ++ rest) (omega arith)

-- one bit of a byte, by what it names
pub bit_passed : (number blocks at bit left : ℕ) (found : List ℕ) (rest : List Bool) → bit < 8 → more number blocks (at + bit) found (bits (8 - bit) left ++ rest) ≡ more number blocks (at + bit) found ((left % 2 == 1) ∷ (bits (8 - (bit + 1)) (left / 2) ++ rest))
bit_passed number blocks at bit left found rest lt =
    let e : 8 - bit ≡ suc (8 - (bit + 1)) = omega (arith, lt) in
    ap (λ (k : ℕ). more number blocks (at + bit) found (bits k left ++ rest)) e

pub bits_done : (number blocks at bit left : ℕ) (found : List ℕ) (rest : List Bool) → 8 ≤ bit → bit ≤ 8 → more number blocks (at + 8) found rest ≡ more number blocks (at + bit) found (bits (8 - bit) left ++ rest)
bits_done number blocks at bit left found rest le most =
    let b : 8 ≡ bit = omega (arith, le, most) in
    let e : 0 ≡ 8 - bit = omega (arith, le) in
    ap (λ (k : ℕ). more number blocks (at + k) found rest) b ∙ ap (λ (k : ℕ). more number blocks (at + bit) found (bits k left ++ rest)) e

pub next_place : (at bit : ℕ) → at + (bit + 1) ≡ at + bit + 1
next_place at bit = omega arith
