-- Each reading leaves fewer bytes than there were.
use Rattle.std.proofs.Common.{◌≡◌, ℕ, ◌/◌, ◌%◌, ◌≤◌, Bool, true, false, cond, List, [], ◌∷◌, length, take, drop, Option, Some, None, Result, Ok, Err, refl, arith}
use Rattle.std.specs.Prelude.{◌==◌, nat_lt}
use Rattle.std.specs.Int.{from_be_bytes, Width, w16, w32, w64, byte_len}
use Rattle.std.proofs.lemmas.List.{length-drop}
use Rattle.stream_blocks.specs.declared.fault.Stop.{Stop}
use Rattle.stream_blocks.specs.Reading.{byte_at, number_at, argument_at, head_at, is_content, counted, counted_behind, piece_at}

-- What is read leaves at most so many bytes.
abbrev pub Within : {A : Type 0} → ℕ → Option (A × List ℕ) → Type 0
Within n None = Unit {0}
Within n (Some x) = length x.1 ≤ n

abbrev pub Leaves : {A : Type 0} → ℕ → Result (A × List ℕ) Stop → Type 0
Leaves n (Err stop) = Unit {0}
Leaves n (Ok x) = length x.1 ≤ n

abbrev pub Ends : ℕ → Result (List ℕ) Stop → Type 0
Ends n (Err stop) = Unit {0}
Ends n (Ok rest) = length rest ≤ n

abbrev pub Has : ℕ → Option (List ℕ) → Type 0
Has n None = Unit {0}
Has n (Some rest) = length rest ≤ n

within_cond : {A : Type 0} (n : ℕ) (b : Bool) (x y : Option (A × List ℕ)) → Within n x → Within n y → Within n (cond b x y)
within_cond n true x y p q = p
within_cond n false x y p q = q

number_within : (w : Width) (bytes : List ℕ) → Within (length bytes) (number_at w bytes)
number_within w bytes = within_cond (length bytes) (nat_lt (length bytes) (byte_len w)) None (Some (from_be_bytes w (take (byte_len w) bytes), drop (byte_len w) bytes)) tt (omega (arith, length-drop (byte_len w) bytes))

byte_within : (bytes : List ℕ) → Within (length bytes) (byte_at bytes)
unfolding byte_at
byte_within [] = tt
byte_within (b ∷ bytes) = omega arith

argument_within : (info : ℕ) (bytes : List ℕ) → Within (length bytes) (argument_at info bytes)
unfolding argument_at
argument_within info bytes =
    within_cond (length bytes) (nat_lt info 24) (Some (info, bytes)) _ (omega arith)
    (within_cond (length bytes) (info == 24) (byte_at bytes) _ (byte_within bytes)
    (within_cond (length bytes) (info == 25) (number_at w16 bytes) _ (number_within w16 bytes)
    (within_cond (length bytes) (info == 26) (number_at w32 bytes) _ (number_within w32 bytes)
    (within_cond (length bytes) (info == 27) (number_at w64 bytes) None (number_within w64 bytes) tt))))

pub head_within : (major b : ℕ) (bytes : List ℕ) → Within (length bytes) (head_at major (b ∷ bytes))
unfolding head_at
head_within major b bytes = within_cond (length bytes) (b / 32 == major) (argument_at (b % 32) bytes) None (argument_within (b % 32) bytes) tt

counted_within : (major n : ℕ) (bytes : List ℕ) → Within (length bytes) (counted major n bytes)
unfolding counted
counted_within major n bytes =
    within_cond (length bytes) (nat_lt (length bytes) n) None _ tt
    (within_cond (length bytes) (is_content major (take n bytes)) (Some (take n bytes, drop n bytes)) None (omega (arith, length-drop n bytes)) tt)

pub within_more : {A : Type 0} (k n : ℕ) (x : Option (A × List ℕ)) → k ≤ n → Within k x → Within n x
within_more k n None le p = tt
within_more k n (Some x) le p = omega (arith, le, p)

behind_within : (major k : ℕ) (head : Option (ℕ × List ℕ)) → Within k head → Within k (counted_behind major head)
behind_within major k None p = tt
behind_within major k (Some head) p = within_more (length head.1) k (counted major head.0 head.1) p (counted_within major head.0 head.1)

pub piece_within : (major b : ℕ) (bytes : List ℕ) → Within (length bytes) (piece_at major (b ∷ bytes))
unfolding piece_at
piece_within major b bytes = behind_within major (length bytes) (head_at major (b ∷ bytes)) (head_within major b bytes)

pub piece_none : (major : ℕ) → piece_at major [] ≡ None
unfolding piece_at head_at
piece_none major = refl
