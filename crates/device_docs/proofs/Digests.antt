-- Decoding into 32 bytes finds just the texts that decode to 32 bytes.
use Rattle.std.proofs.Common.{◌≡◌, ◌≢◌, ℕ, ◌*◌, ◌/◌, ◌<◌, nat_lt, Bool, true, false, cond, List, length, ◌++◌, drop, Option, Some, None, Result, Ok, Err, refl, ap, sym, ◌∙◌, subst, OnOk, arith, length-append, append-nil, ltb-true, ne_eqb}
use Rattle.std.proofs.lemmas.List.{drop_all}
use Rattle.std.specs.Result.{result_ok}
use Rattle.base64.specs.declared.decode.DecodeError.{DecodeError}
use Rattle.base64.specs.declared.decode.DecodeSliceError.{DecodeSliceError}
use Rattle.base64.specs.declared.decode.DecodeSliceError.TheVariants.{OutputSliceTooSmall}
use Rattle.base64.specs.Decode.{IsWrittenOver, or_else, or_error, bytes_fit, decode_outcome, groups_bytes, groups_error, groups_before_last, lone_error, suffix_error, suffix_bytes}
use Rattle.base64.specs.Engines.{standard}
use Rattle.base64.specs.GeneralPurpose.{decode_slice_of, decoded_bytes_of}
use Rattle.base64.proofs.Decoding.{length-groups_bytes}
use Rattle.device_docs.specs.Jobs.{of_32, digest_of}

-- what decoding into 32 bytes answers: by its errors, whether it has no room for the first groups, and its bytes
abbrev into_32 : Option DecodeError → Option DecodeError → Bool → List ℕ → Result ℕ DecodeSliceError
into_32 lone others short bytes = or_error lone (cond short (Err OutputSliceTooSmall) (or_error others (bytes_fit (length bytes) 32)))

abbrev decoded : Option DecodeError → Option DecodeError → List ℕ → Option (List ℕ)
decoded lone others bytes = of_32 (result_ok (decode_outcome (or_else lone others) bytes))

one_fit : (b : Bool) (n : ℕ) → ◌≡◌ {A = Result ℕ DecodeSliceError} (cond b (Err OutputSliceTooSmall) (Ok n)) (Ok 32) → n ≡ 32
one_fit true n e = cc
one_fit false n e = cc

not_32 : (bytes : List ℕ) → length bytes ≢ 32 → of_32 (Some bytes) ≡ None
not_32 bytes h = rw (ne_eqb (length bytes) 32 h) refl

has_32 : (bytes : List ℕ) → length bytes ≡ 32 → of_32 (Some bytes) ≡ Some bytes
has_32 bytes e = rw e refl

fits : (lone others : Option DecodeError) (short : Bool) (bytes : List ℕ) → into_32 lone others short bytes ≡ Ok 32 → (length bytes ≡ 32) × (decoded lone others bytes ≡ Some bytes)
fits None None false bytes e = let n = one_fit (nat_lt 32 (length bytes)) (length bytes) e in (n, has_32 bytes n)
fits None None true bytes e = cc
fits None (Some o) false bytes e = cc
fits None (Some o) true bytes e = cc
fits (Some l) others short bytes e = cc

refused : (lone others : Option DecodeError) (short : Bool) (bytes : List ℕ) → (into_32 lone others short bytes ≡ Ok 32 → ⊥) → (short ≡ true → 32 < length bytes) → decoded lone others bytes ≡ None
refused None None false bytes none long = not_32 bytes (λ e. none (rw e refl))
refused None None true bytes none long = not_32 bytes (λ e. omega (arith, long refl))
refused None (Some o) short bytes none long = refl
refused (Some l) others short bytes none long = refl

-- of the first groups each has three bytes
groups_long : (dec s rest : List ℕ) (q : ℕ) → nat_lt (32 / 3) q ≡ true → 32 < length (groups_bytes dec s q ++ rest)
groups_long dec s rest q e = omega (arith, length-append (groups_bytes dec s q) rest, length-groups_bytes dec s q, ltb-true (32 / 3) q e)

all_dropped : (bytes old : List ℕ) → length bytes ≡ 32 → length old ≡ 32 → bytes ++ drop (length bytes) old ≡ bytes
all_dropped bytes old e f = ap (λ rest. bytes ++ rest) (drop_all (length bytes) old (omega arith)) ∙ append-nil bytes

abbrev others_of : List ℕ → Option DecodeError
others_of s = or_else (groups_error standard.decode_table s (groups_before_last (length s))) (suffix_error standard.decode_table 61 false standard.config.decode_padding_mode (4 * groups_before_last (length s)) s)

pub digest_is : (s old new : List ℕ) (r : Result ℕ DecodeSliceError) (n : ℕ) → length old ≡ 32 → r ≡ decode_slice_of standard s (length old) → r ≡ Ok n → n ≡ 32 → OnOk r (IsWrittenOver (decoded_bytes_of standard s) old new) → Some new ≡ digest_of s
unfolding digest_of
digest_is s old new r n room e ok is written =
    let found = fits (lone_error standard.decode_table 61 s) (others_of s) (nat_lt (32 / 3) (groups_before_last (length s))) (decoded_bytes_of standard s) (ap (decode_slice_of standard s) (sym room) ∙ sym e ∙ ok ∙ ap (λ (k : ℕ). Ok k) is) in
    let is_new : new ≡ decoded_bytes_of standard s ++ drop (length (decoded_bytes_of standard s)) old = subst (λ (x : Result ℕ DecodeSliceError). OnOk x (IsWrittenOver (decoded_bytes_of standard s) old new)) ok written in
    ap (λ (bytes : List ℕ). Some bytes) (is_new ∙ all_dropped (decoded_bytes_of standard s) old found.0 room) ∙ sym found.1

pub no_digest : (s old : List ℕ) (r : Result ℕ DecodeSliceError) → length old ≡ 32 → r ≡ decode_slice_of standard s (length old) → (r ≡ Ok 32 → ⊥) → None ≡ digest_of s
unfolding digest_of
no_digest s old r room e none =
    sym (refused (lone_error standard.decode_table 61 s) (others_of s) (nat_lt (32 / 3) (groups_before_last (length s))) (decoded_bytes_of standard s) (λ o. none (e ∙ ap (decode_slice_of standard s) room ∙ o)) (groups_long standard.decode_table s (suffix_bytes standard.decode_table 61 (4 * groups_before_last (length s)) s) (groups_before_last (length s))))
