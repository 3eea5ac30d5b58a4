-- A digest is read from just the Base64 of 32 bytes.
use Rattle.std.proofs.Common.{◌≡◌, ℕ, ◌==◌, List, length, Option, Some, None, Result, Ok, Err, refl, sym, ap, ◌∙◌, eqb-true}
use Rattle.std.proofs.lemmas.Option.{cond_some, same_Some}
use Rattle.std.specs.Result.{result_ok}
use Rattle.base64.specs.declared.decode.DecodeError.{DecodeError}
use Rattle.base64.specs.Engines.{standard}
use Rattle.base64.specs.GeneralPurpose.{encode_of, decode_of, IsBytes}
use Rattle.base64.proofs.EngineFacts.{decode_of-encode_of, decode_of_iff}
use Rattle.device_docs.specs.Jobs.{of_32, digest_of}
use Rattle.device_docs.specs.Laws.{DigestsAreBase64}

has_32 : (bytes : List ℕ) → length bytes ≡ 32 → of_32 (Some bytes) ≡ Some bytes
has_32 bytes e = rw e refl

pub digest_back : (digest : List ℕ) → length digest ≡ 32 → IsBytes digest → digest_of (encode_of standard digest) ≡ Some digest
unfolding digest_of
digest_back digest len bytes = ap (λ r. of_32 (result_ok r)) (decode_of-encode_of standard digest refl bytes) ∙ has_32 digest len

found_32 : (o : Option (List ℕ)) (bytes : List ℕ) → of_32 o ≡ Some bytes → (o ≡ Some bytes) × (length bytes ≡ 32)
found_32 None bytes e = cc
found_32 (Some found) bytes e =
    let h = cond_some (length found == 32) found bytes e in
    (ap (λ (b : List ℕ). Some b) h.1, ap length (sym h.1) ∙ eqb-true (length found) 32 h.0)

pub digest_found : (text bytes : List ℕ) → digest_of text ≡ Some bytes → length bytes ≡ 32
unfolding digest_of
digest_found text bytes e = (found_32 (result_ok (decode_of standard text)) bytes e).1

ok_found : (r : Result (List ℕ) DecodeError) (bytes : List ℕ) → result_ok r ≡ Some bytes → r ≡ Ok bytes
ok_found (Ok found) bytes e = ap (λ (b : List ℕ). Ok b) (same_Some found bytes e)
ok_found (Err e) bytes h = cc

pub digests_are : DigestsAreBase64
unfolding digest_of
digests_are text bytes is_text is_bytes =
    let decodes = decode_of_iff standard text bytes (refl, refl) is_text is_bytes in (
      λ e. let h = found_32 (result_ok (decode_of standard text)) bytes e in (decodes.0 (ok_found (decode_of standard text) bytes h.0), h.1),
      λ h. ap (λ r. of_32 (result_ok r)) (decodes.1 h.0) ∙ has_32 bytes h.1,
    )
