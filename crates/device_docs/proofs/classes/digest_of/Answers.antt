use Rattle.std.proofs.Common.{ℕ, List, length, ap, ◌∙◌}
use Rattle.device_docs.specs.Jobs.{digest_of}
use Rattle.device_docs.proofs.Digests.{digest_is, no_digest}
use Rattle.device_docs.proofs.classes.digest_of.Goals as goal

pub returns-in-Ok-eq32 : goal.returns-in-Ok-eq32
returns-in-Ok-eq32 c =
    digest_is c.as_bytes.result.now c.as_mut_slice.result.now _ c.decode_slice.result _ (ap (λ (bytes : List ℕ). length bytes) c.as_mut_slice.ensures.value) c.decode_slice.ensures.value c.in-Ok-eq32.is c.in-Ok-eq32.field-0-test c.decode_slice.ensures.written ∙ ap digest_of c.as_bytes.ensures.value

pub returns-in_default : goal.returns-in_default
returns-in_default c =
    no_digest c.as_bytes.result.now c.as_mut_slice.result.now c.decode_slice.result (ap (λ (bytes : List ℕ). length bytes) c.as_mut_slice.ensures.value) c.decode_slice.ensures.value (λ e. c.in_default.field-0-test.1 (let f = c.in_default.is in cc)) ∙ ap digest_of c.as_bytes.ensures.value

pub returns-in_default-2 : goal.returns-in_default-2
returns-in_default-2 c =
    no_digest c.as_bytes.result.now c.as_mut_slice.result.now c.decode_slice.result (ap (λ (bytes : List ℕ). length bytes) c.as_mut_slice.ensures.value) c.decode_slice.ensures.value (λ e. let f = c.in_default.is in cc) ∙ ap digest_of c.as_bytes.ensures.value
