-- What is written for a job is short, and is read back.
use Rattle.std.proofs.Common.{◌≡◌, ℕ, ◌≤◌, nat_le, ◌&&◌, Bool, true, false, List, length, replicate, Option, Some, None, Ok, IsUtf8, IfSome, refl, ap, ◌∙◌, arith, length-append, Bor}
use Rattle.std.proofs.lemmas.Bool.{and_parts, leb-true}
use Rattle.std.proofs.lemmas.List.{length-replicate}
use Rattle.std.specs.Option.{option_copied}
use Rattle.base64.specs.Engines.{standard}
use Rattle.base64.specs.GeneralPurpose.{encode_of}
use Rattle.base64.specs.Rfc4648.{encode_symbols, padding_len}
use Rattle.base64.proofs.RoundTrip.{length-encode_symbols}
use Rattle.serde_json.specs.Data.{depth}
use Rattle.serde_json.specs.Read.{read, max_depth}
use Rattle.serde_json.specs.Written.{has_float}
use Rattle.thing_topics.specs.Classes.{is_job, is_stream, has_length}
use Rattle.device_docs.specs.declared.jobs.Job.{Job}
use Rattle.device_docs.specs.Executions.{document_value, document_text}
use Rattle.device_docs.specs.Jobs.{is_nameable, said, said_in, said_by, digest_of, is_path, is_size, is_file}
use Rattle.device_docs.specs.Members.{document_of}
use Rattle.device_docs.proofs.DigestTexts.{digest_found}
use Rattle.device_docs.proofs.Documents.{document_is}
use Rattle.device_docs.proofs.Lengths.{text_short}

-- a document can name the job
abbrev pub IsNameable : Job → Type 0
IsNameable j = is_nameable j ≡ true

record Parts (j : Job) : Type 0 where
  job : is_job j.job ≡ true
  stream : is_stream j.stream ≡ true
  path : is_path j.path ≡ true
  size : is_size (Some j.size) ≡ true
  file : is_file (Some j.file) ≡ true

parts_of : (j : Job) → IsNameable j → Parts j
parts_of j h =
    let d = and_parts (is_job j.job && is_stream j.stream && is_path j.path && is_size (Some j.size)) (is_file (Some j.file)) h in
    let c = and_parts (is_job j.job && is_stream j.stream && is_path j.path) (is_size (Some j.size)) d.0 in
    let b = and_parts (is_job j.job && is_stream j.stream) (is_path j.path) c.0 in
    let a = and_parts (is_job j.job) (is_stream j.stream) b.0 in
    record { job = a.0; stream = a.1; path = b.1; size = c.1; file = d.1 }

-- the digest is read back
abbrev pub IsBack : Job → Type 0
IsBack j = digest_of (encode_of standard j.digest) ≡ Some j.digest

pub has_no_float : (job : Option Job) → has_float (document_value job) ≡ false
has_no_float None = refl
has_no_float (Some j) = refl

pub is_flat : (job : Option Job) → depth (document_value job) ≤ max_depth
is_flat None = omega arith
is_flat (Some j) = omega arith

value_says : (j : Job) → IsNameable j → IsBack j → said_in (document_value (Some j)) ≡ Ok (Some j)
value_says j h back = let p = parts_of j h in rw (p.job, p.stream, p.path, p.size, p.file, back) refl

object_says : (job : Option Job) → IfSome job IsNameable → IfSome job IsBack → said_in (document_value job) ≡ Ok job
object_says None h back = refl
object_says (Some j) h back = value_says j h back

document_has : (job : Option Job) (text : List ℕ) → IsUtf8 text → read text ≡ Some (document_value job) → document_of text ≡ Some (document_value job)
document_has None text utf8 e = document_is text _ (utf8, e) refl
document_has (Some j) text utf8 e = document_is text _ (utf8, e) refl

pub job_says : (job : Option Job) (text : List ℕ) → IfSome job IsNameable → IfSome job IsBack → IsUtf8 text → read text ≡ Some (document_value job) → said text ≡ Ok job
unfolding said
job_says job text h back utf8 e = ap said_by (document_has job text utf8 e) ∙ object_says job h back

-- ---- Lengths

encoding_short : (digest : List ℕ) → length digest ≡ 32 → length (encode_of standard digest) ≤ 48
encoding_short digest e =
    omega (
      arith,
      e,
      length-append (encode_symbols standard.encode_table digest) (replicate (padding_len (length digest)) 61),
      length-encode_symbols standard.encode_table digest,
      length-replicate {A = ℕ} (padding_len (length digest)) 61,
    )

within : (most : ℕ) (text : List ℕ) (rest : Bool) → (has_length most text && rest) ≡ true → length text ≤ most
within most text rest e =
    let both = and_parts (has_length most text) rest e in
    leb-true (length text) most (and_parts (nat_le 1 (length text)) (nat_le (length text) most) both.0).1

job_short : (text : List ℕ) → is_job text ≡ true → length text ≤ 64
unfolding is_job
job_short text e = within 64 text _ e

stream_short : (text : List ℕ) → is_stream text ≡ true → length text ≤ 128
unfolding is_stream
stream_short text e = within 128 text _ e

path_short : (text : List ℕ) → is_path text ≡ true → length text ≤ 1024
path_short text e = leb-true (length text) 1024 (and_parts (nat_le 1 (length text)) (nat_le (length text) 1024) e).1

pub document_short : (job : Option Job) → IfSome job IsNameable → IfSome job IsBack → length (document_text job) ≤ 131072
document_short None h back = omega arith
document_short (Some j) h back =
    let p = parts_of j h in
    omega (
      arith,
      text_short (document_value (Some j)),
      job_short j.job p.job,
      stream_short j.stream p.stream,
      path_short j.path p.path,
      encoding_short j.digest (digest_found (encode_of standard j.digest) j.digest back),
    )

-- ---- What the code knows of a borrowed job

pub of_borrowed : (P : Job → Type 0) (job : Option (Bor Job)) → IfSome job (λ j. P j.now) → IfSome (option_copied job) P
of_borrowed P None h = h
of_borrowed P (Some j) h = h
