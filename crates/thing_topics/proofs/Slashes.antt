-- Names of each class hold no `/`.
use Rattle.std.proofs.Common.{◌≡◌, ℕ, zero, suc, List, [], ◌∷◌, Bool, true, false, refl, sym, ap, ◌∙◌, arith}
use Rattle.std.specs.Prelude.{◌==◌, not, codes}
use Rattle.std.specs.List.{list_all}
use Rattle.std.proofs.lemmas.Bool.{and_parts}
use Rattle.thing_topics.specs.Classes.{is_thing, is_shadow_name, is_job, is_stream, is_name_byte, is_plain_byte, has_length}
use Rattle.thing_topics.proofs.Cutting.{HasNoSlash}

no_slash : (test : ℕ → Bool) → test 47 ≡ false → (text : List ℕ) → list_all test text ≡ true → HasNoSlash text
no_slash test fails [] all i within here = omega arith
no_slash test fails (b ∷ text) all zero within here = cc (sym (and_parts (test b) (list_all test text) all).0 ∙ ap test here ∙ fails)
no_slash test fails (b ∷ text) all (suc i) within here = no_slash test fails text (and_parts (test b) (list_all test text) all).1 i (omega arith) here

pub thing_no_slash : (text : List ℕ) → is_thing text ≡ true → HasNoSlash text
unfolding is_thing
thing_no_slash text class = no_slash is_name_byte refl text (and_parts (has_length 128 text) (list_all is_name_byte text) class).1

pub name_no_slash : (text : List ℕ) → is_shadow_name text ≡ true → HasNoSlash text
unfolding is_shadow_name
name_no_slash text class = no_slash is_name_byte refl text (and_parts (has_length 64 text) (list_all is_name_byte text) class).1

pub job_no_slash : (text : List ℕ) → is_job text ≡ true → HasNoSlash text
unfolding is_job
job_no_slash text class = no_slash is_plain_byte refl text (and_parts (has_length 64 text) (list_all is_plain_byte text) class).1

pub stream_no_slash : (text : List ℕ) → is_stream text ≡ true → HasNoSlash text
unfolding is_stream
stream_no_slash text class = no_slash is_plain_byte refl text (and_parts (has_length 128 text) (list_all is_plain_byte text) class).1

pub next_no_slash : HasNoSlash (codes "$next")
next_no_slash = no_slash (λ b. not (b == 47)) refl (codes "$next") refl
