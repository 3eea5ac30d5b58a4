-- What a reader learns of a text, as what the text is.
use Rattle.std.proofs.Common.{◌≡◌, ℕ, List, Bool, true, false, cond, Option, Some, None, IsUtf8, refl, ap, ◌∙◌}
use Rattle.std.proofs.lemmas.Str.{is_utf8-from_IsUtf8, IsUtf8-from_is_utf8}
use Rattle.std.specs.Prelude.{is_some}
use Rattle.std.specs.Option.{option_and_then}
use Rattle.std.specs.Str.{is_utf8}
use Rattle.serde_json.specs.Data.{Data, null, boolean, number, string, array, object}
use Rattle.serde_json.specs.Find.{as_object}
use Rattle.serde_json.specs.Read.{read}
use Rattle.device_docs.specs.Members.{value_of, object_of, document_of}

value_is : (text : List ℕ) (d : Data) → IsUtf8 text → read text ≡ Some d → value_of text ≡ Some d
unfolding value_of
value_is text d utf8 e = rw (is_utf8-from_IsUtf8 text utf8) e

none_by : (b : Bool) (o : Option Data) → (b ≡ true → o ≡ None) → cond b o None ≡ None
none_by true o h = h refl
none_by false o h = refl

no_value : (text : List ℕ) → (IsUtf8 text → read text ≡ None) → value_of text ≡ None
unfolding value_of
no_value text h = none_by (is_utf8 text) (read text) (λ e. h (IsUtf8-from_is_utf8 text e))

object_is : (d : Data) → is_some (as_object d) ≡ true → object_of d ≡ Some d
object_is null e = cc
object_is (boolean b) e = cc
object_is (number n) e = cc
object_is (string s) e = cc
object_is (array ds) e = cc
object_is (object ms) e = refl

no_object : (d : Data) → is_some (as_object d) ≡ false → object_of d ≡ None
no_object null e = refl
no_object (boolean b) e = refl
no_object (number n) e = refl
no_object (string s) e = refl
no_object (array ds) e = refl
no_object (object ms) e = cc

pub document_is : (text : List ℕ) (d : Data) → IsUtf8 text × (read text ≡ Some d) → is_some (as_object d) ≡ true → document_of text ≡ Some d
document_is text d h e = ap (option_and_then object_of) (value_is text d h.0 h.1) ∙ object_is d e

pub not_an_object : (text : List ℕ) (d : Data) → IsUtf8 text × (read text ≡ Some d) → is_some (as_object d) ≡ false → document_of text ≡ None
not_an_object text d h e = ap (option_and_then object_of) (value_is text d h.0 h.1) ∙ no_object d e

pub no_document : (text : List ℕ) → (IsUtf8 text → read text ≡ None) → document_of text ≡ None
no_document text h = ap (option_and_then object_of) (no_value text h)
