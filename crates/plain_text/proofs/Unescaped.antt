-- Steps of the loop that reads a word byte by byte.
use Rattle.std.proofs.Common.{◌≡◌, ℕ, List, [], ◌∷◌, ◌++◌, length, Option, Some, None, true, refl, sym, ap, ◌∙◌, append_assoc, append-nil, arith}
use Rattle.std.specs.Prelude.{◌==◌}
use Rattle.std.proofs.lemmas.Bool.{eqb-true}
use Rattle.plain_text.specs.Escapes.{bytes_of, bytes_in, onto}

abbrev pub behind : List ℕ → Option (List ℕ) → Option (List ℕ)
behind front None = None
behind front (Some rest) = Some (front ++ rest)

behind_onto : (front : List ℕ) (b : ℕ) (rest : Option (List ℕ)) → behind (front ++ b ∷ []) rest ≡ behind front (onto b rest)
behind_onto front b None = refl
behind_onto front b (Some rest) = ap Some (append_assoc front (b ∷ []) rest)

pub byte_read : (front : List ℕ) (b : ℕ) (rest : List ℕ) (read all : Option (List ℕ)) → read ≡ onto b (bytes_of rest) → behind front read ≡ all → behind (front ++ b ∷ []) (bytes_of rest) ≡ all
byte_read front b rest read all e h = behind_onto front b (bytes_of rest) ∙ ap (behind front) (sym e) ∙ h

pub word_end : (front word : List ℕ) (all : Option (List ℕ)) → true ≡ (length word == 0) → behind front (bytes_of word) ≡ all → all ≡ Some front
unfolding bytes_in
word_end front [] all e h = sym h ∙ ap Some (append-nil front)
word_end front (b ∷ word) all e h = absurd (omega (arith, eqb-true (length (b ∷ word)) 0 (sym e)))
