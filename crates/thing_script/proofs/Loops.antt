-- Lines so far, and those that are left, which stand in reverse.
use Rattle.std.proofs.Common.{◌≡◌, ℕ, List, [], ◌∷◌, ◌++◌, length, reverse, Option, Result, Ok, Err, refl, sym, ap, ◌∙◌}
use Rattle.std.proofs.lemmas.List.{append-nil, append_assoc, nil_from_length, reverse-append, reverse-reverse}
use Rattle.agent_script.specs.declared.script.Line.{Line}
use Rattle.thing_script.specs.Topics.{lines_with, onto, request_line}

abbrev pub behind : List Line → Result (List Line) ℕ → Result (List Line) ℕ
behind made (Ok lines) = Ok (made ++ lines)
behind made (Err number) = Err number

-- what was made, and behind it what is made of those that are left
abbrev pub whole : Option (List ℕ) → List Line → List Line → Result (List Line) ℕ
whole thing made left = behind made (lines_with thing (reverse left))

behind_none : (lines : Result (List Line) ℕ) → behind [] lines ≡ lines
behind_none (Ok lines) = refl
behind_none (Err number) = refl

pub begun : (thing : Option (List ℕ)) (lines left : List Line) → left ≡ reverse lines → whole thing [] left ≡ lines_with thing lines
begun thing lines left e = behind_none (lines_with thing (reverse left)) ∙ ap (lines_with thing) (ap reverse e ∙ reverse-reverse lines)

behind_one : (made : List Line) (new : Line) (lines : Result (List Line) ℕ) → behind made (onto (Ok new) lines) ≡ behind (made ++ new ∷ []) lines
behind_one made new (Ok lines) = ap Ok (sym (append_assoc made (new ∷ []) lines))
behind_one made new (Err number) = refl

-- the first of those that are left
first_of : (thing : Option (List ℕ)) (made left rest : List Line) (line : Line) → left ≡ rest ++ line ∷ [] → whole thing made left ≡ behind made (onto (request_line thing line) (lines_with thing (reverse rest)))
unfolding lines_with
first_of thing made left rest line e = ap (λ l. behind made (lines_with thing l)) (ap reverse e ∙ reverse-append rest (line ∷ []))

pub taken : (thing : Option (List ℕ)) (made left rest : List Line) (line new : Line) → left ≡ rest ++ line ∷ [] → request_line thing line ≡ Ok new → whole thing made left ≡ whole thing (made ++ new ∷ []) rest
taken thing made left rest line new e read =
    first_of thing made left rest line e ∙ ap (λ one. behind made (onto one (lines_with thing (reverse rest)))) read ∙ behind_one made new (lines_with thing (reverse rest))

pub refused : (thing : Option (List ℕ)) (made left rest : List Line) (line : Line) (number : ℕ) → left ≡ rest ++ line ∷ [] → request_line thing line ≡ Err number → whole thing made left ≡ Err number
refused thing made left rest line number e read = first_of thing made left rest line e ∙ ap (λ one. behind made (onto one (lines_with thing (reverse rest)))) read

pub ended : (thing : Option (List ℕ)) (made left : List Line) → length left ≡ 0 → whole thing made left ≡ Ok made
unfolding lines_with
ended thing made left e = rw (nil_from_length left e) (ap Ok (append-nil made))
