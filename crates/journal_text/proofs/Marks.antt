-- Words hold no space and no line feed, so a text of lines of words is cut in one way.
use Rattle.std.proofs.Common.{◌≡◌, ℕ, ◌<◌, ◌≤◌, List, [], ◌∷◌, ◌++◌, refl, sym, ap, ◌∙◌, arith}
use Rattle.std.specs.List.{flat_map, AllByRecursion}

-- a byte above the space
abbrev pub IsPlain : ℕ → Type 0
IsPlain b = 32 < b

abbrev pub IsWord : List ℕ → Type 0
IsWord word = AllByRecursion IsPlain word

-- words, each behind a space, and the end of the line
abbrev pub ended : List (List ℕ) → List ℕ
ended [] = 10 ∷ []
ended (word ∷ words) = 32 ∷ word ++ ended words

-- A line: its first word and those behind it, parted by one space. Two spaces part an empty word.
pub record Line : Type 0 where
  pub first : List ℕ
  pub words : List (List ℕ)

abbrev pub line_text : Line → List ℕ
line_text line = line.first ++ ended line.words

pub record IsLine (line : Line) : Type 0 where
  pub first : IsWord line.first
  pub words : AllByRecursion IsWord line.words

-- ---- Words are cut off

-- the front of what ends a line
abbrev mark : List (List ℕ) → ℕ
mark [] = 10
mark (word ∷ words) = 32

abbrev behind : List (List ℕ) → List ℕ
behind [] = []
behind (word ∷ words) = word ++ ended words

ends : (words : List (List ℕ)) → ended words ≡ mark words ∷ behind words
ends [] = refl
ends (word ∷ words) = refl

low : (words : List (List ℕ)) → mark words ≤ 32
low [] = omega arith
low (word ∷ words) = omega arith

pub head_same : {X : Type 0} (x y : X) (xs ys : List X) → x ∷ xs ≡ y ∷ ys → x ≡ y
head_same x y xs ys e = cc

pub tail_same : {X : Type 0} (x y : X) (xs ys : List X) → x ∷ xs ≡ y ∷ ys → xs ≡ ys
tail_same x y xs ys e = cc

-- one word ends where the other does
word_cut : (one other : List ℕ) (ones others : List (List ℕ)) (rest more : List ℕ) → IsWord one → IsWord other → one ++ ended ones ++ rest ≡ other ++ ended others ++ more
    → (one ≡ other) × (ended ones ++ rest ≡ ended others ++ more)
word_cut [] [] ones others rest more p q e = (refl, e)
word_cut [] (b ∷ other) ones others rest more p q e =
    let same = head_same (mark ones) b (behind ones ++ rest) (other ++ ended others ++ more) (sym (ap (λ text. text ++ rest) (ends ones)) ∙ e) in
    absurd (let m = low ones in let k = q.0 in omega (arith, same, m, k))
word_cut (a ∷ one) [] ones others rest more p q e =
    let same = head_same a (mark others) (one ++ ended ones ++ rest) (behind others ++ more) (e ∙ ap (λ text. text ++ more) (ends others)) in
    absurd (let m = low others in let k = p.0 in omega (arith, same, m, k))
word_cut (a ∷ one) (b ∷ other) ones others rest more p q e =
    let same = head_same a b (one ++ ended ones ++ rest) (other ++ ended others ++ more) e in
    let both = word_cut one other ones others rest more p.1 q.1 (tail_same a b (one ++ ended ones ++ rest) (other ++ ended others ++ more) e) in
    ((λ i. same i ∷ both.0 i), both.1)

ends_cut : (ones others : List (List ℕ)) (rest more : List ℕ) → AllByRecursion IsWord ones → AllByRecursion IsWord others → ended ones ++ rest ≡ ended others ++ more → (ones ≡ others) × (rest ≡ more)
ends_cut [] [] rest more p q e = (refl, tail_same 10 10 rest more e)
ends_cut [] (other ∷ others) rest more p q e = absurd (let no = head_same 10 32 rest ((other ++ ended others) ++ more) e in omega (arith, no))
ends_cut (one ∷ ones) [] rest more p q e = absurd (let no = head_same 32 10 ((one ++ ended ones) ++ rest) more e in omega (arith, no))
ends_cut (one ∷ ones) (other ∷ others) rest more p q e =
    let body = tail_same 32 32 ((one ++ ended ones) ++ rest) ((other ++ ended others) ++ more) e in
    let cut = word_cut one other ones others rest more p.0 q.0 body in
    let both = ends_cut ones others rest more p.1 q.1 cut.1 in
    ((λ i. cut.0 i ∷ both.0 i), both.1)

-- ---- Lines are cut off

line_cut : (one other : Line) (rest more : List ℕ) → IsLine one → IsLine other → line_text one ++ rest ≡ line_text other ++ more → (one ≡ other) × (rest ≡ more)
line_cut one other rest more p q e =
    let cut = word_cut one.first other.first one.words other.words rest more p.first q.first e in
    let both = ends_cut one.words other.words rest more p.words q.words cut.1 in
    ((λ i. record { first = cut.0 i; words = both.0 i }), both.1)

some_text : (line : Line) (rest : List ℕ) → line_text line ++ rest ≡ [] → ⊥
some_text line rest e = go line.first line.words e
  where
    go : (first : List ℕ) (words : List (List ℕ)) → (first ++ ended words) ++ rest ≡ [] → ⊥
    go [] [] e = cc e
    go [] (word ∷ words) e = cc e
    go (b ∷ first) words e = cc e

-- A text of lines is one list of lines.
pub lines_same : (ones others : List Line) → AllByRecursion IsLine ones → AllByRecursion IsLine others → flat_map line_text ones ≡ flat_map line_text others → ones ≡ others
lines_same [] [] p q e = refl
lines_same [] (other ∷ others) p q e = absurd (some_text other (flat_map line_text others) (sym e))
lines_same (one ∷ ones) [] p q e = absurd (some_text one (flat_map line_text ones) e)
lines_same (one ∷ ones) (other ∷ others) p q e =
    let cut = line_cut one other (flat_map line_text ones) (flat_map line_text others) p.0 q.0 e in
    let rest = lines_same ones others p.1 q.1 cut.1 in
    (λ i. cut.0 i ∷ rest i)
