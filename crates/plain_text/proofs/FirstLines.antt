-- The first line of a text is what stands before its first line feed.
use Rattle.std.proofs.Common.{◌≡◌, ℕ, ◌+◌, ◌<◌, ◌≤◌, List, [], ◌∷◌, ◌++◌, length, drop, Option, Some, None, Bool, true, false, cond, refl, sym, ap, ◌∙◌, arith, length-append, append_assoc}
use Rattle.std.specs.Prelude.{◌==◌}
use Rattle.std.proofs.lemmas.Bool.{eqb-true}
use Rattle.std.proofs.Math.Seq.{drop-append_seam, drop-length}
use Rattle.plain_text.specs.Words.{cut, onto_front}
use Rattle.plain_text.specs.Lines.{lines_of, onto_line}

abbrev pub line : List ℕ → List ℕ
line text = (cut 10 text).0

-- this line and a line feed are gone, what is behind is left, and these are the lines
record Led (text word behind : List ℕ) (found : List (List ℕ)) : Type 0 where
  pub whole : text ≡ word ++ 10 ∷ behind
  pub lines : found ≡ word ∷ lines_of behind

-- the byte b was tested
led_by : (is_feed : Bool) (b : ℕ) (text behind : List ℕ) → (is_feed ≡ true → b ≡ 10)
    → ((cut 10 text).1 ≡ Some behind → Led text (line text) behind (lines_of text))
    → (cond is_feed ([], Some text) (onto_front b (cut 10 text))).1 ≡ Some behind
    → Led (b ∷ text) (cond is_feed ([], Some text) (onto_front b (cut 10 text))).0 behind (cond is_feed ([] ∷ lines_of text) (onto_line b (lines_of text)))
led_by true b text behind feed others h =
    let here : b ≡ 10 = feed refl in
    let same : text ≡ behind = cc in
    record { whole = cc; lines = ap (λ rest. [] ∷ lines_of rest) same }
led_by false b text behind feed others h =
    let rest : Led text (line text) behind (lines_of text) = others h in
    record { whole = ap (λ bytes. b ∷ bytes) rest.whole; lines = ap (onto_line b) rest.lines }

led : (text behind : List ℕ) → (cut 10 text).1 ≡ Some behind → Led text (line text) behind (lines_of text)
unfolding cut lines_of
led [] behind h = absurd (cc h)
led (b ∷ text) behind h = led_by (b == 10) b text behind (eqb-true b 10) (led text behind) h

-- there is no line behind
record Last (text word : List ℕ) (found : List (List ℕ)) : Type 0 where
  pub whole : word ≡ text
  pub lines : found ≡ text ∷ []

last_by : (is_feed : Bool) (b d : ℕ) (text : List ℕ) → ((cut 10 (d ∷ text)).1 ≡ None → Last (d ∷ text) (line (d ∷ text)) (lines_of (d ∷ text)))
    → (cond is_feed ([], Some (d ∷ text)) (onto_front b (cut 10 (d ∷ text)))).1 ≡ None
    → Last (b ∷ d ∷ text) (cond is_feed ([], Some (d ∷ text)) (onto_front b (cut 10 (d ∷ text)))).0 (cond is_feed ([] ∷ lines_of (d ∷ text)) (onto_line b (lines_of (d ∷ text))))
last_by true b d text others h = absurd (cc h)
last_by false b d text others h =
    let rest : Last (d ∷ text) (line (d ∷ text)) (lines_of (d ∷ text)) = others h in
    record { whole = ap (λ bytes. b ∷ bytes) rest.whole; lines = ap (onto_line b) rest.lines }

alone_by : (is_feed : Bool) (b : ℕ) → (cond is_feed ([], Some []) (onto_front b ([], None))).1 ≡ None
    → Last (b ∷ []) (cond is_feed ([], Some []) (onto_front b ([], None))).0 (cond is_feed ([] ∷ []) (onto_line b []))
alone_by true b h = absurd (cc h)
alone_by false b h = record { whole = refl; lines = refl }

last : (b : ℕ) (text : List ℕ) → (cut 10 (b ∷ text)).1 ≡ None → Last (b ∷ text) (line (b ∷ text)) (lines_of (b ∷ text))
unfolding cut lines_of
last b [] h = alone_by (b == 10) b h
last b (d ∷ text) h = last_by (b == 10) b d text (last d text) h

-- a line that takes n bytes of the text
pub record Leads (text word : List ℕ) (n : ℕ) : Type 0 where
  pub lines : lines_of text ≡ word ∷ lines_of (drop n text)
  pub onward : 0 < n
  pub within : n ≤ length text

pub leads_on : (text word : List ℕ) (o : Option (List ℕ)) (behind : List ℕ) → (word, o) ≡ cut 10 text → o ≡ Some behind → Leads text word (length word + 1)
leads_on text word o behind e some =
    let word_is : word ≡ line text = ap (λ p. p.0) e in
    let h : Led text (line text) behind (lines_of text) = led text behind (sym (ap (λ p. p.1) e) ∙ some) in
    let whole : text ≡ (word ++ 10 ∷ []) ++ behind = h.whole ∙ ap (λ front. front ++ 10 ∷ behind) (sym word_is) ∙ sym (append_assoc word (10 ∷ []) behind) in
    let size : length (word ++ 10 ∷ []) ≡ length word + 1 = length-append word (10 ∷ []) in
    let left : drop (length word + 1) text ≡ behind = ap (λ n. drop n text) (sym size) ∙ ap (drop (length (word ++ 10 ∷ []))) whole ∙ drop-append_seam (word ++ 10 ∷ []) behind in
    let total : length text ≡ length word + 1 + length behind = ap length whole ∙ length-append (word ++ 10 ∷ []) behind ∙ ap (λ n. n + length behind) size in
    record {
      lines = h.lines ∙ ap (λ front. front ∷ lines_of behind) (sym word_is) ∙ ap (λ rest. word ∷ lines_of rest) (sym left);
      onward = omega arith;
      within = omega arith;
    }

leads_whole : (b : ℕ) (text word : List ℕ) (o : Option (List ℕ)) → (word, o) ≡ cut 10 (b ∷ text) → o ≡ None → Leads (b ∷ text) word (length word)
unfolding lines_of
leads_whole b text word o e none =
    let h : Last (b ∷ text) (line (b ∷ text)) (lines_of (b ∷ text)) = last b text (sym (ap (λ p. p.1) e) ∙ none) in
    let word_is : word ≡ b ∷ text = ap (λ p. p.0) e ∙ h.whole in
    let size : length word ≡ length (b ∷ text) = ap length word_is in
    let left : drop (length word) (b ∷ text) ≡ [] = ap (λ w. drop (length w) (b ∷ text)) word_is ∙ drop-length (b ∷ text) in
    record {
      lines = h.lines ∙ ap (λ front. front ∷ lines_of []) (sym word_is) ∙ ap (λ rest. word ∷ lines_of rest) (sym left);
      onward = omega arith;
      within = omega arith;
    }

pub leads_last : (text word : List ℕ) (o : Option (List ℕ)) → 0 < length text → (word, o) ≡ cut 10 text → o ≡ None → Leads text word (length word)
leads_last [] word o some e none = absurd (omega arith)
leads_last (b ∷ text) word o some e none = leads_whole b text word o e none
