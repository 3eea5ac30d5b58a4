-- Loops over the chunks of a string.
use Rattle.std.proofs.Common.{◌≡◌, ℕ, zero, suc, ◌+◌, ◌<◌, ◌≤◌, List, [], ◌∷◌, ◌++◌, length, take, drop, Option, Some, None, Result, Ok, Err, refl, ap, sym, ◌∙◌, arith, length-append, append_assoc}
use Rattle.std.proofs.lemmas.List.{append-nil, length-take, drop-drop, take-append-drop}
use Rattle.stream_blocks.specs.declared.fault.Stop.{Stop}
use Rattle.stream_blocks.specs.declared.fault.Stop.TheVariants as s
use Rattle.stream_blocks.specs.Reading.{◌>>=◌, or_bad, or_else, piece_at, break_at, chunks_end, pieces_content, with_more}
use Rattle.stream_blocks.proofs.Shorter.{Within, piece_within, piece_none}

-- What is read behind an item is the same where it is the same for fewer bytes.
pub same_behind : {A B : Type 0} (k : ℕ) (bytes : List ℕ) (item : Option (A × List ℕ)) (f g : List ℕ → Result B Stop) → Within k item → ((rest : List ℕ) → length rest ≤ k → f rest ≡ g rest)
    → (or_bad bytes item >>= λ x. f x.1) ≡ (or_bad bytes item >>= λ x. g x.1)
same_behind k bytes None f g within same = refl
same_behind k bytes (Some x) f g within same = same x.1 within

-- As many steps as there are bytes are as good as more.
chunks_by : (major m n : ℕ) (bytes : List ℕ) → length bytes < m → length bytes < n → chunks_end major m bytes ≡ chunks_end major n bytes
unfolding chunks_end
chunks_by major zero n bytes p q = absurd (omega (arith, p))
chunks_by major (suc m) zero bytes p q = absurd (omega (arith, q))
chunks_by major (suc m) (suc n) [] p q = rw (piece_none major) refl
chunks_by major (suc m) (suc n) (b ∷ bytes) p q =
    ap (or_else (break_at (b ∷ bytes)))
    (same_behind (length bytes) (b ∷ bytes) (piece_at major (b ∷ bytes)) (chunks_end major m) (chunks_end major n) (piece_within major b bytes) (λ rest le. chunks_by major m n rest (omega (arith, le, p)) (omega (arith, le, q))))

chunks_suc : (major n : ℕ) (bytes : List ℕ) → n ≡ suc (length bytes) → chunks_end major n bytes ≡ or_else (break_at bytes) (or_bad bytes (piece_at major bytes) >>= λ piece. chunks_end major (length piece.1 + 1) piece.1)
unfolding chunks_end
chunks_suc major n [] e = rw (e, piece_none major) refl
chunks_suc major n (b ∷ bytes) e =
    rw e (ap (or_else (break_at (b ∷ bytes)))
    (same_behind (length bytes) (b ∷ bytes) (piece_at major (b ∷ bytes)) (chunks_end major (suc (length bytes))) (λ rest. chunks_end major (length rest + 1) rest) (piece_within major b bytes)
    (λ rest le. chunks_by major (suc (length bytes)) (length rest + 1) rest (omega (arith, le)) (omega arith))))

chunks_step : (major : ℕ) (bytes : List ℕ) → chunks_end major (length bytes + 1) bytes ≡ or_else (break_at bytes) (or_bad bytes (piece_at major bytes) >>= λ piece. chunks_end major (length piece.1 + 1) piece.1)
chunks_step major bytes = chunks_suc major (length bytes + 1) bytes (omega arith)

pub at_break : (major : ℕ) (rest behind : List ℕ) (total : Result (List ℕ) Stop) → break_at rest ≡ Some behind → chunks_end major (length rest + 1) rest ≡ total → total ≡ Ok behind
at_break major rest behind total here so_far = sym so_far ∙ chunks_step major rest ∙ rw here refl

pub at_chunk : (major : ℕ) (rest behind content : List ℕ) (total : Result (List ℕ) Stop) → break_at rest ≡ None → piece_at major rest ≡ Some (content, behind) → chunks_end major (length rest + 1) rest ≡ total
    → chunks_end major (length behind + 1) behind ≡ total
at_chunk major rest behind content total none here so_far = sym (chunks_step major rest ∙ rw (none, here) refl) ∙ so_far

pub at_other : (major : ℕ) (rest : List ℕ) (total : Result (List ℕ) Stop) → break_at rest ≡ None → piece_at major rest ≡ None → chunks_end major (length rest + 1) rest ≡ total
    → total ≡ Err (s.Bad (length rest))
at_other major rest total none here so_far = sym so_far ∙ chunks_step major rest ∙ rw (none, here) refl

-- ---- What byte strings hold

same_content : (k : ℕ) (piece : Option (List ℕ × List ℕ)) (f g : List ℕ → List ℕ) → Within k piece → ((rest : List ℕ) → length rest ≤ k → f rest ≡ g rest) → with_more piece f ≡ with_more piece g
same_content k None f g within same = refl
same_content k (Some piece) f g within same = ap (λ (more : List ℕ). piece.0 ++ more) (same piece.1 within)

pieces_by : (m n : ℕ) (bytes : List ℕ) → length bytes < m → length bytes < n → pieces_content m bytes ≡ pieces_content n bytes
unfolding pieces_content
pieces_by zero n bytes p q = absurd (omega (arith, p))
pieces_by (suc m) zero bytes p q = absurd (omega (arith, q))
pieces_by (suc m) (suc n) [] p q = rw (piece_none 2) refl
pieces_by (suc m) (suc n) (b ∷ bytes) p q =
    same_content (length bytes) (piece_at 2 (b ∷ bytes)) (pieces_content m) (pieces_content n) (piece_within 2 b bytes) (λ rest le. pieces_by m n rest (omega (arith, le, p)) (omega (arith, le, q)))

pieces_suc : (n : ℕ) (bytes : List ℕ) → n ≡ suc (length bytes) → pieces_content n bytes ≡ with_more (piece_at 2 bytes) (λ rest. pieces_content (length rest + 1) rest)
unfolding pieces_content
pieces_suc n [] e = rw (e, piece_none 2) refl
pieces_suc n (b ∷ bytes) e =
    rw e (same_content (length bytes) (piece_at 2 (b ∷ bytes)) (pieces_content (suc (length bytes))) (λ rest. pieces_content (length rest + 1) rest) (piece_within 2 b bytes)
    (λ rest le. pieces_by (suc (length bytes)) (length rest + 1) rest (omega (arith, le)) (omega arith)))

pieces_step : (bytes : List ℕ) → pieces_content (length bytes + 1) bytes ≡ with_more (piece_at 2 bytes) (λ rest. pieces_content (length rest + 1) rest)
pieces_step bytes = pieces_suc (length bytes + 1) bytes (omega arith)

pub content_more : (rest behind content : List ℕ) → piece_at 2 rest ≡ Some (content, behind) → pieces_content (length rest + 1) rest ≡ content ++ pieces_content (length behind + 1) behind
content_more rest behind content here = pieces_step rest ∙ rw here refl

pub content_end : (rest : List ℕ) → piece_at 2 rest ≡ None → pieces_content (length rest + 1) rest ≡ []
content_end rest here = pieces_step rest ∙ rw here refl

pub len_more : (rest behind content : List ℕ) (len total : ℕ) → piece_at 2 rest ≡ Some (content, behind) → len + length (pieces_content (length rest + 1) rest) ≡ total
    → len + length content + length (pieces_content (length behind + 1) behind) ≡ total
len_more rest behind content len total here so_far =
    omega (arith, so_far, ap length (content_more rest behind content here), length-append content (pieces_content (length behind + 1) behind))

pub len_end : (rest : List ℕ) (len total : ℕ) → piece_at 2 rest ≡ None → len + length (pieces_content (length rest + 1) rest) ≡ total → len ≡ total
len_end rest len total here so_far = omega (arith, so_far, ap length (content_end rest here))

-- ---- Pieces that are put into a buffer

pub room_more : (rest behind content : List ℕ) (at room : ℕ) → piece_at 2 rest ≡ Some (content, behind) → at + length (pieces_content (length rest + 1) rest) ≤ room
    → at + length content + length (pieces_content (length behind + 1) behind) ≤ room
room_more rest behind content at room here fits =
    omega (arith, fits, ap length (content_more rest behind content here), length-append content (pieces_content (length behind + 1) behind))

pub put_more : (rest behind content front total : List ℕ) → piece_at 2 rest ≡ Some (content, behind) → front ++ pieces_content (length rest + 1) rest ≡ total
    → (front ++ content) ++ pieces_content (length behind + 1) behind ≡ total
put_more rest behind content front total here so_far =
    append_assoc front content (pieces_content (length behind + 1) behind) ∙ ap (λ (t : List ℕ). front ++ t) (sym (content_more rest behind content here)) ∙ so_far

pub drop_on : (m n k : ℕ) (xs ys : List ℕ) → m ≡ n + k → drop n xs ≡ drop n ys → drop m xs ≡ drop m ys
drop_on m n k xs ys e same = rw (e, ← drop-drop k n xs, ← drop-drop k n ys, same) refl

pub put_end : (rest out old total : List ℕ) (at : ℕ) → piece_at 2 rest ≡ None → take at out ++ pieces_content (length rest + 1) rest ≡ total → drop at out ≡ drop at old → at ≤ length out
    → out ≡ total ++ drop (length total) old
put_end rest out old total at here so_far back fits =
    let front : take at out ≡ total = sym (append-nil (take at out)) ∙ ap (λ (t : List ℕ). take at out ++ t) (sym (content_end rest here)) ∙ so_far in
    let len : length total ≡ at = ap length (sym front) ∙ length-take at out ∙ omega (arith, fits) in
    rw (len, ← front, ← back) (sym (take-append-drop at out))
