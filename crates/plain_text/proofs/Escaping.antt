-- A run of bytes that stand for themselves.
use Rattle.std.proofs.Common.{◌≡◌, ℕ, ◌+◌, ◌<◌, List, [], ◌∷◌, ◌++◌, length, take, get_or, true, refl, sym, ap, ◌∙◌}
use Rattle.std.proofs.lemmas.List.{take_more, flat_map_more}
use Rattle.plain_text.specs.Escapes.{escaped, escaped_byte, is_plain}

pub run_none : (text : List ℕ) → escaped (take 0 text) ≡ take 0 text
run_none text = refl

pub run_on : (text : List ℕ) (n : ℕ) → n < length text → escaped (take n text) ≡ take n text → is_plain (get_or text n 0) ≡ true → escaped (take (n + 1) text) ≡ take (n + 1) text
run_on text n within before plain =
    let last : escaped_byte (get_or text n 0) ≡ get_or text n 0 ∷ [] = rw plain refl in
    ap escaped (take_more text n 0 within) ∙ sym (flat_map_more escaped_byte [] (take n text) (get_or text n 0))
    ∙ ap (λ front. front ++ escaped_byte (get_or text n 0)) before ∙ ap (λ end. take n text ++ end) last ∙ sym (take_more text n 0 within)
