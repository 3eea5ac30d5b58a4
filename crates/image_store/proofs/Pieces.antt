-- An image that is read piece by piece.
use Rattle.std.proofs.Common.{◌≡◌, ℕ, ◌+◌, List, ◌++◌, length, take, drop, Option, Some, None, sym, ap, ◌∙◌, arith}
use Rattle.std.specs.Option.{option_map}
use Rattle.std.specs.List.{slice_range}
use Rattle.std.proofs.Math.Seq.{take-add, take-append_seam}
use Rattle.image_store.specs.Banks.{Shape, Contents, Agree, size_of, fresh_of}

sizes : (size : Option ℕ) (fresh : Option (List ℕ)) (n : ℕ) (bytes : List ℕ) → size ≡ option_map length fresh → size ≡ Some n → fresh ≡ Some bytes → length bytes ≡ n
sizes size fresh n bytes agree made told =
    let known : Some n ≡ option_map length fresh = sym made ∙ agree in
    let same : Some n ≡ Some (length bytes) = known ∙ ap (option_map length) told in
    cc

-- the bytes of an image are as many as its size says
pub told_len : (shape : Option Shape) (contents : Option Contents) (n : ℕ) (bytes : List ℕ) → Agree shape contents → size_of shape ≡ Some n → fresh_of contents ≡ Some bytes → length bytes ≡ n
told_len shape None n bytes agree made told = absurd cc
told_len shape (Some c) n bytes agree made told = sizes (size_of shape) c.fresh n bytes agree made told

pub next_piece : (bytes piece buf : List ℕ) (at count n : ℕ) → length buf ≡ n → n ≡ count → buf ≡ slice_range bytes at (at + n) → take at bytes ++ take count (buf ++ drop count piece) ≡ take (at + count) bytes
next_piece bytes piece buf at count n len all is =
    let front : take count (buf ++ drop count piece) ≡ buf = ap (λ (k : ℕ). take k (buf ++ drop count piece)) (sym (len ∙ all)) ∙ take-append_seam buf (drop count piece) in
    let range : buf ≡ take count (drop at bytes) = is ∙ ap (λ (k : ℕ). take k (drop at bytes)) (omega (arith, all)) in
    ap (λ (t : List ℕ). take at bytes ++ t) (front ∙ range) ∙ sym (take-add at count bytes)

pub front_is : (bytes zeros buf : List ℕ) (n m : ℕ) → length buf ≡ m → m ≡ n → buf ≡ slice_range bytes 0 (0 + m) → take n (buf ++ drop n zeros) ≡ take n bytes
front_is bytes zeros buf n m len all is = next_piece bytes zeros buf 0 n m len all is ∙ ap (λ (k : ℕ). take k bytes) (omega arith)
