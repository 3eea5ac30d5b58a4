-- A write over a range of the new image.
use Rattle.std.proofs.Common.{◌≡◌, ℕ, ◌+◌, ◌-◌, ◌≤◌, Bool, List, ◌++◌, length, take, drop, Option, Some, None, sym, ap, ◌∙◌, arith}
use Rattle.std.specs.Option.{option_map}
use Rattle.std.specs.List.{splice, slice_range}
use Rattle.std.proofs.lemmas.List.{take-append-drop, length-take-le, length-drop}
use Rattle.std.proofs.lemmas.List.Folds.{drop_split}
use Rattle.image_store.specs.Banks.{IsInside, Contents, written_in}
use Rattle.image_store.specs.Memory.{shape_from}

range_len : (bytes : List ℕ) (at len : ℕ) → at + len ≤ length bytes → length (slice_range bytes at (at + len)) ≡ len
range_len bytes at len inside =
    length-take-le (at + len - at) (drop at bytes) (omega (arith, inside, length-drop at bytes)) ∙ omega arith

-- A range that is written with what it has is the same.
splice_same : (bytes : List ℕ) (at end : ℕ) → at ≤ end → splice bytes at end (slice_range bytes at end) ≡ bytes
splice_same bytes at end le = ap (λ (t : List ℕ). take at bytes ++ t) (sym (drop_split bytes at end le)) ∙ take-append-drop at bytes

abbrev with_new : Option (List ℕ) → List ℕ → Option Contents
with_new kept bytes = Some (record { kept = kept; fresh = Some bytes })

pub unchanged : (at len : ℕ) (testing : Bool) (kept fresh : Option (List ℕ)) → IsInside at len (option_map (shape_from testing) fresh) → (any : List ℕ) × (length any ≡ len) × (Some (record { kept = kept; fresh = fresh }) ≡ Some (written_in at any (record { kept = kept; fresh = fresh })))
unchanged at len testing kept None inside = absurd inside
unchanged at len testing kept (Some bytes) inside =
    let len_is = range_len bytes at len inside in
    let same : bytes ≡ splice bytes at (at + length (slice_range bytes at (at + len))) (slice_range bytes at (at + len)) =
    sym (ap (λ (n : ℕ). splice bytes at (at + n) (slice_range bytes at (at + len))) len_is ∙ splice_same bytes at (at + len) (omega arith)) in
    (slice_range bytes at (at + len), len_is, ap (with_new kept) same)
