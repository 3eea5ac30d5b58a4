-- The blocks that a writer and its bank stand for, behind its calls.
use Rattle.std.proofs.Common.{◌≡◌, ℕ, ◌+◌, ◌*◌, ◌<◌, ◌≤◌, true, false, List, [], ◌∷◌, ◌++◌, length, set, get_or, Option, Some, None, refl, sym, ap, subst, ◌∙◌, arith}
use Rattle.std.specs.Prelude.{Result, Ok, Err, is_err}
use Rattle.std.specs.Option.{option_map}
use Rattle.std.specs.List.{splice}
use Rattle.stream_blocks.specs.Sets.{first}
use Rattle.image_store.specs.Banks.{Contents, fresh_of, written}
use Rattle.image_store.specs.Images.{len_of, image}
use Rattle.image_store.specs.Writing.{Progress, blocks_of}
use Rattle.image_store.specs.Standing.{StandsFor, IsOf, put_behind}
use Rattle.image_store.specs.declared.answers.Put.{Put}
use Rattle.image_store.specs.declared.answers.PutFault.{PutFault}
use Rattle.image_store.proofs.Putting.{put_stands, again_stands, fault_stands}
use Rattle.image_store.proofs.Standing.{whole_stands}

in_fresh : (fresh : Option (List ℕ)) (at : ℕ) (p bytes : List ℕ) → option_map (λ old. splice old at (at + length p) p) fresh ≡ Some bytes
    → (old : List ℕ) × (fresh ≡ Some old) × (splice old at (at + length p) p ≡ bytes)
in_fresh None at p bytes e = absurd cc
in_fresh (Some old) at p bytes e = (old, refl, cc)

-- bytes that a bank tells behind a write are those that it told before, with the piece in its place
before_write : (told : Option Contents) (at : ℕ) (p bytes : List ℕ) → fresh_of (written at p told) ≡ Some bytes
    → (old : List ℕ) × (fresh_of told ≡ Some old) × (splice old at (at + length p) p ≡ bytes)
before_write None at p bytes e = absurd cc
before_write (Some c) at p bytes e = in_fresh c.fresh at p bytes e

-- a put that is refused adds no block
none_behind : (bs : List (ℕ × List ℕ)) (result : Result Put PutFault) (index : ℕ) (payload : List ℕ) → is_err result ≡ true → put_behind bs result index payload ≡ bs
none_behind bs (Ok put) index payload err = absurd cc
none_behind bs (Err fault) index payload err = refl

module _ (bs : List (ℕ × List ℕ)) (w : Progress) (old new : Option Contents) (payload : List ℕ) (index : ℕ) (is : IsOf bs w old) where
  pub again_is : new ≡ old → get_or w.missing index false ≡ false → IsOf (bs ++ (index, payload) ∷ []) w new
  again_is same there bytes told = again_stands bs w bytes payload index (is bytes (ap fresh_of (sym same) ∙ told)) there

  pub new_is : (after : Progress) → after ≡ record w { missing = set w.missing index false } → 256 ≤ w.block → index < blocks_of w → length payload ≡ len_of w.size w.block index
      → get_or w.missing index false ≡ true → new ≡ written (index * w.block) payload old → IsOf (bs ++ (index, payload) ∷ []) after new
  new_is after marked large low len lost same bytes told =
      let back = before_write old (index * w.block) payload bytes (ap fresh_of (sym same) ∙ told) in
      let stands = put_stands bs w back.0 payload index (omega (arith, large)) (is back.0 back.1) low len lost in
      subst (λ v. StandsFor (bs ++ (index, payload) ∷ []) v bytes) (sym marked) (subst (StandsFor (bs ++ (index, payload) ∷ []) (record w { missing = set w.missing index false })) back.2 stands)

  pub fault_is : 256 ≤ w.block → index < blocks_of w → length payload ≡ len_of w.size w.block index → get_or w.missing index false ≡ true
      → (any : List ℕ) × (length any ≡ length payload) × (new ≡ written (index * w.block) any old) → (result : Result Put PutFault) → is_err result ≡ true → IsOf (put_behind bs result index payload) w new
  fault_is large low len lost torn result err bytes told =
      let back = before_write old (index * w.block) torn.0 bytes (ap fresh_of (sym torn.2) ∙ told) in
      subst (λ l. StandsFor l w bytes) (sym (none_behind bs result index payload err))
      (subst (StandsFor bs w) back.2 (fault_stands bs w back.0 torn.0 index (omega (arith, large)) (is back.0 back.1) low (torn.1 ∙ len) lost))

  pub whole_is : 256 ≤ w.block → new ≡ old → first w.missing ≡ None → (bytes : List ℕ) → fresh_of new ≡ Some bytes → image bs w.size w.block ≡ Some bytes
  whole_is large same none bytes told = whole_stands bs w bytes (omega (arith, large)) (is bytes (ap fresh_of (sym same) ∙ told)) none
