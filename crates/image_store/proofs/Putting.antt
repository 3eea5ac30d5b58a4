-- What a writer stands for behind a put.
use Rattle.std.proofs.Common.{◌≡◌, ◌≢◌, ℕ, suc, ◌+◌, ◌-◌, ◌*◌, ◌<◌, ◌≤◌, Bool, true, false, cond, List, [], ◌∷◌, ◌++◌, length, take, drop, set, get_or, Option, Some, None, refl, sym, ap, ◌∙◌, ⊎_elim, arith, eq-eqb, length-append}
use Rattle.std.specs.Prelude.{◌==◌}
use Rattle.std.specs.List.{splice}
use Rattle.std.proofs.lemmas.Bool.{cases_lt, cases_eq, eqb-true}
use Rattle.std.proofs.lemmas.List.{get_or-take, get_or-drop, length-take-le, length-drop, get_or_append_left, get_or-append_right, get_or-set_same, get_or-set_other, length-set}
use Rattle.std.proofs.Math.Nat.{mul-le-mul_right}
use Rattle.image_store.specs.Images.{first_payload}
use Rattle.image_store.specs.Writing.{blocks_of}
use Rattle.image_store.specs.Standing.{IsHeld, PutStands, AgainStands, FaultStands}
use Rattle.image_store.proofs.Standing.{block_low}

-- ---- The first payload of an index, behind one more block

kept_by : (is : Bool) (here : List ℕ) (old new : Option (List ℕ)) (p : List ℕ) → (old ≡ Some p → new ≡ Some p) → cond is (Some here) old ≡ Some p → cond is (Some here) new ≡ Some p
kept_by true here old new p keeps e = e
kept_by false here old new p keeps e = keeps e

first_kept : (bs more : List (ℕ × List ℕ)) (i : ℕ) (p : List ℕ) → first_payload i bs ≡ Some p → first_payload i (bs ++ more) ≡ Some p
first_kept [] more i p e = absurd cc
first_kept (b ∷ bs) more i p e = kept_by (b.0 == i) b.1 (first_payload i bs) (first_payload i (bs ++ more)) p (first_kept bs more i p) e

new_by : (is : Bool) (here : List ℕ) (old new then : Option (List ℕ)) → (old ≡ None → new ≡ then) → cond is (Some here) old ≡ None → cond is (Some here) new ≡ then
new_by true here old new then goes e = absurd cc
new_by false here old new then goes e = goes e

first_behind : (bs more : List (ℕ × List ℕ)) (i : ℕ) → first_payload i bs ≡ None → first_payload i (bs ++ more) ≡ first_payload i more
first_behind [] more i e = refl
first_behind (b ∷ bs) more i e = new_by (b.0 == i) b.1 (first_payload i bs) (first_payload i (bs ++ more)) (first_payload i more) (first_behind bs more i) e

own : (i : ℕ) (p : List ℕ) → first_payload i ((i, p) ∷ []) ≡ Some p
own i p = let e : (i == i) ≡ true = eq-eqb i i refl in rw e refl

others_by : (is : Bool) (p : List ℕ) → (is ≡ true → ⊥) → cond is (Some p) None ≡ None
others_by true p h = absurd (h refl)
others_by false p h = refl

-- ---- Bytes behind a write

at_front : (bytes p : List ℕ) (at x : ℕ) → at + length p ≤ length bytes → x < at → get_or (splice bytes at (at + length p) p) x 0 ≡ get_or bytes x 0
at_front bytes p at x inside low =
    get_or_append_left (take at bytes) (p ++ drop (at + length p) bytes) 0 x (omega (arith, low, length-take-le at bytes (omega (arith, inside)))) ∙ get_or-take at bytes x 0 low

behind_front : (bytes p : List ℕ) (at x : ℕ) → at + length p ≤ length bytes → at ≤ x → get_or (splice bytes at (at + length p) p) x 0 ≡ get_or (p ++ drop (at + length p) bytes) (x - at) 0
behind_front bytes p at x inside le = get_or-append_right (take at bytes) (p ++ drop (at + length p) bytes) at x 0 (length-take-le at bytes (omega (arith, inside))) le

in_range : (bytes p : List ℕ) (at j : ℕ) → at + length p ≤ length bytes → j < length p → get_or (splice bytes at (at + length p) p) (at + j) 0 ≡ get_or p j 0
in_range bytes p at j inside low =
    behind_front bytes p at (at + j) inside (omega arith) ∙ ap (λ (n : ℕ). get_or (p ++ drop (at + length p) bytes) n 0) (omega arith) ∙ get_or_append_left p (drop (at + length p) bytes) 0 j low

at_back : (bytes p : List ℕ) (at x : ℕ) → at + length p ≤ length bytes → at + length p ≤ x → get_or (splice bytes at (at + length p) p) x 0 ≡ get_or bytes x 0
at_back bytes p at x inside le =
    behind_front bytes p at x inside (omega (arith, le)) ∙ get_or-append_right p (drop (at + length p) bytes) (length p) (x - at) 0 refl (omega (arith, le))
    ∙ get_or-drop (at + length p) bytes (x - at - length p) 0 ∙ ap (λ (n : ℕ). get_or bytes n 0) (omega (arith, le))

splice_len : (bytes p : List ℕ) (at : ℕ) → at + length p ≤ length bytes → length (splice bytes at (at + length p) p) ≡ length bytes
splice_len bytes p at inside =
    omega (arith, inside, length-append (take at bytes) (p ++ drop (at + length p) bytes), length-append p (drop (at + length p) bytes), length-take-le at bytes (omega (arith, inside)), length-drop (at + length p) bytes)

-- a byte of one block is no byte of another's range
elsewhere : (bytes p : List ℕ) (block i index j : ℕ) → index * block + length p ≤ length bytes → length p ≤ block → j < block → i ≢ index
    → get_or (splice bytes (index * block) (index * block + length p) p) (i * block + j) 0 ≡ get_or bytes (i * block + j) 0
elsewhere bytes p block i index j inside short low apart =
    ⊎_elim (λ less. at_front bytes p (index * block) (i * block + j) inside (omega (arith, low, mul-le-mul_right {m = suc i} {n = index} block (omega (arith, less)))))
    (λ le. ⊎_elim (λ more. at_back bytes p (index * block) (i * block + j) inside (omega (arith, short, mul-le-mul_right {m = suc index} {n = i} block (omega (arith, more)))))
    (λ ge. absurd (apart (omega (arith, le, ge)))) (cases_lt index i)) (cases_lt i index)

-- ---- A put

pub put_stands : PutStands
put_stands bs w bytes payload index some stands low len lost = record {
  size = splice_len bytes payload (index * w.block) inside ∙ stands.size;
  flags = length-set w.missing index false ∙ stands.flags;
  held = λ i below there. ⊎_elim (here i) (λ apart. other i apart below there) (cases_eq i index);
  missing = λ i gone. ⊎_elim (λ e. absurd (is_there i e gone)) (λ apart. still i apart gone) (cases_eq i index);
}
  where
    inside : index * w.block + length payload ≤ length bytes
    inside = omega (arith, len, stands.size, block_low w.size w.block index some low)

    none : first_payload index bs ≡ None
    none = stands.missing index lost

    here : (i : ℕ) → i ≡ index → IsHeld (bs ++ (index, payload) ∷ []) (record w { missing = set w.missing index false }) (splice bytes (index * w.block) (index * w.block + length payload) payload) i
    here i e = rw e (record {
      payload = payload;
      first = first_behind bs ((index, payload) ∷ []) index none ∙ own index payload;
      len = len;
      place = λ j under. in_range bytes payload (index * w.block) j inside under;
    })

    other : (i : ℕ) → i ≢ index → i < blocks_of w → get_or (set w.missing index false) i false ≡ false
        → IsHeld (bs ++ (index, payload) ∷ []) (record w { missing = set w.missing index false }) (splice bytes (index * w.block) (index * w.block + length payload) payload) i
    other i apart below there =
        let old = stands.held i below (sym (get_or-set_other w.missing index i false false apart) ∙ there) in record {
          payload = old.payload;
          first = first_kept bs ((index, payload) ∷ []) i old.payload old.first;
          len = old.len;
          place = λ j under. elsewhere bytes payload w.block i index j inside (omega (arith, len)) (omega (arith, under, old.len)) apart ∙ old.place j under;
        }

    is_there : (i : ℕ) → i ≡ index → get_or (set w.missing index false) i false ≡ true → ⊥
    is_there i e gone =
        let there : get_or (set w.missing index false) index false ≡ false = get_or-set_same w.missing index false false (omega (arith, low, stands.flags)) in
        let same : get_or (set w.missing index false) index false ≡ true = ap (λ (n : ℕ). get_or (set w.missing index false) n false) (sym e) ∙ gone in
        cc

    still : (i : ℕ) → i ≢ index → get_or (set w.missing index false) i false ≡ true → first_payload i (bs ++ (index, payload) ∷ []) ≡ None
    still i apart gone =
        first_behind bs ((index, payload) ∷ []) i (stands.missing i (sym (get_or-set_other w.missing index i false false apart) ∙ gone)) ∙ others_by (index == i) payload (λ e. apart (sym (eqb-true index i e)))

pub again_stands : AgainStands
again_stands bs w bytes payload index stands there = record {
  size = stands.size;
  flags = stands.flags;
  held = λ i below is. let old = stands.held i below is in record {
    payload = old.payload;
    first = first_kept bs ((index, payload) ∷ []) i old.payload old.first;
    len = old.len;
    place = old.place;
  };
  missing = λ i gone. first_behind bs ((index, payload) ∷ []) i (stands.missing i gone) ∙ others_by (index == i) payload (λ e. apart i gone (eqb-true index i e));
}
  where
    apart : (i : ℕ) → get_or w.missing i false ≡ true → index ≡ i → ⊥
    apart i gone e = let same : get_or w.missing i false ≡ false = ap (λ (n : ℕ). get_or w.missing n false) (sym e) ∙ there in cc

pub fault_stands : FaultStands
fault_stands bs w bytes any index some stands low len lost = record {
  size = splice_len bytes any (index * w.block) inside ∙ stands.size;
  flags = stands.flags;
  held = λ i below there. other i (stands.held i below there) (apart i there);
  missing = stands.missing;
}
  where
    inside : index * w.block + length any ≤ length bytes
    inside = omega (arith, len, stands.size, block_low w.size w.block index some low)

    apart : (i : ℕ) → get_or w.missing i false ≡ false → i ≢ index
    apart i there e = absurd (let same : get_or w.missing index false ≡ false = ap (λ (n : ℕ). get_or w.missing n false) (sym e) ∙ there in cc)

    other : (i : ℕ) → IsHeld bs w bytes i → i ≢ index → IsHeld bs w (splice bytes (index * w.block) (index * w.block + length any) any) i
    other i old away = record {
      payload = old.payload;
      first = old.first;
      len = old.len;
      place = λ j under. elsewhere bytes any w.block i index j inside (omega (arith, len)) (omega (arith, under, old.len)) away ∙ old.place j under;
    }
