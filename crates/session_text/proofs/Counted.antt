-- Reading so many items one after the other, as a loop does.
use Rattle.std.proofs.Common.{◌≡◌, ℕ, suc, ◌-◌, ◌+◌, ◌≤◌, ◌<◌, List, [], ◌∷◌, ◌++◌, Option, Some, None, refl, sym, ap, ◌∙◌, append_assoc, arith}
use Rattle.std.proofs.lemmas.List.{append-nil}
use Rattle.mqtt_packet.specs.Reading.{◌>>=◌}
use Rattle.session_text.specs.declared.fault.RestoreFault.{RestoreFault}
use Rattle.session_text.specs.declared.fault.RestoreFault.TheVariants as faults
use Rattle.session_text.specs.Reading.{Fails, items_at}

-- what was read before, and what is still read
abbrev pub with_front : {A : Type 0} → List A → Option (List A × List ℕ) → Option (List A × List ℕ)
with_front front None = None
with_front front (Some x) = Some (front ++ x.0, x.1)

pub none_yet : {A : Type 0} (read : Option (List A × List ℕ)) → with_front [] read ≡ read
none_yet None = refl
none_yet (Some x) = refl

regroup : {A : Type 0} (front : List A) (x : A) (read : Option (List A × List ℕ)) → with_front front (read >>= λ others. Some (x ∷ others.0, others.1)) ≡ with_front (front ++ x ∷ []) read
regroup front x None = refl
regroup front x (Some others) = ap (λ (xs : List _). Some (xs, others.1)) (sym (append_assoc front (x ∷ []) others.0))

pub one_read : {A : Type 0} (item : List ℕ → Option (A × List ℕ)) (front : List A) (count i : ℕ) (rest : List ℕ) (x : A) (behind : List ℕ) (total : Option (List A × List ℕ)) → i < count → item rest ≡ Some (x, behind)
    → with_front front (items_at item (count - i) rest) ≡ total → with_front (front ++ x ∷ []) (items_at item (count - (i + 1)) behind) ≡ total
unfolding items_at
one_read item front count i rest x behind total below read so_far =
    let k : count - i ≡ suc (count - (i + 1)) = omega (arith, below) in
    let one : with_front front (items_at item (count - i) rest) ≡ with_front (front ++ x ∷ []) (items_at item (count - (i + 1)) behind) = rw (k, read) (regroup front x (items_at item (count - (i + 1)) behind)) in
    sym one ∙ so_far

pub one_refused : {A : Type 0} (e : RestoreFault) (item : List ℕ → Option (A × List ℕ)) (front : List A) (count i : ℕ) (rest : List ℕ) (total : Option (List A × List ℕ)) → i < count → Fails e (item rest)
    → with_front front (items_at item (count - i) rest) ≡ total → Fails e total
unfolding items_at
one_refused faults.NoMemory item front count i rest total below fails so_far = tt
one_refused faults.Bad item front count i rest total below fails so_far =
    let k : count - i ≡ suc (count - (i + 1)) = omega (arith, below) in
    let one : with_front front (items_at item (count - i) rest) ≡ None = rw (k, fails) refl in
    sym so_far ∙ one

pub all_read : {A : Type 0} (item : List ℕ → Option (A × List ℕ)) (front : List A) (count i : ℕ) (rest : List ℕ) (total : Option (List A × List ℕ)) → count ≤ i → with_front front (items_at item (count - i) rest) ≡ total → total ≡ Some (front, rest)
unfolding items_at
all_read item front count i rest total past so_far =
    let k : count - i ≡ 0 = omega (arith, past) in
    let one : with_front front (items_at item (count - i) rest) ≡ Some (front, rest) = rw k (ap (λ (xs : List _). Some (xs, rest)) (append-nil front)) in
    sym so_far ∙ one
