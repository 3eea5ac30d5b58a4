-- Loops that read the members of a list to the end of the bytes.
use Rattle.std.proofs.Common.{◌≡◌, ℕ, zero, suc, ◌+◌, ◌-◌, ◌<◌, ◌≤◌, List, [], ◌∷◌, ◌++◌, length, Option, Some, None, refl, ap, sym, ◌∙◌, arith, append_assoc, length-append}
use Rattle.std.proofs.lemmas.List.{append-nil}
use Rattle.mqtt_packet.specs.declared.refusal.Refusal.{Refusal}
use Rattle.mqtt_packet.specs.declared.refusal.Refusal.TheVariants as refusals
use Rattle.mqtt_packet.specs.Reading.{◌>>=◌, items_in}

-- what was read, in front of what is left
abbrev pub all_behind : {A : Type 0} → List A → Option (List A) → Option (List A)
all_behind front None = None
all_behind front (Some others) = Some (front ++ others)

-- what a refusal says of a reading
abbrev pub Refuses : {A : Type 0} → Refusal → Option A → Type 0
Refuses refusals.Bad read = read ≡ None
Refuses refusals.Memory read = Unit {0}

pub none_yet : {A : Type 0} (read : Option (List A)) → all_behind [] read ≡ read
none_yet None = refl
none_yet (Some others) = refl

regroup : {A : Type 0} (front : List A) (x : A) (read : Option (List A)) → all_behind front (read >>= λ others. Some (x ∷ others)) ≡ all_behind (front ++ x ∷ []) read
regroup front x None = refl
regroup front x (Some others) = ap (λ (xs : List _). Some xs) (sym (append_assoc front (x ∷ []) others))

first_read : {A : Type 0} (item : List ℕ → Option (A × List ℕ)) (front : List A) (x : A) (n most : ℕ) (rest behind : List ℕ) → n ≡ suc most → 0 < length rest → item rest ≡ Some (x, behind)
    → all_behind front (items_in item n rest) ≡ all_behind (front ++ x ∷ []) (items_in item most behind)
unfolding items_in
first_read item front x n most [] behind e some read = absurd (omega (arith, some))
first_read item front x n most (b ∷ bytes) behind e some read = rw (e, read) (regroup front x (items_in item most behind))

pub one_read : {A : Type 0} (item : List ℕ → Option (A × List ℕ)) (front : List A) (x : A) (most : ℕ) (rest behind : List ℕ) (total : Option (List A)) → item rest ≡ Some (x, behind) → 0 < length rest → length rest + length front ≤ most
    → all_behind front (items_in item (most - length front) rest) ≡ total → all_behind (front ++ x ∷ []) (items_in item (most - length (front ++ x ∷ [])) behind) ≡ total
one_read item front x most rest behind total read some room so_far =
    let len : length (front ++ x ∷ []) ≡ length front + 1 = length-append front (x ∷ []) in
    let k : most - length front ≡ suc (most - length (front ++ x ∷ [])) = omega (arith, len, some, room) in
    sym (first_read item front x (most - length front) (most - length (front ++ x ∷ [])) rest behind k some read) ∙ so_far

bad_first : {A : Type 0} (item : List ℕ → Option (A × List ℕ)) (front : List A) (n : ℕ) (rest : List ℕ) → 0 < length rest → item rest ≡ None → all_behind front (items_in item n rest) ≡ None
unfolding items_in
bad_first item front n [] some read = absurd (omega (arith, some))
bad_first item front zero (b ∷ bytes) some read = refl
bad_first item front (suc n) (b ∷ bytes) some read = rw read refl

pub one_refused : {A : Type 0} (e : Refusal) (item : List ℕ → Option (A × List ℕ)) (front : List A) (n : ℕ) (rest : List ℕ) (total : Option (List A)) → Refuses e (item rest) → 0 < length rest
    → all_behind front (items_in item n rest) ≡ total → Refuses e total
one_refused refusals.Bad item front n rest total read some so_far = sym so_far ∙ bad_first item front n rest some read
one_refused refusals.Memory item front n rest total read some so_far = tt

pub all_read : {A : Type 0} (item : List ℕ → Option (A × List ℕ)) (front : List A) (n : ℕ) (rest : List ℕ) (total : Option (List A)) → length rest ≡ 0 → all_behind front (items_in item n rest) ≡ total → total ≡ Some front
unfolding items_in
all_read item front n [] total none so_far = sym so_far ∙ ap (λ (xs : List _). Some xs) (append-nil front)
all_read item front n (b ∷ bytes) total none so_far = absurd (omega (arith, none))
