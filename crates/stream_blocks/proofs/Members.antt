-- The loop over the members of a map.
use Rattle.std.proofs.Common.{◌≡◌, ℕ, zero, suc, ◌+◌, ◌/◌, ◌%◌, ◌<◌, ◌≤◌, Bool, true, false, cond, List, [], ◌∷◌, length, Option, Some, None, Result, Ok, Err, refl, ap, sym, ◌∙◌, arith}
use Rattle.std.specs.Prelude.{◌==◌, ◌&&◌, nat_lt, nat_le}
use Rattle.std.specs.Option.{option_map}
use Rattle.stream_blocks.specs.declared.fault.Stop.{Stop}
use Rattle.stream_blocks.specs.declared.fault.Stop.TheVariants as s
use Rattle.stream_blocks.specs.declared.fields.Fields.{Fields}
use Rattle.stream_blocks.specs.declared.keys.Form.{Form}
use Rattle.stream_blocks.specs.declared.keys.Key.{Key}
use Rattle.stream_blocks.specs.declared.keys.Key.TheVariants as k
use Rattle.stream_blocks.specs.Reading.{◌>>=◌, bad, or_bad, or_else, head_at, piece_at, break_at, chunks_end, chunks_at, end_by, string_end, rest_of, value_end, has, letter, wanted, with_number, number_for, payload_for, bitmap_for, token_for, value_for, behind_key, member_at, map_end, one_less, members_in}
use Rattle.stream_blocks.proofs.Shorter.{Within, Leaves, Ends, Has, head_within, piece_within, piece_none, within_more}

-- ---- What values leave

ends_more : (m n : ℕ) (r : Result (List ℕ) Stop) → m ≤ n → Ends m r → Ends n r
ends_more m n (Err stop) le p = tt
ends_more m n (Ok rest) le p = omega (arith, le, p)

ends_cond : (n : ℕ) (b : Bool) (x y : Result (List ℕ) Stop) → Ends n x → Ends n y → Ends n (cond b x y)
ends_cond n true x y p q = p
ends_cond n false x y p q = q

has_cond : (n : ℕ) (b : Bool) (x y : Option (List ℕ)) → Has n x → Has n y → Has n (cond b x y)
has_cond n true x y p q = p
has_cond n false x y p q = q

ends_or : (n : ℕ) (end : Option (List ℕ)) (others : Result (List ℕ) Stop) → Has n end → Ends n others → Ends n (or_else end others)
ends_or n None others p q = q
ends_or n (Some rest) others p q = p

ends_bind : {A : Type 0} (n : ℕ) (bytes : List ℕ) (item : Option (A × List ℕ)) (f : List ℕ → Result (List ℕ) Stop) → Within n item → ((rest : List ℕ) → length rest ≤ n → Ends n (f rest)) → Ends n (or_bad bytes item >>= λ x. f x.1)
ends_bind n bytes None f p q = tt
ends_bind n bytes (Some x) f p q = q x.1 p

head_all : (major : ℕ) (bytes : List ℕ) → Within (length bytes) (head_at major bytes)
unfolding head_at
head_all major [] = tt
head_all major (b ∷ bytes) = within_more (length bytes) (length (b ∷ bytes)) (head_at major (b ∷ bytes)) (omega arith) (head_within major b bytes)

piece_all : (major : ℕ) (bytes : List ℕ) → Within (length bytes) (piece_at major bytes)
piece_all major [] = rw (piece_none major) tt
piece_all major (b ∷ bytes) = within_more (length bytes) (length (b ∷ bytes)) (piece_at major (b ∷ bytes)) (omega arith) (piece_within major b bytes)

break_all : (bytes : List ℕ) → Has (length bytes) (break_at bytes)
unfolding break_at
break_all [] = tt
break_all (b ∷ bytes) = has_cond (length (b ∷ bytes)) (b == 255) (Some bytes) None (omega arith) tt

chunks_all : (major : ℕ) (bytes : List ℕ) → Has (length bytes) (chunks_at major bytes)
unfolding chunks_at
chunks_all major [] = tt
chunks_all major (b ∷ bytes) = has_cond (length (b ∷ bytes)) ((b / 32 == major) && (b % 32 == 31)) (Some bytes) None (omega arith) tt

chunks_within : (major n : ℕ) (bytes : List ℕ) → Ends (length bytes) (chunks_end major n bytes)
unfolding chunks_end
chunks_within major zero bytes = tt
chunks_within major (suc n) bytes =
    ends_or (length bytes) (break_at bytes) _ (break_all bytes)
    (ends_bind (length bytes) bytes (piece_at major bytes) (chunks_end major n) (piece_all major bytes) (λ rest le. ends_more (length rest) (length bytes) (chunks_end major n rest) le (chunks_within major n rest)))

string_by : (major n : ℕ) (bytes : List ℕ) (chunks : Option (List ℕ)) → Has (length bytes) chunks → Ends (length bytes) (end_by major bytes chunks)
string_by major n bytes None p = ends_bind (length bytes) bytes (piece_at major bytes) (λ rest. Ok rest) (piece_all major bytes) (λ rest le. le)
string_by major n bytes (Some chunks) p = ends_more (length chunks) (length bytes) (chunks_end major (length chunks + 1) chunks) p (chunks_within major (length chunks + 1) chunks)

string_within : (major : ℕ) (bytes : List ℕ) → Ends (length bytes) (string_end major bytes)
unfolding string_end
string_within major bytes = string_by major 0 bytes (chunks_at major bytes) (chunks_all major bytes)

rest_by : (n : ℕ) (bytes : List ℕ) (item : Option (ℕ × List ℕ)) → Within n item → Ends n (or_bad bytes (rest_of item))
rest_by n bytes None p = tt
rest_by n bytes (Some x) p = p

value_within : (bytes : List ℕ) → Ends (length bytes) (value_end bytes)
unfolding value_end
value_within [] = tt
value_within (b ∷ bytes) =
    let n = length (b ∷ bytes) in
    ends_cond n (nat_lt b 32) _ _ (rest_by n (b ∷ bytes) (head_at 0 (b ∷ bytes)) (head_all 0 (b ∷ bytes)))
    (ends_cond n (nat_lt b 64) _ _ (rest_by n (b ∷ bytes) (head_at 1 (b ∷ bytes)) (head_all 1 (b ∷ bytes)))
    (ends_cond n (nat_lt b 96) _ _ (string_within 2 (b ∷ bytes))
    (ends_cond n (nat_lt b 128) _ _ (string_within 3 (b ∷ bytes))
    (ends_cond n (nat_le 244 b && nat_le b 246) (Ok bytes) (bad (b ∷ bytes)) (omega arith) tt))))

-- ---- What members leave

leaves_more : {A : Type 0} (m n : ℕ) (r : Result (A × List ℕ) Stop) → m ≤ n → Leaves m r → Leaves n r
leaves_more m n (Err stop) le p = tt
leaves_more m n (Ok x) le p = omega (arith, le, p)

leaves_cond : {A : Type 0} (n : ℕ) (b : Bool) (x y : Result (A × List ℕ) Stop) → Leaves n x → Leaves n y → Leaves n (cond b x y)
leaves_cond n true x y p q = p
leaves_cond n false x y p q = q

leaves_end : {A : Type 0} (n : ℕ) (x : A) (r : Result (List ℕ) Stop) → Ends n r → Leaves n (r >>= λ rest. Ok (x, rest))
leaves_end n x (Err stop) p = tt
leaves_end n x (Ok rest) p = p

leaves_item : {A B : Type 0} (n : ℕ) (bytes : List ℕ) (item : Option (A × List ℕ)) (f : A → List ℕ → Result (B × List ℕ) Stop) → Within n item → ((a : A) (rest : List ℕ) → length rest ≤ n → Leaves n (f a rest)) → Leaves n (or_bad bytes item >>= λ x. f x.0 x.1)
leaves_item n bytes None f p q = tt
leaves_item n bytes (Some x) f p q = q x.0 x.1 p

number_leaves : (key : Key) (found : Fields) (bytes : List ℕ) → Leaves (length bytes) (number_for key found bytes)
unfolding number_for
number_leaves key found bytes = leaves_item (length bytes) bytes (head_at 0 bytes) (λ n rest. Ok (with_number key n found, rest)) (head_all 0 bytes) (λ n rest le. le)

value_leaves : (key : Key) (found : Fields) (bytes : List ℕ) → Leaves (length bytes) (value_for key found bytes)
unfolding payload_for bitmap_for token_for
value_leaves k.File found bytes = number_leaves k.File found bytes
value_leaves k.Index found bytes = number_leaves k.Index found bytes
value_leaves k.Size found bytes = number_leaves k.Size found bytes
value_leaves k.Offset found bytes = number_leaves k.Offset found bytes
value_leaves k.Count found bytes = number_leaves k.Count found bytes
value_leaves k.Payload found bytes = leaves_end (length bytes) _ (string_end 2 bytes) (string_within 2 bytes)
value_leaves k.Bitmap found bytes = leaves_end (length bytes) _ (string_end 2 bytes) (string_within 2 bytes)
value_leaves k.Token found bytes = leaves_end (length bytes) _ (string_end 3 bytes) (string_within 3 bytes)

behind_leaves : (key : Option Key) (found : Fields) (bytes : List ℕ) → Leaves (length bytes) (behind_key key found bytes)
behind_leaves None found bytes = leaves_end (length bytes) found (value_end bytes) (value_within bytes)
behind_leaves (Some key) found bytes = leaves_cond (length bytes) (has key found) (Err (s.Twice (letter key))) (value_for key found bytes) tt (value_leaves key found bytes)

member_leaves : (form : Form) (found : Fields) (b : ℕ) (bytes : List ℕ) → Leaves (length bytes) (member_at form found (b ∷ bytes))
unfolding member_at
member_leaves form found b bytes =
    leaves_item (length bytes) (b ∷ bytes) (piece_at 3 (b ∷ bytes)) (λ key rest. behind_key (wanted form key) found rest) (piece_within 3 b bytes)
    (λ key rest le. leaves_more (length rest) (length bytes) (behind_key (wanted form key) found rest) le (behind_leaves (wanted form key) found rest))

member_none : (form : Form) (found : Fields) → member_at form found [] ≡ bad []
unfolding member_at
member_none form found = rw (piece_none 3) refl

-- ---- One member after another

same_members : (n : ℕ) (r : Result (Fields × List ℕ) Stop) (f g : Fields → List ℕ → Result (Fields × List ℕ) Stop) → Leaves n r → ((found : Fields) (rest : List ℕ) → length rest ≤ n → f found rest ≡ g found rest)
    → (r >>= λ x. f x.0 x.1) ≡ (r >>= λ x. g x.0 x.1)
same_members n (Err stop) f g p same = refl
same_members n (Ok x) f g p same = same x.0 x.1 p

-- As many steps as there are bytes are as good as more.
members_by : (form : Form) (m n : ℕ) (left : Option ℕ) (found : Fields) (bytes : List ℕ) → length bytes < m → length bytes < n → members_in form m left found bytes ≡ members_in form n left found bytes
unfolding members_in
members_by form zero n left found bytes p q = absurd (omega (arith, p))
members_by form (suc m) zero left found bytes p q = absurd (omega (arith, q))
members_by form (suc m) (suc n) left found [] p q = rw (member_none form found) refl
members_by form (suc m) (suc n) left found (b ∷ bytes) p q =
    ap (or_else (option_map (λ rest. (found, rest)) (map_end left (b ∷ bytes))))
    (same_members (length bytes) (member_at form found (b ∷ bytes)) (members_in form m (one_less left)) (members_in form n (one_less left)) (member_leaves form found b bytes)
    (λ more rest le. members_by form m n (one_less left) more rest (omega (arith, le, p)) (omega (arith, le, q))))

members_suc : (form : Form) (n : ℕ) (left : Option ℕ) (found : Fields) (bytes : List ℕ) → n ≡ suc (length bytes)
    → members_in form n left found bytes ≡ or_else (option_map (λ rest. (found, rest)) (map_end left bytes)) (member_at form found bytes >>= λ x. members_in form (length x.1 + 1) (one_less left) x.0 x.1)
unfolding members_in
members_suc form n left found [] e = rw (e, member_none form found) refl
members_suc form n left found (b ∷ bytes) e =
    ap (λ (m : ℕ). members_in form m left found (b ∷ bytes)) e ∙ (ap (or_else (option_map (λ rest. (found, rest)) (map_end left (b ∷ bytes))))
    (same_members (length bytes) (member_at form found (b ∷ bytes)) (members_in form (suc (length bytes)) (one_less left)) (λ more rest. members_in form (length rest + 1) (one_less left) more rest) (member_leaves form found b bytes)
    (λ more rest le. members_by form (suc (length bytes)) (length rest + 1) (one_less left) more rest (omega (arith, le)) (omega arith))))

pub members_step : (form : Form) (left : Option ℕ) (found : Fields) (bytes : List ℕ)
    → members_in form (length bytes + 1) left found bytes ≡ or_else (option_map (λ rest. (found, rest)) (map_end left bytes)) (member_at form found bytes >>= λ x. members_in form (length x.1 + 1) (one_less left) x.0 x.1)
members_step form left found bytes = members_suc form (length bytes + 1) left found bytes (omega arith)

pub at_map_end : (form : Form) (left : Option ℕ) (found : Fields) (rest behind : List ℕ) (total : Result (Fields × List ℕ) Stop) → map_end left rest ≡ Some behind → members_in form (length rest + 1) left found rest ≡ total → total ≡ Ok (found, behind)
at_map_end form left found rest behind total here so_far = sym so_far ∙ members_step form left found rest ∙ rw here refl

pub at_member : (form : Form) (left : Option ℕ) (found more : Fields) (rest behind : List ℕ) (total : Result (Fields × List ℕ) Stop) → map_end left rest ≡ None → member_at form found rest ≡ Ok (more, behind) → members_in form (length rest + 1) left found rest ≡ total
    → members_in form (length behind + 1) (one_less left) more behind ≡ total
at_member form left found more rest behind total none here so_far = sym (members_step form left found rest ∙ rw (none, here) refl) ∙ so_far

pub at_stop : (form : Form) (left : Option ℕ) (found : Fields) (rest : List ℕ) (stop : Stop) (total : Result (Fields × List ℕ) Stop) → map_end left rest ≡ None → member_at form found rest ≡ Err stop → members_in form (length rest + 1) left found rest ≡ total
    → total ≡ Err stop
at_stop form left found rest stop total none here so_far = sym so_far ∙ members_step form left found rest ∙ rw (none, here) refl
