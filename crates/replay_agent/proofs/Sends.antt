-- Bytes are sent as far as there is room.
use Rattle.std.proofs.Common.{◌≡◌, ℕ, ◌+◌, ◌-◌, ◌≤◌, List, [], ◌∷◌, ◌++◌, length, take, drop, Option, Some, None, refl, sym, ap, ◌∙◌, arith, append_assoc, take-add, length-drop}
use Rattle.std.proofs.lemmas.List.{append-nil, take_all}
use Rattle.agent_link.specs.Wires.{onto_last}
use Rattle.broker_tape.specs.Playing.{fitting, room_behind}

pub onto_nothing : (ws : List (List ℕ)) → ws ≡ onto_last ws []
onto_nothing [] = refl
onto_nothing (w ∷ []) = ap (λ (v : List ℕ). v ∷ []) (sym (append-nil w))
onto_nothing (w ∷ next ∷ ws) = ap (λ (vs : List (List ℕ)). w ∷ vs) (onto_nothing (next ∷ ws))

-- onto_last keeps a second wire
behind : (w next : List ℕ) (ws : List (List ℕ)) (a b : List ℕ) → onto_last (w ∷ onto_last (next ∷ ws) a) b ≡ w ∷ onto_last (next ∷ ws) (a ++ b)
behind w next [] a b = ap (λ (v : List ℕ). w ∷ v ∷ []) (append_assoc next a b)
behind w next (third ∷ ws) a b = ap (λ (vs : List (List ℕ)). w ∷ vs) (behind next third ws a b)

onto_twice : (ws : List (List ℕ)) (a b : List ℕ) → onto_last (onto_last ws a) b ≡ onto_last ws (a ++ b)
onto_twice [] a b = refl
onto_twice (w ∷ []) a b = ap (λ (v : List ℕ). v ∷ []) (append_assoc w a b)
onto_twice (w ∷ next ∷ ws) a b = behind w next ws a b

-- a piece more was taken
pub sent_more : (start now next : List (List ℕ)) (bytes : List ℕ) (sent count : ℕ) → now ≡ onto_last start (take sent bytes) → next ≡ onto_last now (take count (drop sent bytes))
    → next ≡ onto_last start (take (sent + count) bytes)
sent_more start now next bytes sent count before more =
    more ∙ ap (λ ws. onto_last ws (take count (drop sent bytes))) before ∙ onto_twice start (take sent bytes) (take count (drop sent bytes)) ∙ ap (onto_last start) (sym (take-add sent count bytes))

pub room_more : (start : Option ℕ) (sent count : ℕ) → room_behind (room_behind start sent) count ≡ room_behind start (sent + count)
room_more None sent count = refl
room_more (Some room) sent count = ap Some (omega arith)

pub fits_more : (start : Option ℕ) (len sent count : ℕ) → sent ≤ fitting start len → count ≡ fitting (room_behind start sent) (len - sent) → sent + count ≤ fitting start len
fits_more None len sent count within e = omega (arith, within, e)
fits_more (Some room) len sent count within e = omega (arith, within, e)

pub fits_within : (start : Option ℕ) (len : ℕ) → fitting start len ≤ len
fits_within None len = omega arith
fits_within (Some room) len = omega arith

-- all was taken
pub fits_whole : (start : Option ℕ) (len sent : ℕ) → sent ≤ fitting start len → len ≤ sent → sent ≡ fitting start len
fits_whole start len sent within all = let most = fits_within start len in omega (arith, within, all, most)

-- nothing more is taken
pub fits_part : (start : Option ℕ) (len sent : ℕ) → sent ≤ fitting start len → fitting (room_behind start sent) (len - sent) ≡ 0 → sent ≡ fitting start len
fits_part None len sent within none = omega (arith, within, none)
fits_part (Some room) len sent within none = omega (arith, within, none)

pub unsome : {A : Type 0} {x y : A} → Some x ≡ Some y → x ≡ y
unsome e = cc e

-- what stands behind so many bytes, as a slice
pub slice_rest : (sent : ℕ) (bytes : List ℕ) → take (length bytes - sent) (drop sent bytes) ≡ drop sent bytes
slice_rest sent bytes = take_all (length bytes - sent) (drop sent bytes) (omega (arith, length-drop sent bytes))
