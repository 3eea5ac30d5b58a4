-- One text put behind another.
use Rattle.std.proofs.Common.{◌≡◌, ℕ, ◌+◌, ◌≤◌, ◌<◌, List, [], ◌∷◌, ◌++◌, length, take, Result, Ok, Err, refl, sym, ap, subst, ◌∙◌, append_assoc, length-append, arith}
use Rattle.std.specs.Prelude.{get_or}
use Rattle.std.specs.List.{flat_map}
use Rattle.std.proofs.lemmas.List.{take_all, append-nil}
use Rattle.mqtt_packet.specs.declared.packet.Packet.{Packet}
use Rattle.mqtt_packet.specs.Spelling.{spelling, first, body, remaining}
use Rattle.mqtt_packet.proofs.Loops.{bytes_more, length_within}
use Rattle.session_text.specs.declared.fault.TooSmall.{TooSmall}
use Rattle.session_text.specs.Spelling.{Puts, byte, number32, packet_text, parts_text}

pub puts_then : (a b : List ℕ) (at end : ℕ) (old mid new : List ℕ) (r : Result ℕ TooSmall) → Puts a at old mid (Ok end) → Puts b end mid new r → Puts (a ++ b) at old new r
puts_then a b at end old mid new (Ok last) one two =
    let len = length-append a b in
    (omega (arith, len, one.0, two.0), omega (arith, one.2, two.1), two.2 ∙ one.2, two.3 ∙ ap (λ (t : List ℕ). t ++ b) one.3 ∙ append_assoc (take at old) a b)
puts_then a b at end old mid new (Err e) one two = let len = length-append a b in (omega (arith, len, one.0, one.2, two.0), two.1 ∙ one.2)

-- where the first one doesn't fit, both together don't
pub puts_stop : (a b : List ℕ) (at : ℕ) (old new : List ℕ) (e f : TooSmall) → Puts a at old new (Err e) → Puts (a ++ b) at old new (Err f)
puts_stop a b at old new e f one = let len = length-append a b in (omega (arith, len, one.0), one.1)

-- ---- Packets

-- a packet by its parts
pub parts_is : (packet : Packet) → parts_text packet ≡ packet_text packet
unfolding byte
parts_is packet =
    let n = length (body packet) in
    let front = first packet ∷ remaining n in
    let len = length-append front (body packet) in
    let size : 1 + length (remaining n) + n ≡ length (spelling packet) = omega (arith, len) in
    append_assoc (number32 (1 + length (remaining n) + n)) front (body packet) ∙ ap (λ (k : ℕ). number32 k ++ (front ++ body packet)) size

-- ---- Loops

-- one more item of a list
pub puts_more : {X : Type 0} (f : X → List ℕ) (xs : List X) (i : ℕ) (x : X) (at end : ℕ) (old mid new : List ℕ) (r : Result ℕ TooSmall) → i < length xs → x ≡ get_or xs i x
    → Puts (flat_map f (take i xs)) at old mid (Ok end) → Puts (f x) end mid new r → Puts (flat_map f (take (i + 1) xs)) at old new r
puts_more f xs i x at end old mid new r below is one two =
    subst (λ (t : List ℕ). Puts t at old new r) (bytes_more f xs i x [] below is) (puts_then (flat_map f (take i xs)) (f x) at end old mid new r one two)

-- an item of a list that doesn't fit
pub puts_out : {X : Type 0} (f : X → List ℕ) (xs : List X) (i : ℕ) (x : X) (at end : ℕ) (old mid new : List ℕ) (e d : TooSmall) → i < length xs → x ≡ get_or xs i x
    → Puts (flat_map f (take i xs)) at old mid (Ok end) → Puts (f x) end mid new (Err e) → Puts (flat_map f xs) at old new (Err d)
puts_out f xs i x at end old mid new e d below is one two =
    let within = length_within f xs i x below is in
    (omega (arith, within, one.0, one.2, two.0), two.1 ∙ one.2)

pub puts_all : {X : Type 0} (f : X → List ℕ) (xs : List X) (i : ℕ) (at end : ℕ) (old new : List ℕ) → length xs ≤ i → Puts (flat_map f (take i xs)) at old new (Ok end) → Puts (flat_map f xs) at old new (Ok end)
puts_all f xs i at end old new past one = subst (λ (ys : List _). Puts (flat_map f ys) at old new (Ok end)) (take_all i xs past) one

pub puts_none : {X : Type 0} (f : X → List ℕ) (xs : List X) (at : ℕ) (old : List ℕ) → at ≤ length old → Puts (flat_map f (take 0 xs)) at old old (Ok at)
puts_none f xs at old fits = (omega arith, fits, refl, sym (append-nil (take at old)))
