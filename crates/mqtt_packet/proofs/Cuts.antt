-- An answer is determined by what was fed and handed out, and the end of a stream by what was fed alone.
use Rattle.std.proofs.Common.{◌≡◌, ℕ, ◌-◌, ◌^◌, List, [], ◌∷◌, ◌++◌, length, min, refl, sym, ap, subst, ◌∙◌}
use Rattle.std.proofs.lemmas.List.{append_cancel_left}
use Rattle.mqtt_packet.specs.declared.packet.Packet.{Packet}
use Rattle.mqtt_packet.specs.declared.splitter.Next.{Next}
use Rattle.mqtt_packet.specs.declared.splitter.Next.TheVariants as answers
use Rattle.mqtt_packet.specs.Grammar.{Spells}
use Rattle.mqtt_packet.specs.Stream.{SpellAll, Splits, IsBad, HasSizeAboveLimit}
use Rattle.mqtt_packet.specs.Splitting.{Tells}
use Rattle.mqtt_packet.specs.Laws.{AnswersAreDetermined, CutsMakeNoDifference, IsNoPacket}
use Rattle.mqtt_packet.proofs.Uniqueness.{have_one_spelling}
use Rattle.mqtt_packet.proofs.Streams.{same_front, streams_are_unique, sizes_are_unique}

spelled_one : (packets : List Packet) (a b : List ℕ) → SpellAll packets a → SpellAll packets b → a ≡ b
spelled_one [] a b h k = h ∙ sym k
spelled_one (packet ∷ packets) a b h k =
    h.2 ∙ ap (λ (t : List ℕ). t ++ h.1) (have_one_spelling packet h.0 k.0 h.3 k.3) ∙ ap (λ (t : List ℕ). k.0 ++ t) (spelled_one packets h.1 k.1 h.4 k.4) ∙ sym k.2

record Same (front other rest behind : List ℕ) : Type 0 where
  fronts : front ≡ other
  rests : rest ≡ behind

same : (fed : List ℕ) (handed : List Packet) (front other rest behind : List ℕ) → fed ≡ front ++ rest → fed ≡ other ++ behind → SpellAll handed front → SpellAll handed other → Same front other rest behind
same fed handed front other rest behind e f h k =
    let one = spelled_one handed front other h k in
    record { fronts = one; rests = append_cancel_left other rest behind (sym (ap (λ (t : List ℕ). t ++ rest) one) ∙ sym e ∙ f) }

-- a packet and the end of a stream don't stand at one place
no_packet : (fed : List ℕ) (handed : List Packet) (packet : Packet) (front own rest other behind : List ℕ) → fed ≡ front ++ (own ++ rest) → SpellAll handed front → Spells packet own → Splits fed handed other behind → ⊥
no_packet fed handed packet front own rest other behind e h s split =
    let one = same fed handed front other (own ++ rest) behind e split.0 h split.1 in
    split.2 packet own rest (sym one.rests) s

offset : (a b : ℕ) (front other : List ℕ) → front ≡ other → a ≡ min (length front) (2 ^ 64 - 1) → b ≡ min (length other) (2 ^ 64 - 1) → a ≡ b
offset a b front other e f g = f ∙ ap (λ (t : List ℕ). min (length t) (2 ^ 64 - 1)) e ∙ sym g

pub answers_are_determined : AnswersAreDetermined
answers_are_determined fed handed (answers.Packet packet) (answers.Packet other) (front, own, rest, e, h, s) (front2, own2, rest2, e2, h2, s2) =
    let one = same fed handed front front2 (own ++ rest) (own2 ++ rest2) e e2 h h2 in
    ap (λ (p : Packet). answers.Packet p) (same_front packet other (own ++ rest) own own2 rest rest2 s s2 refl one.rests).0
answers_are_determined fed handed (answers.Packet packet) answers.More (front, own, rest, e, h, s) (front2, rest2, split, v) = absurd (no_packet fed handed packet front own rest front2 rest2 e h s split)
answers_are_determined fed handed (answers.Packet packet) (answers.Bad at) (front, own, rest, e, h, s) (front2, rest2, split, v, a) = absurd (no_packet fed handed packet front own rest front2 rest2 e h s split)
answers_are_determined fed handed (answers.Packet packet) (answers.TooLong at len) (front, own, rest, e, h, s) (front2, rest2, split, v, a) = absurd (no_packet fed handed packet front own rest front2 rest2 e h s split)
answers_are_determined fed handed answers.More (answers.Packet packet) (front2, rest2, split, v) (front, own, rest, e, h, s) = absurd (no_packet fed handed packet front own rest front2 rest2 e h s split)
answers_are_determined fed handed (answers.Bad at) (answers.Packet packet) (front2, rest2, split, v, a) (front, own, rest, e, h, s) = absurd (no_packet fed handed packet front own rest front2 rest2 e h s split)
answers_are_determined fed handed (answers.TooLong at len) (answers.Packet packet) (front2, rest2, split, v, a) (front, own, rest, e, h, s) = absurd (no_packet fed handed packet front own rest front2 rest2 e h s split)
answers_are_determined fed handed answers.More answers.More one two = refl
answers_are_determined fed handed answers.More (answers.Bad at) (front, rest, split, v) (front2, rest2, split2, bad, a) =
    absurd (v.0 (subst (λ (t : List ℕ). IsBad t) (sym (same fed handed front front2 rest rest2 split.0 split2.0 split.1 split2.1).rests) bad))
answers_are_determined fed handed (answers.Bad at) answers.More (front2, rest2, split2, bad, a) (front, rest, split, v) =
    absurd (v.0 (subst (λ (t : List ℕ). IsBad t) (sym (same fed handed front front2 rest rest2 split.0 split2.0 split.1 split2.1).rests) bad))
answers_are_determined fed handed answers.More (answers.TooLong at len) (front, rest, split, v) (front2, rest2, split2, long, a) =
    absurd (v.1 len (subst (λ (t : List ℕ). HasSizeAboveLimit t len) (sym (same fed handed front front2 rest rest2 split.0 split2.0 split.1 split2.1).rests) long.1))
answers_are_determined fed handed (answers.TooLong at len) answers.More (front2, rest2, split2, long, a) (front, rest, split, v) =
    absurd (v.1 len (subst (λ (t : List ℕ). HasSizeAboveLimit t len) (sym (same fed handed front front2 rest rest2 split.0 split2.0 split.1 split2.1).rests) long.1))
answers_are_determined fed handed (answers.Bad at) (answers.TooLong at2 len) (front, rest, split, bad, a) (front2, rest2, split2, long, b) =
    absurd (long.0 (subst (λ (t : List ℕ). IsBad t) (same fed handed front front2 rest rest2 split.0 split2.0 split.1 split2.1).rests bad))
answers_are_determined fed handed (answers.TooLong at2 len) (answers.Bad at) (front2, rest2, split2, long, b) (front, rest, split, bad, a) =
    absurd (long.0 (subst (λ (t : List ℕ). IsBad t) (same fed handed front front2 rest rest2 split.0 split2.0 split.1 split2.1).rests bad))
answers_are_determined fed handed (answers.Bad at) (answers.Bad at2) (front, rest, split, bad, a) (front2, rest2, split2, bad2, b) =
    ap (λ (n : ℕ). answers.Bad n) (offset at at2 front front2 (same fed handed front front2 rest rest2 split.0 split2.0 split.1 split2.1).fronts a b)
answers_are_determined fed handed (answers.TooLong at len) (answers.TooLong at2 len2) (front, rest, split, long, a) (front2, rest2, split2, long2, b) =
    let one = same fed handed front front2 rest rest2 split.0 split2.0 split.1 split2.1 in
    let size : len ≡ len2 = sizes_are_unique rest2 len len2 (subst (λ (t : List ℕ). HasSizeAboveLimit t len) one.rests long.1) long2.1 in
    ap (λ (n : ℕ). answers.TooLong n len) (offset at at2 front front2 one.fronts a b) ∙ ap (λ (n : ℕ). answers.TooLong at2 n) size

-- the packets of a stream that has ended
packets_one : (fed : List ℕ) (handed others : List Packet) (front rest other behind : List ℕ) → Splits fed handed front rest → Splits fed others other behind → handed ≡ others
packets_one fed handed others front rest other behind a b = (streams_are_unique fed handed others rest behind (front, a) (other, b)).0

split_of : (fed : List ℕ) (handed : List Packet) (next : Next) → IsNoPacket next → Tells fed handed next → (front rest : List ℕ) × Splits fed handed front rest
split_of fed handed (answers.Packet packet) end t = absurd end
split_of fed handed answers.More end (front, rest, split, v) = (front, rest, split)
split_of fed handed (answers.Bad at) end (front, rest, split, v, a) = (front, rest, split)
split_of fed handed (answers.TooLong at len) end (front, rest, split, v, a) = (front, rest, split)

pub cuts_make_no_difference : CutsMakeNoDifference
cuts_make_no_difference fed handed others next other end last t u =
    let a = split_of fed handed next end t in
    let b = split_of fed others other last u in
    let packets = packets_one fed handed others a.0 a.1 b.0 b.1 a.2 b.2 in
    (packets, answers_are_determined fed others next other (subst (λ (ps : List Packet). Tells fed ps next) packets t) u)
