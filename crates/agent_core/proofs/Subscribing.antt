-- Renewals, packet by packet.
use Rattle.std.proofs.Common.{◌≡◌, ℕ, zero, suc, ◌+◌, ◌<◌, ◌≤◌, List, [], ◌∷◌, ◌++◌, length, take, drop, refl, ap, sym, ◌∙◌, arith}
use Rattle.std.proofs.lemmas.List.{append_assoc, append-nil}
use Rattle.mqtt_packet.specs.declared.packet.Packet.TheVariants as p
use Rattle.mqtt_packet.specs.declared.will.Ask.{Ask}
use Rattle.agent_journal.specs.declared.effect.Effect.{Effect}
use Rattle.agent_journal.specs.declared.effect.Effect.TheVariants as f
use Rattle.agent_table.specs.Effects.{subscribes}
use Rattle.agent_table.specs.Identifiers.{fresh}

drop_most : (n : ℕ) (asks : List Ask) → length (drop n asks) ≤ length asks
drop_most zero asks = omega arith
drop_most (suc n) [] = omega arith
drop_most (suc n) (ask ∷ asks) = let rest = drop_most n asks in omega (arith, rest)

abbrev nothing : List Ask
nothing = []

drop_none : (k : ℕ) → drop k nothing ≡ nothing
drop_none zero = refl
drop_none (suc k) = refl

drop_further : (n m : ℕ) (asks : List Ask) → drop m (drop n asks) ≡ drop (n + m) asks
drop_further zero m asks = ap (λ k. drop k asks) (plus m)
  where
    plus : (m : ℕ) → m ≡ 0 + m
    plus m = omega arith
drop_further (suc n) m [] = drop_none m ∙ sym (drop_none (suc n + m))
drop_further (suc n) m (ask ∷ asks) = drop_further n m asks ∙ ap (λ k. drop k (ask ∷ asks)) (plus n m)
  where
    plus : (n m : ℕ) → suc (n + m) ≡ suc n + m
    plus n m = omega arith

none_left : (k last : ℕ) (in_use : List ℕ) → subscribes k last in_use [] ≡ []
none_left zero last in_use = refl
none_left (suc k) last in_use = refl

-- as many packets as there are filters are enough
enough : (k m last : ℕ) (in_use : List ℕ) (asks : List Ask) → length asks ≤ k → length asks ≤ m → subscribes k last in_use asks ≡ subscribes m last in_use asks
enough k m last in_use [] few less = none_left k last in_use ∙ sym (none_left m last in_use)
enough zero m last in_use (ask ∷ asks) few less = absurd (omega (arith, few))
enough (suc k) zero last in_use (ask ∷ asks) few less = absurd (omega (arith, less))
enough (suc k) (suc m) last in_use (ask ∷ asks) few less =
    let most = drop_most 7 asks in
    ap (λ es. f.Send (p.Subscribe (fresh last in_use) (take 8 (ask ∷ asks))) ∷ es) (enough k m (fresh last in_use) (fresh last in_use ∷ in_use) (drop 8 (ask ∷ asks)) (omega (arith, most, few)) (omega (arith, most, less)))

one_more : (last : ℕ) (in_use : List ℕ) (asks : List Ask) → (take 8 asks ≡ [] → ⊥) → subscribes (length asks) last in_use asks
    ≡ f.Send (p.Subscribe (fresh last in_use) (take 8 asks)) ∷ subscribes (length (drop 8 asks)) (fresh last in_use) (fresh last in_use ∷ in_use) (drop 8 asks)
one_more last in_use [] some = absurd (some refl)
one_more last in_use (ask ∷ asks) some =
    let most = drop_most 7 asks in
    ap (λ es. f.Send (p.Subscribe (fresh last in_use) (take 8 (ask ∷ asks))) ∷ es) (enough (length asks) (length (drop 8 (ask ∷ asks))) (fresh last in_use) (fresh last in_use ∷ in_use) (drop 8 (ask ∷ asks)) (omega (arith, most)) (omega arith))

further : (now new goal : List Effect) (from last id : ℕ) (in_use : List ℕ) (asks part : List Ask) → part ≡ take 8 (drop from asks) → (part ≡ [] → ⊥) → id ≡ fresh last in_use
    → now ++ subscribes (length (drop from asks)) last in_use (drop from asks) ≡ goal → new ≡ now ++ f.Send (p.Subscribe id part) ∷ []
    → new ++ subscribes (length (drop (from + 8) asks)) id (id ∷ in_use) (drop (from + 8) asks) ≡ goal
further now new goal from last id in_use asks part is some fresh_is so_far pushed =
    let rest = subscribes (length (drop 8 (drop from asks))) (fresh last in_use) (fresh last in_use ∷ in_use) (drop 8 (drop from asks)) in
    ap (λ es. es ++ subscribes (length (drop (from + 8) asks)) id (id ∷ in_use) (drop (from + 8) asks)) (pushed ∙ ap (λ n. now ++ f.Send (p.Subscribe n part) ∷ []) fresh_is ∙ ap (λ qs. now ++ f.Send (p.Subscribe (fresh last in_use) qs) ∷ []) is)
    ∙ append_assoc now (f.Send (p.Subscribe (fresh last in_use) (take 8 (drop from asks))) ∷ []) (subscribes (length (drop (from + 8) asks)) id (id ∷ in_use) (drop (from + 8) asks))
    ∙ ap (λ n. now ++ f.Send (p.Subscribe (fresh last in_use) (take 8 (drop from asks))) ∷ subscribes (length (drop (from + 8) asks)) n (n ∷ in_use) (drop (from + 8) asks)) fresh_is
    ∙ ap (λ qs. now ++ f.Send (p.Subscribe (fresh last in_use) (take 8 (drop from asks))) ∷ subscribes (length qs) (fresh last in_use) (fresh last in_use ∷ in_use) qs) (sym (drop_further from 8 asks))
    ∙ ap (λ es. now ++ es) (sym (one_more last in_use (drop from asks) (λ none. some (is ∙ none)))) ∙ so_far

pub subscribed_more : (now new goal : List Effect) (from last id : ℕ) (drawn ids used : List ℕ) (asks part : List Ask) → part ≡ take 8 (drop from asks) → (part ≡ [] → ⊥) → id ≡ fresh last (drawn ++ used) → ids ≡ id ∷ drawn
    → now ++ subscribes (length (drop from asks)) last (drawn ++ used) (drop from asks) ≡ goal → new ≡ now ++ f.Send (p.Subscribe id part) ∷ []
    → new ++ subscribes (length (drop (from + 8) asks)) id (ids ++ used) (drop (from + 8) asks) ≡ goal
subscribed_more now new goal from last id drawn ids used asks part is some fresh_is ids_are so_far pushed =
    ap (λ ns. new ++ subscribes (length (drop (from + 8) asks)) id (ns ++ used) (drop (from + 8) asks)) ids_are ∙ further now new goal from last id (drawn ++ used) asks part is some fresh_is so_far pushed

pub subscribed_end : (now goal : List Effect) (from last : ℕ) (in_use : List ℕ) (asks : List Ask) → take 8 (drop from asks) ≡ [] → now ++ subscribes (length (drop from asks)) last in_use (drop from asks) ≡ goal → now ≡ goal
subscribed_end now goal from last in_use asks none so_far = sym (ap (λ qs. now ++ subscribes (length qs) last in_use qs) (none_of (drop from asks) none) ∙ append-nil now) ∙ so_far
  where
    none_of : (qs : List Ask) → take 8 qs ≡ [] → qs ≡ []
    none_of [] e = refl
    none_of (q ∷ qs) e = absurd (cc e)

left_of : (from : ℕ) (asks : List Ask) → (take 8 (drop from asks) ≡ [] → ⊥) → from < length asks
left_of zero [] some = absurd (some refl)
left_of zero (ask ∷ asks) some = omega arith
left_of (suc from) [] some = absurd (some refl)
left_of (suc from) (ask ∷ asks) some = let rest = left_of from asks some in omega (arith, rest)

pub more_left : (from : ℕ) (asks part : List Ask) → part ≡ take 8 (drop from asks) → (part ≡ [] → ⊥) → from < length asks
more_left from asks part is some = left_of from asks (λ none. some (is ∙ none))
