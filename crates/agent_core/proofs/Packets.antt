-- What the effects of an entry send, effect by effect.
use Rattle.std.proofs.Common.{◌≡◌, ◌≤◌, ◌<◌, ℕ, ◌+◌, Bool, true, false, List, [], ◌∷◌, ◌++◌, length, take, drop, get_or, Option, Some, None, refl, ap, sym, ◌∙◌}
use Rattle.std.specs.Prelude.{◌||◌}
use Rattle.std.specs.List.{list_any}
use Rattle.std.proofs.lemmas.List.{take_more, take_all, take-append-drop}
use Rattle.agent_journal.specs.Readings.{sent_id, or_else, command_id}
use Rattle.agent_journal.specs.declared.effect.Effect.{Effect}
use Rattle.agent_journal.specs.declared.effect.Effect.TheVariants as f
use Rattle.agent_table.specs.Identifiers.{last_or}
use Rattle.agent_table.specs.Sends.{has_send, sends_ping, is_ping, sends_received, is_received, drawn_in, drawn_by}
use Rattle.agent_core.specs.Sending.{is_send, pings, receives, draws, identifies}

or_assoc : (a b c : Bool) → ((a || b) || c) ≡ (a || (b || c))
or_assoc true b c = refl
or_assoc false b c = refl

pub has_send_is : (effects : List Effect) (result : Bool) → result ≡ list_any is_send effects → result ≡ has_send effects
has_send_is effects result e = e ∙ go effects
  where
    go : (effects : List Effect) → list_any is_send effects ≡ has_send effects
    go [] = refl
    go (f.Send packet ∷ effects) = refl
    go (f.Done task seq outcome ∷ effects) = go effects
    go (f.Pass task message ∷ effects) = go effects
    go (f.Closed task ∷ effects) = go effects

pub sends_ping_is : (effects : List Effect) (result : Bool) → result ≡ list_any pings effects → result ≡ sends_ping effects
sends_ping_is effects result e = e ∙ go effects
  where
    go : (effects : List Effect) → list_any pings effects ≡ sends_ping effects
    go [] = refl
    go (f.Send packet ∷ effects) = ap (λ b. is_ping packet || b) (go effects)
    go (f.Done task seq outcome ∷ effects) = go effects
    go (f.Pass task message ∷ effects) = go effects
    go (f.Closed task ∷ effects) = go effects

pub sends_received_is : (n : ℕ) (effects : List Effect) (result : Bool) → result ≡ list_any (receives n) effects → result ≡ sends_received n effects
sends_received_is n effects result e = e ∙ go effects
  where
    go : (effects : List Effect) → list_any (receives n) effects ≡ sends_received n effects
    go [] = refl
    go (f.Send packet ∷ effects) = ap (λ b. is_received n packet || b) (go effects)
    go (f.Done task seq outcome ∷ effects) = go effects
    go (f.Pass task message ∷ effects) = go effects
    go (f.Closed task ∷ effects) = go effects

-- ---- The last one drawn

last_behind : (n : ℕ) (xs ys : List ℕ) → last_or n (xs ++ ys) ≡ last_or (last_or n xs) ys
last_behind n [] ys = refl
last_behind n (x ∷ xs) ys = last_behind x xs ys

drawn_step : (last : ℕ) (effects : List Effect) (effect : Effect) → last_or last (drawn_in (effects ++ effect ∷ [])) ≡ last_or (last_or last (drawn_in effects)) (draws effect)
drawn_step last [] (f.Send packet) = ap (last_or last) (nil_behind (drawn_by packet))
  where
    nil_behind : (xs : List ℕ) → xs ++ [] ≡ xs
    nil_behind [] = refl
    nil_behind (x ∷ xs) = ap (λ ys. x ∷ ys) (nil_behind xs)
drawn_step last [] (f.Done task seq outcome) = refl
drawn_step last [] (f.Pass task message) = refl
drawn_step last [] (f.Closed task) = refl
drawn_step last (f.Send packet ∷ effects) effect =
    last_behind last (drawn_by packet) (drawn_in (effects ++ effect ∷ [])) ∙ drawn_step (last_or last (drawn_by packet)) effects effect
    ∙ ap (λ n. last_or n (draws effect)) (sym (last_behind last (drawn_by packet) (drawn_in effects)))
drawn_step last (f.Done task seq outcome ∷ effects) effect = drawn_step last effects effect
drawn_step last (f.Pass task message ∷ effects) effect = drawn_step last effects effect
drawn_step last (f.Closed task ∷ effects) effect = drawn_step last effects effect

pub drawn_more : (start now new : ℕ) (effects : List Effect) (i : ℕ) (effect : Effect) → i < length effects → effect ≡ get_or effects i effect → now ≡ last_or start (drawn_in (take i effects))
    → new ≡ last_or now (draws effect) → new ≡ last_or start (drawn_in (take (i + 1) effects))
drawn_more start now new effects i effect within is so_far e =
    e ∙ ap (λ n. last_or n (draws effect)) so_far ∙ sym (drawn_step start (take i effects) effect)
    ∙ ap (λ es. last_or start (drawn_in es)) (sym (take_more effects i effect within ∙ ap (λ x. take i effects ++ x ∷ []) (sym is)))

pub drawn_all : (start now : ℕ) (effects : List Effect) (i : ℕ) → length effects ≤ i → now ≡ last_or start (drawn_in (take i effects)) → now ≡ last_or start (drawn_in effects)
drawn_all start now effects i end so_far = so_far ∙ ap (λ es. last_or start (drawn_in es)) (take_all i effects end)

-- ---- The first identifier

else_assoc : (a b c : Option ℕ) → or_else (or_else a b) c ≡ or_else a (or_else b c)
else_assoc None b c = refl
else_assoc (Some id) b c = refl

pub sent_append : (front rest : List Effect) → sent_id (front ++ rest) ≡ or_else (sent_id front) (sent_id rest)
sent_append [] rest = refl
sent_append (f.Send packet ∷ front) rest = ap (or_else (command_id packet)) (sent_append front rest) ∙ sym (else_assoc (command_id packet) (sent_id front) (sent_id rest))
sent_append (f.Done task seq outcome ∷ front) rest = sent_append front rest
sent_append (f.Pass task message ∷ front) rest = sent_append front rest
sent_append (f.Closed task ∷ front) rest = sent_append front rest

or_nothing : (id : Option ℕ) → or_else id None ≡ id
or_nothing None = refl
or_nothing (Some id) = refl

sent_one : (effect : Effect) → sent_id (effect ∷ []) ≡ identifies effect
sent_one (f.Send packet) = or_nothing (command_id packet)
sent_one (f.Done task seq outcome) = refl
sent_one (f.Pass task message) = refl
sent_one (f.Closed task) = refl

sent_more : (effects : List Effect) (i : ℕ) (effect : Effect) → i < length effects → effect ≡ get_or effects i effect → sent_id (take i effects) ≡ None → sent_id (take (i + 1) effects) ≡ identifies effect
sent_more effects i effect within is none =
    ap sent_id (take_more effects i effect within ∙ ap (λ x. take i effects ++ x ∷ []) (sym is)) ∙ sent_append (take i effects) (effect ∷ []) ∙ ap (λ id. or_else id (sent_id (effect ∷ []))) none ∙ sent_one effect

pub none_yet : (effects : List Effect) (i : ℕ) (effect : Effect) → i < length effects → effect ≡ get_or effects i effect → sent_id (take i effects) ≡ None → None ≡ identifies effect → sent_id (take (i + 1) effects) ≡ None
none_yet effects i effect within is none here = sent_more effects i effect within is none ∙ sym here

pub one_found : (effects : List Effect) (i id : ℕ) (effect : Effect) → i < length effects → effect ≡ get_or effects i effect → sent_id (take i effects) ≡ None → Some id ≡ identifies effect → Some id ≡ sent_id effects
one_found effects i id effect within is none here =
    sym (ap sent_id (sym (take-append-drop (i + 1) effects)) ∙ sent_append (take (i + 1) effects) (drop (i + 1) effects)
    ∙ ap (λ found. or_else found (sent_id (drop (i + 1) effects))) (sent_more effects i effect within is none ∙ sym here))

pub none_found : (effects : List Effect) (i : ℕ) → length effects ≤ i → sent_id (take i effects) ≡ None → None ≡ sent_id effects
none_found effects i end none = sym (ap sent_id (sym (take_all i effects end)) ∙ none)
