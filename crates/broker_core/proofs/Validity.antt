-- Subscriptions have valid filters.
use Rattle.std.proofs.Common.{◌≡◌, Bool, true, false, List, [], ◌∷◌, ◌++◌, ℕ, refl}
use Rattle.std.specs.Prelude.{filter}
use Rattle.std.specs.List.{list_all}
use Rattle.mqtt_packet.specs.declared.will.Ask.{Ask}
use Rattle.broker_core.specs.Subscribed.{is_valid, entered, all_entered, unsubscribed}

pub all_pass : {X : Type 0} (test : X → Bool) (xs : List X) → list_all test (filter test xs) ≡ true
all_pass test [] = refl
all_pass test (x ∷ xs) = go (test x) refl (all_pass test xs)
  where
    go : (b : Bool) → test x ≡ b → list_all test (filter test xs) ≡ true → list_all test (filter test (x ∷ xs)) ≡ true
    go true e rest = rw (e, e) rest
    go false e rest = rw e rest

pub still_all : {X : Type 0} (test other : X → Bool) (xs : List X) → list_all test xs ≡ true → list_all test (filter other xs) ≡ true
still_all test other [] all = refl
still_all test other (x ∷ xs) all = go (test x) (other x) refl refl (still_all test other xs)
  where
    go : (a b : Bool) → test x ≡ a → other x ≡ b → (list_all test xs ≡ true → list_all test (filter other xs) ≡ true) → list_all test (filter other (x ∷ xs)) ≡ true
    go true true ea eb rest = rw (eb, ea) (rest (rw ea at all))
    go true false ea eb rest = rw eb (rest (rw ea at all))
    go false b ea eb rest = absurd (cc (rw ea at all))

both : {X : Type 0} (test : X → Bool) (xs ys : List X) → list_all test xs ≡ true → list_all test ys ≡ true → list_all test (xs ++ ys) ≡ true
both test [] ys a b = b
both test (x ∷ xs) ys a b = go (test x) refl (λ h. both test xs ys h b)
  where
    go : (t : Bool) → test x ≡ t → (list_all test xs ≡ true → list_all test (xs ++ ys) ≡ true) → list_all test (x ∷ xs ++ ys) ≡ true
    go true e rest = rw e (rest (rw e at a))
    go false e rest = absurd (cc (rw e at a))

one_valid : (ask : Ask) (asks : List Ask) → list_all is_valid (ask ∷ asks) ≡ true → (is_valid ask ≡ true) × (list_all is_valid asks ≡ true)
one_valid ask asks a = go (is_valid ask) refl
  where
    go : (t : Bool) → is_valid ask ≡ t → (is_valid ask ≡ true) × (list_all is_valid asks ≡ true)
    go true e = (e, rw e at a)
    go false e = absurd (cc (rw e at a))

all_valid : (asks held : List Ask) → list_all is_valid held ≡ true → list_all is_valid asks ≡ true → list_all is_valid (all_entered asks held) ≡ true
all_valid [] held h a = h
all_valid (ask ∷ asks) held h a =
    let parts = one_valid ask asks a in
    all_valid asks (entered ask held) (both is_valid _ (ask ∷ []) (still_all is_valid _ held h) (rw parts.0 refl)) parts.1

pub entered_valid : (now asks held : List Ask) → now ≡ all_entered asks held → list_all is_valid held ≡ true → list_all is_valid asks ≡ true → list_all is_valid now ≡ true
entered_valid now asks held e h a = rw e (all_valid asks held h a)

pub kept_valid : (now : List Ask) (filters : List (List ℕ)) (held : List Ask) → now ≡ unsubscribed filters held → list_all is_valid held ≡ true → list_all is_valid now ≡ true
kept_valid now filters held e h = rw e (still_all is_valid _ held h)
