-- What a SUBACK says of a filter, as tests over the pairs.
use Rattle.std.proofs.Common.{sym, ◌∙◌, ◌≡◌, ℕ, Bool, true, false, not, ◌&&◌, ◌||◌, nat_lt, nat_le, List, [], ◌∷◌, ◌++◌, reverse, map, Option, Some, None, refl, ap, arith}
use Rattle.std.specs.List.{list_any, find, filter, filter_map, zip, flat_map}
use Rattle.std.specs.Option.{option_map, option_or, unwrap_or}
use Rattle.std.specs.Str.{bytes_eq}
use Rattle.std.proofs.lemmas.Bool.Decides.{nat_tests}
use Rattle.std.proofs.lemmas.List.{reverse-append}
use Rattle.std.proofs.lemmas.List.Folds.{find-append}
use Rattle.mqtt_packet.specs.declared.qos.Qos.{Qos}
use Rattle.mqtt_packet.specs.declared.will.Ask.{Ask}
use Rattle.agent_table.specs.Filters.{is_one_of}
use Rattle.agent_table.specs.Routes.{coded, granted_in, refused_in, last_asked, or_earlier}
use Rattle.subscriptions.specs.Routing.{Granted, renewed_as, settled, renewal_coded}
use Rattle.subscriptions.specs.Parts.{confirmed, left_of}

pub grants_are : (asks : List Ask) (codes : List ℕ) (topics : List ℕ) → list_any (λ pair. nat_lt pair.1 128 && bytes_eq pair.0.filter topics) (zip asks codes) ≡ is_one_of (granted_in (coded asks codes)) topics
grants_are [] codes topics = refl
grants_are (ask ∷ asks) [] topics = refl
grants_are (ask ∷ asks) (code ∷ codes) topics = go (nat_lt code 128) refl (grants_are asks codes topics)
  where
    go : (b : Bool) → nat_lt code 128 ≡ b → list_any (λ pair. nat_lt pair.1 128 && bytes_eq pair.0.filter topics) (zip asks codes) ≡ is_one_of (granted_in (coded asks codes)) topics
        → list_any (λ pair. nat_lt pair.1 128 && bytes_eq pair.0.filter topics) (zip (ask ∷ asks) (code ∷ codes)) ≡ is_one_of (granted_in (coded (ask ∷ asks) (code ∷ codes))) topics
    go true e rest = rw e (ap (λ others. bytes_eq ask.filter topics || others) rest)
    go false e rest = rw e rest

at_least : (code : ℕ) → nat_le 128 code ≡ not (nat_lt code 128)
at_least code = grind (arith, nat_tests)

pub refuses_are : (asks : List Ask) (codes : List ℕ) (topics : List ℕ) → list_any (λ pair. nat_le 128 pair.1 && bytes_eq pair.0.filter topics) (zip asks codes) ≡ is_one_of (refused_in (coded asks codes)) topics
refuses_are [] codes topics = refl
refuses_are (ask ∷ asks) [] topics = refl
refuses_are (ask ∷ asks) (code ∷ codes) topics = go (nat_lt code 128) refl (refuses_are asks codes topics)
  where
    go : (b : Bool) → nat_lt code 128 ≡ b → list_any (λ pair. nat_le 128 pair.1 && bytes_eq pair.0.filter topics) (zip asks codes) ≡ is_one_of (refused_in (coded asks codes)) topics
        → list_any (λ pair. nat_le 128 pair.1 && bytes_eq pair.0.filter topics) (zip (ask ∷ asks) (code ∷ codes)) ≡ is_one_of (refused_in (coded (ask ∷ asks) (code ∷ codes))) topics
    go true e rest = rw (at_least code, e) rest
    go false e rest = rw (at_least code, e) (ap (λ others. bytes_eq ask.filter topics || others) rest)

reverse-cons : {X : Type 0} (x : X) (xs : List X) → reverse (x ∷ xs) ≡ reverse xs ++ x ∷ []
reverse-cons x xs = reverse-append (x ∷ []) xs

pub last_is : (asks : List Ask) (topics : List ℕ) → option_map (λ ask. ask.qos) (find (λ ask. bytes_eq ask.filter topics) (reverse asks)) ≡ last_asked asks topics
last_is [] topics = refl
last_is (ask ∷ asks) topics = rw (reverse-cons ask asks, find-append (λ a. bytes_eq a.filter topics) (reverse asks) (ask ∷ [])) (go (bytes_eq ask.filter topics) refl (find (λ a. bytes_eq a.filter topics) (reverse asks)) (last_is asks topics))
  where
    go : (b : Bool) → bytes_eq ask.filter topics ≡ b → (later : Option Ask) → option_map (λ a. a.qos) later ≡ last_asked asks topics
        → option_map (λ a. a.qos) (option_or later (find (λ a. bytes_eq a.filter topics) (ask ∷ []))) ≡ last_asked (ask ∷ asks) topics
    go true e (Some later) is = rw (e, ← is) refl
    go true e None is = rw (e, ← is) refl
    go false e (Some later) is = rw (e, ← is) refl
    go false e None is = rw (e, ← is) refl

pub later_or : (later : Option Qos) (earlier : Qos) → unwrap_or later earlier ≡ or_earlier later earlier
later_or None earlier = refl
later_or (Some qos) earlier = refl

-- what a granted route is behind the SUBACK
pub renewed_is : (asks : List Ask) (codes : List ℕ) (g : Granted) (qos : Qos) → list_any (λ pair. nat_lt pair.1 128 && bytes_eq pair.0.filter g.topics) (zip asks codes) ≡ true
    → qos ≡ unwrap_or (option_map (λ ask. ask.qos) (find (λ ask. bytes_eq ask.filter g.topics) (reverse asks))) g.qos → record g { qos = qos; sure = true } ≡ renewed_as (granted_in (coded asks codes)) asks g
renewed_is asks codes g qos hit is = rw (sym (grants_are asks codes g.topics) ∙ hit) (ap (λ q. record g { qos = q; sure = true }) (is ∙ rw (last_is asks g.topics) (later_or (last_asked asks g.topics) g.qos)))

-- what an earlier ask is left with behind the SUBACK
pub settled_is : (asks : List Ask) (codes : List ℕ) (ask : Ask) (qos : Qos) → list_any (λ pair. nat_lt pair.1 128 && bytes_eq pair.0.filter ask.filter) (zip asks codes) ≡ true
    → qos ≡ unwrap_or (option_map (λ a. a.qos) (find (λ a. bytes_eq a.filter ask.filter) (reverse asks))) ask.qos → record ask { qos = qos } ≡ settled (granted_in (coded asks codes)) asks ask
settled_is asks codes ask qos hit is = rw (sym (grants_are asks codes ask.filter) ∙ hit) (ap (λ q. record ask { qos = q }) (is ∙ rw (last_is asks ask.filter) (later_or (last_asked asks ask.filter) ask.qos)))

pub unsettled_is : (asks : List Ask) (codes : List ℕ) (ask : Ask) → list_any (λ pair. nat_lt pair.1 128 && bytes_eq pair.0.filter ask.filter) (zip asks codes) ≡ false → ask ≡ settled (granted_in (coded asks codes)) asks ask
unsettled_is asks codes ask miss = rw (sym (grants_are asks codes ask.filter) ∙ miss) refl

pub renewed_all : (asks : List Ask) (codes : List ℕ) (gs : List Granted) → map (confirmed (granted_in (coded asks codes))) (filter (λ g. not (is_one_of (refused_in (coded asks codes)) g.topics)) gs) ≡ flat_map (renewal_coded asks codes) gs
renewed_all asks codes [] = refl
renewed_all asks codes (g ∷ gs) = go (is_one_of (refused_in (coded asks codes)) g.topics) refl (is_one_of (granted_in (coded asks codes)) g.topics) refl (renewed_all asks codes gs)
  where
    go : (b : Bool) → is_one_of (refused_in (coded asks codes)) g.topics ≡ b → (t : Bool) → is_one_of (granted_in (coded asks codes)) g.topics ≡ t
        → map (confirmed (granted_in (coded asks codes))) (filter (λ other. not (is_one_of (refused_in (coded asks codes)) other.topics)) gs) ≡ flat_map (renewal_coded asks codes) gs
        → map (confirmed (granted_in (coded asks codes))) (filter (λ other. not (is_one_of (refused_in (coded asks codes)) other.topics)) (g ∷ gs)) ≡ flat_map (renewal_coded asks codes) (g ∷ gs)
    go true e t f rest = rw e rest
    go false e true f rest = rw (e, f) (ap (λ others. record g { sure = true } ∷ others) rest)
    go false e false f rest = rw (e, f) (ap (λ others. g ∷ others) rest)

pub left_of_all : (asks : List Ask) (codes : List ℕ) (gs : List Granted) → filter_map (left_of asks codes) gs ≡ flat_map (renewal_coded asks codes) gs
left_of_all asks codes [] = refl
left_of_all asks codes (g ∷ gs) = go (is_one_of (refused_in (coded asks codes)) g.topics) refl (is_one_of (granted_in (coded asks codes)) g.topics) refl (left_of_all asks codes gs)
  where
    go : (b : Bool) → is_one_of (refused_in (coded asks codes)) g.topics ≡ b → (t : Bool) → is_one_of (granted_in (coded asks codes)) g.topics ≡ t
        → filter_map (left_of asks codes) gs ≡ flat_map (renewal_coded asks codes) gs → filter_map (left_of asks codes) (g ∷ gs) ≡ flat_map (renewal_coded asks codes) (g ∷ gs)
    go true e t f rest = rw e rest
    go false e true f rest = rw (e, f) (ap (λ others. record g { sure = true } ∷ others) rest)
    go false e false f rest = rw (e, f) (ap (λ others. g ∷ others) rest)
