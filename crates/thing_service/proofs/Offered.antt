-- What is found among offers is one of them.
use Rattle.std.proofs.Common.{ℕ, map, Bool, true, false, cond, List, [], ◌∷◌, Option, Some}
use Rattle.std.specs.Prelude.{IfSome}
use Rattle.std.specs.List.{AllByRecursion}
use Rattle.thing_service.specs.declared.offers.Offer.{Offer}
use Rattle.thing_service.specs.Offers.{IsOffered, is_open, is_named, ended, next_of}

by_test : (b : Bool) (offer : Offer) (others : Option Offer) → IsOffered offer → IfSome others IsOffered → IfSome (cond b (Some offer) others) IsOffered
by_test true offer others h k = h
by_test false offer others h k = k

pub found_offered : (offers : List Offer) → AllByRecursion IsOffered offers → IfSome (next_of offers) IsOffered
found_offered [] all = tt
found_offered (offer ∷ offers) all = by_test (is_open offer) offer (next_of offers) all.0 (found_offered offers all.1)

ended_by : (b : Bool) (offer : Offer) → IsOffered offer → IsOffered (cond b (record offer { is_over = true }) offer)
ended_by true offer h = h
ended_by false offer h = h

pub ended_offered : (name : List ℕ) (offers : List Offer) → AllByRecursion IsOffered offers → AllByRecursion IsOffered (map (ended name) offers)
ended_offered name [] all = tt
ended_offered name (offer ∷ offers) all = (ended_by (is_named name offer) offer all.0, ended_offered name offers all.1)
