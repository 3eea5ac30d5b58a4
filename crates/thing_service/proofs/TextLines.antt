-- Steps of the loops that read a service line by line.
use Rattle.std.proofs.Common.{◌≡◌, ℕ, ◌+◌, ◌≤◌, List, [], ◌∷◌, ◌++◌, length, drop, Some, None, Result, Ok, Err, true, false, refl, sym, ap, ◌∙◌}
use Rattle.std.specs.List.{AllByRecursion}
use Rattle.std.proofs.lemmas.List.{drop_all}
use Rattle.plain_text.specs.Lines.{lines_of, is_passed}
use Rattle.thing_service.specs.declared.offers.Offer.{Offer}
use Rattle.thing_service.specs.Offers.{IsOffered}
use Rattle.thing_service.specs.ServiceTexts.{Serving, serving, thing_of, new_offer, offers_from, with_thing, service_from}

-- ---- The thing

of_passed : (n : ℕ) (line : List ℕ) (lines : List (List ℕ)) → is_passed line ≡ true → service_from n (line ∷ lines) ≡ service_from (n + 1) lines
unfolding service_from
of_passed n line lines passed = rw passed refl

of_read : (n : ℕ) (line thing : List ℕ) (lines : List (List ℕ)) → is_passed line ≡ false → thing_of line ≡ Some thing → service_from n (line ∷ lines) ≡ with_thing thing (offers_from [] (n + 1) lines)
unfolding service_from
of_read n line thing lines passed is = rw (passed, is) refl

of_refused : (n : ℕ) (line : List ℕ) (lines : List (List ℕ)) → is_passed line ≡ false → thing_of line ≡ None → service_from n (line ∷ lines) ≡ Err n
unfolding service_from
of_refused n line lines passed is = rw (passed, is) refl

of_end : (n : ℕ) (rest : List ℕ) → rest ≡ [] → service_from n (lines_of rest) ≡ Ok (serving None [])
unfolding service_from lines_of
of_end n rest e = ap (λ r. service_from n (lines_of r)) e

pub thing_passed : (n : ℕ) (rest next line : List ℕ) (all : Result Serving ℕ) → service_from n (lines_of rest) ≡ all → lines_of rest ≡ line ∷ lines_of next → is_passed line ≡ true → service_from (n + 1) (lines_of next) ≡ all
thing_passed n rest next line all h parts passed = sym (of_passed n line (lines_of next) passed) ∙ ap (service_from n) (sym parts) ∙ h

pub thing_read : (n : ℕ) (rest next line thing : List ℕ) (all : Result Serving ℕ) → service_from n (lines_of rest) ≡ all → lines_of rest ≡ line ∷ lines_of next → is_passed line ≡ false → thing_of line ≡ Some thing
    → all ≡ with_thing thing (offers_from [] (n + 1) (lines_of next))
thing_read n rest next line thing all h parts passed is = sym h ∙ ap (service_from n) parts ∙ of_read n line thing (lines_of next) passed is

pub thing_refused : (n : ℕ) (rest next line : List ℕ) (all : Result Serving ℕ) → service_from n (lines_of rest) ≡ all → lines_of rest ≡ line ∷ lines_of next → is_passed line ≡ false → thing_of line ≡ None → all ≡ Err n
thing_refused n rest next line all h parts passed is = sym h ∙ ap (service_from n) parts ∙ of_refused n line (lines_of next) passed is

pub thing_end : (n at : ℕ) (text : List ℕ) (all : Result Serving ℕ) → service_from n (lines_of (drop at text)) ≡ all → length text ≤ at → all ≡ Ok (serving None [])
thing_end n at text all h end = sym h ∙ of_end n (drop at text) (drop_all at text end)

-- ---- The offers

offer_passed : (offers : List Offer) (n : ℕ) (line : List ℕ) (lines : List (List ℕ)) → is_passed line ≡ true → offers_from offers n (line ∷ lines) ≡ offers_from offers (n + 1) lines
unfolding offers_from
offer_passed offers n line lines passed = rw passed refl

offer_read : (offers : List Offer) (n : ℕ) (line : List ℕ) (lines : List (List ℕ)) (offer : Offer) → is_passed line ≡ false → new_offer offers line ≡ Some offer → offers_from offers n (line ∷ lines) ≡ offers_from (offers ++ offer ∷ []) (n + 1) lines
unfolding offers_from
offer_read offers n line lines offer passed is = rw (passed, is) refl

offer_refused : (offers : List Offer) (n : ℕ) (line : List ℕ) (lines : List (List ℕ)) → is_passed line ≡ false → new_offer offers line ≡ None → offers_from offers n (line ∷ lines) ≡ Err n
unfolding offers_from
offer_refused offers n line lines passed is = rw (passed, is) refl

offer_end : (offers : List Offer) (n : ℕ) (rest : List ℕ) → rest ≡ [] → offers_from offers n (lines_of rest) ≡ Ok offers
unfolding offers_from lines_of
offer_end offers n rest e = ap (λ r. offers_from offers n (lines_of r)) e

pub offers_passed : (offers : List Offer) (n : ℕ) (rest next line : List ℕ) (all : Result (List Offer) ℕ) → offers_from offers n (lines_of rest) ≡ all → lines_of rest ≡ line ∷ lines_of next → is_passed line ≡ true
    → offers_from offers (n + 1) (lines_of next) ≡ all
offers_passed offers n rest next line all h parts passed = sym (offer_passed offers n line (lines_of next) passed) ∙ ap (offers_from offers n) (sym parts) ∙ h

pub offers_read : (offers : List Offer) (offer : Offer) (n : ℕ) (rest next line : List ℕ) (all : Result (List Offer) ℕ) → offers_from offers n (lines_of rest) ≡ all → lines_of rest ≡ line ∷ lines_of next → is_passed line ≡ false
    → new_offer offers line ≡ Some offer → offers_from (offers ++ offer ∷ []) (n + 1) (lines_of next) ≡ all
offers_read offers offer n rest next line all h parts passed is = sym (offer_read offers n line (lines_of next) offer passed is) ∙ ap (offers_from offers n) (sym parts) ∙ h

pub offers_refused : (offers : List Offer) (n : ℕ) (rest next line : List ℕ) (all : Result (List Offer) ℕ) → offers_from offers n (lines_of rest) ≡ all → lines_of rest ≡ line ∷ lines_of next → is_passed line ≡ false → new_offer offers line ≡ None
    → all ≡ Err n
offers_refused offers n rest next line all h parts passed is = sym h ∙ ap (offers_from offers n) parts ∙ offer_refused offers n line (lines_of next) passed is

pub offers_end : (offers : List Offer) (n at : ℕ) (text : List ℕ) (all : Result (List Offer) ℕ) → offers_from offers n (lines_of (drop at text)) ≡ all → length text ≤ at → all ≡ Ok offers
offers_end offers n at text all h end = sym h ∙ offer_end offers n (drop at text) (drop_all at text end)

pub all_offered : (offers : List Offer) (offer : Offer) → AllByRecursion IsOffered offers → IsOffered offer → AllByRecursion IsOffered (offers ++ offer ∷ [])
all_offered [] offer all h = (h, tt)
all_offered (other ∷ offers) offer all h = (all.0, all_offered offers offer all.1 h)

-- ---- The whole

pub service_read : (thing : List ℕ) (offers : List Offer) (read : Result (List Offer) ℕ) (all : Result Serving ℕ) → all ≡ with_thing thing read → read ≡ Ok offers → all ≡ Ok (serving (Some thing) offers)
service_read thing offers read all e is = e ∙ ap (with_thing thing) is

pub service_refused : (thing : List ℕ) (n : ℕ) (read : Result (List Offer) ℕ) (all : Result Serving ℕ) → all ≡ with_thing thing read → read ≡ Err n → all ≡ Err n
service_refused thing n read all e is = e ∙ ap (with_thing thing) is
