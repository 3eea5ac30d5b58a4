-- What a reader's answer says of the service that the definition reads.
use Rattle.std.specs.Prelude.{◌≡◌, ℕ, ◌+◌, ◌≤◌, List, [], length, drop, Option, Some, None, Result, Ok, Err}
use Rattle.plain_text.specs.Lines.{lines_of}
use Rattle.thing_service.specs.declared.faults.ServiceFault.{ServiceFault}
use Rattle.thing_service.specs.declared.faults.ServiceFault.TheVariants as faults
use Rattle.thing_service.specs.declared.offers.Offer.{Offer}
use Rattle.thing_service.specs.ServiceTexts.{Serving, serving, with_thing, service_of, offers_from}

-- The answer is the service, and Line exactly where that line is the first bad one. Want of memory says nothing.
abbrev pub Tells : Result Serving ServiceFault → Result Serving ℕ → Type 0
Tells (Ok service) read = read ≡ Ok service
Tells (Err (faults.Line number)) read = read ≡ Err number
Tells (Err faults.NoMemory) read = Unit {0}

-- The thing, if any, and the number and the place of the line behind the one that names it.
abbrev pub TellsThing : List ℕ → Result (Option (List ℕ × ℕ × ℕ)) ServiceFault → Type 0
TellsThing text (Ok (Some x)) = (service_of text ≡ with_thing x.0 (offers_from [] x.1 (lines_of (drop x.2 text)))) × (x.1 ≤ x.2 + 1) × (x.2 ≤ length text)
TellsThing text (Ok None) = service_of text ≡ Ok (serving None [])
TellsThing text (Err (faults.Line number)) = service_of text ≡ Err number
TellsThing text (Err faults.NoMemory) = Unit {0}

-- What the lines offer, of which the first has this number.
abbrev pub TellsOffers : {X : Type 0} → (X → List Offer) → Result X ServiceFault → ℕ → List (List ℕ) → Type 0
TellsOffers view (Ok offers) first lines = offers_from [] first lines ≡ Ok (view offers)
TellsOffers view (Err (faults.Line number)) first lines = offers_from [] first lines ≡ Err number
TellsOffers view (Err faults.NoMemory) first lines = Unit {0}
