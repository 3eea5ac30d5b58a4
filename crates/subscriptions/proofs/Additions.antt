-- Routes that a SUBACK adds, one pair of an ask and its code after another.
use Rattle.std.proofs.Common.{sym, ◌∙◌, ◌≡◌, ◌<◌, ◌≤◌, ◌+◌, ◌==◌, ℕ, Bool, true, false, ◌&&◌, nat_lt, List, [], ◌∷◌, ◌++◌, reverse, map, length, drop, get_or, Option, Some, None, refl, ap, arith, append_assoc, if◌then◌else◌}
use Rattle.std.specs.List.{list_any, find}
use Rattle.std.specs.Option.{option_map, unwrap_or}
use Rattle.std.specs.Str.{bytes_eq}
use Rattle.std.proofs.lemmas.List.{length-append, reverse-append, reverse-reverse, drop_more, nil_from_length}
use Rattle.std.proofs.lemmas.Bool.{lt-ltb}
use Rattle.std.proofs.lemmas.Bool.Decides.{nat_tests}
use Rattle.std.proofs.lemmas.Slice.Eq.{bytes_eq-Decides}
use Rattle.mqtt_packet.specs.declared.qos.Qos.{Qos}
use Rattle.mqtt_packet.specs.declared.qos.Qos.TheVariants.{AtMostOnce}
use Rattle.mqtt_packet.specs.declared.will.Ask.{Ask}
use Rattle.agent_table.specs.Routes.{route, is_route, has_route, coded, granted_in, last_asked, or_last, or_earlier}
use Rattle.subscriptions.specs.Routing.{Granted, route_of, with_granted, with_all_granted}
use Rattle.subscriptions.specs.Parts.{with_coded}
use Rattle.subscriptions.proofs.Lists.{any-map}
use Rattle.subscriptions.proofs.Subacks.{last_is}

same_filter : (filter : List ℕ) → bytes_eq filter filter ≡ true
same_filter filter = (bytes_eq-Decides filter filter).1 refl

-- the last pair of the first one's filter
last_or_first : (ask : Ask) (asks : List Ask) → last_asked (ask ∷ asks) ask.filter ≡ Some (unwrap_or (last_asked asks ask.filter) ask.qos)
last_or_first ask asks = rw (same_filter ask.filter) (go (last_asked asks ask.filter))
  where
    go : (later : Option Qos) → or_last later ask.qos ≡ Some (unwrap_or later ask.qos)
    go None = refl
    go (Some qos) = refl

pub has_is : (task : ℕ) (filter : List ℕ) (granted : List Granted) → list_any (λ g. g.task == task && bytes_eq g.topics filter) granted ≡ has_route (map route_of granted) (route task filter)
has_is task filter granted = sym (any-map (λ other. is_route other (route task filter)) route_of granted)

pub coded_is : (task : ℕ) (asks : List Ask) (code : ℕ) (granted : List Granted) (filter : List ℕ) → code < 128 → with_granted task asks granted filter ≡ with_coded task asks code granted filter
coded_is task asks code granted filter low = rw (lt-ltb code 128 low) refl

pub not_coded : (task : ℕ) (asks : List Ask) (code : ℕ) (granted : List Granted) (filter : List ℕ) → 128 ≤ code → granted ≡ with_coded task asks code granted filter
not_coded task asks code granted filter high =
    let no : nat_lt code 128 ≡ false = grind (arith, nat_tests) in
    rw no refl

pub added_is : (task : ℕ) (ask : Ask) (later : List Ask) (granted : List Granted) (qos : Qos) → list_any (λ g. g.task == task && bytes_eq g.topics ask.filter) granted ≡ false
    → qos ≡ unwrap_or (option_map (λ a. a.qos) (find (λ a. bytes_eq a.filter ask.filter) later)) ask.qos
    → granted ++ record { task = task; topics = ask.filter; qos = qos; sure = true } ∷ [] ≡ with_granted task (ask ∷ reverse later) granted ask.filter
added_is task ask later granted qos new is =
    let last : option_map (λ a. a.qos) (find (λ a. bytes_eq a.filter ask.filter) later) ≡ last_asked (reverse later) ask.filter =
    ap (λ (l : List Ask). option_map (λ a. a.qos) (find (λ a. bytes_eq a.filter ask.filter) l)) (sym (reverse-reverse later)) ∙ last_is (reverse later) ask.filter
    in
    let own : qos ≡ or_earlier (last_asked (ask ∷ reverse later) ask.filter) AtMostOnce = is ∙ ap (λ l. unwrap_or l ask.qos) last ∙ ap (λ l. or_earlier l AtMostOnce) (sym (last_or_first ask (reverse later))) in
    rw (sym (has_is task ask.filter granted) ∙ new) (ap (λ q. granted ++ record { task = task; topics = ask.filter; qos = q; sure = true } ∷ []) own)

pub not_added : (task : ℕ) (ask : Ask) (later : List Ask) (granted : List Granted) → list_any (λ g. g.task == task && bytes_eq g.topics ask.filter) granted ≡ true → granted ≡ with_granted task (ask ∷ reverse later) granted ask.filter
not_added task ask later granted old = rw (sym (has_is task ask.filter granted) ∙ old) refl

pub one_longer : (task : ℕ) (asks : List Ask) (granted : List Granted) (filter : List ℕ) → list_any (λ g. g.task == task && bytes_eq g.topics filter) granted ≡ false → length (with_granted task asks granted filter) ≡ length granted + 1
one_longer task asks granted filter new =
    rw (sym (has_is task filter granted) ∙ new) (length-append granted (record { task = task; topics = filter; qos = or_earlier (last_asked asks filter) AtMostOnce; sure = true } ∷ []))

-- ---- One pair after another

abbrev pub added : ℕ → List Ask → List ℕ → List Granted → List Granted
added task [] codes granted = granted
added task (ask ∷ asks) [] granted = granted
added task (ask ∷ asks) (code ∷ codes) granted = added task asks codes (with_coded task (ask ∷ asks) code granted ask.filter)

last_behind : (front : List Ask) (ask : Ask) (asks : List Ask) → last_asked (front ++ ask ∷ asks) ask.filter ≡ last_asked (ask ∷ asks) ask.filter
last_behind [] ask asks = refl
last_behind (other ∷ front) ask asks = go (bytes_eq other.filter ask.filter) refl (last_behind front ask asks ∙ last_or_first ask asks)
  where
    go : (b : Bool) → bytes_eq other.filter ask.filter ≡ b → last_asked (front ++ ask ∷ asks) ask.filter ≡ Some (unwrap_or (last_asked asks ask.filter) ask.qos) → last_asked (other ∷ front ++ ask ∷ asks) ask.filter ≡ last_asked (ask ∷ asks) ask.filter
    go true e rest = rw (e, rest) (sym (last_or_first ask asks))
    go false e rest = rw (e, rest) (sym (last_or_first ask asks))

granted_behind : (task : ℕ) (front : List Ask) (ask : Ask) (asks : List Ask) (granted : List Granted) → with_granted task (ask ∷ asks) granted ask.filter ≡ with_granted task (front ++ ask ∷ asks) granted ask.filter
granted_behind task front ask asks granted =
    ap (λ l. if has_route (map route_of granted) (route task ask.filter) then granted else granted ++ record { task = task; topics = ask.filter; qos = or_earlier l AtMostOnce; sure = true } ∷ []) (sym (last_behind front ask asks))

added_behind : (task : ℕ) (front asks : List Ask) (codes : List ℕ) (granted : List Granted) → added task asks codes granted ≡ with_all_granted task (front ++ asks) granted (granted_in (coded asks codes))
added_behind task front [] codes granted = refl
added_behind task front (ask ∷ asks) [] granted = refl
added_behind task front (ask ∷ asks) (code ∷ codes) granted = go (nat_lt code 128) refl (λ gs. added_behind task (front ++ ask ∷ []) asks codes gs)
  where
    whole : (front ++ ask ∷ []) ++ asks ≡ front ++ ask ∷ asks
    whole = append_assoc front (ask ∷ []) asks

    go : (b : Bool) → nat_lt code 128 ≡ b → ((gs : List Granted) → added task asks codes gs ≡ with_all_granted task ((front ++ ask ∷ []) ++ asks) gs (granted_in (coded asks codes)))
        → added task (ask ∷ asks) (code ∷ codes) granted ≡ with_all_granted task (front ++ ask ∷ asks) granted (granted_in (coded (ask ∷ asks) (code ∷ codes)))
    go true e rest =
        rw e (rest (with_granted task (ask ∷ asks) granted ask.filter)
        ∙ ap (λ (l : List Ask). with_all_granted task l (with_granted task (ask ∷ asks) granted ask.filter) (granted_in (coded asks codes))) whole
        ∙ ap (λ (gs : List Granted). with_all_granted task (front ++ ask ∷ asks) gs (granted_in (coded asks codes))) (granted_behind task front ask asks granted))
    go false e rest = rw e (rest granted ∙ ap (λ (l : List Ask). with_all_granted task l granted (granted_in (coded asks codes))) whole)

pub added_all : (task : ℕ) (asks : List Ask) (codes : List ℕ) (granted : List Granted) → added task asks codes granted ≡ with_all_granted task asks granted (granted_in (coded asks codes))
added_all task asks codes granted = added_behind task [] asks codes granted

-- ---- Room

granted_longer : (task : ℕ) (asks : List Ask) (granted : List Granted) (filter : List ℕ) → length granted ≤ length (with_granted task asks granted filter)
granted_longer task asks granted filter = go (has_route (map route_of granted) (route task filter)) refl
  where
    go : (b : Bool) → has_route (map route_of granted) (route task filter) ≡ b → length granted ≤ length (with_granted task asks granted filter)
    go true e = rw e (omega arith)
    go false e = rw (e, length-append granted (record { task = task; topics = filter; qos = or_earlier (last_asked asks filter) AtMostOnce; sure = true } ∷ [])) (omega arith)

pub added_longer : (task : ℕ) (asks : List Ask) (codes : List ℕ) (granted : List Granted) → length granted ≤ length (added task asks codes granted)
added_longer task [] codes granted = omega arith
added_longer task (ask ∷ asks) [] granted = omega arith
added_longer task (ask ∷ asks) (code ∷ codes) granted = go (nat_lt code 128) refl (λ gs. added_longer task asks codes gs)
  where
    go : (b : Bool) → nat_lt code 128 ≡ b → ((gs : List Granted) → length gs ≤ length (added task asks codes gs)) → length granted ≤ length (added task (ask ∷ asks) (code ∷ codes) granted)
    go true e rest =
        let more = granted_longer task (ask ∷ asks) granted ask.filter in
        let behind = rest (with_granted task (ask ∷ asks) granted ask.filter) in
        rw e (omega (arith, more, behind))
    go false e rest = rw e (rest granted)

-- ---- From the end of a list in reverse

pub added_none : (task : ℕ) (asks : List Ask) (granted : List Granted) → added task asks [] granted ≡ granted
added_none task [] granted = refl
added_none task (ask ∷ asks) granted = refl

pub added_start : (task : ℕ) (asks back : List Ask) (codes : List ℕ) (granted : List Granted) → back ≡ reverse asks → added task (reverse back) codes granted ≡ with_all_granted task asks granted (granted_in (coded asks codes))
added_start task asks back codes granted is = ap (λ (l : List Ask). added task l codes granted) (ap reverse is ∙ reverse-reverse asks) ∙ added_all task asks codes granted

-- what is left behind one more pair, and where there is none
pub added_step : (task : ℕ) (back rest : List Ask) (ask : Ask) (codes : List ℕ) (i : ℕ) (granted : List Granted) → back ≡ rest ++ ask ∷ [] → i < length codes
    → added task (reverse back) (drop i codes) granted ≡ added task (reverse rest) (drop (i + 1) codes) (with_coded task (ask ∷ reverse rest) (get_or codes i 0) granted ask.filter)
added_step task back rest ask codes i granted is inside =
    ap (λ (l : List Ask). added task l (drop i codes) granted) (ap reverse is ∙ reverse-append rest (ask ∷ [])) ∙ ap (λ (l : List ℕ). added task (ask ∷ reverse rest) l granted) (drop_more codes i 0 inside)

pub added_end : (task : ℕ) (back rest : List Ask) (codes later : List ℕ) (granted : List Granted) → length back ≡ 0 → length rest ≡ 0 → added task (reverse back) codes granted ≡ added task (reverse rest) later granted
added_end task back rest codes later granted none left = rw (nil_from_length back none, nil_from_length rest left) refl

-- the same, where what all of it comes to is known
pub added_on : (task : ℕ) (back rest : List Ask) (ask : Ask) (codes : List ℕ) (i : ℕ) (old new whole : List Granted) → back ≡ rest ++ ask ∷ [] → i < length codes → new ≡ with_coded task (ask ∷ reverse rest) (get_or codes i 0) old ask.filter
    → added task (reverse back) (drop i codes) old ≡ whole → added task (reverse rest) (drop (i + 1) codes) new ≡ whole
added_on task back rest ask codes i old new whole is inside now before = ap (added task (reverse rest) (drop (i + 1) codes)) now ∙ sym (added_step task back rest ask codes i old is inside) ∙ before
