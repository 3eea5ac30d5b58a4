-- For which streams a splitter stands behind each call.
use Rattle.std.proofs.Common.{◌≡◌, ℕ, ◌-◌, List, [], ◌∷◌, ◌++◌, length, take, drop, Option, Some, None, Result, Ok, Err, refl, sym, ap, subst, ◌∙◌, append_assoc, arith, inl, inr, length-append}
use Rattle.std.specs.Prelude.{IfOk}
use Rattle.std.proofs.lemmas.Bool.{cases_lt}
use Rattle.std.proofs.lemmas.List.{append-nil, take-append-drop, length-take, get_or_append_left, get_or-append_right, drop_at}
use Rattle.mqtt_packet.specs.declared.packet.Packet.{Packet}
use Rattle.mqtt_packet.specs.declared.front.Front.{Front}
use Rattle.mqtt_packet.specs.declared.front.Front.TheVariants as fronts
use Rattle.mqtt_packet.specs.declared.front.Verdict.{Verdict}
use Rattle.mqtt_packet.specs.declared.front.Verdict.TheVariants as verdicts
use Rattle.mqtt_packet.specs.declared.splitter.Next.{Next}
use Rattle.mqtt_packet.specs.Grammar.{Spells}
use Rattle.mqtt_packet.specs.Stream.{AreBytes, SpellAll}
use Rattle.mqtt_packet.specs.Fronts.{front_of}
use Rattle.mqtt_packet.specs.Splitting.{Kept, IsVerdict, StandsFor, Tells, handed_with, told, IsKept, IsShortAt}
use Rattle.mqtt_packet.specs.Steps.{next_by, next_in, next_of, fed_in, fed_to}
use Rattle.mqtt_packet.proofs.Numbers.{bytes_drop}
use Rattle.mqtt_packet.proofs.Fronts.{front_took}
use Rattle.mqtt_packet.proofs.Verdicts.{verdict_is, verdict_on, more_is, more_short, partial_begins_none, verdict_begins_none}

bytes_append : (a b : List ℕ) → AreBytes a → AreBytes b → AreBytes (a ++ b)
bytes_append a b h k i =
    elim (cases_lt i (length a)) [
      | inl lt ↦ rw (get_or_append_left a b 0 i lt) (h i)
      | inr le ↦ rw (get_or-append_right a b (length a) i 0 refl le) (k (i - length a))
    ]

bytes_behind : (a b c : List ℕ) → a ≡ b ++ c → AreBytes a → AreBytes c
bytes_behind a b c e fits = subst (λ (t : List ℕ). AreBytes t) (ap (drop (length b)) e ∙ drop_at b c (length b) refl) (bytes_drop (length b) a fits)

-- one packet more
spelled_more : (packets : List Packet) (packet : Packet) (front own : List ℕ) → SpellAll packets front → Spells packet own → SpellAll (packets ++ packet ∷ []) (front ++ own)
spelled_more [] packet front own h s = (own, [], ap (λ (t : List ℕ). t ++ own) h ∙ sym (append-nil own), s, refl)
spelled_more (one ∷ packets) packet front own h s =
    (h.0, h.1 ++ own, ap (λ (t : List ℕ). t ++ own) h.2 ∙ append_assoc h.0 h.1 own, h.3, spelled_more packets packet h.1 own h.4 s)

-- ---- feed

feed_by : (rest : List ℕ) (at : ℕ) (verdict : Option Verdict) (piece fed : List ℕ) (handed : List Packet) → AreBytes piece → StandsFor (record { rest = rest; at = at; verdict = verdict }) fed handed
    → StandsFor (fed_in (record { rest = rest; at = at; verdict = verdict }) verdict piece) (fed ++ piece) handed
feed_by rest at None piece fed handed fits s =
    record {
      bytes = bytes_append fed piece s.bytes fits;
      front = s.front;
      dropped = [];
      stream = ap (λ (t : List ℕ). t ++ piece) (s.stream ∙ ap (λ (t : List ℕ). s.front ++ (rest ++ t)) s.may_drop ∙ ap (λ (t : List ℕ). s.front ++ t) (append-nil rest)) ∙ append_assoc s.front rest piece ∙ ap (λ (t : List ℕ). s.front ++ t) (sym (append-nil (rest ++ piece)));
      spelled = s.spelled;
      at = s.at;
      may_drop = refl;
      verdict = tt;
    }
feed_by rest at (Some verdict) piece fed handed fits s =
    let all = bytes_append fed piece s.bytes fits in
    let same : fed ++ piece ≡ s.front ++ (rest ++ (s.dropped ++ piece)) =
    ap (λ (t : List ℕ). t ++ piece) s.stream ∙ append_assoc s.front (rest ++ s.dropped) piece ∙ ap (λ (t : List ℕ). s.front ++ t) (append_assoc rest s.dropped piece) in
    let grouped = append_assoc rest s.dropped piece in
    let rest_fits : AreBytes ((rest ++ s.dropped) ++ piece) = subst (λ (t : List ℕ). AreBytes t) (sym grouped) (bytes_behind (fed ++ piece) s.front (rest ++ (s.dropped ++ piece)) same all) in
    record {
      bytes = all;
      front = s.front;
      dropped = s.dropped ++ piece;
      stream = same;
      spelled = s.spelled;
      at = s.at;
      may_drop = tt;
      verdict = subst (λ (t : List ℕ). IsVerdict t verdict) grouped (verdict_on (rest ++ s.dropped) piece verdict rest_fits s.verdict);
    }

pub feed_on : (k new : Kept) (piece fed : List ℕ) (handed : List Packet) → new ≡ fed_to k piece → AreBytes piece → StandsFor k fed handed → StandsFor new (fed ++ piece) handed
feed_on k new piece fed handed e fits s = subst (λ (n : Kept). StandsFor n (fed ++ piece) handed) (sym e) (feed_by k.rest k.at k.verdict piece fed handed fits s)

-- ---- next

-- what is told behind an answer
pub record Goes (fed : List ℕ) (handed : List Packet) (answer : Next × Kept) : Type 0 where
  pub stands : StandsFor answer.1 fed (handed_with handed answer.0)
  pub tells : Tells fed handed answer.0

told_on : (rest : List ℕ) (at : ℕ) (verdict : Verdict) (fed : List ℕ) (handed : List Packet) → StandsFor (record { rest = rest; at = at; verdict = Some verdict }) fed handed → Goes fed handed (told at verdict, record { rest = rest; at = at; verdict = Some verdict })
told_on rest at verdicts.Bad fed handed s =
    let none = verdict_begins_none (rest ++ s.dropped) verdicts.Bad (bytes_behind fed s.front (rest ++ s.dropped) s.stream s.bytes) s.verdict in
    record { stands = s; tells = (s.front, rest ++ s.dropped, (s.stream, s.spelled, none), s.verdict, s.at) }
told_on rest at (verdicts.TooLong size) fed handed s =
    let none = verdict_begins_none (rest ++ s.dropped) (verdicts.TooLong size) (bytes_behind fed s.front (rest ++ s.dropped) s.stream s.bytes) s.verdict in
    record { stands = s; tells = (s.front, rest ++ s.dropped, (s.stream, s.spelled, none), s.verdict, s.at) }

front_on : (rest : List ℕ) (at : ℕ) (f : Front) (fed : List ℕ) (handed : List Packet) → front_of rest ≡ f → StandsFor (record { rest = rest; at = at; verdict = None }) fed handed → Goes fed handed (next_by (record { rest = rest; at = at; verdict = None }) f)
front_on rest at (fronts.Packet packet size) fed handed e s =
    let stream : fed ≡ s.front ++ rest = s.stream ∙ ap (λ (t : List ℕ). s.front ++ (rest ++ t)) s.may_drop ∙ ap (λ (t : List ℕ). s.front ++ t) (append-nil rest) in
    let took = front_took rest packet size (bytes_behind fed s.front rest stream s.bytes) e in
    let own = take size rest in
    let behind = drop size rest in
    let split : fed ≡ s.front ++ (own ++ behind) = stream ∙ ap (λ (t : List ℕ). s.front ++ t) (sym (take-append-drop size rest)) in
    record {
      stands = record {
        bytes = s.bytes;
        front = s.front ++ own;
        dropped = [];
        stream = split ∙ sym (append_assoc s.front own behind) ∙ ap (λ (t : List ℕ). (s.front ++ own) ++ t) (sym (append-nil behind));
        spelled = spelled_more handed packet s.front own s.spelled took.0;
        at = omega (arith, s.at, length-append s.front own, length-take size rest, took.1);
        may_drop = refl;
        verdict = tt;
      };
      tells = (s.front, own, behind, split, s.spelled, took.0);
    }
front_on rest at fronts.More fed handed e s =
    let stream : fed ≡ s.front ++ rest = s.stream ∙ ap (λ (t : List ℕ). s.front ++ (rest ++ t)) s.may_drop ∙ ap (λ (t : List ℕ). s.front ++ t) (append-nil rest) in
    record {
      stands = s;
      tells = (s.front, rest, (stream, s.spelled, partial_begins_none rest e), more_is rest (bytes_behind fed s.front rest stream s.bytes) e);
    }
front_on rest at (fronts.Ended verdict) fed handed e s =
    let stream : fed ≡ s.front ++ rest = s.stream ∙ ap (λ (t : List ℕ). s.front ++ (rest ++ t)) s.may_drop ∙ ap (λ (t : List ℕ). s.front ++ t) (append-nil rest) in
    let whole : rest ++ s.dropped ≡ rest = ap (λ (t : List ℕ). rest ++ t) s.may_drop ∙ append-nil rest in
    told_on rest at verdict fed handed (record {
      bytes = s.bytes;
      front = s.front;
      dropped = s.dropped;
      stream = s.stream;
      spelled = s.spelled;
      at = s.at;
      may_drop = tt;
      verdict = subst (λ (t : List ℕ). IsVerdict t verdict) (sym whole) (verdict_is rest verdict (bytes_behind fed s.front rest stream s.bytes) e);
    })

next_by_verdict : (rest : List ℕ) (at : ℕ) (verdict : Option Verdict) (fed : List ℕ) (handed : List Packet) → StandsFor (record { rest = rest; at = at; verdict = verdict }) fed handed → Goes fed handed (next_in (record { rest = rest; at = at; verdict = verdict }) verdict)
next_by_verdict rest at None fed handed s = front_on rest at (front_of rest) fed handed refl s
next_by_verdict rest at (Some verdict) fed handed s = told_on rest at verdict fed handed s

pub next_on : (k : Kept) (fed : List ℕ) (handed : List Packet) → StandsFor k fed handed → Goes fed handed (next_of k)
next_on k fed handed s = next_by_verdict k.rest k.at k.verdict fed handed s

-- ---- The same of what a call answers

told_kept : (rest : List ℕ) (at : ℕ) (verdict : Verdict) → IsKept (told at verdict) (record { rest = rest; at = at; verdict = Some verdict })
told_kept rest at verdicts.Bad = (refl, refl)
told_kept rest at (verdicts.TooLong size) = (refl, refl)

told_short : (at : ℕ) (verdict : Verdict) (held : ℕ) → IsShortAt (told at verdict) held
told_short at verdicts.Bad held = tt
told_short at (verdicts.TooLong size) held = tt

ends_by : (rest : List ℕ) (at : ℕ) (f : Front) (answer : Next × Kept) → front_of rest ≡ f → answer ≡ next_by (record { rest = rest; at = at; verdict = None }) f → IsKept answer.0 answer.1 × IsShortAt answer.0 (length answer.1.rest)
ends_by rest at (fronts.Packet packet size) answer f e = subst (λ (a : Next × Kept). IsKept a.0 a.1 × IsShortAt a.0 (length a.1.rest)) (sym e) (refl, tt)
ends_by rest at fronts.More answer f e = subst (λ (a : Next × Kept). IsKept a.0 a.1 × IsShortAt a.0 (length a.1.rest)) (sym e) (refl, more_short rest f)
ends_by rest at (fronts.Ended verdict) answer f e = subst (λ (a : Next × Kept). IsKept a.0 a.1 × IsShortAt a.0 (length a.1.rest)) (sym e) (told_kept rest at verdict, told_short at verdict (length rest))

ends_in : (rest : List ℕ) (at : ℕ) (verdict : Option Verdict) (answer : Next × Kept) → answer ≡ next_in (record { rest = rest; at = at; verdict = verdict }) verdict → IsKept answer.0 answer.1 × IsShortAt answer.0 (length answer.1.rest)
ends_in rest at None answer e = ends_by rest at (front_of rest) answer refl e
ends_in rest at (Some verdict) answer e = subst (λ (a : Next × Kept). IsKept a.0 a.1 × IsShortAt a.0 (length a.1.rest)) (sym e) (told_kept rest at verdict, told_short at verdict (length rest))

pub kept_after : (k new : Kept) (next : Next) → (next, new) ≡ next_of k → IsKept next new
kept_after k new next e = (ends_in k.rest k.at k.verdict (next, new) e).0

pub short_after : (k new : Kept) (next : Next) → (next, new) ≡ next_of k → IsShortAt next (length new.rest)
short_after k new next e = (ends_in k.rest k.at k.verdict (next, new) e).1

pub stands_after : (k new : Kept) (next : Next) (fed : List ℕ) (handed : List Packet) → (next, new) ≡ next_of k → StandsFor k fed handed → StandsFor new fed (handed_with handed next)
stands_after k new next fed handed e s = (subst (λ (a : Next × Kept). Goes fed handed a) (sym e) (next_on k fed handed s)).stands

tells_after : (k new : Kept) (next : Next) (fed : List ℕ) (handed : List Packet) → (next, new) ≡ next_of k → StandsFor k fed handed → Tells fed handed next
tells_after k new next fed handed e s = (subst (λ (a : Next × Kept). Goes fed handed a) (sym e) (next_on k fed handed s)).tells

pub tells_ok : {E : Type 0} (k new : Kept) (result : Result Next E) → IfOk result (λ next. (next, new) ≡ next_of k) → IfOk result (λ next. (fed : List ℕ) (handed : List Packet) → StandsFor k fed handed → Tells fed handed next)
tells_ok k new (Ok next) e = λ fed handed s. tells_after k new next fed handed e s
tells_ok k new (Err x) e = tt
