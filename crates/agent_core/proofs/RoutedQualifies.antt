-- The qualities of service that are kept stand for the journal behind each entry.
use Rattle.std.proofs.Common.{◌≡◌, ℕ, Bool, true, false, not, List, [], ◌∷◌, ◌++◌, length, Option, Some, None, refl, ap, sym, ◌∙◌, subst}
use Rattle.std.specs.Prelude.{◌||◌, ◌==◌, filter, find, if◌then◌else◌}
use Rattle.std.specs.List.{AllByRecursion, list_any, flat_map}
use Rattle.std.proofs.lemmas.List.{append-nil}
use Rattle.std.proofs.lemmas.Bool.{eqb-true}
use Rattle.mqtt_packet.specs.declared.packet.Packet.TheVariants as p
use Rattle.mqtt_packet.specs.declared.will.Ask.{Ask}
use Rattle.agent_journal.specs.declared.effect.Effect.{Effect}
use Rattle.agent_journal.specs.declared.entry.Cause.TheVariants as c
use Rattle.agent_journal.specs.declared.entry.Entry.{Entry}
use Rattle.agent_journal.specs.declared.setup.Setup.{Setup}
use Rattle.agent_journal.specs.Readings.{Pending, pending_of}
use Rattle.agent_table.specs.Arrivals.{at, all_granted, counts_of, renewal_counts, is_subscribe}
use Rattle.agent_table.specs.Filters.{is_one_of}
use Rattle.agent_table.specs.Histories.{IsLegalPast}
use Rattle.agent_table.specs.Routes.{Renewal, renewals_of, asks_in, last_asked, coded, granted_in, refused_in, qos_of}
use Rattle.agent_table.specs.Sizes.{Sizes}
use Rattle.pending_acks.specs.Commands.{Differ, has_id}
use Rattle.subscriptions.specs.Routing.{Granted, Asked, Routing, renewal_coded, renewal_granted, renewal_granted_to, renewal_len, is_renewal, settled_before}
use Rattle.subscriptions.specs.Routing as routing
use Rattle.agent_core.specs.After.{renewal_answered}
use Rattle.agent_core.specs.Completions.{books, all_ended, is_count}
use Rattle.agent_core.specs.Routed.{Matched, Routed, IsAsked, IsAskedFor, IsQualified, subscribes_in, qos_if}
use Rattle.agent_core.proofs.Acknowledged.{at_one, at_none}
use Rattle.agent_core.proofs.RoutedAnswered.{found_by}
use Rattle.agent_core.proofs.RoutedEnds.{AreApart, others_found, apart_filter}
use Rattle.agent_core.proofs.RoutedLists.{all_found, all_of, filter_swapped}
use Rattle.agent_core.proofs.RoutedPast.{are_ordered, ordered_filter}
use Rattle.agent_core.proofs.RoutedQualified.{still_qualified, still_for, qualified_by, last_some}
use Rattle.agent_core.proofs.RoutedQuiet.{quiet_grants}
use Rattle.agent_core.proofs.RoutedRegranted.{regranted, regranted_routes, granted_asked}
use Rattle.agent_core.proofs.RoutedRenewed.{find_asked}
use Rattle.agent_core.proofs.RoutedSteps.{entry}
use Rattle.agent_core.proofs.RoutedSuback.{grants_it, find_subscribe, ends_granted, left_open}

-- ---- Renewals

coded_qos : (past : List Entry) (asks : List Ask) (codes : List ℕ) (gs : List Granted) → AllByRecursion (λ (g : Granted). g.qos ≡ qos_of past g.topics) gs → AllByRecursion (λ (g : Granted). g.qos ≡ qos_of past g.topics) (flat_map (renewal_coded asks codes) gs)
coded_qos past asks codes [] all = tt
coded_qos past asks codes (g ∷ gs) all = go (is_one_of (refused_in (coded asks codes)) g.topics) (is_one_of (granted_in (coded asks codes)) g.topics) (coded_qos past asks codes gs all.1)
  where
    go : (x y : Bool) → AllByRecursion (λ (h : Granted). h.qos ≡ qos_of past h.topics) (flat_map (renewal_coded asks codes) gs)
        → AllByRecursion (λ (h : Granted). h.qos ≡ qos_of past h.topics) ((if x then [] else if y then record g { sure = true } ∷ [] else g ∷ []) ++ flat_map (renewal_coded asks codes) gs)
    go true y rest = rest
    go false true rest = (all.0, rest)
    go false false rest = (all.0, rest)

answered_qos : (past : List Entry) (n : ℕ) (codes : List ℕ) (k : Routing) → AllByRecursion (λ (g : Granted). g.qos ≡ qos_of past g.topics) k.granted → AllByRecursion (λ (g : Granted). g.qos ≡ qos_of past g.topics) (renewal_answered n codes k).granted
answered_qos past n codes k all = go (is_count (renewal_len n k) (length codes))
  where
    found : (renewal : Option Renewal) → AllByRecursion (λ (g : Granted). g.qos ≡ qos_of past g.topics) (renewal_granted_to n renewal codes k).granted
    found None = all
    found (Some renewal) = coded_qos past renewal.asks codes k.granted all

    go : (b : Bool) → AllByRecursion (λ (g : Granted). g.qos ≡ qos_of past g.topics) (if b then renewal_granted n codes k else k).granted
    go true = found (find (is_renewal n) k.renewals)
    go false = all

answered_asked : (n : ℕ) (codes : List ℕ) (k : Routing) → (renewal_answered n codes k).asked ≡ k.asked
answered_asked n codes k = go (is_count (renewal_len n k) (length codes))
  where
    found : (renewal : Option Renewal) → (renewal_granted_to n renewal codes k).asked ≡ k.asked
    found None = refl
    found (Some renewal) = refl

    go : (b : Bool) → (if b then renewal_granted n codes k else k).asked ≡ k.asked
    go true = found (find (is_renewal n) k.renewals)
    go false = refl

-- ---- A SUBACK

none_qualified : (s : Setup) (l : Sizes) (past : List Entry) (time n : ℕ) (codes : List ℕ) (released : List ℕ) (k : Routing) → IsLegalPast s l past → AreApart (pending_of past) → IsQualified past k
    → IsQualified (entry time (c.Arrived (p.SubAck n codes)) [] ∷ past) (all_ended (books (pending_of past ++ []) released (renewal_answered n codes k)) []).routing
none_qualified s l past time n codes released k legal apart qualified =
    let cause = c.Arrived (p.SubAck n codes) in
    let behind = entry time cause [] ∷ past in
    let none = quiet_grants (pending_of past) [] tt in
    qualified_by past time cause [] released (renewal_answered n codes k) (subst AreApart (sym (append-nil (pending_of past))) apart) tt
    (still_qualified s l past time cause [] (renewal_answered n codes k).granted legal tt none (answered_qos past n codes k qualified.granted))
    (subst (λ (xs : List Asked). Matched (IsAskedFor behind) xs (subscribes_in (pending_of past ++ []))) (sym (answered_asked n codes k))
    (subst (λ (cs : List Pending). Matched (IsAskedFor behind) k.asked (subscribes_in cs)) (sym (append-nil (pending_of past))) (still_for s l past time cause [] k.asked legal tt none qualified.asked)))

one_qualified : (s : Setup) (l : Sizes) (past : List Entry) (time : ℕ) (codes : List ℕ) (released : List ℕ) (k : Routing) (command : Pending) → IsLegalPast s l past → AreApart (pending_of past) → Routed s past k → IsQualified past k
    → find (has_id command.id) (pending_of past) ≡ Some command → is_subscribe command.request ≡ true → (length (asks_in command.request) == length codes) ≡ true
    → IsQualified (entry time (c.Arrived (p.SubAck command.id codes)) (grants_it command codes) ∷ past) (all_ended (books (pending_of past ++ []) released (renewal_answered command.id codes k)) (grants_it command codes)).routing
one_qualified s l past time codes released k command legal apart routed qualified found is count =
    let after = renewal_answered command.id codes k in
    let effects = grants_it command codes in
    let behind = entry time (c.Arrived (p.SubAck command.id codes)) effects ∷ past in
    let filters = granted_in (coded (asks_in command.request) codes) in
    let there = found_by command.id (pending_of past) command apart found in
    let found_open = find_subscribe command.id (pending_of past) command found is in
    let kept = find_asked (IsAsked past) command.id k.asked (subscribes_in (pending_of past)) command (λ a other its. its.id) routed.asked found_open in
    let kept_for = find_asked (IsAskedFor past) command.id k.asked (subscribes_in (pending_of past)) command (λ a other its. its.id) qualified.asked found_open in
    let same : kept_for.0 ≡ kept.0 = some_same kept_for.0 kept.0 (sym kept_for.1 ∙ kept.1) in
    let a = kept.0 in
    let for_it : IsAskedFor past a command = subst (λ (x : Asked). IsAskedFor past x command) same kept_for.2 in
    let here : find (routing.has_id command.id) after.asked ≡ Some a = ap (find (routing.has_id command.id)) (answered_asked command.id codes k) ∙ kept.1 in
    let ends = ends_granted past released after a command codes apart found is here kept.2.filters count in
    let own : (topics : List ℕ) → is_one_of filters topics ≡ true → last_asked a.asks topics ≡ Some (qos_if past command topics) =
    λ topics e. for_it.asks topics (ap (λ fs. is_one_of fs topics) kept.2.filters ∙ granted_asked (asks_in command.request) codes topics e) in
    let has = λ (topics : List ℕ) (e : is_one_of filters topics ≡ true). last_some (asks_in command.request) topics (granted_asked (asks_in command.request) codes topics e) in
    subst (λ (x : Routing). IsQualified behind x) (sym ends) (record {
      granted = regranted_routes past time codes command apart there a after.granted own (answered_qos past command.id codes k qualified.granted);
      asked = subst (λ (cs : List Pending). Matched (IsAskedFor behind) (settled_before command.id filters a.asks after.asked) cs)
          (filter_swapped (λ other. not (has_id command.id other)) (λ (other : Pending). is_subscribe other.request) (pending_of past)
          ∙ ap subscribes_in (others_found command.task command.seq (pending_of past) command apart there ∙ sym (left_open command.task command.seq past time command.id codes)))
          (subst (λ (xs : List Asked). Matched (IsAskedFor behind) (settled_before command.id filters a.asks xs) (filter (λ other. not (has_id command.id other)) (subscribes_in (pending_of past)))) (sym (answered_asked command.id codes k))
          (regranted past time codes command apart there a.asks k.asked (subscribes_in (pending_of past)) own has (apart_filter (λ (other : Pending). is_subscribe other.request) (pending_of past) apart)
          (ordered_filter past (λ (other : Pending). is_subscribe other.request) (pending_of past) (are_ordered s l past legal)) routed.asked qualified.asked found_open));
    })
  where
    some_same : (x y : Asked) → Some x ≡ Some y → x ≡ y
    some_same x y e = ap (or x) e
      where
        or : Asked → Option Asked → Asked
        or z None = z
        or z (Some w) = w

counted_one : (b : Bool) → (not b || false) ≡ false → b ≡ true
counted_one true e = refl
counted_one false e = absurd (cc e)

first_none : (test : ℕ → Bool) (xs ys : List ℕ) → list_any test (xs ++ ys) ≡ false → list_any test xs ≡ false
first_none test [] ys e = refl
first_none test (x ∷ xs) ys e = go (test x) refl (first_none test xs ys)
  where
    go : (b : Bool) → test x ≡ b → (list_any test (xs ++ ys) ≡ false → list_any test xs ≡ false) → list_any test (x ∷ xs) ≡ false
    go true is rest = absurd (cc (rw is at e))
    go false is rest = rw is (rest (rw is at e))

pub qualified_suback : (s : Setup) (l : Sizes) (past : List Entry) (time n : ℕ) (codes : List ℕ) (effects : List Effect) (released : List ℕ) (k : Routing) → IsLegalPast s l past → Differ (pending_of past) → AreApart (pending_of past)
    → list_any (λ count. not (count == length codes)) (counts_of (filter (λ command. is_subscribe command.request) (at n (pending_of past))) ++ renewal_counts (find (λ renewal. renewal.id == n) (renewals_of past))) ≡ false
    → effects ≡ all_granted codes (filter (λ command. is_subscribe command.request) (at n (pending_of past))) → Routed s past k → IsQualified past k
    → IsQualified (entry time (c.Arrived (p.SubAck n codes)) effects ∷ past) (all_ended (books (pending_of past ++ []) released (renewal_answered n codes k)) effects).routing
qualified_suback s l past time n codes effects released k legal differ apart counts is routed qualified =
    go (find (has_id n) (pending_of past)) refl (first_none (λ count. not (count == length codes)) (counts_of (filter (λ command. is_subscribe command.request) (at n (pending_of past)))) (renewal_counts (find (λ renewal. renewal.id == n) (renewals_of past))) counts)
  where
    one : (command : Pending) (b : Bool) → find (has_id n) (pending_of past) ≡ Some command → is_subscribe command.request ≡ b → list_any (λ count. not (count == length codes)) (counts_of (filter (λ other. is_subscribe other.request) (command ∷ []))) ≡ false
        → IsQualified (entry time (c.Arrived (p.SubAck n codes)) (all_granted codes (filter (λ other. is_subscribe other.request) (command ∷ []))) ∷ past) (all_ended (books (pending_of past ++ []) released (renewal_answered n codes k)) (all_granted codes (filter (λ other. is_subscribe other.request) (command ∷ [])))).routing
    one command true found its count =
        let same : command.id ≡ n = eqb-true command.id n (all_found (λ (x : Pending). Unit {0}) (has_id n) (pending_of past) command (all_of (λ (x : Pending). Unit {0}) (pending_of past) (λ x. tt)) found).1 in
        let sized : (length (asks_in command.request) == length codes) ≡ true = counted_one (length (asks_in command.request) == length codes) (rw its at count) in
        rw its (subst (λ (m : ℕ). IsQualified (entry time (c.Arrived (p.SubAck m codes)) (grants_it command codes) ∷ past) (all_ended (books (pending_of past ++ []) released (renewal_answered m codes k)) (grants_it command codes)).routing) same
        (one_qualified s l past time codes released k command legal apart routed qualified (subst (λ (m : ℕ). find (has_id m) (pending_of past) ≡ Some command) (sym same) found) its sized))
    one command false found its count = rw its (none_qualified s l past time n codes released k legal apart qualified)

    go : (found : Option Pending) → find (has_id n) (pending_of past) ≡ found → list_any (λ count. not (count == length codes)) (counts_of (filter (λ command. is_subscribe command.request) (at n (pending_of past)))) ≡ false
        → IsQualified (entry time (c.Arrived (p.SubAck n codes)) effects ∷ past) (all_ended (books (pending_of past ++ []) released (renewal_answered n codes k)) effects).routing
    go None e count =
        let same : [] ≡ effects = at_none (λ cs. all_granted codes (filter (λ other. is_subscribe other.request) cs)) n (pending_of past) differ (sym e) ∙ sym is in
        subst (λ (es : List Effect). IsQualified (entry time (c.Arrived (p.SubAck n codes)) es ∷ past) (all_ended (books (pending_of past ++ []) released (renewal_answered n codes k)) es).routing) same (none_qualified s l past time n codes released k legal apart qualified)
    go (Some command) e count =
        let same : all_granted codes (filter (λ other. is_subscribe other.request) (command ∷ [])) ≡ effects = at_one (λ cs. all_granted codes (filter (λ other. is_subscribe other.request) cs)) n (pending_of past) command differ (sym e) ∙ sym is in
        let its = at_one (λ cs. list_any (λ count. not (count == length codes)) (counts_of (filter (λ other. is_subscribe other.request) cs))) n (pending_of past) command differ (sym e) ∙ count in
        subst (λ (es : List Effect). IsQualified (entry time (c.Arrived (p.SubAck n codes)) es ∷ past) (all_ended (books (pending_of past ++ []) released (renewal_answered n codes k)) es).routing) same (one command (is_subscribe command.request) e refl its)
