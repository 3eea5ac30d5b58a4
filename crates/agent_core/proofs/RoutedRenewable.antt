-- What renewals ask for is what the agent keeps of it.
use Rattle.std.proofs.Common.{◌≡◌, ℕ, Bool, true, false, not, List, [], ◌∷◌, map, refl, ap, sym, ◌∙◌, subst}
use Rattle.std.specs.Prelude.{◌&&◌, ◌||◌, filter, if◌then◌else◌}
use Rattle.std.specs.List.{AllByRecursion, list_any}
use Rattle.std.specs.Str.{bytes_eq}
use Rattle.std.proofs.lemmas.Slice.Eq.{bytes_eq-Decides}
use Rattle.mqtt_packet.specs.declared.qos.Qos.{Qos}
use Rattle.mqtt_packet.specs.declared.qos.Qos.TheVariants.{AtMostOnce, AtLeastOnce, ExactlyOnce}
use Rattle.agent_journal.specs.declared.request.Request.{Request}
use Rattle.agent_journal.specs.declared.request.Request.TheVariants as requests
use Rattle.agent_journal.specs.declared.entry.Entry.{Entry}
use Rattle.agent_journal.specs.declared.setup.Setup.{Setup}
use Rattle.agent_journal.specs.declared.setup.Phase.TheVariants.{Opening}
use Rattle.agent_journal.specs.Readings.{Pending, pending_of}
use Rattle.agent_table.specs.Arrivals.{is_subscribe}
use Rattle.agent_table.specs.Effects.{is_publish}
use Rattle.agent_table.specs.Filters.{is_one_of, sorted, sorted_with, comes_before}
use Rattle.agent_table.specs.Histories.{IsLegalPast, phase_of}
use Rattle.agent_table.specs.Routes.{topics_of, routes_of, qos_of, asks_for, renewable_of, unsure_of, lost_of, sure_of}
use Rattle.agent_table.specs.Sizes.{Sizes}
use Rattle.subscriptions.specs.Routing.{Granted, Asked, Routing, route_of, routes, renewable, ask_in, qos_in}
use Rattle.agent_core.specs.Routed.{Matched, Routed, IsQualified, IsAsked, subscribes_in, is_sure}
use Rattle.agent_core.specs.Reordered.{IsReordered}
use Rattle.agent_core.proofs.Reorders.{any_reordered, filter_reordered, map_reordered}
use Rattle.agent_core.proofs.RoutedLists.{all_map, all_filter, filter_all, filter_none, filter_as, filter_map}
use Rattle.agent_core.proofs.RoutedReads.{routed_routes}
use Rattle.agent_core.proofs.RoutedRenewed.{members}
use Rattle.agent_core.proofs.RoutedRest.{at_rest, is_closed}
use Rattle.agent_core.proofs.SortedSame.{sorted_same}

-- ---- No subscribe is open

publish_only : (request : Request) → is_publish request ≡ true → is_subscribe request ≡ false
publish_only (requests.Publish qos topic payload) e = refl
publish_only (requests.Subscribe asks) e = absurd (cc e)
publish_only (requests.Unsubscribe filters) e = refl
publish_only requests.Ping e = refl
publish_only requests.Disconnect e = refl
publish_only requests.Terminate e = refl
publish_only requests.Leave e = refl

none_asked : (past : List Entry) (asked : List Asked) (commands : List Pending) → commands ≡ [] → Matched (IsAsked past) asked commands → asked ≡ []
none_asked past [] commands e m = refl
none_asked past (a ∷ asked) commands e m = absurd (subst (λ (cs : List Pending). Matched (IsAsked past) (a ∷ asked) cs) e m)

granted_routes : (s : Setup) (l : Sizes) (past : List Entry) (k : Routing) → IsLegalPast s l past → phase_of s l past ≡ Opening → Routed s past k → map route_of k.granted ≡ routes_of past
granted_routes s l past k legal opening routed =
    let rest = at_rest s l past legal (ap is_closed opening) in
    let none : subscribes_in (pending_of past) ≡ [] =
    filter_none (λ (command : Pending). is_subscribe command.request) (pending_of past) (all_map (λ (command : Pending). is_publish command.request ≡ true) (λ (command : Pending). is_subscribe command.request ≡ false) (pending_of past) (λ command e. publish_only command.request e) rest.publishes) in
    let empty : k.asked ≡ [] = none_asked past k.asked (subscribes_in (pending_of past)) none routed.asked in
    ap (λ (xs : List Asked). routes (record k { asked = xs })) (sym empty) ∙ routed_routes s past k routed

-- ---- Qualities of service

qos_is : (past : List Entry) (gs : List Granted) (topics : List ℕ) → AllByRecursion (λ (g : Granted). g.qos ≡ qos_of past g.topics) gs → is_one_of (map (λ (g : Granted). g.topics) gs) topics ≡ true → qos_in gs topics ≡ qos_of past topics
qos_is past [] topics all e = absurd (cc e)
qos_is past (g ∷ gs) topics all e = go (bytes_eq g.topics topics) refl (qos_is past gs topics all.1)
  where
    go : (b : Bool) → bytes_eq g.topics topics ≡ b → (is_one_of (map (λ (h : Granted). h.topics) gs) topics ≡ true → qos_in gs topics ≡ qos_of past topics) → qos_in (g ∷ gs) topics ≡ qos_of past topics
    go true is rest = ap (λ (b : Bool). if b then g.qos else qos_in gs topics) is ∙ all.0 ∙ ap (qos_of past) ((bytes_eq-Decides g.topics topics).0 is)
    go false is rest = ap (λ (b : Bool). if b then g.qos else qos_in gs topics) is ∙ rest (rw is at e)

all_sorted_with : (P : List ℕ → Type 0) (fs : List (List ℕ)) (x : List ℕ) → AllByRecursion P fs → P x → AllByRecursion P (sorted_with fs x)
all_sorted_with P [] x all own = (own, tt)
all_sorted_with P (y ∷ fs) x all own = go (bytes_eq y x) (comes_before x y) (all_sorted_with P fs x all.1 own)
  where
    go : (a b : Bool) → AllByRecursion P (sorted_with fs x) → AllByRecursion P (if a then y ∷ fs else if b then x ∷ y ∷ fs else y ∷ sorted_with fs x)
    go true b rest = all
    go false true rest = (own, all)
    go false false rest = (all.0, rest)

all_sorted : (P : List ℕ → Type 0) (fs : List (List ℕ)) → AllByRecursion P fs → AllByRecursion P (sorted fs)
all_sorted P [] all = tt
all_sorted P (x ∷ fs) all = all_sorted_with P (sorted fs) x (all_sorted P fs all.1) all.0

same_asks : (past : List Entry) (gs : List Granted) (ts : List (List ℕ)) → AllByRecursion (λ (g : Granted). g.qos ≡ qos_of past g.topics) gs → AllByRecursion (λ (t : List ℕ). is_one_of (map (λ (g : Granted). g.topics) gs) t ≡ true) ts
    → map (ask_in gs) ts ≡ map (λ (t : List ℕ). record { filter = t; qos = qos_of past t }) ts
same_asks past gs [] all within = refl
same_asks past gs (t ∷ ts) all within = λ i. record { filter = t; qos = qos_is past gs t all within.0 i } ∷ same_asks past gs ts all within.1 i

topics_as : (gs : List Granted) → topics_of (map route_of gs) ≡ map (λ (g : Granted). g.topics) gs
topics_as [] = refl
topics_as (g ∷ gs) = ap (λ ts. g.topics ∷ ts) (topics_as gs)

-- In Opening: what renewals of all routes ask for, and those of the unsure ones.
pub routed_renewable : (s : Setup) (l : Sizes) (past : List Entry) (k : Routing) → IsLegalPast s l past → phase_of s l past ≡ Opening → Routed s past k → IsQualified past k → renewable true k ≡ renewable_of past
routed_renewable s l past k legal opening routed qualified =
    let all : filter (λ (g : Granted). true) k.granted ≡ k.granted = filter_all (λ (g : Granted). true) k.granted (each k.granted) in
    ap (λ gs. map (ask_in k.granted) (sorted (map (λ (g : Granted). g.topics) gs))) all
    ∙ same_asks past k.granted (sorted (map (λ (g : Granted). g.topics) k.granted)) qualified.granted
    (all_sorted (λ (t : List ℕ). is_one_of (map (λ (g : Granted). g.topics) k.granted) t ≡ true) (map (λ (g : Granted). g.topics) k.granted) (members (map (λ (g : Granted). g.topics) k.granted)))
    ∙ ap (asks_for past) (sym (topics_as k.granted) ∙ ap topics_of (granted_routes s l past k legal opening routed))
  where
    each : (gs : List Granted) → AllByRecursion (λ (g : Granted). true ≡ true) gs
    each [] = tt
    each (g ∷ gs) = (refl, each gs)

pub routed_unsure : (s : Setup) (l : Sizes) (past : List Entry) (k : Routing) → IsLegalPast s l past → phase_of s l past ≡ Opening → Routed s past k → IsQualified past k → renewable false k ≡ unsure_of s past
routed_unsure s l past k legal opening routed qualified =
    let unsure : List ℕ → Bool = λ topics. lost_of s past && not (is_one_of (sure_of s past) topics) in
    let same : map (λ (g : Granted). g.topics) (filter (λ (g : Granted). not g.sure) k.granted) ≡ filter unsure (map (λ (g : Granted). g.topics) k.granted) =
    ap (map (λ (g : Granted). g.topics)) (filter_as (λ (g : Granted). not g.sure) (λ (g : Granted). unsure g.topics) k.granted
    (all_map (λ (g : Granted). g.sure ≡ is_sure s past g.topics) (λ (g : Granted). not g.sure ≡ unsure g.topics) k.granted (λ g is. ap not is ∙ turn (lost_of s past) (is_one_of (sure_of s past) g.topics)) routed.sure))
    ∙ sym (filter_map unsure (λ (g : Granted). g.topics) k.granted) in
    ap (λ ts. map (ask_in k.granted) (sorted ts)) same
    ∙ same_asks past k.granted (sorted (filter unsure (map (λ (g : Granted). g.topics) k.granted))) qualified.granted
    (all_sorted (λ (t : List ℕ). is_one_of (map (λ (g : Granted). g.topics) k.granted) t ≡ true) (filter unsure (map (λ (g : Granted). g.topics) k.granted))
    (all_filter (λ (t : List ℕ). is_one_of (map (λ (g : Granted). g.topics) k.granted) t ≡ true) unsure (map (λ (g : Granted). g.topics) k.granted) (members (map (λ (g : Granted). g.topics) k.granted))))
    ∙ ap (λ ts. asks_for past (filter unsure ts)) (sym (topics_as k.granted) ∙ ap topics_of (granted_routes s l past k legal opening routed))
  where
    turn : (a b : Bool) → not (not a || b) ≡ (a && not b)
    turn true true = refl
    turn true false = refl
    turn false b = refl

-- ---- In another order

-- whether two qualities of service are the same
abbrev is_qos : Qos → Qos → Bool
is_qos AtMostOnce AtMostOnce = true
is_qos AtMostOnce AtLeastOnce = false
is_qos AtMostOnce ExactlyOnce = false
is_qos AtLeastOnce AtMostOnce = false
is_qos AtLeastOnce AtLeastOnce = true
is_qos AtLeastOnce ExactlyOnce = false
is_qos ExactlyOnce AtMostOnce = false
is_qos ExactlyOnce AtLeastOnce = false
is_qos ExactlyOnce ExactlyOnce = true

same_qos : (one two : Qos) → is_qos one two ≡ true → one ≡ two
same_qos AtMostOnce AtMostOnce e = refl
same_qos AtMostOnce AtLeastOnce e = absurd (cc e)
same_qos AtMostOnce ExactlyOnce e = absurd (cc e)
same_qos AtLeastOnce AtMostOnce e = absurd (cc e)
same_qos AtLeastOnce AtLeastOnce e = refl
same_qos AtLeastOnce ExactlyOnce e = absurd (cc e)
same_qos ExactlyOnce AtMostOnce e = absurd (cc e)
same_qos ExactlyOnce AtLeastOnce e = absurd (cc e)
same_qos ExactlyOnce ExactlyOnce e = refl

itself : (qos : Qos) → is_qos qos qos ≡ true
itself AtMostOnce = refl
itself AtLeastOnce = refl
itself ExactlyOnce = refl

module _ (past : List Entry) where
  -- what is asked for otherwise
  abbrev differs : Granted → Bool
  differs g = not (is_qos g.qos (qos_of past g.topics))

  none_differs : (gs : List Granted) → AllByRecursion (λ (g : Granted). g.qos ≡ qos_of past g.topics) gs → list_any differs gs ≡ false
  none_differs [] all = refl
  none_differs (g ∷ gs) all = rw (ap (λ qos. is_qos g.qos qos) (sym all.0) ∙ itself g.qos) (none_differs gs all.1)

  all_same : (gs : List Granted) → list_any differs gs ≡ false → AllByRecursion (λ (g : Granted). g.qos ≡ qos_of past g.topics) gs
  all_same [] none = tt
  all_same (g ∷ gs) none = go (is_qos g.qos (qos_of past g.topics)) refl none (λ h. all_same gs h)
    where
      go : (b : Bool) → is_qos g.qos (qos_of past g.topics) ≡ b → (not b || list_any differs gs) ≡ false → (list_any differs gs ≡ false → AllByRecursion (λ (h : Granted). h.qos ≡ qos_of past h.topics) gs)
          → AllByRecursion (λ (h : Granted). h.qos ≡ qos_of past h.topics) (g ∷ gs)
      go true is none rest = (same_qos g.qos (qos_of past g.topics) is, rest none)
      go false is none rest = absurd (cc none)

  over_topics : (P : List ℕ → Type 0) (gs : List Granted) → AllByRecursion P (map (λ (g : Granted). g.topics) gs) → AllByRecursion (λ (g : Granted). P g.topics) gs
  over_topics P [] all = tt
  over_topics P (g ∷ gs) all = (all.0, over_topics P gs all.1)

  of_topics : (P : List ℕ → Type 0) (gs : List Granted) → AllByRecursion (λ (g : Granted). P g.topics) gs → AllByRecursion P (map (λ (g : Granted). g.topics) gs)
  of_topics P [] all = tt
  of_topics P (g ∷ gs) all = (all.0, of_topics P gs all.1)

  abbrev wanted : Bool → List Granted → List (List ℕ)
  wanted all gs = map (λ (g : Granted). g.topics) (filter (λ (g : Granted). all || not g.sure) gs)

  asks_as : (all : Bool) (gs : List Granted) → AllByRecursion (λ (g : Granted). g.qos ≡ qos_of past g.topics) gs → map (ask_in gs) (sorted (wanted all gs)) ≡ map (λ (t : List ℕ). record { filter = t; qos = qos_of past t }) (sorted (wanted all gs))
  asks_as all gs qualified =
      let Within : List ℕ → Type 0 = λ (t : List ℕ). is_one_of (map (λ (g : Granted). g.topics) gs) t ≡ true in
      same_asks past gs (sorted (wanted all gs)) qualified
      (all_sorted Within (wanted all gs) (of_topics Within (filter (λ (g : Granted). all || not g.sure) gs) (all_filter (λ (g : Granted). Within g.topics) (λ (g : Granted). all || not g.sure) gs (over_topics Within gs (members (map (λ (g : Granted). g.topics) gs))))))

  pub renewable_same : (all : Bool) (k : Routing) (gs : List Granted) → IsReordered gs k.granted → AllByRecursion (λ (g : Granted). g.qos ≡ qos_of past g.topics) gs → renewable all k ≡ renewable all (record k { granted = gs })
  renewable_same all k gs same qualified =
      let kept = all_same k.granted (sym (any_reordered differs gs k.granted same) ∙ none_differs gs qualified) in
      let order : sorted (wanted all k.granted) ≡ sorted (wanted all gs) =
      sym (sorted_same (wanted all gs) (wanted all k.granted) (map_reordered (λ (g : Granted). g.topics) (filter (λ (g : Granted). all || not g.sure) gs) (filter (λ (g : Granted). all || not g.sure) k.granted) (filter_reordered (λ (g : Granted). all || not g.sure) gs k.granted same))) in
      asks_as all k.granted kept ∙ ap (map (λ (t : List ℕ). record { filter = t; qos = qos_of past t })) order ∙ sym (asks_as all gs qualified)
