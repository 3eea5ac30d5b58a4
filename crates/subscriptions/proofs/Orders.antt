-- Filters in the order of their bytes, as a set keeps them, and the quality of service that stands with a filter.
use Rattle.std.proofs.Common.{sym, ◌∙◌, ◌≡◌, ◌<◌, ◌≤◌, ◌+◌, ◌-◌, ◌==◌, ℕ, Bool, true, false, not, ◌||◌, nat_lt, List, [], ◌∷◌, map, take, drop, length, get_or, Bor, refl, ap, arith}
use Rattle.std.specs.declared.cmp.Ordering.{Ordering}
use Rattle.std.specs.declared.cmp.Ordering.TheVariants.{Less, Equal, Greater}
use Rattle.std.specs.BTreeSet.{insert_key}
use Rattle.std.specs.Cmp.Lexicographic.{slice_cmp}
use Rattle.std.specs.List.{find, filter}
use Rattle.std.specs.Option.{option_map, unwrap_or}
use Rattle.std.specs.Ordering.{nat_cmp, is_lt, is_eq}
use Rattle.std.specs.Str.{bytes_eq}
use Rattle.std.proofs.lemmas.Bool.Decides.{nat_tests}
use Rattle.std.proofs.lemmas.List.{drop_more, take-map, drop-map, length-map}
use Rattle.std.proofs.lemmas.Map.Text.{is_eq-slice_cmp}
use Rattle.std.proofs.lemmas.Slice.Eq.{bytes_eq-Decides}
use Rattle.mqtt_packet.specs.declared.qos.Qos.TheVariants.{AtMostOnce}
use Rattle.mqtt_packet.specs.declared.will.Ask.{Ask}
use Rattle.agent_table.specs.Filters.{comes_before, sorted_with, sorted}
use Rattle.subscriptions.specs.Routing.{Granted, Routing, qos_in, ask_in, renewable}
use Rattle.subscriptions.proofs.Bools.{same_tests}

pub bytes_turned : (xs ys : List ℕ) → bytes_eq xs ys ≡ bytes_eq ys xs
bytes_turned xs ys =
    same_tests (bytes_eq xs ys) (bytes_eq ys xs) (λ e. (bytes_eq-Decides ys xs).1 (sym ((bytes_eq-Decides xs ys).0 e))) (λ e. (bytes_eq-Decides xs ys).1 (sym ((bytes_eq-Decides ys xs).0 e)))

below_differs : (x y : ℕ) → nat_lt x y ≡ true → (x == y) ≡ false
below_differs x y e = grind (arith, nat_tests)

pub before_is : (xs ys : List ℕ) → is_lt (slice_cmp nat_cmp xs ys) ≡ comes_before xs ys
before_is [] [] = refl
before_is [] (y ∷ ys) = refl
before_is (x ∷ xs) [] = refl
before_is (x ∷ xs) (y ∷ ys) = go (nat_lt x y) refl (x == y) refl (before_is xs ys)
  where
    go : (b : Bool) → nat_lt x y ≡ b → (t : Bool) → (x == y) ≡ t → is_lt (slice_cmp nat_cmp xs ys) ≡ comes_before xs ys → is_lt (slice_cmp nat_cmp (x ∷ xs) (y ∷ ys)) ≡ comes_before (x ∷ xs) (y ∷ ys)
    go true e t f rest = let differs = below_differs x y e in rw (e, differs) refl
    go false e true f rest = rw (e, f) rest
    go false e false f rest = rw (e, f) refl

abbrev pub text_cmp : Bor (List ℕ) → Bor (List ℕ) → Ordering
text_cmp x y = slice_cmp nat_cmp x.now y.now

pub inserted : (keys : List (Bor (List ℕ))) (key : Bor (List ℕ)) → map (λ k. k.now) (insert_key text_cmp keys key) ≡ sorted_with (map (λ k. k.now) keys) key.now
inserted [] key = refl
inserted (x ∷ keys) key = go (text_cmp key x) refl (inserted keys key)
  where
    go : (o : Ordering) → text_cmp key x ≡ o → map (λ k. k.now) (insert_key text_cmp keys key) ≡ sorted_with (map (λ k. k.now) keys) key.now
        → map (λ k. k.now) (insert_key text_cmp (x ∷ keys) key) ≡ sorted_with (map (λ k. k.now) (x ∷ keys)) key.now
    go Less e rest =
        let differs : bytes_eq x.now key.now ≡ false = bytes_turned x.now key.now ∙ sym (is_eq-slice_cmp key.now x.now) ∙ ap is_eq e in
        let before : comes_before key.now x.now ≡ true = sym (before_is key.now x.now) ∙ ap is_lt e in
        rw (e, differs, before) refl
    go Equal e rest =
        let same : bytes_eq x.now key.now ≡ true = bytes_turned x.now key.now ∙ sym (is_eq-slice_cmp key.now x.now) ∙ ap is_eq e in
        rw (e, same) refl
    go Greater e rest =
        let differs : bytes_eq x.now key.now ≡ false = bytes_turned x.now key.now ∙ sym (is_eq-slice_cmp key.now x.now) ∙ ap is_eq e in
        let behind : comes_before key.now x.now ≡ false = sym (before_is key.now x.now) ∙ ap is_lt e in
        rw (e, differs, behind) (ap (λ l. x.now ∷ l) rest)

pub first_qos_is : (granted : List Granted) (filter : List ℕ) → unwrap_or (option_map (λ g. g.qos) (find (λ g. bytes_eq g.topics filter) granted)) AtMostOnce ≡ qos_in granted filter
first_qos_is [] filter = refl
first_qos_is (g ∷ granted) filter = go (bytes_eq g.topics filter) refl (first_qos_is granted filter)
  where
    go : (b : Bool) → bytes_eq g.topics filter ≡ b → unwrap_or (option_map (λ x. x.qos) (find (λ x. bytes_eq x.topics filter) granted)) AtMostOnce ≡ qos_in granted filter
        → unwrap_or (option_map (λ x. x.qos) (find (λ x. bytes_eq x.topics filter) (g ∷ granted))) AtMostOnce ≡ qos_in (g ∷ granted) filter
    go true e rest = rw e refl
    go false e rest = rw e rest

-- one more route, from the back
pub one_back : (all : Bool) (granted : List Granted) (at' : ℕ) (x : Granted) (old new : List (Bor (List ℕ))) (key : Bor (List ℕ)) → 0 < at' → at' ≤ length granted → x ≡ get_or granted (at' - 1) x → (all || not x.sure) ≡ true → key.now ≡ x.topics
    → new ≡ insert_key text_cmp old key → map (λ k. k.now) old ≡ sorted (map (λ g. g.topics) (filter (λ g. all || not g.sure) (drop at' granted)))
    → map (λ k. k.now) new ≡ sorted (map (λ g. g.topics) (filter (λ g. all || not g.sure) (drop (at' - 1) granted)))
one_back all granted at' x old new key above within found wanted is inserts rest =
    let back : at' - 1 + 1 ≡ at' = omega arith in
    let inside : at' - 1 < length granted = omega arith in
    let more : drop (at' - 1) granted ≡ x ∷ drop at' granted = drop_more granted (at' - 1) x inside ∙ ap (λ g. g ∷ drop (at' - 1 + 1) granted) (sym found) ∙ ap (λ n. x ∷ drop n granted) back in
    ap (map (λ k. k.now)) inserts ∙ inserted old key ∙ ap (λ l. sorted_with l key.now) rest
    ∙ ap (λ f. sorted_with (sorted (map (λ g. g.topics) (filter (λ g. all || not g.sure) (drop at' granted)))) f) is
    ∙ rw more (kept (all || not x.sure) refl wanted)
  where
    kept : (b : Bool) → (all || not x.sure) ≡ b → b ≡ true → sorted_with (sorted (map (λ g. g.topics) (filter (λ g. all || not g.sure) (drop at' granted)))) x.topics ≡ sorted (map (λ g. g.topics) (filter (λ g. all || not g.sure) (x ∷ drop at' granted)))
    kept true e t = rw e refl
    kept false e t = absurd (cc t)

-- a part of what is asked for
pub part_is : (granted : List Granted) (all : List (List ℕ)) (keys part : List (Bor (List ℕ))) (from : ℕ) → map (λ k. k.now) keys ≡ all → part ≡ take 8 (drop from keys) → map (λ k. ask_in granted k.now) part ≡ take 8 (drop from (map (ask_in granted) all))
part_is granted all keys part from is cut =
    let asks : Bor (List ℕ) → Ask = λ k. ask_in granted k.now in
    ap (map asks) cut ∙ sym (take-map asks 8 (drop from keys)) ∙ ap (take 8) (sym (drop-map asks from keys)) ∙ ap (λ l. take 8 (drop from l)) (sym (map-map (ask_in granted) (λ k. k.now) keys) ∙ ap (map (ask_in granted)) is)
  where
    map-map : (f : List ℕ → Ask) (g : Bor (List ℕ) → List ℕ) (xs : List (Bor (List ℕ))) → map f (map g xs) ≡ map (λ x. f (g x)) xs
    map-map f g [] = refl
    map-map f g (x ∷ xs) = ap (λ l. f (g x) ∷ l) (map-map f g xs)

-- ---- How many there are

with_few : (filters : List (List ℕ)) (filter : List ℕ) → length (sorted_with filters filter) ≤ length filters + 1
with_few [] filter = omega arith
with_few (other ∷ filters) filter = go (bytes_eq other filter) refl (comes_before filter other) refl (with_few filters filter)
  where
    go : (b : Bool) → bytes_eq other filter ≡ b → (t : Bool) → comes_before filter other ≡ t → length (sorted_with filters filter) ≤ length filters + 1 → length (sorted_with (other ∷ filters) filter) ≤ length (other ∷ filters) + 1
    go true e t f rest = rw e (omega arith)
    go false e true f rest = rw (e, f) (omega arith)
    go false e false f rest = rw (e, f) (omega (arith, rest))

sorted_few : (filters : List (List ℕ)) → length (sorted filters) ≤ length filters
sorted_few [] = omega arith
sorted_few (filter ∷ filters) = let more = with_few (sorted filters) filter in let rest = sorted_few filters in omega (arith, more, rest)

filter_few : (p : Granted → Bool) (gs : List Granted) → length (filter p gs) ≤ length gs
filter_few p [] = omega arith
filter_few p (g ∷ gs) = go (p g) refl (filter_few p gs)
  where
    go : (b : Bool) → p g ≡ b → length (filter p gs) ≤ length gs → length (filter p (g ∷ gs)) ≤ length (g ∷ gs)
    go true e rest = rw e (omega (arith, rest))
    go false e rest = rw e (omega (arith, rest))

pub renewable_few : (all : Bool) (k : Routing) → length (renewable all k) ≤ length k.granted
renewable_few all k =
    let wanted = filter (λ g. all || not g.sure) k.granted in
    let asks = length-map (sorted (map (λ g. g.topics) wanted)) (ask_in k.granted) in
    let filters = sorted_few (map (λ g. g.topics) wanted) in
    let topics = length-map wanted (λ g. g.topics) in
    let few = filter_few (λ g. all || not g.sure) k.granted in
    omega (arith, asks, filters, topics, few)
