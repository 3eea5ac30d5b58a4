-- The records of a saved session: what is written is read, and what is read was written.
use Rattle.std.proofs.Common.{◌≡◌, ℕ, zero, suc, ◌^◌, ◌<◌, List, [], ◌∷◌, ◌++◌, length, Option, Some, refl, sym, ap, subst, ◌∙◌, arith}
use Rattle.std.specs.Int.{w32, w64}
use Rattle.std.specs.List.{flat_map, AllByRecursion}
use Rattle.std.proofs.lemmas.List.Concat.{flat_map-cons}
use Rattle.mqtt_packet.specs.Flags.{level}
use Rattle.mqtt_packet.specs.Reading.{number_at}
use Rattle.mqtt_packet.specs.Spelling.{string}
use Rattle.mqtt_packet.specs.Stream.{AreBytes}
use Rattle.mqtt_packet.proofs.Numbers.{Takes, takes_then, bind_some, some_is}
use Rattle.session_text.specs.declared.session.Connections.{Connections}
use Rattle.session_text.specs.declared.session.Last.{Last}
use Rattle.session_text.specs.declared.session.Route.{Route}
use Rattle.session_text.specs.Laws.{AreConnections, IsLast, IsOff, IsNumber16, IsNumber64, IsRoute, IsFilter, AreCounted}
use Rattle.session_text.specs.Reading.{wide_at, flag_at, phase_at, off_at, qos_at, filter_at, items_at, counted_at, connections_at, last_at, route_at}
use Rattle.session_text.specs.Spelling.{byte, flag, number16, number32, number64, phase_number, off_text, tries_text, connections_text, last_text, route_text, counted}
use Rattle.session_text.proofs.Exact.{Exact, read_on, read_last, took_on}
use Rattle.session_text.proofs.Values.{Any, flag_exact, phase_exact, off_exact, qos_exact, exact16, exact32, exact64, filter_exact}

-- ---- Connections

connections_read : (c : Connections) (rest : List ℕ) → AreConnections c → connections_at (connections_text c ++ rest) ≡ Some (c, rest)
unfolding connections_at
connections_read c rest is =
    read_on phase_at (byte (phase_number c.phase)) (off_text c.off ++ tries_text c) rest c.phase _ _ (phase_exact.read c.phase ((off_text c.off ++ tries_text c) ++ rest) tt)
    (read_on off_at (off_text c.off) (tries_text c) rest c.off _ _ (off_exact.read c.off (tries_text c ++ rest) is.off)
    (read_on flag_at (flag c.first) (flag c.accepted ++ number32 c.breaks) rest c.first _ _ (flag_exact.read c.first ((flag c.accepted ++ number32 c.breaks) ++ rest) tt)
    (read_on flag_at (flag c.accepted) (number32 c.breaks) rest c.accepted _ _ (flag_exact.read c.accepted (number32 c.breaks ++ rest) tt)
    (read_last (wide_at w32) (number32 c.breaks) rest c.breaks _ _ (exact32.read c.breaks rest is.breaks) refl))))

connections_took : (bytes : List ℕ) (c : Connections) (rest : List ℕ) → AreBytes bytes → connections_at bytes ≡ Some (c, rest) → Takes bytes (connections_text c) rest × AreConnections c
unfolding connections_at
connections_took bytes c rest fits e =
    let t0 = took_on phase_at (λ phase. byte (phase_number phase)) Any phase_exact bytes _ (c, rest) fits e in
    let t1 = took_on off_at off_text IsOff off_exact t0.rest _ (c, rest) t0.takes.rest_fits t0.next_is in
    let t2 = took_on flag_at flag Any flag_exact t1.rest _ (c, rest) t1.takes.rest_fits t1.next_is in
    let t3 = took_on flag_at flag Any flag_exact t2.rest _ (c, rest) t2.takes.rest_fits t2.next_is in
    let t4 = took_on (wide_at w32) number32 (λ n. n < 2 ^ 32) exact32 t3.rest _ (c, rest) t3.takes.rest_fits t3.next_is in
    let own : Connections = record { phase = t0.value; off = t1.value; first = t2.value; accepted = t3.value; breaks = t4.value } in
    let e34 = takes_then t2.rest (flag t3.value) t3.rest (number32 t4.value) t4.rest t3.takes t4.takes in
    let e24 = takes_then t1.rest (flag t2.value) t2.rest (flag t3.value ++ number32 t4.value) t4.rest t2.takes e34 in
    let e14 = takes_then t0.rest (off_text t1.value) t1.rest (tries_text own) t4.rest t1.takes e24 in
    let all : Takes bytes (connections_text own) t4.rest = takes_then bytes (byte (phase_number t0.value)) t0.rest (off_text t1.value ++ tries_text own) t4.rest t0.takes e14 in
    subst (λ (x : Connections × List ℕ). Takes bytes (connections_text x.0) x.1 × AreConnections x.0) (some_is (own, t4.rest) (c, rest) t4.next_is) (all, record { off = t1.is; breaks = t4.is })

pub connections_exact : Exact Connections connections_at connections_text AreConnections
connections_exact = record { read = connections_read; took = connections_took }

-- ---- The last entry

last_read : (l : Last) (rest : List ℕ) → IsLast l → last_at (last_text l ++ rest) ≡ Some (l, rest)
unfolding last_at
last_read l rest is =
    read_on flag_at (flag l.sends) (number64 l.time ++ number16 l.id) rest l.sends _ _ (flag_exact.read l.sends ((number64 l.time ++ number16 l.id) ++ rest) tt)
    (read_on (wide_at w64) (number64 l.time) (number16 l.id) rest l.time _ _ (exact64.read l.time (number16 l.id ++ rest) is.time)
    (read_last number_at (number16 l.id) rest l.id _ _ (exact16.read l.id rest is.id) refl))

last_took : (bytes : List ℕ) (l : Last) (rest : List ℕ) → AreBytes bytes → last_at bytes ≡ Some (l, rest) → Takes bytes (last_text l) rest × IsLast l
unfolding last_at
last_took bytes l rest fits e =
    let t0 = took_on flag_at flag Any flag_exact bytes _ (l, rest) fits e in
    let t1 = took_on (wide_at w64) number64 IsNumber64 exact64 t0.rest _ (l, rest) t0.takes.rest_fits t0.next_is in
    let t2 = took_on number_at number16 IsNumber16 exact16 t1.rest _ (l, rest) t1.takes.rest_fits t1.next_is in
    let own : Last = record { sends = t0.value; time = t1.value; id = t2.value } in
    let e12 = takes_then t0.rest (number64 t1.value) t1.rest (number16 t2.value) t2.rest t1.takes t2.takes in
    let all : Takes bytes (last_text own) t2.rest = takes_then bytes (flag t0.value) t0.rest (number64 t1.value ++ number16 t2.value) t2.rest t0.takes e12 in
    subst (λ (x : Last × List ℕ). Takes bytes (last_text x.0) x.1 × IsLast x.0) (some_is (own, t2.rest) (l, rest) t2.next_is) (all, record { time = t1.is; id = t2.is })

pub last_exact : Exact Last last_at last_text IsLast
last_exact = record { read = last_read; took = last_took }

-- ---- Routes

route_read : (r : Route) (rest : List ℕ) → IsRoute r → route_at (route_text r ++ rest) ≡ Some (r, rest)
unfolding route_at
route_read r rest is =
    read_on (wide_at w32) (number32 r.task) (byte (level r.qos) ++ (flag r.unsure ++ string r.filter)) rest r.task _ _ (exact32.read r.task ((byte (level r.qos) ++ (flag r.unsure ++ string r.filter)) ++ rest) is.task)
    (read_on qos_at (byte (level r.qos)) (flag r.unsure ++ string r.filter) rest r.qos _ _ (qos_exact.read r.qos ((flag r.unsure ++ string r.filter) ++ rest) tt)
    (read_on flag_at (flag r.unsure) (string r.filter) rest r.unsure _ _ (flag_exact.read r.unsure (string r.filter ++ rest) tt)
    (read_last filter_at (string r.filter) rest r.filter _ _ (filter_exact.read r.filter rest is.filter) refl)))

route_took : (bytes : List ℕ) (r : Route) (rest : List ℕ) → AreBytes bytes → route_at bytes ≡ Some (r, rest) → Takes bytes (route_text r) rest × IsRoute r
unfolding route_at
route_took bytes r rest fits e =
    let t0 = took_on (wide_at w32) number32 (λ n. n < 2 ^ 32) exact32 bytes _ (r, rest) fits e in
    let t1 = took_on qos_at (λ qos. byte (level qos)) Any qos_exact t0.rest _ (r, rest) t0.takes.rest_fits t0.next_is in
    let t2 = took_on flag_at flag Any flag_exact t1.rest _ (r, rest) t1.takes.rest_fits t1.next_is in
    let t3 = took_on filter_at string IsFilter filter_exact t2.rest _ (r, rest) t2.takes.rest_fits t2.next_is in
    let own : Route = record { task = t0.value; qos = t1.value; unsure = t2.value; filter = t3.value } in
    let e23 = takes_then t1.rest (flag t2.value) t2.rest (string t3.value) t3.rest t2.takes t3.takes in
    let e13 = takes_then t0.rest (byte (level t1.value)) t1.rest (flag t2.value ++ string t3.value) t3.rest t1.takes e23 in
    let all : Takes bytes (route_text own) t3.rest = takes_then bytes (number32 t0.value) t0.rest (byte (level t1.value) ++ (flag t2.value ++ string t3.value)) t3.rest t0.takes e13 in
    subst (λ (x : Route × List ℕ). Takes bytes (route_text x.0) x.1 × IsRoute x.0) (some_is (own, t3.rest) (r, rest) t3.next_is) (all, record { task = t0.is; filter = t3.is })

pub route_exact : Exact Route route_at route_text IsRoute
route_exact = record { read = route_read; took = route_took }

-- ---- Lists

items_read : {A : Type 0} (item : List ℕ → Option (A × List ℕ)) (text : A → List ℕ) (Is : A → Type 0) → Exact A item text Is → (xs : List A) (rest : List ℕ) → AllByRecursion Is xs → items_at item (length xs) (flat_map text xs ++ rest) ≡ Some (xs, rest)
unfolding items_at
items_read item text Is exact [] rest all = refl
items_read item text Is exact (x ∷ xs) rest all =
    ap (items_at item (suc (length xs))) (ap (λ (t : List ℕ). t ++ rest) (flat_map-cons text x xs))
    ∙ read_on item (text x) (flat_map text xs) rest x _ _ (exact.read x (flat_map text xs ++ rest) all.0) (rw (items_read item text Is exact xs rest all.1) refl)

items_took : {A : Type 0} (item : List ℕ → Option (A × List ℕ)) (text : A → List ℕ) (Is : A → Type 0) → Exact A item text Is → (n : ℕ) (bytes : List ℕ) (xs : List A) (rest : List ℕ) → AreBytes bytes → items_at item n bytes ≡ Some (xs, rest)
    → Takes bytes (flat_map text xs) rest × ((length xs ≡ n) × AllByRecursion Is xs)
unfolding items_at
items_took {A} item text Is exact zero bytes xs rest fits e =
    subst (λ (p : List A × List ℕ). Takes bytes (flat_map text p.0) p.1 × ((length p.0 ≡ 0) × AllByRecursion Is p.0)) (some_is ([], bytes) (xs, rest) e) (record { parts = refl; rest_fits = fits }, (refl, tt))
items_took {A} item text Is exact (suc n) bytes xs rest fits e =
    let t0 = took_on item text Is exact bytes _ (xs, rest) fits e in
    let b = bind_some (items_at item n t0.rest) (λ others. Some (t0.value ∷ others.0, others.1)) (xs, rest) t0.next_is in
    let t1 = items_took item text Is exact n t0.rest b.0.0 b.0.1 t0.takes.rest_fits b.1 in
    let both : Takes bytes (text t0.value ++ flat_map text b.0.0) b.0.1 = takes_then bytes (text t0.value) t0.rest (flat_map text b.0.0) b.0.1 t0.takes t1.0 in
    let all : Takes bytes (flat_map text (t0.value ∷ b.0.0)) b.0.1 = subst (λ (t : List ℕ). Takes bytes t b.0.1) (sym (flat_map-cons text t0.value b.0.0)) both in
    subst (λ (p : List A × List ℕ). Takes bytes (flat_map text p.0) p.1 × ((length p.0 ≡ suc n) × AllByRecursion Is p.0)) (some_is (t0.value ∷ b.0.0, b.0.1) (xs, rest) b.2) (all, (ap suc t1.1.0, (t0.is, t1.1.1)))

-- so many of them
pub items_exact : {A : Type 0} (item : List ℕ → Option (A × List ℕ)) (text : A → List ℕ) (Is : A → Type 0) → Exact A item text Is → (n : ℕ) → Exact (List A) (items_at item n) (flat_map text) (λ xs. (length xs ≡ n) × AllByRecursion Is xs)
items_exact item text Is exact n = record {
  read = λ xs rest is. ap (λ (k : ℕ). items_at item k (flat_map text xs ++ rest)) (sym is.0) ∙ items_read item text Is exact xs rest is.1;
  took = λ bytes xs rest fits e. items_took item text Is exact n bytes xs rest fits e;
}

counted_read : {A : Type 0} (item : List ℕ → Option (A × List ℕ)) (text : A → List ℕ) (Is : A → Type 0) → Exact A item text Is → (xs : List A) (rest : List ℕ) → AreCounted Is xs → counted_at item (counted text xs ++ rest) ≡ Some (xs, rest)
unfolding counted_at
counted_read item text Is exact xs rest is =
    read_on number_at (number16 (length xs)) (flat_map text xs) rest (length xs) _ _ (exact16.read (length xs) (flat_map text xs ++ rest) is.0) (items_read item text Is exact xs rest is.1)

counted_took : {A : Type 0} (item : List ℕ → Option (A × List ℕ)) (text : A → List ℕ) (Is : A → Type 0) → Exact A item text Is → (bytes : List ℕ) (xs : List A) (rest : List ℕ) → AreBytes bytes → counted_at item bytes ≡ Some (xs, rest) → Takes bytes (counted text xs) rest × AreCounted Is xs
unfolding counted_at
counted_took item text Is exact bytes xs rest fits e =
    let t0 = took_on number_at number16 IsNumber16 exact16 bytes _ (xs, rest) fits e in
    let t1 = items_took item text Is exact t0.value t0.rest xs rest t0.takes.rest_fits t0.next_is in
    let both : Takes bytes (number16 t0.value ++ flat_map text xs) rest = takes_then bytes (number16 t0.value) t0.rest (flat_map text xs) rest t0.takes t1.0 in
    (subst (λ (n : ℕ). Takes bytes (number16 n ++ flat_map text xs) rest) (sym t1.1.0) both, (omega (arith, t0.is, t1.1.0), t1.1.1))

pub counted_exact : {A : Type 0} (item : List ℕ → Option (A × List ℕ)) (text : A → List ℕ) (Is : A → Type 0) → Exact A item text Is → Exact (List A) (counted_at item) (counted text) (AreCounted Is)
counted_exact item text Is exact = record { read = counted_read item text Is exact; took = counted_took item text Is exact }
