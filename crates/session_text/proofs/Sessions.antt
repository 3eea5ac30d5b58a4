-- Whole sessions: what is written is read, and what is read was written.
use Rattle.std.proofs.Common.{◌≡◌, ℕ, ◌<◌, List, [], ◌∷◌, ◌++◌, length, Option, Some, Result, Ok, Err, refl, sym, ap, subst, ◌∙◌}
use Rattle.std.specs.Prelude.{IfOk}
use Rattle.std.specs.Int.{w64}
use Rattle.std.specs.List.{flat_map, AllByRecursion}
use Rattle.std.proofs.lemmas.List.{append-nil}
use Rattle.mqtt_packet.specs.Reading.{◌>>=◌, byte_at, number_at, whole}
use Rattle.mqtt_packet.specs.Stream.{AreBytes}
use Rattle.mqtt_packet.proofs.Numbers.{Takes, takes_then, bind_some, some_is}
use Rattle.session_text.specs.declared.fault.RestoreFault.{RestoreFault}
use Rattle.session_text.specs.declared.session.Command.{Command}
use Rattle.session_text.specs.declared.session.Connections.{Connections}
use Rattle.session_text.specs.declared.session.Last.{Last}
use Rattle.session_text.specs.declared.session.Route.{Route}
use Rattle.session_text.specs.declared.session.Session.{Session}
use Rattle.session_text.specs.Laws.{AreConnections, IsLast, AreLists, IsCommand, IsRoute, IsNumber16, IsNumber64, AreCounted, HasText, TextsAreRead, ReadAreTexts}
use Rattle.session_text.specs.Reading.{Gives, wide_at, items_at, counted_at, connections_at, last_at, command_at, route_at, lists_at, session_at, session_in}
use Rattle.session_text.specs.Spelling.{byte, number16, number64, connections_text, last_text, command_text, route_text, counted, lists_text, session_text}
use Rattle.session_text.proofs.Exact.{Exact, read_on, read_last, took_on}
use Rattle.session_text.proofs.Values.{byte_exact, exact16, exact64}
use Rattle.session_text.proofs.Packets.{command_exact}
use Rattle.session_text.proofs.Records.{connections_exact, last_exact, route_exact, items_exact, counted_exact}

-- ---- Lists

ids_exact : Exact (List ℕ) (counted_at number_at) (counted number16) (AreCounted IsNumber16)
ids_exact = counted_exact number_at number16 IsNumber16 exact16

commands_exact : Exact (List Command) (counted_at command_at) (counted command_text) (AreCounted IsCommand)
commands_exact = counted_exact command_at command_text IsCommand command_exact

routes_exact : Exact (List Route) (counted_at route_at) (counted route_text) (AreCounted IsRoute)
routes_exact = counted_exact route_at route_text IsRoute route_exact

taken_exact : Exact (List ℕ) (items_at (wide_at w64) 8) (flat_map number64) (λ taken. (length taken ≡ 8) × AllByRecursion IsNumber64 taken)
taken_exact = items_exact (wide_at w64) number64 IsNumber64 exact64 8

lists_read : (x : Session) (rest : List ℕ) → AreLists x → lists_at x.connections x.left x.taken x.last (lists_text x ++ rest) ≡ Some (x, rest)
unfolding lists_at
lists_read x rest are =
    let released = counted number16 x.released in
    let routes = counted route_text x.routes in
    read_on (counted_at number_at) (counted number16 x.held) (counted command_text x.commands ++ (released ++ routes)) rest x.held _ _ (ids_exact.read x.held ((counted command_text x.commands ++ (released ++ routes)) ++ rest) are.held)
    (read_on (counted_at command_at) (counted command_text x.commands) (released ++ routes) rest x.commands _ _ (commands_exact.read x.commands ((released ++ routes) ++ rest) are.commands)
    (read_on (counted_at number_at) released routes rest x.released _ _ (ids_exact.read x.released (routes ++ rest) are.released)
    (read_last (counted_at route_at) routes rest x.routes _ _ (routes_exact.read x.routes rest are.routes) refl)))

-- what the lists say of a session with these parts in front
record TookLists (connections : Connections) (left : ℕ) (taken : List ℕ) (last : Last) (bytes : List ℕ) (x : Session) (rest : List ℕ) : Type 0 where
  takes : Takes bytes (lists_text x) rest
  are : AreLists x
  connections_are : x.connections ≡ connections
  left_is : x.left ≡ left
  taken_is : x.taken ≡ taken
  last_is : x.last ≡ last

lists_took : (connections : Connections) (left : ℕ) (taken : List ℕ) (last : Last) (bytes : List ℕ) (x : Session) (rest : List ℕ) → AreBytes bytes → lists_at connections left taken last bytes ≡ Some (x, rest) → TookLists connections left taken last bytes x rest
unfolding lists_at
lists_took connections left taken last bytes x rest fits e =
    let t0 = took_on (counted_at number_at) (counted number16) (AreCounted IsNumber16) ids_exact bytes _ (x, rest) fits e in
    let t1 = took_on (counted_at command_at) (counted command_text) (AreCounted IsCommand) commands_exact t0.rest _ (x, rest) t0.takes.rest_fits t0.next_is in
    let t2 = took_on (counted_at number_at) (counted number16) (AreCounted IsNumber16) ids_exact t1.rest _ (x, rest) t1.takes.rest_fits t1.next_is in
    let t3 = took_on (counted_at route_at) (counted route_text) (AreCounted IsRoute) routes_exact t2.rest _ (x, rest) t2.takes.rest_fits t2.next_is in
    let own : Session = record { connections = connections; left = left; taken = taken; last = last; held = t0.value; commands = t1.value; released = t2.value; routes = t3.value } in
    let e23 = takes_then t1.rest (counted number16 t2.value) t2.rest (counted route_text t3.value) t3.rest t2.takes t3.takes in
    let e13 = takes_then t0.rest (counted command_text t1.value) t1.rest (counted number16 t2.value ++ counted route_text t3.value) t3.rest t1.takes e23 in
    let all : Takes bytes (lists_text own) t3.rest = takes_then bytes (counted number16 t0.value) t0.rest (counted command_text t1.value ++ (counted number16 t2.value ++ counted route_text t3.value)) t3.rest t0.takes e13 in
    subst (λ (y : Session × List ℕ). TookLists connections left taken last bytes y.0 y.1) (some_is (own, t3.rest) (x, rest) t3.next_is) (record {
      takes = all;
      are = record { held = t0.is; commands = t1.is; released = t2.is; routes = t3.is };
      connections_are = refl;
      left_is = refl;
      taken_is = refl;
      last_is = refl;
    })

-- ---- Sessions

session_read : (x : Session) (rest : List ℕ) → HasText x → session_at (session_text x ++ rest) ≡ Some (x, rest)
unfolding session_at
session_read x rest has =
    let lists = lists_text x in
    read_on connections_at (connections_text x.connections) (byte x.left ++ (flat_map number64 x.taken ++ (last_text x.last ++ lists))) rest x.connections _ _ (connections_exact.read x.connections ((byte x.left ++ (flat_map number64 x.taken ++ (last_text x.last ++ lists))) ++ rest) has.connections)
    (read_on byte_at (byte x.left) (flat_map number64 x.taken ++ (last_text x.last ++ lists)) rest x.left _ _ (byte_exact.read x.left ((flat_map number64 x.taken ++ (last_text x.last ++ lists)) ++ rest) has.left)
    (read_on (items_at (wide_at w64) 8) (flat_map number64 x.taken) (last_text x.last ++ lists) rest x.taken _ _ (taken_exact.read x.taken ((last_text x.last ++ lists) ++ rest) has.taken)
    (read_on last_at (last_text x.last) lists rest x.last _ _ (last_exact.read x.last (lists ++ rest) has.last) (lists_read x rest has.lists))))

record TookSession (bytes : List ℕ) (x : Session) (rest : List ℕ) : Type 0 where
  takes : Takes bytes (session_text x) rest
  has : HasText x

session_took : (bytes : List ℕ) (x : Session) (rest : List ℕ) → AreBytes bytes → session_at bytes ≡ Some (x, rest) → TookSession bytes x rest
unfolding session_at
session_took bytes x rest fits e =
    let t0 = took_on connections_at connections_text AreConnections connections_exact bytes _ (x, rest) fits e in
    let t1 = took_on byte_at byte (λ b. b < 256) byte_exact t0.rest _ (x, rest) t0.takes.rest_fits t0.next_is in
    let t2 = took_on (items_at (wide_at w64) 8) (flat_map number64) (λ taken. (length taken ≡ 8) × AllByRecursion IsNumber64 taken) taken_exact t1.rest _ (x, rest) t1.takes.rest_fits t1.next_is in
    let t3 = took_on last_at last_text IsLast last_exact t2.rest _ (x, rest) t2.takes.rest_fits t2.next_is in
    let t4 = lists_took t0.value t1.value t2.value t3.value t3.rest x rest t3.takes.rest_fits t3.next_is in
    let e34 : Takes t2.rest (last_text t3.value ++ lists_text x) rest = takes_then t2.rest (last_text t3.value) t3.rest (lists_text x) rest t3.takes t4.takes in
    let e24 = takes_then t1.rest (flat_map number64 t2.value) t2.rest (last_text t3.value ++ lists_text x) rest t2.takes e34 in
    let e14 = takes_then t0.rest (byte t1.value) t1.rest (flat_map number64 t2.value ++ (last_text t3.value ++ lists_text x)) rest t1.takes e24 in
    let all = takes_then bytes (connections_text t0.value) t0.rest (byte t1.value ++ (flat_map number64 t2.value ++ (last_text t3.value ++ lists_text x))) rest t0.takes e14 in
    record {
      takes = subst (λ (c : Connections). Takes bytes (connections_text c ++ (byte x.left ++ (flat_map number64 x.taken ++ (last_text x.last ++ lists_text x)))) rest) (sym t4.connections_are)
          (subst (λ (n : ℕ). Takes bytes (connections_text t0.value ++ (byte n ++ (flat_map number64 x.taken ++ (last_text x.last ++ lists_text x)))) rest) (sym t4.left_is)
          (subst (λ (ns : List ℕ). Takes bytes (connections_text t0.value ++ (byte t1.value ++ (flat_map number64 ns ++ (last_text x.last ++ lists_text x)))) rest) (sym t4.taken_is)
          (subst (λ (l : Last). Takes bytes (connections_text t0.value ++ (byte t1.value ++ (flat_map number64 t2.value ++ (last_text l ++ lists_text x)))) rest) (sym t4.last_is) all)));
      has = record {
        connections = subst AreConnections (sym t4.connections_are) t0.is;
        left = subst (λ (n : ℕ). n < 256) (sym t4.left_is) t1.is;
        taken = subst (λ (ns : List ℕ). (length ns ≡ 8) × AllByRecursion IsNumber64 ns) (sym t4.taken_is) t2.is;
        last = subst IsLast (sym t4.last_is) t3.is;
        lists = t4.are;
      };
    }

pub texts_are_read : TextsAreRead
unfolding session_in
texts_are_read x has =
    ap (λ (t : List ℕ). session_at t >>= λ y. whole y.0 y.1) (sym (append-nil (session_text x))) ∙ ap (λ (o : Option (Session × List ℕ)). o >>= λ y. whole y.0 y.1) (session_read x [] has)

whole_is : (x y : Session) (rest : List ℕ) → whole x rest ≡ Some y → (rest ≡ []) × (x ≡ y)
whole_is x y [] e = (refl, some_is x y e)
whole_is x y (b ∷ rest) e = absurd (cc e)

pub read_are_texts : ReadAreTexts
unfolding session_in
read_are_texts bytes x fits e =
    let b = bind_some (session_at bytes) (λ y. whole y.0 y.1) x e in
    let is = whole_is b.0.0 x b.0.1 b.2 in
    let took = session_took bytes b.0.0 b.0.1 fits b.1 in
    let all : bytes ≡ session_text b.0.0 = took.takes.parts ∙ ap (λ (t : List ℕ). session_text b.0.0 ++ t) is.0 ∙ append-nil (session_text b.0.0) in
    subst (λ (y : Session). HasText y × (bytes ≡ session_text y)) is.1 (took.has, all)

-- ---- What reading answers

pub is_found : (bytes : List ℕ) (r : Result Session RestoreFault) → AreBytes bytes → Gives (λ x. x) r (session_in bytes) → IfOk r (λ x. HasText x × (bytes ≡ session_text x))
is_found bytes (Ok x) fits gives = read_are_texts bytes x fits gives
is_found bytes (Err e) fits gives = tt

pub is_read : (bytes : List ℕ) (r : Result Session RestoreFault) → Gives (λ x. x) r (session_in bytes) → (x : Session) → HasText x → bytes ≡ session_text x → Gives (λ y. y) r (Some x)
is_read bytes r gives x has is = subst (λ (o : Option Session). Gives (λ y. y) r o) (ap session_in is ∙ texts_are_read x has) gives
