-- Tickets that are out, by their weights.
use Rattle.std.proofs.Common.{◌≡◌, ℕ, ◌+◌, ◌<◌, ◌&&◌, ◌==◌, true, false, Bool, List, [], ◌∷◌, ◌++◌, map, if◌then◌else◌, refl, sym, ap, ◌∙◌, subst, eq-eqb, arith}
use Rattle.std.specs.List.{AllByRecursion, sum_by}
use Rattle.std.proofs.lemmas.Bool.{and_parts, eqb-true}
use Rattle.std.proofs.lemmas.List.{map-append}
use Rattle.std.proofs.lemmas.List.Sums.{sum_by-append, sum_by-cons}
use Rattle.command_pool.specs.Passes.{Pass}
use Rattle.task_queues.proofs.Submissions.{all_snoc}
use Rattle.task_end.specs.declared.ticket.Ticket.{Ticket}
use Rattle.task_end.specs.Commands.{IsTakenFrom, Has}
use Rattle.task_end.specs.Sides.{TaskSide, IsOut, IsGivenBack}
use Rattle.share_work.specs.Tickets.{key_of, AreOut}

abbrev is_same : ℕ × ℕ → ℕ × ℕ → Bool
is_same k y = y.0 == k.0 && y.1 == k.1

abbrev one_of : Bool → ℕ
one_of b = if b then 1 else 0

abbrev weight_of : ℕ × ℕ → ℕ × ℕ → ℕ
weight_of k y = one_of (is_same k y)

own_weight : (k : ℕ × ℕ) → weight_of k k ≡ 1
own_weight k = ap (λ b. one_of (b && (k.1 == k.1))) (eq-eqb k.0 k.0 refl) ∙ ap one_of (eq-eqb k.1 k.1 refl)

has_key : (k : ℕ × ℕ) (out : List (ℕ × ℕ)) → 0 < sum_by (weight_of k) out → Has out k
has_key k [] some = absurd (omega (arith, some))
has_key k (y ∷ ys) some = go (is_same k y) refl (has_key k ys)
  where
    key_is : is_same k y ≡ true → y ≡ k
    key_is e = let parts = and_parts (y.0 == k.0) (y.1 == k.1) e in λ i. (eqb-true y.0 k.0 parts.0 i, eqb-true y.1 k.1 parts.1 i)

    go : (b : Bool) → is_same k y ≡ b → (0 < sum_by (weight_of k) ys → Has ys k) → Has (y ∷ ys) k
    go true e behind = (ys, record { before = []; after = ys; stood = ap (λ z. z ∷ ys) (key_is e); others = refl })
    go false e behind = let there = behind (omega (arith, some, ap one_of e, sum_by-cons (weight_of k) y ys)) in (
      y ∷ there.0,
      record { before = y ∷ there.1.before; after = there.1.after; stood = ap (λ l. y ∷ l) there.1.stood; others = ap (λ l. y ∷ l) there.1.others },
    )

weight_taken : (w : ℕ × ℕ → ℕ) (k : ℕ × ℕ) (all rest : List (ℕ × ℕ)) → IsTakenFrom k all rest → sum_by w all ≡ w k + sum_by w rest
weight_taken w k all rest is = omega (
  arith,
  ap (sum_by w) is.stood,
  ap (sum_by w) is.others,
  sum_by-append w is.before (k ∷ is.after),
  sum_by-append w is.before is.after,
  sum_by-cons w k is.after,
)

keys_both : (w : ℕ × ℕ → ℕ) (a : List Ticket) (t : Ticket) → sum_by w (map key_of (a ++ t ∷ [])) ≡ sum_by w (map key_of a) + w (key_of t)
keys_both w a t = omega (arith, ap (sum_by w) (map-append key_of a (t ∷ [])), sum_by-append w (map key_of a) (key_of t ∷ []), sum_by-cons w (key_of t) [])

pools_to : (tickets : List Ticket) (old new : Pass) → new.pool ≡ old.pool → AllByRecursion (λ (t : Ticket). t.permit.pool ≡ old.pool) tickets
    → AllByRecursion (λ (t : Ticket). t.permit.pool ≡ new.pool) tickets
pools_to tickets old new e all = subst (λ p. AllByRecursion (λ (t : Ticket). t.permit.pool ≡ p) tickets) (sym e) all

pub next_is_out : (side : TaskSide) (t : Ticket) (rest : List Ticket) → AreOut side (t ∷ rest) → IsOut t side
next_is_out side t rest are = (are.pools.0, has_key (key_of t) side.out (omega (arith, are.weights (weight_of (key_of t)), own_weight (key_of t), sum_by-cons (weight_of (key_of t)) (key_of t) (map key_of rest))))

pub out_collected : (t : Ticket) (rest : List Ticket) (old new : TaskSide) → AreOut old (t ∷ rest) → IsGivenBack t old new → AreOut new rest
out_collected t rest old new are is = record {
  pools = pools_to rest old.permits new.permits (ap (λ (p : Pass). p.pool) is.permits) are.pools.1;
  weights = λ w. omega (arith, are.weights w, weight_taken w (key_of t) old.out new.out is.tickets, sum_by-cons w (key_of t) (map key_of rest));
}

pub out_back : (t : Ticket) (rest : List Ticket) (old new : TaskSide) → AreOut old (t ∷ rest) → new.permits ≡ old.permits → new.out ≡ old.out
    → AreOut new (rest ++ t ∷ [])
out_back t rest old new are permits out = record {
  pools = pools_to (rest ++ t ∷ []) old.permits new.permits (ap (λ (p : Pass). p.pool) permits)
      (all_snoc (λ (t : Ticket). t.permit.pool ≡ old.permits.pool) rest t are.pools.1 are.pools.0);
  weights = λ w. omega (arith, are.weights w, keys_both w rest t, ap (sum_by w) out, sum_by-cons w (key_of t) (map key_of rest));
}

pub out_same : (tickets : List Ticket) (old new : TaskSide) → AreOut old tickets → new.permits.pool ≡ old.permits.pool → new.out ≡ old.out → AreOut new tickets
out_same tickets old new are pool out = record {
  pools = pools_to tickets old.permits new.permits pool are.pools;
  weights = λ w. omega (arith, are.weights w, ap (sum_by w) out);
}

pub out_submitted : (t : Ticket) (tickets : List Ticket) (old new : TaskSide) → AreOut old tickets → new.permits.pool ≡ old.permits.pool → IsOut t new
    → new.out ≡ old.out ++ (t.seq, t.permit.id) ∷ [] → AreOut new (tickets ++ t ∷ [])
out_submitted t tickets old new are pool is out = record {
  pools = all_snoc (λ (t : Ticket). t.permit.pool ≡ new.permits.pool) tickets t (pools_to tickets old.permits new.permits pool are.pools) is.0;
  weights = λ w. omega (arith, are.weights w, keys_both w tickets t, ap (sum_by w) out, sum_by-append w old.out (key_of t ∷ []), sum_by-cons w (key_of t) []);
}

nothing_weighs : (out : List (ℕ × ℕ)) → 0 ≡ sum_by (λ k. 1) out → out ≡ []
nothing_weighs [] e = refl
nothing_weighs (k ∷ out) e = absurd (omega (arith, e, sum_by-cons (λ (k : ℕ × ℕ). 1) k out))

pub none_out : (side : TaskSide) → AreOut side [] → side.out ≡ []
none_out side are = nothing_weighs side.out (are.weights (λ k. 1))
