-- Which identifiers are in use.
use Rattle.std.proofs.Common.{◌≡◌, ℕ, Bool, true, false, List, [], ◌∷◌, ◌++◌, length, map, refl, ap, sym, ◌∙◌}
use Rattle.std.specs.Prelude.{◌||◌, ◌==◌}
use Rattle.std.specs.List.{list_any}
use Rattle.std.specs.Option.{option_map}
use Rattle.std.specs.Prelude.{find, is_some}
use Rattle.agent_journal.specs.Readings.{Pending}
use Rattle.pending_acks.specs.Commands.{has_id}
use Rattle.subscriptions.specs.Routing.{Routing, renewal_len, is_renewal}
use Rattle.agent_table.specs.Routes.{Renewal}
use Rattle.agent_table.specs.Deliveries.{is_among}

or_assoc : (a b c : Bool) → (a || b || c) ≡ (a || (b || c))
or_assoc true b c = refl
or_assoc false b c = refl

pub among_more : (xs ys : List ℕ) (id : ℕ) → is_among (xs ++ ys) id ≡ (is_among xs id || is_among ys id)
among_more [] ys id = refl
among_more (x ∷ xs) ys id = ap (λ b. (x == id) || b) (among_more xs ys id) ∙ sym (or_assoc (x == id) (is_among xs id) (is_among ys id))

pub among_open : (commands : List Pending) (id : ℕ) → is_among (map (λ command. command.id) commands) id ≡ list_any (has_id id) commands
among_open [] id = refl
among_open (command ∷ commands) id = ap (λ b. (command.id == id) || b) (among_open commands id)

among_renewed : (renewals : List Renewal) (id : ℕ) → is_among (map (λ renewal. renewal.id) renewals) id ≡ is_some (option_map (λ renewal. length renewal.asks) (find (is_renewal id) renewals))
among_renewed [] id = refl
among_renewed (renewal ∷ renewals) id = go (renewal.id == id) refl (among_renewed renewals id)
  where
    go : (b : Bool) → (renewal.id == id) ≡ b → is_among (map (λ renewal. renewal.id) renewals) id ≡ is_some (option_map (λ renewal. length renewal.asks) (find (is_renewal id) renewals))
        → is_among (map (λ renewal. renewal.id) (renewal ∷ renewals)) id ≡ is_some (option_map (λ renewal. length renewal.asks) (find (is_renewal id) (renewal ∷ renewals)))
    go true e rest = rw e refl
    go false e rest = rw e rest

pub used_is : (drawn : List ℕ) (commands : List Pending) (routing : Routing) (id : ℕ) (a b c result : Bool) → a ≡ is_among drawn id → b ≡ list_any (has_id id) commands → c ≡ is_some (renewal_len id routing)
    → result ≡ (a || b || c) → result ≡ is_among (drawn ++ (map (λ command. command.id) commands ++ map (λ renewal. renewal.id) routing.renewals)) id
used_is drawn commands routing id a b c result ea eb ec e =
    e ∙ or_assoc a b c ∙ ap (λ x. x || (b || c)) ea ∙ ap (λ x. is_among drawn id || (x || c)) (eb ∙ sym (among_open commands id))
    ∙ ap (λ x. is_among drawn id || (is_among (map (λ command. command.id) commands) id || x)) (ec ∙ sym (among_renewed routing.renewals id))
    ∙ ap (λ x. is_among drawn id || x) (sym (among_more (map (λ command. command.id) commands) (map (λ renewal. renewal.id) routing.renewals) id))
    ∙ sym (among_more drawn (map (λ command. command.id) commands ++ map (λ renewal. renewal.id) routing.renewals) id)
