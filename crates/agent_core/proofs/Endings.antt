-- The completions of commands that end together, as the table writes them.
use Rattle.std.proofs.Common.{◌≡◌, Bool, true, false, not, List, [], ◌∷◌, ◌++◌, map, refl, ap, ◌∙◌}
use Rattle.std.specs.List.{flat_map, filter}
use Rattle.std.proofs.lemmas.List.{append_assoc}
use Rattle.agent_journal.specs.Readings.{Pending}
use Rattle.agent_journal.specs.declared.outcome.Outcome.TheVariants as o
use Rattle.agent_table.specs.Effects.{done, is_publish}
use Rattle.agent_core.specs.declared.effects.Ending.TheVariants as ends
use Rattle.agent_core.specs.Endings.{ending_of}

pub cancelled : (commands : List Pending) → flat_map (ending_of ends.Cancelled) commands ≡ map (done o.Cancelled) commands
cancelled [] = refl
cancelled (command ∷ commands) = ap (λ es. done o.Cancelled command ∷ es) (cancelled commands)

pub link_lost : (commands : List Pending) → flat_map (ending_of ends.LinkLost) commands ≡ map (done o.LinkLost) (filter (λ command. not (is_publish command.request)) commands)
link_lost [] = refl
link_lost (command ∷ commands) = go (is_publish command.request) refl (link_lost commands)
  where
    go : (b : Bool) → is_publish command.request ≡ b → flat_map (ending_of ends.LinkLost) commands ≡ map (done o.LinkLost) (filter (λ command. not (is_publish command.request)) commands)
        → flat_map (ending_of ends.LinkLost) (command ∷ commands) ≡ map (done o.LinkLost) (filter (λ command. not (is_publish command.request)) (command ∷ commands))
    go true e rest = rw e rest
    go false e rest = rw e (ap (λ es. done o.LinkLost command ∷ es) rest)

pub session_lost : (commands : List Pending) → flat_map (ending_of ends.SessionLost) commands ≡ map (done o.SessionLost) (filter (λ command. is_publish command.request) commands)
session_lost [] = refl
session_lost (command ∷ commands) = go (is_publish command.request) refl (session_lost commands)
  where
    go : (b : Bool) → is_publish command.request ≡ b → flat_map (ending_of ends.SessionLost) commands ≡ map (done o.SessionLost) (filter (λ command. is_publish command.request) commands)
        → flat_map (ending_of ends.SessionLost) (command ∷ commands) ≡ map (done o.SessionLost) (filter (λ command. is_publish command.request) (command ∷ commands))
    go true e rest = rw e (ap (λ es. done o.SessionLost command ∷ es) rest)
    go false e rest = rw e rest

-- one behind the other
pub two_behind : {X : Type 0} (front e1 e2 e3 e4 rest : List X) (x y : X) → e1 ≡ [] ++ front → e2 ≡ e1 ++ x ∷ [] → e3 ≡ e2 ++ y ∷ [] → e4 ≡ e3 ++ rest → e4 ≡ front ++ x ∷ y ∷ rest
two_behind front e1 e2 e3 e4 rest x y h1 h2 h3 h4 =
    h4 ∙ ap (λ es. es ++ rest) (h3 ∙ ap (λ es. es ++ y ∷ []) (h2 ∙ ap (λ es. es ++ x ∷ []) h1))
    ∙ append_assoc (front ++ x ∷ []) (y ∷ []) rest ∙ append_assoc front (x ∷ []) (y ∷ rest)
