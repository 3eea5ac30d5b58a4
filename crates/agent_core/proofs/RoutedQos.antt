-- The qualities of service that are kept, behind entries that grant nothing.
use Rattle.std.proofs.Common.{◌≡◌, ℕ, Bool, true, false, List, [], ◌∷◌, ◌++◌, None, refl, ap, sym, ◌∙◌}
use Rattle.std.specs.Prelude.{◌||◌}
use Rattle.std.specs.List.{AllByRecursion}
use Rattle.agent_journal.specs.declared.effect.Effect.{Effect}
use Rattle.agent_journal.specs.declared.entry.Cause.{Cause}
use Rattle.agent_journal.specs.declared.entry.Cause.TheVariants as c
use Rattle.agent_journal.specs.declared.entry.Entry.{Entry}
use Rattle.agent_journal.specs.declared.setup.Setup.{Setup}
use Rattle.agent_journal.specs.Readings.{Pending, pending_of, takes_of}
use Rattle.agent_table.specs.Histories.{IsLegalPast}
use Rattle.agent_table.specs.Routes.{Grant, grants_of, grants, asked_in, asked_by, or_earlier, granted_to, qos_of}
use Rattle.agent_table.specs.Sizes.{Sizes}
use Rattle.agent_core.specs.Routed.{grant, qos_if}
use Rattle.agent_core.proofs.RoutedPast.{IsNext, WasTaken, GrantsTaken, grants_taken, not_granted}
use Rattle.agent_core.proofs.RoutedQuiet.{asked_same, grants_append, grants_by, grants_nothing}
use Rattle.agent_core.proofs.RoutedSteps.{entry}

-- grants of one past, a few more, and an entry that grants nothing
same_grants : (past : List Entry) (effects : List Effect) (extra : List Grant) (topics : List ℕ) → AllByRecursion (λ (command : Pending). granted_to effects command ≡ []) (pending_of past) → (task seq : ℕ)
    → grants ((grants_of past ++ grants_by effects (pending_of past)) ++ extra) task seq topics ≡ grants (grants_of past ++ extra) task seq topics
same_grants past effects extra topics none task seq =
    grants_append (grants_of past ++ grants_by effects (pending_of past)) extra task seq topics
    ∙ ap (λ b. b || grants extra task seq topics) (grants_append (grants_of past) (grants_by effects (pending_of past)) task seq topics ∙ ap (λ b. grants (grants_of past) task seq topics || b) (grants_nothing (pending_of past) effects task seq topics none) ∙ or_false (grants (grants_of past) task seq topics))
    ∙ sym (grants_append (grants_of past) extra task seq topics)
  where
    or_false : (b : Bool) → (b || false) ≡ b
    or_false true = refl
    or_false false = refl

pub asked_quiet : (s : Setup) (l : Sizes) (past : List Entry) (time : ℕ) (cause : Cause) (effects : List Effect) (extra : List Grant) (topics : List ℕ) → IsLegalPast s l past → IsNext past cause
    → AllByRecursion (λ (command : Pending). granted_to effects command ≡ []) (pending_of past) → GrantsTaken past extra
    → asked_in (grants_of (entry time cause effects ∷ past) ++ extra) topics (entry time cause effects ∷ past) ≡ asked_in (grants_of past ++ extra) topics past
asked_quiet s l past time cause effects extra topics legal next none taken =
    ap (λ q. or_earlier q (asked_in ((grants_of past ++ grants_by effects (pending_of past)) ++ extra) topics past)) (go cause next)
    ∙ asked_same ((grants_of past ++ grants_by effects (pending_of past)) ++ extra) (grants_of past ++ extra) topics past (λ task seq. same_grants past effects extra topics none task seq)
  where
    fresh : (task seq : ℕ) → seq ≡ takes_of task past → grants ((grants_of past ++ grants_by effects (pending_of past)) ++ extra) task seq topics ≡ false
    fresh task seq n = same_grants past effects extra topics none task seq ∙ grants_append (grants_of past) extra task seq topics
        ∙ ap (λ b. b || grants extra task seq topics) (not_granted past task seq topics (grants_of past) n (grants_taken s l past legal)) ∙ not_granted past task seq topics extra n taken

    go : (x : Cause) → IsNext past x → asked_by ((grants_of past ++ grants_by effects (pending_of past)) ++ extra) topics x ≡ None
    go c.Opened n = refl
    go (c.Take task seq request) n = rw (fresh task seq n.0) refl
    go (c.Arrived packet) n = refl
    go (c.Broke why) n = refl
    go c.Tick n = refl
    go c.GaveUp n = refl
    go c.Finish n = refl

append_none : (all : List Grant) → all ++ [] ≡ all
append_none [] = refl
append_none (g ∷ all) = ap (λ gs. g ∷ gs) (append_none all)

pub qos_quiet : (s : Setup) (l : Sizes) (past : List Entry) (time : ℕ) (cause : Cause) (effects : List Effect) (topics : List ℕ) → IsLegalPast s l past → IsNext past cause
    → AllByRecursion (λ (command : Pending). granted_to effects command ≡ []) (pending_of past) → qos_of (entry time cause effects ∷ past) topics ≡ qos_of past topics
qos_quiet s l past time cause effects topics legal next none =
    ap (λ all. asked_in all topics (entry time cause effects ∷ past)) (sym (append_none (grants_of (entry time cause effects ∷ past))))
    ∙ asked_quiet s l past time cause effects [] topics legal next none tt ∙ ap (λ all. asked_in all topics past) (append_none (grants_of past))

pub if_quiet : (s : Setup) (l : Sizes) (past : List Entry) (time : ℕ) (cause : Cause) (effects : List Effect) (command : Pending) (topics : List ℕ) → IsLegalPast s l past → IsNext past cause
    → AllByRecursion (λ (other : Pending). granted_to effects other ≡ []) (pending_of past) → WasTaken past command.task command.seq → qos_if (entry time cause effects ∷ past) command topics ≡ qos_if past command topics
if_quiet s l past time cause effects command topics legal next none taken = asked_quiet s l past time cause effects (grant command topics ∷ []) topics legal next none (taken, tt)
