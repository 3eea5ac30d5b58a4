-- One event more is drawn.
use Rattle.std.proofs.Common.{◌≡◌, ℕ, suc, ◌+◌, ◌-◌, ◌<◌, ◌≤◌, List, [], ◌∷◌, ◌++◌, sym, ap, ◌∙◌, arith, append_assoc, append-nil}
use Rattle.session_world.specs.declared.draws.Draws.{Draws}
use Rattle.session_world.specs.declared.event.Event.{Event}
use Rattle.session_world.specs.Generating.{Drawn, drawn, all_drawn}

pub drawn_more : (n k : ℕ) (events : List Event) (event : Event) (draws new : Draws) (whole : List Event) → k < n → drawn draws ≡ record { event = event; draws = new }
    → events ++ all_drawn (n - k) draws ≡ whole → (events ++ event ∷ []) ++ all_drawn (n - (k + 1)) new ≡ whole
drawn_more n k events event draws new whole lt is h =
    let more : n - k ≡ suc (n - (k + 1)) = omega (arith, lt) in
    append_assoc events (event ∷ []) (all_drawn (n - (k + 1)) new)
    ∙ ap (λ (d : Drawn). events ++ d.event ∷ all_drawn (n - (k + 1)) d.draws) (sym is)
    ∙ ap (λ m. events ++ all_drawn m draws) (sym more)
    ∙ h

pub all_are_drawn : (n k : ℕ) (events : List Event) (draws : Draws) (whole : List Event) → n ≤ k → events ++ all_drawn (n - k) draws ≡ whole → events ≡ whole
all_are_drawn n k events draws whole le h =
    let none : n - k ≡ 0 = omega (arith, le) in
    sym (append-nil events) ∙ ap (λ m. events ++ all_drawn m draws) (sym none) ∙ h
