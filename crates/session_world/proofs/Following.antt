-- A list of events is played one by one.
use Rattle.std.proofs.Common.{◌≡◌, ℕ, zero, suc, ◌+◌, ◌-◌, ◌≤◌, List, [], ◌∷◌, ◌++◌, length, reverse, take, refl, sym, ap, ◌∙◌, subst, arith, length-append, length-take}
use Rattle.std.proofs.lemmas.List.{length-reverse, reverse-append, reverse-reverse}
use Rattle.session_world.specs.declared.draws.Draws.{Draws}
use Rattle.session_world.specs.declared.event.Event.{Event}
use Rattle.session_world.specs.declared.totals.Totals.{Totals}
use Rattle.session_world.specs.Counts.{totals}
use Rattle.session_world.specs.Generating.{drawn, all_drawn, first_events, generated, seeded}
use Rattle.session_world.specs.Kept.{Kept, StandsFor}
use Rattle.session_world.specs.Playing.{all_played, played}
use Rattle.session_world.specs.Setups.{dev, usual}
use Rattle.session_world.specs.World.{World, nothing}

-- What is kept stands for a world from which the rest leads to where all events lead.
abbrev pub Follows : Kept → List Event → List Event → Type 0
Follows k rest events = (w : World) × StandsFor k w × (all_played dev usual rest w ≡ all_played dev usual events nothing)

drawn_length : (n : ℕ) (d : Draws) → length (all_drawn n d) ≡ n
drawn_length zero d = refl
drawn_length (suc n) d = ap suc (drawn_length n (drawn d).draws)

pub generated_length : (seed n : ℕ) → length (generated seed n) ≤ n
generated_length seed n = omega (arith, length-append (take n first_events) (all_drawn (n - 4) (seeded seed)), length-take n first_events, drawn_length (n - 4) (seeded seed))

reversed_length : (left events : List Event) → left ≡ reverse events → length left ≡ length events
reversed_length left events is = ap length is ∙ length-reverse events

pub follows_first : (k : Kept) (left : List Event) (seed n : ℕ) → StandsFor k nothing → left ≡ reverse (generated seed n) → Follows k (reverse left) (generated seed n)
follows_first k left seed n stands is = (nothing, stands, ap (λ events. all_played dev usual events nothing) (ap reverse is ∙ reverse-reverse (generated seed n)))

pub follows_next : (k new : Kept) (left rest : List Event) (event : Event) (events : List Event) → left ≡ rest ++ event ∷ [] → ((w : World) → StandsFor k w → StandsFor new (played dev usual w event)) → Follows k (reverse left) events → Follows new (reverse rest) events
follows_next k new left rest event events is stands (w, h, leads) =
    (played dev usual w event, stands w h, ap (λ es. all_played dev usual es w) (sym (ap reverse is ∙ reverse-append rest (event ∷ []))) ∙ leads)

pub follows_all : (k : Kept) (left events : List Event) (counted : Totals) → left ≡ [] → ((w : World) → StandsFor k w → counted ≡ totals w) → Follows k (reverse left) events → counted ≡ totals (all_played dev usual events nothing)
follows_all k left events counted is counts (w, h, leads) = counts w h ∙ ap totals (ap (λ es. all_played dev usual (reverse es) w) (sym is) ∙ leads)
