-- What each connection has, and the present one, which is the last, apart.
use Rattle.std.proofs.Common.{◌≡◌, ℕ, List, [], ◌∷◌, ◌++◌, refl, sym, ap, subst}
use Rattle.std.proofs.lemmas.List.{append-nil}
use Rattle.agent_link.specs.Wires.{onto_last}
use Rattle.agent_table.specs.Ties.{EachTied}
use Rattle.agent_ties.specs.Wired.{TiedBut}

pub onto_nothing : {X : Type 0} (ws : List (List X)) → onto_last ws [] ≡ ws
onto_nothing [] = refl
onto_nothing (w ∷ []) = ap (λ v. v ∷ []) (append-nil w)
onto_nothing (w ∷ v ∷ ws) = ap (λ vs. w ∷ vs) (onto_nothing (v ∷ ws))

-- onto a connection that has just begun
pub onto_begun : (ws : List (List ℕ)) (bytes : List ℕ) → onto_last (ws ++ [] ∷ []) bytes ≡ ws ++ bytes ∷ []
onto_begun [] bytes = refl
onto_begun (w ∷ []) bytes = refl
onto_begun (w ∷ v ∷ ws) bytes = ap (λ vs. w ∷ vs) (onto_begun (v ∷ ws) bytes)

module _ {X : Type 0} (Tie : List X → List ℕ → Type 0) where
  -- the last one is tied like the others
  pub each_tied : (Last : List X → List ℕ → Type 0) → ((x : List X) (w : List ℕ) → Last x w → Tie x w) → (xs : List (List X)) (ws : List (List ℕ)) → TiedBut Tie Last xs ws → EachTied Tie xs ws
  each_tied Last like [] [] h = tt
  each_tied Last like [] (w ∷ ws) h = absurd h
  each_tied Last like (x ∷ xs) [] h = absurd h
  each_tied Last like (x ∷ []) (w ∷ []) h = (like x w h, tt)
  each_tied Last like (x ∷ []) (w ∷ v ∷ ws) h = absurd h
  each_tied Last like (x ∷ y ∷ xs) (w ∷ []) h = absurd h
  each_tied Last like (x ∷ y ∷ xs) (w ∷ v ∷ ws) h = (h.0, each_tied Last like (y ∷ xs) (v ∷ ws) h.1)

  -- more on the last one
  pub more_on : (Last Next : List X → List ℕ → Type 0) (more : List X) (bytes : List ℕ) → ((x : List X) (w : List ℕ) → Last x w → Next (x ++ more) (w ++ bytes)) → (xs : List (List X)) (ws : List (List ℕ)) → TiedBut Tie Last xs ws
      → TiedBut Tie Next (onto_last xs more) (onto_last ws bytes)
  more_on Last Next more bytes on [] [] h = tt
  more_on Last Next more bytes on [] (w ∷ ws) h = absurd h
  more_on Last Next more bytes on (x ∷ xs) [] h = absurd h
  more_on Last Next more bytes on (x ∷ []) (w ∷ []) h = on x w h
  more_on Last Next more bytes on (x ∷ []) (w ∷ v ∷ ws) h = absurd h
  more_on Last Next more bytes on (x ∷ y ∷ xs) (w ∷ []) h = absurd h
  more_on Last Next more bytes on (x ∷ y ∷ []) (w ∷ v ∷ []) h = (h.0, on y v h.1)
  more_on Last Next more bytes on (x ∷ y ∷ []) (w ∷ v ∷ u ∷ ws) h = absurd h.1
  more_on Last Next more bytes on (x ∷ y ∷ z ∷ xs) (w ∷ v ∷ []) h = absurd h.1
  more_on Last Next more bytes on (x ∷ y ∷ z ∷ xs) (w ∷ v ∷ u ∷ ws) h = (h.0, more_on Last Next more bytes on (y ∷ z ∷ xs) (v ∷ u ∷ ws) h.1)

  -- one connection more, behind a last one that is tied like the others
  pub one_more : (Last Next : List X → List ℕ → Type 0) (more : List X) (bytes : List ℕ) → ((x : List X) (w : List ℕ) → Last x w → Tie x w) → Next more bytes → (xs : List (List X)) (ws : List (List ℕ)) → TiedBut Tie Last xs ws
      → TiedBut Tie Next (xs ++ more ∷ []) (ws ++ bytes ∷ [])
  one_more Last Next more bytes like new [] [] h = new
  one_more Last Next more bytes like new [] (w ∷ ws) h = absurd h
  one_more Last Next more bytes like new (x ∷ xs) [] h = absurd h
  one_more Last Next more bytes like new (x ∷ []) (w ∷ []) h = (like x w h, new)
  one_more Last Next more bytes like new (x ∷ []) (w ∷ v ∷ ws) h = absurd h
  one_more Last Next more bytes like new (x ∷ y ∷ xs) (w ∷ []) h = absurd h
  one_more Last Next more bytes like new (x ∷ y ∷ xs) (w ∷ v ∷ ws) h = (h.0, one_more Last Next more bytes like new (y ∷ xs) (v ∷ ws) h.1)

  -- the last one is tied in another way
  pub turned : (Last Next : List X → List ℕ → Type 0) → ((x : List X) (w : List ℕ) → Last x w → Next x w) → (xs : List (List X)) (ws : List (List ℕ)) → TiedBut Tie Last xs ws → TiedBut Tie Next xs ws
  turned Last Next on [] [] h = tt
  turned Last Next on [] (w ∷ ws) h = absurd h
  turned Last Next on (x ∷ xs) [] h = absurd h
  turned Last Next on (x ∷ []) (w ∷ []) h = on x w h
  turned Last Next on (x ∷ []) (w ∷ v ∷ ws) h = absurd h
  turned Last Next on (x ∷ y ∷ xs) (w ∷ []) h = absurd h
  turned Last Next on (x ∷ y ∷ xs) (w ∷ v ∷ ws) h = (h.0, turned Last Next on (y ∷ xs) (v ∷ ws) h.1)

  -- entries alone
  pub entries_on : (Last Next : List X → List ℕ → Type 0) (more : List X) → ((x : List X) (w : List ℕ) → Last x w → Next (x ++ more) w) → (xs : List (List X)) (ws : List (List ℕ)) → TiedBut Tie Last xs ws → TiedBut Tie Next (onto_last xs more) ws
  entries_on Last Next more on xs ws h =
      subst (λ vs. TiedBut Tie Next (onto_last xs more) vs) (onto_nothing ws) (more_on Last Next more [] (λ x w l. subst (λ v. Next (x ++ more) v) (sym (append-nil w)) (on x w l)) xs ws h)

  -- bytes alone
  pub bytes_on : (Last Next : List X → List ℕ → Type 0) (bytes : List ℕ) → ((x : List X) (w : List ℕ) → Last x w → Next x (w ++ bytes)) → (xs : List (List X)) (ws : List (List ℕ)) → TiedBut Tie Last xs ws → TiedBut Tie Next xs (onto_last ws bytes)
  bytes_on Last Next bytes on xs ws h =
      subst (λ ys. TiedBut Tie Next ys (onto_last ws bytes)) (onto_nothing xs) (more_on Last Next [] bytes (λ x w l. subst (λ y. Next y (w ++ bytes)) (sym (append-nil x)) (on x w l)) xs ws h)

  -- the last one, where there is one
  pub last_there : (Last : List X → List ℕ → Type 0) (xs : List (List X)) (ws : List (List ℕ)) → (xs ≡ [] → ⊥) → TiedBut Tie Last xs ws → (x : List X) × (w : List ℕ) × Last x w
  last_there Last [] [] some h = absurd (some refl)
  last_there Last [] (w ∷ ws) some h = absurd h
  last_there Last (x ∷ xs) [] some h = absurd h
  last_there Last (x ∷ []) (w ∷ []) some h = (x, w, h)
  last_there Last (x ∷ []) (w ∷ v ∷ ws) some h = absurd h
  last_there Last (x ∷ y ∷ xs) (w ∷ []) some h = absurd h
  last_there Last (x ∷ y ∷ xs) (w ∷ v ∷ ws) some h = last_there Last (y ∷ xs) (v ∷ ws) (λ e. cc e) h.1
