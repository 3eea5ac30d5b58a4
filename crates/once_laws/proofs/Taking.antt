-- A request that is taken keeps what holds.
use Rattle.std.proofs.Common.{◌≡◌, ℕ, ◌≤◌, true, List, ◌∷◌, count_by, Option, Some, None, refl, sym, ◌∙◌}
use mathlib.Core.Logic.{inl, inr}
use Rattle.agent_journal.specs.declared.entry.Cause.{Cause}
use Rattle.agent_journal.specs.declared.entry.Cause.TheVariants as c
use Rattle.agent_journal.specs.declared.entry.Entry.{Entry}
use Rattle.agent_journal.specs.declared.request.Request.{Request}
use Rattle.agent_journal.specs.declared.setup.Setup.{Setup}
use Rattle.agent_journal.specs.declared.setup.Phase.TheVariants.{Up, Off}
use Rattle.agent_journal.specs.Readings.{pending_of, takes_of}
use Rattle.agent_table.specs.Histories.{IsLegalPast, phase_of, readings, row}
use Rattle.agent_table.specs.Laws.{HasIdentifiers}
use Rattle.agent_table.specs.Rows.{Row}
use Rattle.agent_table.specs.Sizes.{Sizes}
use Rattle.agent_table.specs.Takes as table
use Rattle.session_world.specs.World.{World, entries, phase, stepped, stepped_by}
use Rattle.once_laws.specs.Followed.{is_of, is_beginning, IsFollowed}
use Rattle.once_laws.specs.Once.{times}
use Rattle.once_laws.proofs.Following.{IsLeft, IsAdded, first_of, mine_first}
use Rattle.once_laws.proofs.Following as following
use Rattle.once_laws.proofs.Stepping.{OfRow, of_found, takes_in, is_new, is_free}
use Rattle.once_laws.proofs.TakenRows.{Adds, taken, raised, takes_up}
use Rattle.once_laws.proofs.Holding.{Holds, entry_of, unheard, entered}

module _ (s : Setup) (l : Sizes) where
  -- ---- A Take

  takes_row : (t q n : ℕ) (past : List Entry) (at task seq : ℕ) (request : Request) (found : Row) → HasIdentifiers l → IsLegalPast s l past → phase_of s l past ≡ Up → row s l past at (c.Take task seq request) ≡ Some found
      → count_by (is_of n) (pending_of past) ≤ 1 → Adds s l t q n (readings s l past) task seq request (Some found)
  takes_row t q n past at task seq request found free legal up e alone =
      of_found (λ row. Adds s l t q n (readings s l past) task seq request (Some row)) (row s l past at (c.Take task seq request)) found e
      (takes_in (λ row. Adds s l t q n (readings s l past) task seq request (Some row)) s l (readings s l past) at task seq request Up up
      (as_row (table.up_row s l (readings s l past) task seq request)
      (takes_up s l t q n (readings s l past) alone task seq (is_new s l past at task seq request found e legal) (is_free s l past free legal) request)))
    where
      as_row : (x : Option Row) → Adds s l t q n (readings s l past) task seq request x → OfRow (λ row. Adds s l t q n (readings s l past) task seq request (Some row)) x
      as_row None h = tt
      as_row (Some row) h = h

  pub takes : (w : World) (at : ℕ) (request : Request) → HasIdentifiers l → phase s l w ≡ Up → Holds s l w → Holds s l (stepped s l None at (c.Take 0 (takes_of 0 (entries w)) request) w)
  takes w at request free up h = go (row s l (entries w) at cause) refl
    where
      seq : ℕ
      seq = takes_of 0 (entries w)

      cause : Cause
      cause = c.Take 0 (takes_of 0 (entries w)) request

      on : phase s l w ≡ Off → ⊥
      on off = cc (sym up ∙ off)

      go : (x : Option Row) → row s l (entries w) at (c.Take 0 (takes_of 0 (entries w)) request) ≡ x → Holds s l (stepped_by s l x None at (c.Take 0 (takes_of 0 (entries w)) request) w)
      go None e = h
      go (Some found) e =
          entered s l w (stepped_by s l (Some found) None at (c.Take 0 (takes_of 0 (entries w)) request) w) at (c.Take 0 (takes_of 0 (entries w)) request) found e h refl refl
          (λ t q. unheard s l (pending_of (entries w)) (c.Take 0 (takes_of 0 (entries w)) request) t q (times t q w) (λ id is. cc is))
          (λ goes_on t q n.
          let was = (h.going on).followed t q n in
          follows t q n goes_on was (takes_row t q n (entries w) at 0 (takes_of 0 (entries w)) request found free h.legal up e was.alone))
          (λ goes_on begins n. absurd (begins_not n goes_on begins (takes_row 0 0 n (entries w) at 0 (takes_of 0 (entries w)) request found free h.legal up e ((h.going on).followed 0 0 n).alone)))
        where
          follows : (t q n : ℕ) → (found.phase ≡ Off → ⊥) → IsFollowed t q n (pending_of (entries w)) w.up w.down (times t q w) → Adds s l t q n (readings s l (entries w)) 0 (takes_of 0 (entries w)) request (Some found)
              → IsFollowed t q n (pending_of (entry_of s l at (c.Take 0 (takes_of 0 (entries w)) request) found ∷ entries w)) (stepped_by s l (Some found) None at (c.Take 0 (takes_of 0 (entries w)) request) w).up w.down (times t q w)
          follows t q n goes_on was (inl off) = absurd (goes_on off)
          follows t q n goes_on was (inr (ongoing, adds, added)) =
              following.added t q n (pending_of (entries w)) (taken (pending_of (entries w)) 0 (takes_of 0 (entries w)) request found.effects) w.up
              (raised s l (taken (pending_of (entries w)) 0 (takes_of 0 (entries w)) request found.effects) 0 (takes_of 0 (entries w)) request found.effects) w.down (times t q w) adds was added

          begins_not : (n : ℕ) → (found.phase ≡ Off → ⊥) → is_beginning found.phase ≡ true → Adds s l 0 0 n (readings s l (entries w)) 0 (takes_of 0 (entries w)) request (Some found) → ⊥
          begins_not n goes_on begins (inl off) = goes_on off
          begins_not n goes_on begins (inr (ongoing, adds, added)) = cc (sym begins ∙ ongoing)
