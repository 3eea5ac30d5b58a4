-- What holds of a world, of each publish at quality of service 1, and what an entry keeps of it.
use Rattle.std.proofs.Common.{◌≡◌, ℕ, ◌≤◌, Bool, true, List, [], ◌∷◌, ◌++◌, map, count_by, Some, refl, sym, ap, ◌∙◌, subst, arith, append-nil}
use Rattle.mqtt_packet.specs.declared.packet.Packet.TheVariants as p
use Rattle.agent_journal.specs.declared.entry.Cause.{Cause}
use Rattle.agent_journal.specs.declared.entry.Cause.TheVariants as c
use Rattle.agent_journal.specs.declared.entry.Entry.{Entry}
use Rattle.agent_journal.specs.declared.effect.Effect.{Effect}
use Rattle.agent_journal.specs.declared.setup.Setup.{Setup}
use Rattle.agent_journal.specs.declared.setup.Phase.TheVariants.{Off}
use Rattle.agent_journal.specs.Readings.{Pending, pending_of, stays_open}
use Rattle.agent_journal.specs.Wires.{sends}
use Rattle.agent_table.specs.Histories.{IsLegalPast, phase_of, row}
use Rattle.agent_table.specs.Rows.{Row}
use Rattle.agent_table.specs.Sizes.{Sizes}
use Rattle.session_world.specs.World.{World, Rising, Falling, Origin, Own, entries, kept, phase, noted, sent, stepped, stepped_by, faulted_by, faulted_in, crashed, told_of, falling, from, nothing}
use Rattle.session_world.specs.World as world
use Rattle.once_laws.specs.Followed.{is_of, is_mine, is_beginning, rises_first, falls_back, IsFollowed}
use Rattle.once_laws.specs.Once.{is_from, times}
use Rattle.once_laws.proofs.Effects.{left}
use Rattle.once_laws.proofs.Following.{IsLeft, IsAdded, first_of, mine_first}
use Rattle.once_laws.proofs.Following as following
use Rattle.once_laws.proofs.Labels.{risen_count}
use Rattle.once_laws.proofs.Parts.{fewer}
use Rattle.once_laws.proofs.UpRows.{IsKept}
use Rattle.once_laws.proofs.Settled as settling
use Rattle.once_laws.proofs.Stepping.{phase_behind, legal_behind}

module _ (s : Setup) (l : Sizes) where
  -- ---- What holds of a world

  pub record IsGoing (w : World) : Type 0 where
    pub followed : (t q n : ℕ) → IsFollowed t q n (pending_of (entries w)) w.up w.down (times t q w)
    pub quiet : is_beginning (phase s l w) ≡ true → (n : ℕ) → (count_by (rises_first n) w.up ≡ 0) × (count_by (falls_back n) w.down ≡ 0)

  pub record Holds (w : World) : Type 0 where
    pub legal : IsLegalPast s l (entries w)
    pub settled : (t q : ℕ) → settling.IsSettled settling.is_first t q (entries w) (times t q w)
    pub going : (phase s l w ≡ Off → ⊥) → IsGoing w

  pub holds_first : Holds nothing
  holds_first = record {
    legal = tt;
    settled = λ t q done. absurd (cc done);
    going = λ on. record { followed = λ t q n. record { alone = omega arith; one = omega arith; own = omega arith; heard = omega arith }; quiet = λ is n. (refl, refl) };
  }

  -- ---- An entry

  abbrev pub entry_of : ℕ → Cause → Row → Entry
  entry_of at cause found = record { at = at; cause = cause; effects = found.effects }

  -- no PUBACK, nothing to acknowledge
  pub unheard : (commands : List Pending) (cause : Cause) (t q count : ℕ) → ((id : ℕ) → cause ≡ c.Arrived (p.PubAck id) → ⊥) → settling.IsHeard settling.is_first (λ id. p.PubAck id) t q commands cause count
  unheard commands cause t q count no_ack command one task seq kind is = absurd (no_ack command.id is)

  -- the world behind an entry, whose lists are these
  pub entered : (w new : World) (at : ℕ) (cause : Cause) (found : Row) → row s l (entries w) at cause ≡ Some found → Holds w
      → entries new ≡ entry_of at cause found ∷ entries w → new.origins ≡ w.origins
      → ((t q : ℕ) → settling.IsHeard settling.is_first (λ id. p.PubAck id) t q (pending_of (entries w)) cause (times t q w))
      → ((found.phase ≡ Off → ⊥) → (t q n : ℕ) → IsFollowed t q n (pending_of (entry_of at cause found ∷ entries w)) new.up new.down (times t q w))
      → ((found.phase ≡ Off → ⊥) → is_beginning found.phase ≡ true → (n : ℕ) → (count_by (rises_first n) new.up ≡ 0) × (count_by (falls_back n) new.down ≡ 0)) → Holds new
  entered w new at cause found e h past origins heard followed silent = record {
    legal = subst (IsLegalPast s l) (sym past) (legal_behind s l (entries w) at cause found e h.legal);
    settled = λ t q.
        subst (λ es. settling.IsSettled settling.is_first t q es (times t q new)) (sym past)
        (subst (λ os. settling.IsSettled settling.is_first t q (entry_of at cause found ∷ entries w) (count_by (is_from t q) os)) (sym origins)
        (settling.settled_behind settling.is_first (λ id. p.PubAck id) settling.other_first settling.by_puback s l (entries w) (entry_of at cause found) t q (times t q w) (legal_behind s l (entries w) at cause found e h.legal) (h.settled t q) (heard t q)));
    going = λ on.
        let phase_is : phase s l new ≡ found.phase = ap (phase_of s l) past ∙ phase_behind s l (entries w) at cause found e in
        let goes_on : found.phase ≡ Off → ⊥ = λ off. on (phase_is ∙ off) in
        record {
          followed = λ t q n.
              subst (λ es. IsFollowed t q n (pending_of es) new.up new.down (times t q new)) (sym past)
              (subst (λ os. IsFollowed t q n (pending_of (entry_of at cause found ∷ entries w)) new.up new.down (count_by (is_from t q) os)) (sym origins) (followed goes_on t q n));
          quiet = λ is. silent goes_on (sym (ap is_beginning phase_is) ∙ is);
        };
  }

  -- so much is left of the commands
  pub left_fewer : (test : Pending → Bool) (commands : List Pending) (es : List Effect) → count_by test (left commands es) ≤ count_by test commands
  left_fewer test commands es = omega (arith, fewer test (stays_open es) (commands ++ []), ap (count_by test) (append-nil commands))

  -- ---- An entry that keeps what is followed

  pub keeps_left : (t q n : ℕ) (commands : List Pending) (hears : ℕ) (es : List Effect) → IsKept n commands hears es → IsLeft t q n commands (left commands es) hears
  keeps_left t q n commands hears es h = record { all = left_fewer (is_of n) commands es; mine = left_fewer (is_mine t q n) commands es; first = h.first }

  -- one that isn't of a packet
  pub kept_on : (t q n : ℕ) (commands : List Pending) (up : List Rising) (down : List Falling) (count : ℕ) (cause : Cause) (es : List Effect) → IsKept n commands 0 es → IsFollowed t q n commands up down count
      → IsFollowed t q n (left commands es) (up ++ map (world.rising s l cause (left commands es)) (sends es)) down count
  kept_on t q n commands up down count cause es h is =
      following.entered t q n commands (left commands es) up (map (world.rising s l cause (left commands es)) (sends es)) down down count 0 is (keeps_left t q n commands 0 es h) (omega arith)
      (risen_count s l n cause (left commands es) (sends es) ∙ h.sends)
