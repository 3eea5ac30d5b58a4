-- What a link did since then, by an entry more and by a call of the link more.
use Rattle.std.proofs.Common.{◌≡◌, ◌⊎◌, ℕ, zero, suc, ◌<◌, ◌≤◌, List, [], ◌∷◌, ◌++◌, length, take, refl, sym, ap, ◌∙◌, subst, arith, inl, inr}
use Rattle.std.specs.Prelude.{Some}
use Rattle.std.specs.Option.{option_map}
use Rattle.mqtt_packet.specs.Splitting.{Kept as Stream}
use Rattle.agent_link.specs.Counts.{LinkCounts}
use Rattle.agent_link.specs.Wires.{onto_last}
use Rattle.agent_journal.specs.declared.entry.Cause.{Cause}
use Rattle.agent_journal.specs.declared.entry.Cause.TheVariants as c
use Rattle.agent_journal.specs.declared.entry.Why.TheVariants as why
use Rattle.agent_journal.specs.Wires.{sent_in}
use Rattle.agent_table.specs.Rows.{Row}
use Rattle.agent_ties.specs.Counting.{HasCounted, IsLater, IsUncounted}
use Rattle.agent_ties.specs.Heard.{IsPlain}
use Rattle.agent_ties.specs.Seen.{Seen, entry, fresh}
use Rattle.agent_ties.specs.Ties.{Ties}
use Rattle.agent_ties.proofs.Counting.{same_later, later_counted, plain_counted, fault_counted, opened_counted}
use Rattle.agent_ties.proofs.Keeping.{plain_whole, plain_part, first_whole, first_part}
use Rattle.agent_ties.proofs.Present.{silent_without}
use Rattle.agent_line.specs.Recorded.{Recorded, row_in, with_row}
use Rattle.agent_line.specs.Told.{Told, Follows, seen_in, Since}
use Rattle.agent_line.specs.Entered.{IsEntered, IsWhole, IsPart}
use Rattle.agent_line.proofs.Following.{follows_more, follows_open}

-- No byte was moved, and no count fell.
pub record IsStill (before now : Told) : Type 0 where
  pub taken : now.taken ≡ before.taken
  pub given : now.given ≡ before.given
  pub later : IsLater before.counts now.counts

pub of_same : {before now : Told} → now ≡ before → IsStill before now
of_same {before} {now} e =
    record {
      taken = ap (λ (t : Told). t.taken) e;
      given = ap (λ (t : Told). t.given) e;
      later = subst (λ (t : Told). IsLater before.counts t.counts) (sym e) (same_later before.counts);
    }

abbrev no_bytes : List ℕ
no_bytes = []

take_none : (k : ℕ) → take k no_bytes ≡ no_bytes
take_none zero = refl
take_none (suc k) = refl

some_behind : {X : Type 0} (xs : List X) (x : X) → xs ++ x ∷ [] ≡ [] → ⊥
some_behind [] x e = cc e
some_behind (y ∷ xs) x e = cc e

-- what holds of the connections, said in another way
pub since_map : (P Q : Seen → Type 0) (first : Told) (r : Recorded) (stream new : Stream) (idle : ℕ) (now : Told) → ((taken given : List (List ℕ)) → P (seen_in r stream taken given) → Q (seen_in r new taken given))
    → Since P first r stream idle now → Since Q first r new idle now
since_map P Q first r stream new idle now on since =
    record { taken = since.taken; given = since.given; took = since.took; gave = since.gave; ties = on since.taken since.given since.ties; counts = since.counts }

-- ---- A call that moves no bytes

pub still_on : (P : Seen → Type 0) (first : Told) (r : Recorded) (stream : Stream) (idle less : ℕ) (before now : Told) → less ≤ idle → IsStill before now → Since P first r stream idle before → Since P first r stream less now
still_on P first r stream idle less before now fewer still since =
    record {
      taken = since.taken;
      given = since.given;
      took = subst (Follows first.taken since.taken) (sym still.taken) since.took;
      gave = subst (Follows first.given since.given) (sym still.given) since.gave;
      ties = since.ties;
      counts = later_counted r.setup r.sizes r.past first.counts idle less before.counts now.counts fewer still.later since.counts;
    }

-- ---- An entry whose packets are sent

module _ (P Q : Seen → Type 0) (first : Told) (old new : Recorded) (at : ℕ) (cause : Cause) (before now : Told) (stream : Stream) (idle less : ℕ) (h : IsEntered old at cause before new now)
    (silent : (taken given : List (List ℕ)) → P (seen_in old stream taken given) → taken ≡ [] → sent_in h.found.effects ≡ [])
    (counted : (counts : LinkCounts) → HasCounted old.setup old.sizes old.past idle first.counts counts → HasCounted old.setup old.sizes (entry at cause h.found ∷ old.past) less first.counts counts)
    (whole : (taken given : List (List ℕ)) → P (seen_in old stream taken given) → Q (seen_in (with_row old at cause h.found) stream (onto_last taken (sent_in h.found.effects)) given))
    (part : (taken given : List (List ℕ)) → P (seen_in old stream taken given) → (k : ℕ) (second : Row) → k < length (sent_in h.found.effects) → row_in (with_row old at cause h.found) at (c.Broke why.Fault) ≡ Some second
    → Q (seen_in (with_row (with_row old at cause h.found) at (c.Broke why.Fault) second) stream (onto_last taken (take k (sent_in h.found.effects))) given)) where
  by : (since : Since P first old stream idle before) → IsWhole old at cause h.found before new now ⊎ IsPart old at cause h.found before new now → Since Q first new stream less now
  by since (inl w) =
      subst (λ r. Since Q first r stream less now) (sym w.newest)
      (record {
        taken = onto_last since.taken (sent_in h.found.effects);
        given = since.given;
        took = follows_more first.taken since.taken before.taken now.taken (sent_in h.found.effects) since.took (silent since.taken since.given since.ties) w.taken;
        gave = subst (Follows first.given since.given) (sym h.given) since.gave;
        ties = whole since.taken since.given since.ties;
        counts = counted now.counts (later_counted old.setup old.sizes old.past first.counts idle idle before.counts now.counts (omega arith) h.later since.counts);
      })
  by since (inr p) =
      subst (λ r. Since Q first r stream less now) (sym p.newest)
      (record {
        taken = onto_last since.taken (take p.k (sent_in h.found.effects));
        given = since.given;
        took =
            follows_more first.taken since.taken before.taken now.taken (take p.k (sent_in h.found.effects)) since.took
            (λ none. ap (take p.k) (silent since.taken since.given since.ties none) ∙ take_none p.k) p.taken;
        gave = subst (Follows first.given since.given) (sym h.given) since.gave;
        ties = part since.taken since.given since.ties p.k p.second p.short p.is;
        counts =
            fault_counted old.setup old.sizes (entry at cause h.found ∷ old.past) first.counts at p.second p.is less before.counts now.counts p.rose h.later.ends h.later.nothings (counted before.counts since.counts);
      })

  pub entered_on : Since P first old stream idle before → Since Q first new stream less now
  entered_on since = by since h.sent

-- ---- An entry of no packet and no connection

pub plain_on : (first : Told) (old new : Recorded) (at : ℕ) (cause : Cause) (before now : Told) (stream : Stream) (idle less : ℕ) → IsUncounted cause → IsPlain cause → less ≤ idle → IsEntered old at cause before new now
    → Since Ties first old stream idle before → Since Ties first new stream less now
plain_on first old new at cause before now stream idle less other plain fewer h =
    entered_on Ties Ties first old new at cause before now stream idle less h
    (λ taken given t none. silent_without at (seen_in old stream taken given) cause h.found h.is other.opened t.wired none)
    (λ counts counted.
    plain_counted old.setup old.sizes old.past first.counts at cause h.found h.is less counts other
    (later_counted old.setup old.sizes old.past first.counts idle less counts counts fewer (same_later counts) counted))
    (λ taken given t. plain_whole at (seen_in old stream taken given) cause h.found h.is other.opened plain t)
    (λ taken given t k second short is. plain_part at (seen_in old stream taken given) cause h.found h.is other.opened plain t k second short is)

-- ---- A connection

-- the link has opened it, and no entry says so
record IsBegun (v : Seen) : Type 0 where
  taken : List (List ℕ)
  given : List (List ℕ)
  stream : Stream
  took : v.taken ≡ taken ++ [] ∷ []
  gave : v.given ≡ given ++ [] ∷ []
  ties : Ties (record v { taken = taken; given = given; stream = stream })

module _ (first : Told) (old new : Recorded) (at : ℕ) (before mid now : Told) (stream : Stream) (idle less : ℕ) (none : less ≤ 0) (took : mid.taken ≡ option_map (λ ws. ws ++ [] ∷ []) before.taken)
    (gave : mid.given ≡ option_map (λ ws. ws ++ [] ∷ []) before.given) (same : IsLater before.counts mid.counts) (h : IsEntered old at c.Opened mid new now) where
  begun : Since Ties first old stream idle before → Since IsBegun first old fresh idle mid
  begun since =
      record {
        taken = since.taken ++ [] ∷ [];
        given = since.given ++ [] ∷ [];
        took = follows_open first.taken since.taken before.taken mid.taken since.took took;
        gave = follows_open first.given since.given before.given mid.given since.gave gave;
        ties = record { taken = since.taken; given = since.given; stream = stream; took = refl; gave = refl; ties = since.ties };
        counts = later_counted old.setup old.sizes old.past first.counts idle idle before.counts mid.counts (omega arith) same since.counts;
      }

  whole_on : (taken given : List (List ℕ)) → IsBegun (seen_in old fresh taken given) → Ties (seen_in (with_row old at c.Opened h.found) fresh (onto_last taken (sent_in h.found.effects)) given)
  whole_on taken given b =
      subst (λ ws. Ties (seen_in (with_row old at c.Opened h.found) fresh (onto_last ws (sent_in h.found.effects)) given)) (sym b.took)
      (subst (λ ws. Ties (seen_in (with_row old at c.Opened h.found) fresh (onto_last (b.taken ++ [] ∷ []) (sent_in h.found.effects)) ws)) (sym b.gave) (first_whole at (seen_in old b.stream b.taken b.given) h.found h.is b.ties))

  part_on : (taken given : List (List ℕ)) → IsBegun (seen_in old fresh taken given) → (k : ℕ) (second : Row) → k < length (sent_in h.found.effects) → row_in (with_row old at c.Opened h.found) at (c.Broke why.Fault) ≡ Some second
      → Ties (seen_in (with_row (with_row old at c.Opened h.found) at (c.Broke why.Fault) second) fresh (onto_last taken (take k (sent_in h.found.effects))) given)
  part_on taken given b k second short is =
      let r = with_row (with_row old at c.Opened h.found) at (c.Broke why.Fault) second in
      subst (λ ws. Ties (seen_in r fresh (onto_last ws (take k (sent_in h.found.effects))) given)) (sym b.took)
      (subst (λ ws. Ties (seen_in r fresh (onto_last (b.taken ++ [] ∷ []) (take k (sent_in h.found.effects))) ws)) (sym b.gave)
      (first_part at (seen_in old b.stream b.taken b.given) h.found h.is b.ties k second short is))

  pub opened_on : Since Ties first old stream idle before → Since Ties first new fresh less now
  opened_on since =
      entered_on IsBegun Ties first old new at c.Opened mid now fresh idle less h (λ taken given b e. absurd (some_behind b.taken [] (sym b.took ∙ e)))
      (λ counts counted.
      later_counted old.setup old.sizes (entry at c.Opened h.found ∷ old.past) first.counts 0 less counts counts none (same_later counts)
      (opened_counted old.setup old.sizes old.past first.counts at h.found h.is idle counts counted)) whole_on part_on (begun since)
