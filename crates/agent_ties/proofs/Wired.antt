-- What each connection took, by an entry more: the spelling of what its entries send, or a front of it where it broke.
use Rattle.std.proofs.Common.{◌≡◌, ℕ, ◌<◌, Bool, true, false, cond, List, [], ◌∷◌, ◌++◌, length, take, Some, refl, sym, ap, ◌∙◌, subst, arith, append_assoc, inl, inr}
use Rattle.std.proofs.lemmas.List.{append-nil}
use Rattle.std.proofs.lemmas.Grind.{flat_map-append}
use Rattle.agent_link.specs.Wires.{onto_last}
use Rattle.agent_journal.specs.declared.entry.Cause.{Cause}
use Rattle.agent_journal.specs.declared.entry.Cause.TheVariants as c
use Rattle.agent_journal.specs.declared.entry.Entry.{Entry}
use Rattle.agent_journal.specs.declared.entry.Why.{Why}
use Rattle.agent_journal.specs.declared.entry.Why.TheVariants as why
use Rattle.agent_journal.specs.declared.setup.Phase.{Phase}
use Rattle.agent_journal.specs.declared.setup.Phase.TheVariants.{Down, Opening, Up, Spilled, Off}
use Rattle.agent_journal.specs.Wires.{connections, is_opened, sent, sent_by, sent_in, Wired, IsCutShort}
use Rattle.agent_table.specs.Histories.{phase_by, readings}
use Rattle.agent_table.specs.Readings.{Readings}
use Rattle.agent_table.specs.Rows.{Row}
use Rattle.agent_ties.specs.Seen.{entry, Seen, phase_seen, row_seen, with_entry, with_bytes}
use Rattle.agent_ties.proofs.Rows.{in_time, fault_leads, fault_phase}
use Rattle.agent_ties.proofs.Sends.{nothing, is_gone, gone_stays, broke_silent}
use Rattle.agent_ties.specs.Wired.{TiedBut, Whole, LastWired, AreWired}
use Rattle.agent_ties.proofs.Seen.{phase_is}
use Rattle.agent_ties.proofs.Wires.{onto_nothing, onto_begun, more_on, one_more}

pub is_wired : (phase : Phase) (es : List Entry) (bs : List ℕ) → LastWired phase es bs → Wired es bs
is_wired Down es bs h = h
is_wired Opening es bs h = inl h
is_wired Up es bs h = inl h
is_wired Spilled es bs h = inl h
is_wired Off es bs h = h

of_whole : (phase : Phase) (es : List Entry) (bs : List ℕ) → Whole es bs → LastWired phase es bs
of_whole Down es bs h = inl h
of_whole Opening es bs h = h
of_whole Up es bs h = h
of_whole Spilled es bs h = h
of_whole Off es bs h = inl h

of_gone : (phase : Phase) (es : List Entry) (bs : List ℕ) → is_gone phase ≡ true → Wired es bs → LastWired phase es bs
of_gone Down es bs gone h = h
of_gone Opening es bs gone h = absurd (cc gone)
of_gone Up es bs gone h = absurd (cc gone)
of_gone Spilled es bs gone h = absurd (cc gone)
of_gone Off es bs gone h = h

whole_of : (phase : Phase) (es : List Entry) (bs : List ℕ) → is_gone phase ≡ false → LastWired phase es bs → Whole es bs
whole_of Down es bs there h = absurd (cc there)
whole_of Opening es bs there h = h
whole_of Up es bs there h = h
whole_of Spilled es bs there h = h
whole_of Off es bs there h = absurd (cc there)

fault_gone : (phase : Phase) → is_gone (fault_phase phase) ≡ true
fault_gone Down = refl
fault_gone Opening = refl
fault_gone Up = refl
fault_gone Spilled = refl
fault_gone Off = refl

-- ---- One connection

sent_more : (es : List Entry) (e : Entry) → sent (es ++ e ∷ []) ≡ sent es ++ sent_by e
sent_more es e = flat_map-append sent_by es (e ∷ []) ∙ ap (λ bs. sent es ++ bs) (append-nil (sent_by e))

whole_more : (es : List Entry) (bs : List ℕ) (e : Entry) → Whole es bs → Whole (es ++ e ∷ []) (bs ++ sent_by e)
whole_more es bs e h = ap (λ ws. ws ++ sent_by e) h ∙ sym (sent_more es e)

cut_more : (es : List Entry) (bs : List ℕ) (e : Entry) → sent_by e ≡ [] → IsCutShort es bs → IsCutShort (es ++ e ∷ []) bs
cut_more es bs e none (before, last, broke, after, split, is, silent, k, less, took) = (
  before,
  last,
  broke,
  after ++ e ∷ [],
  ap (λ xs. xs ++ e ∷ []) split ∙ append_assoc before (last ∷ broke ∷ after) (e ∷ []),
  is,
  sent_more (broke ∷ after) e ∙ ap (λ xs. xs ++ sent_by e) silent ∙ none,
  k,
  less,
  took,
)

silent_more : (es : List Entry) (bs : List ℕ) (e : Entry) → sent_by e ≡ [] → Wired es bs → Wired (es ++ e ∷ []) bs
silent_more es bs e none (inl h) = inl (h ∙ sym (append-nil (sent es)) ∙ ap (λ xs. sent es ++ xs) (sym none) ∙ sym (sent_more es e))
silent_more es bs e none (inr h) = inr (cut_more es bs e none h)

-- all but the last bytes of the newest entry
abbrev Part : Entry → ℕ → List Entry → List ℕ → Type 0
Part e k entries bytes = (es : List Entry) × (entries ≡ es ++ e ∷ []) × (bytes ≡ sent es ++ take k (sent_by e))

part_cut : (e broke : Entry) (k : ℕ) → k < length (sent_by e) → broke.cause ≡ c.Broke why.Fault → sent_by broke ≡ [] → (es : List Entry) (bs : List ℕ) → Part e k es bs → Wired (es ++ broke ∷ []) (bs ++ [])
part_cut e broke k less is none es bs (before, split, took) =
    inr
    (before, e, broke, [], ap (λ xs. xs ++ broke ∷ []) split ∙ append_assoc before (e ∷ []) (broke ∷ []), is, ap (λ (xs : List ℕ). xs ++ []) none, k, less, append-nil bs ∙ took)

-- ---- All connections, by an entry more

module _ (now : ℕ) (v : Seen) (cause : Cause) (found : Row) (e : row_seen v now cause ≡ Some found) where
  abbrev new : Entry
  new = entry now cause found

  abbrev r : Readings
  r = readings v.setup v.sizes v.past

  module _ (other : is_opened cause ≡ false) (h : AreWired v) where
    last_on : (gone : Bool) → is_gone (phase_seen v) ≡ gone → (es : List Entry) (bs : List ℕ) → LastWired (phase_seen v) es bs → LastWired found.phase (es ++ new ∷ []) (bs ++ sent_in found.effects)
    last_on true is es bs l =
        let still = gone_stays v.setup v.sizes r now cause found (in_time v.setup v.sizes r now cause found e) other is in
        let none = nothing found.effects still.0 in
        of_gone found.phase (es ++ new ∷ []) (bs ++ sent_in found.effects) still.1
        (subst (λ xs. Wired (es ++ new ∷ []) xs) (sym (ap (λ xs. bs ++ xs) none ∙ append-nil bs)) (silent_more es bs new none (is_wired (phase_seen v) es bs l)))
    last_on false is es bs l = of_whole found.phase (es ++ new ∷ []) (bs ++ sent_in found.effects) (whole_more es bs new (whole_of (phase_seen v) es bs is l))

    same_connections : connections (new ∷ v.past) ≡ onto_last (connections v.past) (new ∷ [])
    same_connections = ap (λ b. cond b (connections v.past ++ (new ∷ []) ∷ []) (onto_last (connections v.past) (new ∷ []))) other

    -- all of it was sent
    pub wired_on : AreWired (with_bytes (with_entry v now cause found) (sent_in found.effects))
    wired_on =
        subst (λ phase. TiedBut Wired (LastWired phase) (connections (new ∷ v.past)) (onto_last v.taken (sent_in found.effects))) (sym (phase_is now v cause found e))
        (subst (λ cs. TiedBut Wired (LastWired found.phase) cs (onto_last v.taken (sent_in found.effects))) (sym same_connections)
        (more_on Wired (LastWired (phase_seen v)) (LastWired found.phase) (new ∷ []) (sent_in found.effects) (last_on (is_gone (phase_seen v)) refl) (connections v.past) v.taken h))

    -- part of it was
    part_on : (k : ℕ) → k < length (sent_in found.effects) → (gone : Bool) → is_gone (phase_seen v) ≡ gone → (es : List Entry) (bs : List ℕ) → LastWired (phase_seen v) es bs → Part new k (es ++ new ∷ []) (bs ++ take k (sent_in found.effects))
    part_on k less true is es bs l =
        let still = gone_stays v.setup v.sizes r now cause found (in_time v.setup v.sizes r now cause found e) other is in
        absurd (omega (arith, less, ap length (nothing found.effects still.0)))
    part_on k less false is es bs l = (es, refl, ap (λ xs. xs ++ take k (sent_in found.effects)) (whole_of (phase_seen v) es bs is l))

    pub parts_on : (k : ℕ) → k < length (sent_in found.effects) → TiedBut Wired (Part new k) (connections (new ∷ v.past)) (onto_last v.taken (take k (sent_in found.effects)))
    parts_on k less =
        subst (λ cs. TiedBut Wired (Part new k) cs (onto_last v.taken (take k (sent_in found.effects)))) (sym same_connections)
        (more_on Wired (LastWired (phase_seen v)) (Part new k) (new ∷ []) (take k (sent_in found.effects)) (part_on k less (is_gone (phase_seen v)) refl) (connections v.past) v.taken h)

  -- the fault behind it
  pub cut_on : (k : ℕ) (second : Row) (ws : List (List ℕ)) → k < length (sent_in found.effects) → row_seen (with_entry v now cause found) now (c.Broke why.Fault) ≡ Some second → TiedBut Wired (Part new k) (connections (new ∷ v.past)) ws
      → AreWired (with_entry (record (with_entry v now cause found) { taken = ws }) now (c.Broke why.Fault) second)
  cut_on k second ws less is parts =
      let u = with_entry v now cause found in
      let broke = entry now (c.Broke why.Fault) second in
      let q = readings u.setup u.sizes u.past in
      let row = in_time u.setup u.sizes q now (c.Broke why.Fault) second is in
      let none = nothing second.effects (broke_silent u.setup u.sizes q now why.Fault second row) in
      let phase : phase_seen (with_entry u now (c.Broke why.Fault) second) ≡ second.phase = ap (λ x. phase_by x (phase_seen u)) is in
      let gone : is_gone second.phase ≡ true = ap is_gone (fault_leads u.setup q second (phase_seen u) row) ∙ fault_gone (phase_seen u) in
      subst (λ p. TiedBut Wired (LastWired p) (connections (broke ∷ new ∷ v.past)) ws) (sym phase)
      (subst (λ xs. TiedBut Wired (LastWired second.phase) (connections (broke ∷ new ∷ v.past)) xs) (onto_nothing ws)
      (more_on Wired (Part new k) (LastWired second.phase) (broke ∷ []) []
      (λ es bs part. of_gone second.phase (es ++ broke ∷ []) (bs ++ []) gone (part_cut new broke k less refl none es bs part)) (connections (new ∷ v.past)) ws parts))

-- ---- A connection more

abbrev begun : Seen → Seen
begun v = record v { taken = v.taken ++ [] ∷ [] }

module _ (now : ℕ) (v : Seen) (found : Row) (e : row_seen v now c.Opened ≡ Some found) (h : AreWired v) where
  abbrev first : Entry
  first = entry now c.Opened found

  pub opened_whole : AreWired (with_bytes (with_entry (begun v) now c.Opened found) (sent_in found.effects))
  opened_whole =
      subst (λ phase. TiedBut Wired (LastWired phase) (connections (first ∷ v.past)) (onto_last (v.taken ++ [] ∷ []) (sent_in found.effects))) (sym (phase_is now v c.Opened found e))
      (subst (λ ws. TiedBut Wired (LastWired found.phase) (connections (first ∷ v.past)) ws) (sym (onto_begun v.taken (sent_in found.effects)))
      (one_more Wired (LastWired (phase_seen v)) (LastWired found.phase) (first ∷ []) (sent_in found.effects) (is_wired (phase_seen v))
      (of_whole found.phase (first ∷ []) (sent_in found.effects) (sym (append-nil (sent_in found.effects)))) (connections v.past) v.taken h))

  pub opened_part : (k : ℕ) → TiedBut Wired (Part first k) (connections (first ∷ v.past)) (onto_last (v.taken ++ [] ∷ []) (take k (sent_in found.effects)))
  opened_part k =
      subst (λ ws. TiedBut Wired (Part first k) (connections (first ∷ v.past)) ws) (sym (onto_begun v.taken (take k (sent_in found.effects))))
      (one_more Wired (LastWired (phase_seen v)) (Part first k) (first ∷ []) (take k (sent_in found.effects)) (is_wired (phase_seen v)) ([], refl, refl) (connections v.past) v.taken h)

-- ---- A break sends nothing

pub noted_wired : (now : ℕ) (v : Seen) (reason : Why) (found : Row) → row_seen v now (c.Broke reason) ≡ Some found → AreWired v → AreWired (with_entry v now (c.Broke reason) found)
noted_wired now v reason found e h =
    let q = readings v.setup v.sizes v.past in
    let none = nothing found.effects (broke_silent v.setup v.sizes q now reason found (in_time v.setup v.sizes q now (c.Broke reason) found e)) in
    subst (λ ws. AreWired (record (with_entry v now (c.Broke reason) found) { taken = ws })) (ap (onto_last v.taken) none ∙ onto_nothing v.taken) (wired_on now v (c.Broke reason) found e refl h)
