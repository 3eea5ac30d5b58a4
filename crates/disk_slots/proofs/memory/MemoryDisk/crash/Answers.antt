use Rattle.std.proofs.Common.{◌∙◌, ℕ, List, length, replicate, false, refl, sym, ap, subst, arith}
use Rattle.std.proofs.lemmas.List.{length-replicate}
use Rattle.disk_slots.specs.Memory.{masked, Agrees}
use Rattle.disk_slots.proofs.Marks.{only_settled, crash_agrees, crash_len}
use Rattle.disk_slots.proofs.memory.MemoryDisk.crash.Goals as goal

pub copy-requires : goal.copy-requires
copy-requires c =
    let s = c.args.self in
    sym (ap length c.pick_all.ensures ∙ crash_len _ s.marks.items s.settled.items ∙ s.alike.0)

pub invariant_of-result : goal.invariant_of-result
invariant_of-result c =
    let s = c.args.self in
    let long = ap length c.copy.ensures ∙ ap length c.pick_all.ensures ∙ crash_len _ s.marks.items s.settled.items ∙ s.alike.0 in
    let clear = ap length c.unmark.ensures ∙ length-replicate (length s.marks.items) false in
    record {
      small = omega (arith, long, s.small);
      alike = (sym (ap length c.copy.ensures), clear ∙ s.alike.1 ∙ sym long);
      agrees = ap (masked c.unmark.new.marks.items) c.copy.ensures;
      range = (omega arith, omega arith);
      outside = (refl, c.unmark.ensures ∙ sym (ap (λ (k : ℕ). replicate k false) clear));
    }

pub returns-clause-one : goal.returns-clause-one
returns-clause-one c =
    let s = c.args.self in
    subst (λ (l : List ℕ). Agrees s.marks.items s.settled.items l) (sym (c.copy.ensures ∙ c.pick_all.ensures)) (crash_agrees _ 0 s.marks.items s.settled.items)

pub returns-clause-only : goal.returns-clause-only
returns-clause-only c = only_settled (length c.args.self.marks.items) _ _ _ c.unmark.ensures (sym c.copy.ensures)
