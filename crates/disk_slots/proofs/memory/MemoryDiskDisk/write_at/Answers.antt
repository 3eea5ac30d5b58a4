use Rattle.std.proofs.Common.{◌∙◌, ◌+◌, ◌≤◌, length, true, sym, ap, arith}
use Rattle.disk_slots.proofs.Marks.{widens, refused_agrees, written_agrees, filled_len, clear_outside, overwritten_len}
use Rattle.disk_slots.proofs.memory.MemoryDiskDisk.write_at.Goals as goal

pub returns-in_err-burn-clause-crash : goal.returns-in_err-burn-clause-crash
returns-in_err-burn-clause-crash c =
    let s = c.args.self.now in
    widens c.args.at (length c.args.bytes.now) s.marks.items _ s.settled.items (omega (arith, c.requires, s.alike.1)) (s.alike.0 ∙ sym s.alike.1) c.set_marks.ensures

pub returns-clause-crash : goal.returns-clause-crash
returns-clause-crash c =
    let s = c.args.self.now in
    widens c.args.at (length c.args.bytes.now) s.marks.items _ s.settled.items (omega (arith, c.requires, s.alike.1)) (s.alike.0 ∙ sym s.alike.1) c.set_marks.ensures

pub invariant_of-self : goal.invariant_of-self
invariant_of-self c =
    let s = c.args.self.now in
    let n = length c.args.bytes.now in
    let within : c.args.at + n ≤ length s.marks.items = omega (arith, c.requires, s.alike.1) in
    let long = ap length c.set_marks.ensures ∙ filled_len c.args.at n true s.marks.items within in
    record {
      small = s.small;
      alike = (s.alike.0, long ∙ s.alike.1);
      agrees = refused_agrees c.args.at n s.present.items s.settled.items s.marks.items _ within (s.alike.0 ∙ sym s.alike.1) s.agrees c.set_marks.ensures;
      range = (omega (arith, c.lower-self.ensures, c.higher-self.ensures, s.range.0), omega (arith, c.higher-self.ensures, long, within, s.range.1));
      outside = clear_outside s.from s.to c.args.at n c.lower-self.result c.higher-self.result s.marks.items _ (omega (arith, c.lower-self.ensures)) (omega (arith, c.lower-self.ensures)) (omega (arith, c.higher-self.ensures)) (omega (arith, c.higher-self.ensures)) within s.outside.0 s.outside.1 c.set_marks.ensures;
    }

pub invariant_of-self-2 : goal.invariant_of-self-2
invariant_of-self-2 c =
    let s = c.args.self.now in
    let n = length c.args.bytes.now in
    let within : c.args.at + n ≤ length s.marks.items = omega (arith, c.requires, s.alike.1) in
    let long = ap length c.set_marks.ensures ∙ filled_len c.args.at n true s.marks.items within in
    let new_long = ap length c.put.ensures ∙ overwritten_len c.args.at c.args.bytes.now s.present.items (omega (arith, c.requires)) in
    record {
      small = omega (arith, new_long, s.small);
      alike = (s.alike.0 ∙ sym new_long, long ∙ s.alike.1 ∙ sym new_long);
      agrees = written_agrees c.args.at c.args.bytes.now s.present.items _ s.settled.items s.marks.items _ within (s.alike.0 ∙ sym s.alike.1) s.agrees c.set_marks.ensures c.put.ensures;
      range = (omega (arith, c.lower-self.ensures, c.higher-self.ensures, s.range.0), omega (arith, c.higher-self.ensures, long, within, s.range.1));
      outside = clear_outside s.from s.to c.args.at n c.lower-self.result c.higher-self.result s.marks.items _ (omega (arith, c.lower-self.ensures)) (omega (arith, c.lower-self.ensures)) (omega (arith, c.higher-self.ensures)) (omega (arith, c.higher-self.ensures)) within s.outside.0 s.outside.1 c.set_marks.ensures;
    }
