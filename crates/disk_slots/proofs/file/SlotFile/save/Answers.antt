use Rattle.std.proofs.Common.{◌+◌, ℕ, List, length, take, refl, sym, ◌∙◌, ap, arith}
use Rattle.disk_slots.proofs.Frames.{all_count, holds, holds_one, text_of}
use Rattle.disk_slots.specs.Slots.{framed_text, file_len}
use Rattle.disk_slots.proofs.file.SlotFile.save.Goals as goal

pub invariant_of-result : goal.invariant_of-result
invariant_of-result g c =
    let inv = c.self.invariant in
    let same = ap (λ (l : List ℕ). framed_text (take (4 + length c.args.text.now) l)) c.deref.ensures.value in
    let slots = c.put_text.ensures.len in
    let new_slots = c.len-2.ensures ∙ c.put_text.new.frame.ok.0 in (
      omega (arith, slots, c.len.ensures, c.if-text-len.false, inv.0),
      omega (arith, slots, inv.1),
      c.switch.ensures.size ∙ inv.2 ∙ ap file_len (sym slots),
      λ t. all_count _ _ _ _ _ _ _ new_slots (sym c.other.ensures) (same ∙ text_of (length c.args.text.now) c.put_text.new.frame.items)
          (c.in-Ok.ensures.saved t _ (all_count _ _ _ _ _ _ _ (sym (new_slots ∙ slots)) refl refl (inv.3 t))),
    )

pub returns-in-Ok-clause-saved : goal.returns-in-Ok-clause-saved
returns-in-Ok-clause-saved g c t =
    let inv = c.self.invariant in
    let same = ap (λ (l : List ℕ). framed_text (take (4 + length c.args.text.now) l)) c.deref.ensures.value in
    let slots = c.len-2.ensures ∙ c.put_text.new.frame.ok.0 ∙ c.put_text.ensures.len in
    holds _ _ _ _ _ _ (slots ∙ ap (λ v. v.slot_len) c.self.view_is) (same ∙ ap framed_text c.put_text.ensures.front) (c.in-Ok.ensures.saved t _ (all_count _ _ _ _ _ _ _ (sym slots) refl refl (inv.3 t)))

pub returns-in-Err-clause-kept : goal.returns-in-Err-clause-kept
returns-in-Err-clause-kept g c t =
    let inv = c.self.invariant in
    let same = ap (λ (l : List ℕ). framed_text (take (4 + length c.args.text.now) l)) c.deref.ensures.value in
    let slots = c.len-2.ensures ∙ c.put_text.new.frame.ok.0 ∙ c.put_text.ensures.len in
    holds_one _ _ _ _ _ _ _ (slots ∙ ap (λ v. v.slot_len) c.self.view_is) (ap (λ v. v.text) c.self.view_is) (same ∙ ap framed_text c.put_text.ensures.front)
    (c.in-Err.ensures.kept t _ (all_count _ _ _ _ _ _ _ (sym slots) refl refl (inv.3 t)))
