use Rattle.std.proofs.Common.{refl, sym, ap, ◌∙◌, subst}
use Rattle.std.specs.List.{AllByRecursion}
use Rattle.agent_journal.specs.Sound.{IsSoundEffect}
use Rattle.agent_journal.specs.Wires.{sent_in}
use Rattle.replay_agent.proofs.Entered.{effects_sound, sound_behind, made_behind}
use Rattle.replay_agent.proofs.run.Run.make.Goals as goal

pub spell-requires : goal.spell-requires
spell-requires g c =
    subst (AllByRecursion IsSoundEffect) (sym c.as_slice.ensures)
    (effects_sound c.args.core.now _ c.args.now c.args.cause c.in-Ok.entry.effects c.requires.sound.client c.requires.sound.stands c.in-Ok.ensures.effects)

pub returns-in-Ok-clause-sound : goal.returns-in-Ok-clause-sound
returns-in-Ok-clause-sound g c =
    sound_behind c.args.core.now c.step.new.self c.args.self.now
    (record c.args.self.now { journal = c.push.new.self; buffer = c.spell.new.buffer; notes = c.add.new.self }) c.in-Ok.entry c.len.result c.phase-before.result c.phase.result c.requires.sound c.in_ok-push-in-Ok.ensures.ok (c.in-Ok.ensures.stands _ c.requires.sound.stands)
    (ap (λ k. k.setup) c.in-Ok.ensures.next) (ap (λ k. k.sizes) c.in-Ok.ensures.next) c.len.ensures c.phase-before.ensures.now c.phase.ensures.now c.add.ensures.taken c.add.ensures.messages c.add.ensures.few
    c.add.ensures.closed c.add.ensures.left c.add.ensures.ending refl refl

pub returns-in-Ok-clause-made : goal.returns-in-Ok-clause-made
returns-in-Ok-clause-made g c =
    made_behind c.args.core.now c.step.new.self c.args.self.now
    (record c.args.self.now { journal = c.push.new.self; buffer = c.spell.new.buffer; notes = c.add.new.self }) c.args.now c.args.cause c.in-Ok.entry c.spell.new.buffer.items refl refl refl refl refl refl
    c.requires.sound.stands c.in-Ok.ensures.effects c.in-Ok.ensures.entry.0 c.in-Ok.ensures.entry.1 c.in_ok-push-in-Ok.ensures.ok (ap (λ k. k.setup) c.in-Ok.ensures.next)
    (ap (λ k. k.sizes) c.in-Ok.ensures.next) (c.in_ok-spell-in-Ok.ensures ∙ ap sent_in c.as_slice.ensures)
