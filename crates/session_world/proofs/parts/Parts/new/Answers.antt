use Rattle.std.proofs.Common.{◌≡◌, true, ap, ◌∙◌, arith}
use Rattle.agent_journal.specs.Setups.{is_client}
use Rattle.agent_journal.specs.declared.setup.Setup.{Setup}
use Rattle.session_world.proofs.Steady.{dev_is_client}
use Rattle.session_world.proofs.parts.Parts.new.Goals as goal

pub new-requires : goal.new-requires
new-requires c =
    let tasks : c.in_ok-setup.field-0.tasks ≡ 1 = ap (λ (s : Setup). s.tasks) c.in_ok-setup.ensures in
    let reopen : c.in_ok-setup.field-0.reopen ≡ 4294967294 = ap (λ (s : Setup). s.reopen) c.in_ok-setup.ensures in
    (omega arith, ((omega arith, omega arith, omega arith, omega arith, omega arith, omega arith), ((omega (arith, tasks), omega (arith, tasks)), (omega (arith, reopen), ap (λ (s : Setup). is_client s.client) c.in_ok-setup.ensures ∙ dev_is_client))))
