-- The first example is typed and sound, so its text names it.
use Rattle.std.proofs.Common.{◌≡◌, ℕ, true, List, [], ◌∷◌, sym, ◌∙◌, refl, arith}
use Rattle.std.specs.Prelude.{nat_lt, codes, reverse}
use Rattle.std.specs.List.{list_all, AllByRecursion}
use Rattle.std.proofs.lemmas.Bool.{and_parts, ltb-true}
use Rattle.agent_journal.specs.Sound.{IsSoundEntry}
use Rattle.agent_journal.specs.Setups as setups
use Rattle.agent_journal.specs.Worked.{setup, journal}
use Rattle.journal_text.proofs.Printed.{example_is_printed}
use Rattle.agent_table.specs.Worked.{usual}
use Rattle.agent_table.proofs.SoundPasts.{packets_are_sound}
use Rattle.agent_table.proofs.Worked.{firsts_are_legal}
use Rattle.journal_text.specs.Laws.{ExampleIsNamed}
use Rattle.journal_text.specs.Typed.{AreBytes, IsTypedEntry}
use Rattle.journal_text.proofs.Names.{texts_name_journals}

are_bytes : (bytes : List ℕ) → list_all (λ b. nat_lt b 256) bytes ≡ true → AreBytes bytes
are_bytes [] e = tt
are_bytes (b ∷ bytes) e = let two = and_parts (nat_lt b 256) (list_all (λ b. nat_lt b 256) bytes) e in (ltb-true b 256 two.0, are_bytes bytes two.1)

example_typed : AllByRecursion IsTypedEntry journal
example_typed = (
  record { at = omega arith; cause = tt; effects = (record { numbers = omega arith; bytes = (are_bytes (codes "dev") refl, tt, tt, tt) }, tt) },
  (
    record { at = omega arith; cause = record { numbers = tt; bytes = omega arith }; effects = tt },
    (
      record {
        at = omega arith;
        cause = (omega arith, omega arith, (are_bytes (codes "a/b") refl, are_bytes (codes "hi") refl));
        effects = (record { numbers = omega arith; bytes = (are_bytes (codes "a/b") refl, are_bytes (codes "hi") refl) }, ((omega arith, omega arith, tt), tt));
      },
      (record { at = omega arith; cause = (omega arith, omega arith, tt); effects = tt }, (record { at = omega arith; cause = tt; effects = (record { numbers = tt; bytes = tt }, tt) }, tt)),
    ),
  ),
)

example_sound : AllByRecursion IsSoundEntry journal
unfolding setups.is_client
example_sound = let all = packets_are_sound setup usual (reverse journal) refl firsts_are_legal.published_legal in (all.1.1.1.1.0, (all.1.1.1.0, (all.1.1.0, (all.1.0, (all.0, tt)))))

pub example_is_named : ExampleIsNamed
example_is_named other sound typed e = texts_name_journals other journal sound example_sound typed example_typed (e ∙ sym example_is_printed)
