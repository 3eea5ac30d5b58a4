-- The worked example, printed.
use Rattle.std.specs.Prelude.{◌≡◌, ℕ, List, codes}
use Rattle.agent_journal.specs.Worked.{journal}
use Rattle.journal_text.specs.Texts.{journal_text}

abbrev pub text : List ℕ
text =
    codes
    "@0 opened\n  send 100f00044d5154540400003c0003646576\n@0 arrived 20020000\n@0 take 0 0 publish 0 a/b 6869\n  send 30070003612f626869\n  done 0 0 done\n@0 take 0 1 leave\n@0 finish\n  send e000\n"

abbrev pub ExampleIsPrinted : Type 0
ExampleIsPrinted = journal_text journal ≡ text
