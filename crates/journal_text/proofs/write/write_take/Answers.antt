use Rattle.journal_text.proofs.write.write_take.Goals as goal

pub returns-in-Terminate-clause-text : goal.returns-in-Terminate-clause-text
returns-in-Terminate-clause-text g c = rw c.in-Terminate.is c.write_word-in-Terminate.ensures.text
