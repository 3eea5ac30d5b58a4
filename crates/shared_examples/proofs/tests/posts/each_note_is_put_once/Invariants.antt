use Rattle.shared_examples.proofs.tests.posts.each_note_is_put_once.Given as goal

abbrev pub ghosts-both_are_told : goal.ghosts-both_are_told
ghosts-both_are_told g a = record { board = a.board }
