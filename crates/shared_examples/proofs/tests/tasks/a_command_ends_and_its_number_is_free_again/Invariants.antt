use Rattle.shared_examples.proofs.tests.tasks.a_command_ends_and_its_number_is_free_again.Given as goal

abbrev pub ghosts-command_ends : goal.ghosts-command_ends
ghosts-command_ends g a = record { board = a.board }
