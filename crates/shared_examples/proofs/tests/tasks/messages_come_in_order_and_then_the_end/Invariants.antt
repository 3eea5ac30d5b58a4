use Rattle.shared_examples.proofs.tests.tasks.messages_come_in_order_and_then_the_end.Given as goal

abbrev pub ghosts-messages_come : goal.ghosts-messages_come
ghosts-messages_come g a = record { board = a.board }
