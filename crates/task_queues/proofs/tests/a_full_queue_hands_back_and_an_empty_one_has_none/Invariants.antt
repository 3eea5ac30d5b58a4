use Rattle.task_queues.proofs.tests.a_full_queue_hands_back_and_an_empty_one_has_none.Given as goal

abbrev pub ghosts-one_place : goal.ghosts-one_place
ghosts-one_place g a = record { board = a.board.now }
