use Rattle.task_queues.proofs.tests.one_thread_sends_to_another_in_order.Given as goal

abbrev pub ghosts-taken_of : goal.ghosts-taken_of
ghosts-taken_of g a = record { board = a.board.now }
