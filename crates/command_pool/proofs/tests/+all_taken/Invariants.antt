use Rattle.command_pool.proofs.tests.+all_taken.Given as goal

abbrev pub decreases-all_taken : goal.decreases-all_taken
decreases-all_taken g l = l.most
