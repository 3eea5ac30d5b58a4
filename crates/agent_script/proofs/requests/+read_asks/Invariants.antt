-- Each call may read a pair less.
use Rattle.agent_script.proofs.requests.+read_asks.Given as goal

abbrev pub decreases-read_asks : goal.decreases-read_asks
decreases-read_asks l = l.most
