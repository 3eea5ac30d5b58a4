-- Each call may read a filter less.
use Rattle.agent_script.proofs.requests.+read_filters.Given as goal

abbrev pub decreases-read_filters : goal.decreases-read_filters
decreases-read_filters l = l.most
