use Rattle.topic_filter.proofs.Exact.{exact}
use Rattle.topic_filter.proofs.fitting.matches.Goals as goal

pub returns-clause-fits : goal.returns-clause-fits
returns-clause-fits c = rw (c.fits.ensures, c.as_bytes.ensures.value, c.as_bytes-2.ensures.value) (exact c.args.filter.now c.args.name.now)
