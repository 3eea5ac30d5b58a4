-- Looks that don't wait: how many receives in a row may still be quick.
use Rattle.std.specs.Prelude.{ℕ, ◌-◌}
use Rattle.agent_link.specs.Counts.{LinkCounts, with_end, with_nothing}
use Rattle.agent_link.specs.declared.link.Heard.{Heard}
use Rattle.agent_link.specs.declared.link.Heard.TheVariants as heard

-- behind an opening, a send, and a receive that brought bytes
abbrev pub fresh_looks : ℕ
fresh_looks = 500

-- A receive that heard nothing uses one up.
abbrev pub looks_after : Heard → ℕ → ℕ
looks_after (heard.Bytes _) looks = fresh_looks
looks_after heard.Nothing looks = looks - 1
looks_after heard.End looks = looks

-- the counts of a link behind a receive that brought this
abbrev pub with_heard : Heard → LinkCounts → LinkCounts
with_heard (heard.Bytes _) counts = counts
with_heard heard.Nothing counts = with_nothing counts
with_heard heard.End counts = with_end counts
