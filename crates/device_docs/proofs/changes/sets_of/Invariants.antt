use Rattle.std.proofs.Common.{◌≡◌, ◌++◌}
use Rattle.serde_json.specs.View.{members_view}
use Rattle.device_docs.specs.Changes.{first_bad, sets_of}
use Rattle.device_docs.proofs.changes.sets_of.Given as goal

-- what was taken and what is left is the whole, and what was taken isn't bad
abbrev pub invariant-members : goal.invariant-members
invariant-members l = record {
  sets : sets_of (members_view l.members.entries) ≡ l.sets.items ++ sets_of (members_view l.key-iterator);
  bad : first_bad (members_view l.members.entries) ≡ first_bad (members_view l.key-iterator);
}
