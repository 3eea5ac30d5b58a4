-- Documents behind more changes.
use Rattle.std.proofs.Common.{◌≡◌, List, ◌++◌, fold, sym}
use Rattle.std.proofs.lemmas.List.Sums.{fold-append}
use Rattle.device_docs.specs.declared.changes.Change.{Change}
use Rattle.shadow_mirror.specs.Documents.{blank, changed, doc}

pub doc_more : (us more : List Change) → fold changed (doc us) more ≡ doc (us ++ more)
doc_more us more = sym (fold-append changed blank us more)
