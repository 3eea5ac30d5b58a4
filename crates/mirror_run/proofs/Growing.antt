-- A document's version only grows.
use Rattle.std.proofs.Common.{◌≡◌, ◌≤◌, ℕ, Bool, true, false, List, [], ◌∷◌, fold, nat_lt, if◌then◌else◌, refl, sym, ap, subst, ◌∙◌, arith}
use Rattle.std.proofs.lemmas.Bool.Decides.{nat_tests}
use Rattle.std.proofs.lemmas.List.Sums.{fold-append}
use mathlib.Core.List.{IsPrefix}
use Rattle.device_docs.specs.declared.changes.Change.{Change}
use Rattle.shadow_mirror.specs.Documents.{Doc, blank, changed, doc}

by_test : (b : Bool) (n m : ℕ) (d e : Doc) → nat_lt n m ≡ b → d.version ≡ n → e.version ≡ m → n ≤ (if b then e else d).version
by_test true n m d e is old new = grind (arith, nat_tests)
by_test false n m d e is old new = grind arith

grows_once : (d : Doc) (c : Change) → d.version ≤ (changed d c).version
grows_once d c = by_test (nat_lt d.version c.version) d.version c.version d _ refl refl refl

grows : (d : Doc) (us : List Change) → d.version ≤ (fold changed d us).version
grows d [] = omega arith
grows d (c ∷ us) = omega (arith, grows_once d c, grows (changed d c) us)

pub at_least : (xs ys : List Change) → IsPrefix xs ys → (doc xs).version ≤ (doc ys).version
at_least xs ys p = subst (λ (d : Doc). (doc xs).version ≤ d.version) (sym (fold-append changed blank xs p.0) ∙ ap doc p.1) (grows (doc xs) p.0)

-- a read behind what was told
pub late : (told before us : List Change) (version : ℕ) → IsPrefix told before → IsPrefix before us → version ≡ (doc us).version → (doc told).version ≤ version
late told before us version p q is = omega (arith, at_least told before p, at_least before us q, is)
