-- Behind a publish all that waited is published.
use Rattle.std.proofs.Common.{◌≡◌, ℕ, List, [], ◌++◌, length, take, Option, Some, None, IsSomeAnd, fold, ap, sym, ◌∙◌, arith}
use Rattle.std.proofs.lemmas.List.{take_all}
use Rattle.device_docs.specs.declared.changes.Change.{Change}
use Rattle.shadow_mirror.specs.Documents.{changed, doc}
use Rattle.shadow_mirror.specs.Pasts.{Past}
use Rattle.shadow_mirror.specs.Writers.{or_else}
use Rattle.shadow_mirror.proofs.Docs.{doc_more}

-- what the history has where all that waited was added to it
pub all_logged : {W : Type 0} (old : Option W) (f : W → Past) (P Q : W → Type 0) (before h : Past) (pending waiting : List Change) (logged n : ℕ) → waiting ≡ pending
    → IsSomeAnd old (λ x. P x × Q x × (before.changes ≡ (f x).changes ++ take logged pending))
    → ((base : List Change) → before.changes ≡ base ++ take logged waiting → h.changes ≡ base ++ take n waiting)
    → n ≡ length waiting → h.changes ≡ (or_else before old f).changes ++ pending
all_logged None f P Q before h pending waiting logged n same known more all = absurd known
all_logged (Some x) f P Q before h pending waiting logged n same known more all =
    more (f x).changes (known.2 ∙ ap (λ (l : List Change). (f x).changes ++ take logged l) (sym same)) ∙ ap (λ (l : List Change). (f x).changes ++ l) (take_all n waiting (omega (arith, all)) ∙ same)

-- the next document is that of the history then
pub next_is : {W : Type 0} (old : Option W) (f : W → Past) (before : Past) (pending us : List Change) (P : W → Type 0) → IsSomeAnd old P
    → us ≡ (or_else before old f).changes ++ pending → fold changed (or_else (doc []) old (λ x. doc (f x).changes)) pending ≡ doc us
next_is None f before pending us P known is = absurd known
next_is (Some x) f before pending us P known is = doc_more (f x).changes pending ∙ sym (ap doc is)

-- what is shown is published
pub shown_is : {W : Type 0} (new : Option W) (w : W) (f : W → Past) (h page : Past) (us : List Change) → new ≡ Some w → f w ≡ page → page ≡ h → h.changes ≡ us → (or_else h new f).changes ≡ us
shown_is new w f h page us is shown same all = ap (λ o. (or_else h o f).changes) is ∙ ap (λ (p : Past). p.changes) (shown ∙ same) ∙ all
