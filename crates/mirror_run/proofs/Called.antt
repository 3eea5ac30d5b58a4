-- What a mirror prints, from its last reads and what is published.
use Rattle.std.proofs.Common.{◌≡◌, ◌≤◌, ◌<◌, ℕ, ◌+◌, ◌-◌, List, [], ◌∷◌, map, length, slice_index_or, All, Result, refl, sym, ap, ◌∙◌, arith}
use Rattle.std.proofs.lemmas.List.{length-map}
use Rattle.std.specs.List.{AllByRecursion}
use Rattle.std.specs.Result.{IfOk}
use Rattle.std.specs.declared.alloc.AllocError.{AllocError}
use Rattle.std.proofs.lemmas.List.Elements.{recursion_from_All}
use Rattle.std.proofs.lemmas.Result.{IfOk-weaker}
use Rattle.logbook.specs.Pages.{Book}
use Rattle.shadow_mirror.specs.Documents.{Doc}
use Rattle.shadow_mirror.specs.Readers.{Reading}
use Rattle.mirror_run.specs.Answers.{IsText, mirror_text}

ahead_is : (n : ℕ) (versions : List ℕ) → AllByRecursion (λ v. n ≤ v) versions → map (λ more. n + more) (map (λ v. v - n) versions) ≡ versions
ahead_is n [] late = refl
ahead_is n (v ∷ versions) late = ap (λ (k : ℕ). k ∷ map (λ more. n + more) (map (λ v. v - n) versions)) (omega (arith, late.0)) ∙ ap (λ l. v ∷ l) (ahead_is n versions late.1)

-- versions that are late enough, and a text of them
pub is_text : (count reads : ℕ) (d shown : Doc) (versions listed text : List ℕ) → listed ≡ versions → shown ≡ d → length versions ≡ count → All (λ version. d.version ≤ version) versions → text ≡ mirror_text reads listed shown
    → IsText count reads d text
is_text count reads d shown versions listed text same_versions same_doc many late is = (
  map (λ v. v - d.version) versions,
  length-map versions (λ v. v - d.version) ∙ many,
  is ∙ ap (λ l. mirror_text reads l shown) (same_versions ∙ sym (ahead_is d.version versions (recursion_from_All (λ version. d.version ≤ version) versions late))) ∙ ap (mirror_text reads (map (λ more. d.version + more) (map (λ v. v - d.version) versions))) same_doc,
)

-- the readers behind the run are still those of the mirror
pub still_theirs : (book now : Book) (readers : List Reading) (all : List (Result Reading AllocError)) → now ≡ book → length all ≡ length readers → All (λ r. r.book ≡ book) readers
    → ((i : ℕ) (d : Result Reading AllocError) (e : Reading) → i < length readers → IfOk (slice_index_or all i d) (λ r. r.book ≡ (slice_index_or readers i e).book)) → All (λ reader. IfOk reader (λ r. r.book ≡ now)) all
still_theirs book now readers all same many theirs each = λ k d within.
    let e : Reading = record { book = book; seen = []; told = [] } in
    let inside : k < length readers = omega (arith, within, many) in
    IfOk-weaker (slice_index_or all k d) (λ r. r.book ≡ (slice_index_or readers k e).book) (λ r. r.book ≡ now) (λ r is. is ∙ theirs k e inside ∙ sym same) (each k d e inside)

-- the same text, by equal parts
pub same_text : (n m reads : ℕ) (d e : Doc) (text : List ℕ) → n ≡ m → d ≡ e → IsText n reads d text → IsText m reads e text
same_text n m reads d e text many same h = (h.0, h.1 ∙ many, h.2 ∙ ap (λ (x : Doc). mirror_text reads (map (λ more. x.version + more) h.0) x) same)
