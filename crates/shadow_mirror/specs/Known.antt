-- What a reader and the writer know of the page: the name of its history. And what a step tells.
use Rattle.std.specs.Prelude.{◌≡◌, ℕ, List}
use mathlib.Core.Option.{some}
use lib.ListN.{get_elem?}
use Rattle.logbook.specs.Pages.{Book}
use Rattle.shadow_mirror.specs.Pasts.{Past}
use Rattle.shadow_mirror.specs.declared.known.Known.{Known}
use Rattle.shadow_mirror.specs.declared.known.Known.TheVariants.{Nothing, Of}

abbrev pub Fits : Known → Book → Type 0
Fits Nothing b = Unit {0}
Fits (Of number log cells) b = b ≡ record { number = number; log_name = log; cells_name = cells }

abbrev pub known_of : Book → Known
known_of b = Of b.number b.log_name b.cells_name

abbrev pub AllFit : Past → List Known → Type 0
AllFit p views = (seat : ℕ) (v : Known) → get_elem? views seat ≡ some v → Fits v p.book

abbrev pub Sights : Known → Past → Past → Known → Type 0
Sights v x y w = Fits v x.book × (w ≡ known_of y.book)
