-- A bank over memory.
use Rattle.std.specs.Prelude.{◌≡◌, refl, ℕ, Bool, List, length, Option, Some, None}
use Rattle.std.specs.Option.{option_map}
use Rattle.agent_link.specs.Plans.{Planned}
use Rattle.image_store.specs.Banks.{Shape, Contents, Agree}

pub record Memory : Type 0 where
  pub kept : Option (List ℕ)
  pub fresh : Option (List ℕ)
  pub testing : Bool
  pub plan : Planned

abbrev pub shape_from : Bool → List ℕ → Shape
shape_from testing bytes = record { size = length bytes; testing = testing }

abbrev pub shape_of : Memory → Option Shape
shape_of m = option_map (shape_from m.testing) m.fresh

abbrev pub contents_of : Memory → Option Contents
contents_of m = Some (record { kept = m.kept; fresh = m.fresh })

sizes_agree : (testing : Bool) (fresh : Option (List ℕ)) → option_map (λ s. s.size) (option_map (shape_from testing) fresh) ≡ option_map length fresh
sizes_agree testing (Some bytes) = refl
sizes_agree testing None = refl

-- what it tells of its new image's size is the length of what it tells of the bytes
pub agrees : (m : Memory) → Agree (shape_of m) (contents_of m)
agrees m = sizes_agree m.testing m.fresh
