-- The topics of a service.
use Rattle.std.specs.Prelude.{ℕ, Bool, List}
use Rattle.thing_script.specs.declared.kinds.Service.{Service}
use Rattle.thing_script.specs.declared.kinds.Service.TheVariants as services
use Rattle.thing_script.specs.Kinds.{is_jobs_of, is_shadow_of}

abbrev pub is_of : Service → List ℕ → List ℕ → Bool
is_of services.Shadow = is_shadow_of
is_of services.Jobs = is_jobs_of
