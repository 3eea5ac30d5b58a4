-- What a text that was written, or a front of it, says of a command's end.
use Rattle.std.proofs.Common.{◌≡◌, ◌⊎◌, ℕ, List, Option, Result, Ok, Err, refl, sym, ◌∙◌, subst, arith, inl, inr, true, false, cond, ap}
use Rattle.std.specs.Prelude.{◌==◌}
use Rattle.std.proofs.lemmas.Bool.{ne_eqb}
use Rattle.agent_link.specs.Counts.{counted, raised}
use Rattle.agent_link.specs.Writes.{Writes}
use Rattle.agent_link.specs.declared.fault.Fault.{Fault}
use Rattle.agent_link.specs.declared.fault.Fault.TheVariants as faults
use Rattle.command_answers.specs.Answers.{Ends, IsPlain, answer, exit_status, sink_now}

by_result : (r : Result (Unit {0}) Fault) (status : ℕ) (old new : Option (List ℕ)) (before now : ℕ) (text : List ℕ) → IsPlain status → Writes old new r text → now ≡ counted r before
    → Ends (exit_status r status) (sink_now old before) (sink_now new now) (answer status text)
by_result (Ok u) status old new before now text plain h count = record {
  whole = λ n m. h;
  told = λ n m. refl;
  memory = λ e. absurd (plain.not_memory e);
  sink = λ e. absurd (plain.not_sink e);
  faults = count ∙ ap (λ b. cond b (raised before) before) (sym (ne_eqb status 8 plain.not_sink));
}
by_result (Err faults.Failed) status old new before now text plain h count = record {
  whole = λ n m. absurd (m refl);
  told = λ n m. absurd (m refl);
  memory = λ e. absurd (omega (arith, e));
  sink = λ e. h;
  faults = count;
}
by_result (Err faults.NoMemory) status old new before now text plain h count = record {
  whole = λ n m. absurd (n refl);
  told = λ n m. absurd (n refl);
  memory = λ e. h;
  sink = λ e. absurd (omega (arith, e));
  faults = count;
}

-- the whole text was written, or a front of it where the sink failed or had no memory
pub ends : (result : ℕ) (r : Result (Unit {0}) Fault) (status : ℕ) (old new : Option (List ℕ)) (before now : ℕ) (text : List ℕ) → result ≡ exit_status r status → IsPlain status → Writes old new r text
    → now ≡ counted r before → Ends result (sink_now old before) (sink_now new now) (answer status text)
ends result r status old new before now text e plain h count = rw e (by_result r status old new before now text plain h count)

pub one_of : (result : ℕ) (r : Result (Unit {0}) Fault) (status : ℕ) → result ≡ exit_status r status → (result ≡ status) ⊎ (result ≡ 7) ⊎ (result ≡ 8)
one_of result (Ok u) status e = inl e
one_of result (Err faults.Failed) status e = inr (inr e)
one_of result (Err faults.NoMemory) status e = inr (inl e)
