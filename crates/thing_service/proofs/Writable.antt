-- Topics that can be written, and the classes of what is read of topics.
use Rattle.std.proofs.Common.{◌≡◌, ℕ, Bool, true, false, cond, List, Option, Some, None, refl}
use Rattle.std.specs.Prelude.{◌||◌, not, IfSome}
use Rattle.thing_topics.specs.declared.jobs.JobsKind.{JobsKind}
use Rattle.thing_topics.specs.declared.jobs.JobsKind.TheVariants as kinds
use Rattle.thing_topics.specs.declared.faults.NameFault.{NameFault}
use Rattle.thing_topics.specs.declared.faults.NameFault.TheVariants as names
use Rattle.thing_topics.specs.Classes.{is_thing, is_job, is_stream}
use Rattle.thing_topics.specs.Jobs as jobs
use Rattle.thing_topics.specs.Streams as streams
use Rattle.thing_service.specs.Asking.{is_update}

pub is_next_topic : (thing : List ℕ) → is_thing thing ≡ true → jobs.fault_of thing None kinds.StartNextAccepted ≡ None
unfolding jobs.fault_of
is_next_topic thing e = rw e refl

pub is_update_topic : (thing job : List ℕ) → is_thing thing ≡ true → is_job job ≡ true → jobs.fault_of thing (Some job) kinds.UpdateAccepted ≡ None
unfolding jobs.fault_of
is_update_topic thing job e f = rw (e, f) refl

pub is_stream_topic : (thing stream : List ℕ) → is_thing thing ≡ true → is_stream stream ≡ true → streams.fault_of thing stream ≡ None
unfolding streams.fault_of
is_stream_topic thing stream e f = rw (e, f) refl

by_tests : (a b : Bool) (x y : NameFault) → cond (not a) (Some x) (cond (not b) (Some y) None) ≡ None → b ≡ true
by_tests true true x y e = refl
by_tests true false x y e = absurd cc
by_tests false b x y e = absurd cc

alone : (b : Bool) → (b || false) ≡ true → b ≡ true
alone true e = refl
alone false e = absurd cc

of_class : (job : Option (List ℕ)) → jobs.has_class kinds.Update job ≡ true → IfSome job (λ name. is_job name ≡ true)
of_class None e = tt
of_class (Some name) e = alone (is_job name) e

updates : (job : Option (List ℕ)) (kind : JobsKind) → jobs.has_class kind job ≡ true → is_update kind ≡ true → IfSome job (λ name. is_job name ≡ true)
updates job kinds.Notify h e = absurd cc
updates job kinds.NotifyNext h e = absurd cc
updates job kinds.Pending h e = absurd cc
updates job kinds.PendingAccepted h e = absurd cc
updates job kinds.PendingRejected h e = absurd cc
updates job kinds.StartNext h e = absurd cc
updates job kinds.StartNextAccepted h e = absurd cc
updates job kinds.StartNextRejected h e = absurd cc
updates job kinds.Describe h e = absurd cc
updates job kinds.DescribeAccepted h e = absurd cc
updates job kinds.DescribeRejected h e = absurd cc
updates job kinds.Update h e = of_class job h
updates job kinds.UpdateAccepted h e = absurd cc
updates job kinds.UpdateRejected h e = absurd cc

-- the job of a topic that updates one
pub job_class : (thing : List ℕ) (job : Option (List ℕ)) (kind : JobsKind) → jobs.fault_of thing job kind ≡ None → is_update kind ≡ true → IfSome job (λ name. is_job name ≡ true)
unfolding jobs.fault_of
job_class thing job kind none e = updates job kind (by_tests (is_thing thing) (jobs.has_class kind job) names.Thing names.Job none) e

-- the stream of a topic
pub stream_class : (thing stream : List ℕ) → streams.fault_of thing stream ≡ None → is_stream stream ≡ true
unfolding streams.fault_of
stream_class thing stream none = by_tests (is_thing thing) (is_stream stream) names.Thing names.Stream none
