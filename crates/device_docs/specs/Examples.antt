-- Documents that were worked out by hand.
use Rattle.std.specs.Prelude.{◌≡◌, ℕ, negsuc, true, List, [], ◌∷◌, Ok, Some, None, codes}
use Rattle.device_docs.specs.declared.changes.Change.{Change}
use Rattle.device_docs.specs.declared.changes.Scalar.TheVariants as v
use Rattle.device_docs.specs.declared.jobs.Job.{Job}
use Rattle.device_docs.specs.Changes.{change_in, fault_in}
use Rattle.device_docs.specs.Jobs.{said}

-- The digest is SHA-256 of `abc` (FIPS 180-4).
abbrev pub job_text : List ℕ
job_text = codes "{\"execution\":{\"jobId\":\"j1\",\"versionNumber\":1,\"jobDocument\":{\"afr_ota\":{\"protocols\":[\"MQTT\"],\"streamname\":\"s1\",\"files\":[{\"filepath\":\"/img\",\"filesize\":3,\"fileid\":0,\"certfile\":\"cert\",\"sig-sha256-ecdsa\":\"\",\"sha256\":\"ungWv48Bz+pBQUDeXa4iI7ADYaOWF3qctBD/YfIAFa0=\"}]}}}}"

abbrev pub example_job : Job
example_job = record {
  job = codes "j1";
  version = 1;
  stream = codes "s1";
  path = codes "/img";
  size = 3;
  file = 0;
  digest =
      186 ∷ 120 ∷ 22 ∷ 191 ∷ 143 ∷ 1 ∷ 207 ∷ 234 ∷ 65 ∷ 65 ∷ 64 ∷ 222 ∷ 93 ∷ 174 ∷ 34 ∷ 35
      ∷ 176 ∷ 3 ∷ 97 ∷ 163 ∷ 150 ∷ 23 ∷ 122 ∷ 156 ∷ 180 ∷ 16 ∷ 255 ∷ 97 ∷ 242 ∷ 0 ∷ 21 ∷ 173 ∷ [];
}

abbrev pub JobIsRead : Type 0
JobIsRead = said job_text ≡ Ok (Some example_job)

-- one member of each kind; the second `b` counts, and `B` comes before `a`
abbrev pub change_text : List ℕ
change_text = codes "{\"state\":{\"desired\":{\"a\":null,\"b\":[],\"B\":true,\"b\":\"x\",\"c\":-1}},\"version\":2}"

abbrev pub example_change : Change
example_change = record {
  version = 2;
  sets = (codes "B", Some (v.Flag true)) ∷ (codes "a", None) ∷ (codes "b", Some (v.Word (codes "x"))) ∷ (codes "c", Some (v.Int (negsuc 0))) ∷ [];
}

abbrev pub ChangeIsRead : Type 0
ChangeIsRead = (fault_in change_text ≡ None) × (change_in change_text ≡ Some example_change)
