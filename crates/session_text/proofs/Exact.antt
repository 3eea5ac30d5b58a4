-- A reader that is the inverse of a text, and what one such reader behind another gives.
use Rattle.std.proofs.Common.{◌≡◌, ℕ, List, ◌++◌, Option, Some, ap, ◌∙◌, append_assoc}
use Rattle.mqtt_packet.specs.Reading.{◌>>=◌}
use Rattle.mqtt_packet.specs.Stream.{AreBytes}
use Rattle.mqtt_packet.proofs.Numbers.{Takes, bind_some}

pub record Exact (A : Type 0) (item : List ℕ → Option (A × List ℕ)) (text : A → List ℕ) (Is : A → Type 0) : Type 1 where
  pub read : (x : A) (rest : List ℕ) → Is x → item (text x ++ rest) ≡ Some (x, rest)
  pub took : (bytes : List ℕ) (x : A) (rest : List ℕ) → AreBytes bytes → item bytes ≡ Some (x, rest) → Takes bytes (text x) rest × Is x

-- the first of some readers
pub read_on : {A B : Type 0} (item : List ℕ → Option (A × List ℕ)) (text more rest : List ℕ) (x : A) (next : A × List ℕ → Option B) (result : Option B)
    → item (text ++ (more ++ rest)) ≡ Some (x, more ++ rest) → next (x, more ++ rest) ≡ result → (item ((text ++ more) ++ rest) >>= next) ≡ result
read_on item text more rest x next result read behind =
    ap (λ (bytes : List ℕ). item bytes >>= next) (append_assoc text more rest) ∙ ap (λ (o : Option _). o >>= next) read ∙ behind

-- the last of them
pub read_last : {A B : Type 0} (item : List ℕ → Option (A × List ℕ)) (text rest : List ℕ) (x : A) (next : A × List ℕ → Option B) (result : Option B)
    → item (text ++ rest) ≡ Some (x, rest) → next (x, rest) ≡ result → (item (text ++ rest) >>= next) ≡ result
read_last item text rest x next result read behind = ap (λ (o : Option _). o >>= next) read ∙ behind

-- what a reader took, and what is read behind it
pub record Took (A B : Type 0) (text : A → List ℕ) (Is : A → Type 0) (bytes : List ℕ) (next : A × List ℕ → Option B) (y : B) : Type 0 where
  pub value : A
  pub rest : List ℕ
  pub takes : Takes bytes (text value) rest
  pub is : Is value
  pub next_is : next (value, rest) ≡ Some y

pub took_on : {A B : Type 0} (item : List ℕ → Option (A × List ℕ)) (text : A → List ℕ) (Is : A → Type 0) (exact : Exact A item text Is) (bytes : List ℕ) (next : A × List ℕ → Option B) (y : B) → AreBytes bytes → (item bytes >>= next) ≡ Some y
    → Took A B text Is bytes next y
took_on item text Is exact bytes next y fits e =
    let b = bind_some (item bytes) next y e in
    let t = exact.took bytes b.0.0 b.0.1 fits b.1 in
    record { value = b.0.0; rest = b.0.1; takes = t.0; is = t.1; next_is = b.2 }
