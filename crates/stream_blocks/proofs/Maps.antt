-- The members of a map: those that are read are those of the grammar, and what is found is what they say.
use Rattle.std.proofs.Common.{◌≡◌, ℕ, zero, suc, ◌+◌, ◌<◌, true, false, cond, List, [], ◌∷◌, ◌++◌, length, set, Option, Some, None, Result, Ok, Err, refl, sym, ap, subst, ◌∙◌, arith, inl, inr, ⊎_elim, append_assoc}
use Rattle.std.specs.Prelude.{◌⊎◌, ◌==◌}
use Rattle.std.specs.Option.{option_map}
use Rattle.std.specs.Str.{bytes_eq}
use Rattle.std.proofs.lemmas.Bool.{cases_Bool, eqb-true, ne_eqb}
use Rattle.std.proofs.lemmas.Slice.Eq.{bytes_eq-Decides}
use Rattle.stream_blocks.specs.declared.fault.Stop.{Stop}
use Rattle.stream_blocks.specs.declared.fault.Stop.TheVariants as s
use Rattle.stream_blocks.specs.declared.fields.Fields.{Fields}
use Rattle.stream_blocks.specs.declared.keys.Form.{Form}
use Rattle.stream_blocks.specs.declared.keys.Key.{Key}
use Rattle.stream_blocks.specs.Grammar.{AreBytes, IsPiece, IsValue, Member, AreMembers, values}
use Rattle.stream_blocks.specs.Reading.{◌>>=◌, or_bad, or_else, piece_at, break_at, value_end, letter, wanted, has, value_for, behind_key, member_at, map_end, one_less, members_in}
use Rattle.stream_blocks.proofs.Backward.{split, bytes_behind, piece_back, break_back, value_back}
use Rattle.stream_blocks.proofs.Relation.{piece_is, no_break, values_are_read}
use Rattle.stream_blocks.proofs.Members.{at_member, at_map_end}
use Rattle.stream_blocks.proofs.Slots.{noting, noting_parts, slot, slots, place, free, not_yet, slot_here, slot_there, IsWanted, wanted_text, Kept, kept_value, value_noted, IsKind, IsFew, value_read}

-- ---- What members leave of a key

-- these bytes are the end of the message
abbrev pub IsTail : List ℕ → List ℕ → Type 0
IsTail message bytes = (front : List ℕ) × (message ≡ front ++ bytes)

-- the values of a key
abbrev pub valued : Key → List Member → List (List ℕ)
valued key ms = values (letter key ∷ []) ms

-- The key has one value, which was noted.
pub record Was (message : List ℕ) (key : Key) (old : Option ℕ) (ms : List Member) (new : Option ℕ) : Type 0 where
  pub value : List ℕ
  pub behind : List ℕ
  pub kept : ℕ
  pub free : old ≡ None
  pub one : valued key ms ≡ value ∷ []
  pub tail : IsTail message (value ++ behind)
  pub is : Kept key value (length (value ++ behind)) kept
  pub now : new ≡ Some kept

abbrev pub From : List ℕ → Key → Option ℕ → List Member → Option ℕ → Type 0
From message key old ms new = ((valued key ms ≡ []) × (new ≡ old)) ⊎ Was message key old ms new

-- The values of a key can be noted.
abbrev pub Fits : Key → Option ℕ → List Member → Type 0
Fits key old ms = (valued key ms ≡ []) ⊎ ((old ≡ None) × (value : List ℕ) × (valued key ms ≡ value ∷ []) × IsKind key value)

abbrev pub AllFew : Key → List (List ℕ) → Type 0
AllFew key [] = Unit {0}
AllFew key (value ∷ others) = IsFew key value × AllFew key others

valued_apart : (key : Key) (m : Member) (ms : List Member) → bytes_eq m.key (letter key ∷ []) ≡ false → valued key (m ∷ ms) ≡ valued key ms
valued_apart key m ms e = rw e refl

valued_here : (key : Key) (m : Member) (ms : List Member) → bytes_eq m.key (letter key ∷ []) ≡ true → valued key (m ∷ ms) ≡ m.value ∷ valued key ms
valued_here key m ms e = rw e refl

from_apart : (message : List ℕ) (key : Key) (old more new : Option ℕ) (m : Member) (ms : List Member) → bytes_eq m.key (letter key ∷ []) ≡ false → more ≡ old → From message key more ms new → From message key old (m ∷ ms) new
from_apart message key old more new m ms e same (inl h) = inl (valued_apart key m ms e ∙ h.0, h.1 ∙ same)
from_apart message key old more new m ms e same (inr w) =
    inr (record { value = w.value; behind = w.behind; kept = w.kept; free = sym same ∙ w.free; one = valued_apart key m ms e ∙ w.one; tail = w.tail; is = w.is; now = w.now })

from_here : (message : List ℕ) (key : Key) (old more new : Option ℕ) (m : Member) (ms : List Member) (behind : List ℕ) (kept : ℕ) → bytes_eq m.key (letter key ∷ []) ≡ true → old ≡ None → more ≡ Some kept
    → IsTail message (m.value ++ behind) → Kept key m.value (length (m.value ++ behind)) kept → From message key more ms new → From message key old (m ∷ ms) new
from_here message key old more new m ms behind kept e free noted tail is (inl h) =
    inr (record { value = m.value; behind = behind; kept = kept; free = free; one = valued_here key m ms e ∙ ap (λ (t : List (List ℕ)). m.value ∷ t) h.0; tail = tail; is = is; now = h.1 ∙ noted })
from_here message key old more new m ms behind kept e free noted tail is (inr w) = absurd (let none : Some kept ≡ None = sym noted ∙ w.free in cc)

-- what a member does to each key of the message
abbrev Does : Form → List ℕ → Fields → Fields → Member → Type 0
Does form message found more m = (key : Key) → IsWanted form key → (ms : List Member) (new : Option ℕ) → From message key (slot key more) ms new → From message key (slot key found) (m ∷ ms) new

named : (form : Form) (text : List ℕ) (key : Key) → IsWanted form key → bytes_eq text (letter key ∷ []) ≡ true → wanted form text ≡ Some key
named form text key is e = ap (wanted form) ((bytes_eq-Decides text (letter key ∷ [])).0 e) ∙ is

does_nothing : (form : Form) (message : List ℕ) (found : Fields) (m : Member) → wanted form m.key ≡ None → Does form message found found m
does_nothing form message found m none key is ms new h =
    ⊎_elim (λ t. absurd (let e : Some key ≡ None = sym (named form m.key key is t) ∙ none in cc)) (λ f. from_apart message key (slot key found) (slot key found) new m ms f refl h) (cases_Bool (bytes_eq m.key (letter key ∷ [])))

apart_letters : (text : List ℕ) (this other : Key) → text ≡ letter this ∷ [] → bytes_eq text (letter other ∷ []) ≡ false → letter this ≡ letter other → ⊥
apart_letters text this other e f same =
    let is : bytes_eq text (letter other ∷ []) ≡ true = (bytes_eq-Decides text (letter other ∷ [])).1 (e ∙ ap (λ (n : ℕ). n ∷ []) same) in
    let no : true ≡ false = sym is ∙ f in cc

does_note : (form : Form) (message : List ℕ) (found more : Fields) (m : Member) (this : Key) (behind : List ℕ) (kept : ℕ) → wanted form m.key ≡ Some this → slot this found ≡ None
    → slots more ≡ set (slots found) (place this) (Some kept) → IsTail message (m.value ++ behind) → Kept this m.value (length (m.value ++ behind)) kept → Does form message found more m
does_note form message found more m this behind kept e free new tail is key wanted_key ms last h =
    ⊎_elim
    (λ t. let both : Some this ≡ Some key = sym e ∙ named form m.key key wanted_key t in
    let same : this ≡ key = cc in
    from_here message key (slot key found) (slot key more) last m ms behind kept t (ap (λ (x : Key). slot x found) (sym same) ∙ free)
    (ap (λ (x : Key). slot x more) (sym same) ∙ slot_here this found more kept new) tail (subst (λ (x : Key). Kept x m.value (length (m.value ++ behind)) kept) same is) h)
    (λ f. from_apart message key (slot key found) (slot key more) last m ms f (slot_there this key found more kept (apart_letters m.key this key (wanted_text form m.key this e) f) new) h)
    (cases_Bool (bytes_eq m.key (letter key ∷ [])))

-- ---- What is read is members

-- a member, and what it does
record Step (form : Form) (message : List ℕ) (found more : Fields) (bytes behind : List ℕ) : Type 0 where
  m : Member
  name : List ℕ
  parts : bytes ≡ name ++ (m.value ++ behind)
  key : IsPiece 3 name m.key
  value : IsValue m.value
  does : Does form message found more m

tail_behind : (message front bytes item rest : List ℕ) → message ≡ front ++ bytes → bytes ≡ item ++ rest → IsTail message rest
tail_behind message front bytes item rest e f = (front ++ item, e ∙ ap (λ (t : List ℕ). front ++ t) f ∙ sym (append_assoc front item rest))

step_other : (form : Form) (message : List ℕ) (found more : Fields) (bytes rest : List ℕ) (name : List ℕ) (text behind : List ℕ) (end : Result (List ℕ) Stop) → AreBytes behind → bytes ≡ name ++ behind → IsPiece 3 name text → wanted form text ≡ None
    → value_end behind ≡ end → (end >>= λ rest. noting found rest) ≡ Ok (more, rest) → Step form message found more bytes rest
step_other form message found more bytes rest name text behind (Err stop) are parts piece none h e = absurd cc
step_other form message found more bytes rest name text behind (Ok end) are parts piece none h e =
    let p = noting_parts found more end rest e in
    let v = value_back behind end are h in
    let m : Member = record { key = text; value = v.item } in
    record {
      m = m;
      name = name;
      parts = parts ∙ ap (λ (t : List ℕ). name ++ t) (v.parts ∙ ap (λ (t : List ℕ). v.item ++ t) p.1);
      key = piece;
      value = v.is;
      does = subst (λ (f : Fields). Does form message found f m) p.0 (does_nothing form message found m none);
    }

step_wanted : (form : Form) (message : List ℕ) (found more : Fields) (bytes rest : List ℕ) (name : List ℕ) (text behind : List ℕ) (this : Key) → AreBytes behind → IsTail message behind → bytes ≡ name ++ behind → IsPiece 3 name text
    → wanted form text ≡ Some this → cond (has this found) (Err (s.Twice (letter this))) (value_for this found behind) ≡ Ok (more, rest) → Step form message found more bytes rest
step_wanted form message found more bytes rest name text behind this are tail parts piece is e =
    ⊎_elim (λ t. absurd (let no = t.1 in cc))
    (λ f. let v = value_noted this found more behind rest are f.1 in
    let m : Member = record { key = text; value = v.value } in
    record {
      m = m;
      name = name;
      parts = parts ∙ ap (λ (t : List ℕ). name ++ t) v.parts;
      key = piece;
      value = kept_value this v.value (length behind) v.kept v.is;
      does = does_note form message found more m this rest v.kept is (free this found f.0) v.new (tail.0, tail.1 ∙ ap (λ (t : List ℕ). tail.0 ++ t) v.parts)
          (subst (λ (t : List ℕ). Kept this v.value (length t) v.kept) v.parts v.is);
    })
    (split (has this found) (Err (s.Twice (letter this))) (value_for this found behind) (Ok (more, rest)) e)

step_by : (form : Form) (message : List ℕ) (found more : Fields) (bytes rest : List ℕ) (name : List ℕ) (text behind : List ℕ) (key : Option Key) → AreBytes behind → IsTail message behind → bytes ≡ name ++ behind → IsPiece 3 name text
    → wanted form text ≡ key → behind_key key found behind ≡ Ok (more, rest) → Step form message found more bytes rest
step_by form message found more bytes rest name text behind None are tail parts piece is e = step_other form message found more bytes rest name text behind (value_end behind) are parts piece is refl e
step_by form message found more bytes rest name text behind (Some this) are tail parts piece is e = step_wanted form message found more bytes rest name text behind this are tail parts piece is e

step_piece : (form : Form) (message : List ℕ) (found more : Fields) (bytes rest : List ℕ) (piece : Option (List ℕ × List ℕ)) → AreBytes bytes → IsTail message bytes → piece_at 3 bytes ≡ piece
    → (or_bad bytes piece >>= λ key. behind_key (wanted form key.0) found key.1) ≡ Ok (more, rest) → Step form message found more bytes rest
step_piece form message found more bytes rest None are tail p e = absurd cc
step_piece form message found more bytes rest (Some piece) are tail p e =
    let b = piece_back 3 bytes piece.0 piece.1 are p in
    step_by form message found more bytes rest b.item piece.0 piece.1 (wanted form piece.0) (bytes_behind b.item piece.1 bytes b.parts are) (tail_behind message tail.0 bytes b.item piece.1 tail.1 b.parts) b.parts b.is refl e

step : (form : Form) (message : List ℕ) (found more : Fields) (bytes rest : List ℕ) → AreBytes bytes → IsTail message bytes → member_at form found bytes ≡ Ok (more, rest) → Step form message found more bytes rest
unfolding member_at
step form message found more bytes rest are tail e = step_piece form message found more bytes rest (piece_at 3 bytes) are tail refl e

-- what closes a map, and what stands behind it
abbrev pub closing : Option ℕ → List ℕ → List ℕ
closing None rest = 255 ∷ rest
closing (Some left) rest = rest

abbrev pub IsCount : Option ℕ → ℕ → Type 0
IsCount None len = Unit {0}
IsCount (Some left) len = len ≡ left

closing_less : (left : Option ℕ) (rest : List ℕ) → closing (one_less left) rest ≡ closing left rest
closing_less None rest = refl
closing_less (Some left) rest = refl

-- The members that were read, and what they left of each key.
pub record Told (form : Form) (message : List ℕ) (left : Option ℕ) (found new : Fields) (bytes rest : List ℕ) : Type 0 where
  pub ms : List Member
  pub inside : List ℕ
  pub parts : bytes ≡ inside ++ closing left rest
  pub are : AreMembers ms inside
  pub count : IsCount left (length ms)
  pub keys : (key : Key) → IsWanted form key → From message key (slot key found) ms (slot key new)

record Ended (left : Option ℕ) (bytes rest : List ℕ) : Type 0 where
  parts : bytes ≡ closing left rest
  count : IsCount left 0

ended : (left : Option ℕ) (bytes rest : List ℕ) → map_end left bytes ≡ Some rest → Ended left bytes rest
unfolding map_end
ended None bytes rest e = record { parts = break_back bytes rest e; count = tt }
ended (Some left) bytes rest e =
    ⊎_elim (λ t. let same : bytes ≡ rest = (let e = t.1 in cc) in record { parts = same; count = sym (eqb-true left 0 t.0) }) (λ f. absurd (let no = f.1 in cc)) (split (left == 0) (Some bytes) None (Some rest) e)

counted_more : (left : Option ℕ) (bytes : List ℕ) (len : ℕ) → map_end left bytes ≡ None → IsCount (one_less left) len → IsCount left (suc len)
unfolding map_end
counted_more None bytes len none h = tt
counted_more (Some left) bytes len none h =
    ⊎_elim (λ t. absurd (let no = t.1 in cc)) (λ f. omega (arith, h, nonzero left f.0)) (split (left == 0) (Some bytes) None None none)
  where
    nonzero : (n : ℕ) → (n == 0) ≡ false → 0 < n
    nonzero zero e = absurd cc
    nonzero (suc n) e = omega arith

told_more : (form : Form) (message : List ℕ) (left : Option ℕ) (found more new : Fields) (bytes behind rest : List ℕ) → map_end left bytes ≡ None → Step form message found more bytes behind
    → Told form message (one_less left) more new behind rest → Told form message left found new bytes rest
told_more form message left found more new bytes behind rest none first others = record {
  ms = first.m ∷ others.ms;
  inside = first.name ++ (first.m.value ++ others.inside);
  parts = first.parts
      ∙ ap (λ (t : List ℕ). first.name ++ (first.m.value ++ t)) (others.parts ∙ ap (λ (t : List ℕ). others.inside ++ t) (closing_less left rest))
      ∙ ap (λ (t : List ℕ). first.name ++ t) (sym (append_assoc first.m.value others.inside (closing left rest)))
      ∙ sym (append_assoc first.name (first.m.value ++ others.inside) (closing left rest));
  are = (first.name, others.inside, refl, first.key, first.value, others.are);
  count = counted_more left bytes (length others.ms) none others.count;
  keys = λ key is. first.does key is others.ms (slot key new) (others.keys key is);
}

told_by : (form : Form) (message : List ℕ) (most : ℕ) (left : Option ℕ) (found new : Fields) (bytes rest : List ℕ) (end : Option (List ℕ)) (next : Result (Fields × List ℕ) Stop) → AreBytes bytes → IsTail message bytes
    → ((more : Fields) (behind : List ℕ) → AreBytes behind → IsTail message behind → members_in form most (one_less left) more behind ≡ Ok (new, rest) → Told form message (one_less left) more new behind rest)
    → map_end left bytes ≡ end → member_at form found bytes ≡ next
    → or_else (option_map (λ (rest : List ℕ). (found, rest)) end) (next >>= λ x. members_in form most (one_less left) x.0 x.1) ≡ Ok (new, rest) → Told form message left found new bytes rest
told_by form message most left found new bytes rest (Some end) next are tail others h n e =
    let p = noting_parts found new end rest e in
    let last = ended left bytes end h in
    record { ms = []; inside = []; parts = last.parts ∙ ap (closing left) p.1; are = refl; count = last.count; keys = λ key is. inl (refl, ap (slot key) (sym p.0)) }
told_by form message most left found new bytes rest None (Err stop) are tail others h n e = absurd cc
told_by form message most left found new bytes rest None (Ok next) are tail others h n e =
    let first = step form message found next.0 bytes next.1 are tail n in
    let item = first.name ++ first.m.value in
    let parts : bytes ≡ item ++ next.1 = first.parts ∙ sym (append_assoc first.name first.m.value next.1) in
    told_more form message left found next.0 new bytes next.1 rest h first (others next.0 next.1 (bytes_behind item next.1 bytes parts are) (tail_behind message tail.0 bytes item next.1 tail.1 parts) e)

pub told : (form : Form) (message : List ℕ) (most : ℕ) (left : Option ℕ) (found new : Fields) (bytes rest : List ℕ) → AreBytes bytes → IsTail message bytes → members_in form most left found bytes ≡ Ok (new, rest) → Told form message left found new bytes rest
unfolding members_in
told form message zero left found new bytes rest are tail e = absurd cc
told form message (suc most) left found new bytes rest are tail e =
    told_by form message most left found new bytes rest (map_end left bytes) (member_at form found bytes) are tail (λ more behind fits there h. told form message most (one_less left) more new behind rest fits there h) refl refl e

-- ---- Members are read

-- A member is read, and what it does.
record Passing (form : Form) (message : List ℕ) (found : Fields) (m : Member) (bytes behind : List ℕ) (ms : List Member) : Type 0 where
  more : Fields
  read : member_at form found bytes ≡ Ok (more, behind)
  does : Does form message found more m
  fits : (key : Key) → IsWanted form key → Fits key (slot key found) (m ∷ ms) → Fits key (slot key more) ms
  few : ((key : Key) → IsWanted form key → AllFew key (valued key (m ∷ ms))) → found.too_big ≡ None → more.too_big ≡ None

fits_apart : (key : Key) (old more : Option ℕ) (m : Member) (ms : List Member) → bytes_eq m.key (letter key ∷ []) ≡ false → more ≡ old → Fits key old (m ∷ ms) → Fits key more ms
fits_apart key old more m ms e same (inl none) = inl (sym (valued_apart key m ms e) ∙ none)
fits_apart key old more m ms e same (inr h) = inr (same ∙ h.0, h.1, sym (valued_apart key m ms e) ∙ h.2, h.3)

-- the one value of a key that stands first
record First (key : Key) (old : Option ℕ) (m : Member) (ms : List Member) : Type 0 where
  free : old ≡ None
  none : valued key ms ≡ []
  kind : IsKind key m.value

fits_here : (key : Key) (old : Option ℕ) (m : Member) (ms : List Member) → bytes_eq m.key (letter key ∷ []) ≡ true → Fits key old (m ∷ ms) → First key old m ms
fits_here key old m ms e (inl none) = absurd (let no : m.value ∷ valued key ms ≡ [] = sym (valued_here key m ms e) ∙ none in cc)
fits_here key old m ms e (inr h) =
    let same : m.value ∷ valued key ms ≡ h.1 ∷ [] = sym (valued_here key m ms e) ∙ h.2 in
    let value : m.value ≡ h.1 = cc in
    let none : valued key ms ≡ [] = cc in
    record { free = h.0; none = none; kind = subst (IsKind key) (sym value) h.3 }

passing_other : (form : Form) (message : List ℕ) (found : Fields) (m : Member) (name behind : List ℕ) (ms : List Member) → IsPiece 3 name m.key → IsValue m.value → wanted form m.key ≡ None → Passing form message found m (name ++ (m.value ++ behind)) behind ms
unfolding member_at
passing_other form message found m name behind ms key value none = record {
  more = found;
  read = rw (piece_is 3 name m.key (m.value ++ behind) key, none, values_are_read m.value behind value) refl;
  does = does_nothing form message found m none;
  fits = λ key is h.
      ⊎_elim (λ t. absurd (let e : Some key ≡ None = sym (named form m.key key is t) ∙ none in cc)) (λ f. fits_apart key (slot key found) (slot key found) m ms f refl h) (cases_Bool (bytes_eq m.key (letter key ∷ [])));
  few = λ few e. e;
}

-- the key that stands first is wanted
named_here : (form : Form) (text : List ℕ) (this : Key) → wanted form text ≡ Some this → bytes_eq text (letter this ∷ []) ≡ true
named_here form text this e = (bytes_eq-Decides text (letter this ∷ [])).1 (wanted_text form text this e)

is_wanted : (form : Form) (text : List ℕ) (this : Key) → wanted form text ≡ Some this → IsWanted form this
is_wanted form text this e = ap (wanted form) (sym (wanted_text form text this e)) ∙ e

passing_wanted : (form : Form) (message : List ℕ) (found : Fields) (m : Member) (name behind : List ℕ) (ms : List Member) (this : Key) → IsTail message (m.value ++ behind) → IsPiece 3 name m.key → wanted form m.key ≡ Some this
    → First this (slot this found) m ms → Passing form message found m (name ++ (m.value ++ behind)) behind ms
unfolding member_at
passing_wanted form message found m name behind ms this tail key is first =
    let v = value_read this found m.value behind first.kind in
    record {
      more = v.more;
      read = rw (piece_is 3 name m.key (m.value ++ behind) key, is, not_yet this found first.free) v.read;
      does = does_note form message found v.more m this behind v.kept is first.free v.new tail v.is;
      fits = λ key wanted_key h.
          ⊎_elim
          (λ t. let both : Some this ≡ Some key = sym is ∙ named form m.key key wanted_key t in
          let same : this ≡ key = cc in
          inl (ap (λ (x : Key). valued x ms) (sym same) ∙ first.none))
          (λ f. fits_apart key (slot key found) (slot key v.more) m ms f (slot_there this key found v.more v.kept (apart_letters m.key this key (wanted_text form m.key this is) f) v.new) h)
          (cases_Bool (bytes_eq m.key (letter key ∷ [])));
      few = λ few e. v.few (subst (AllFew this) (valued_here this m ms (named_here form m.key this is)) (few this (is_wanted form m.key this is))).0 e;
    }

passing_by : (form : Form) (message : List ℕ) (found : Fields) (m : Member) (name behind : List ℕ) (ms : List Member) (key : Option Key) → IsTail message (m.value ++ behind) → IsPiece 3 name m.key → IsValue m.value → wanted form m.key ≡ key
    → ((key : Key) → IsWanted form key → Fits key (slot key found) (m ∷ ms)) → Passing form message found m (name ++ (m.value ++ behind)) behind ms
passing_by form message found m name behind ms None tail key value is fits = passing_other form message found m name behind ms key value is
passing_by form message found m name behind ms (Some this) tail key value is fits =
    passing_wanted form message found m name behind ms this tail key is (fits_here this (slot this found) m ms (named_here form m.key this is) (fits this (is_wanted form m.key this is)))

few_behind : (key : Key) (m : Member) (ms : List Member) → AllFew key (valued key (m ∷ ms)) → AllFew key (valued key ms)
few_behind key m ms h =
    ⊎_elim (λ t. (subst (AllFew key) (valued_here key m ms t) h).1) (λ f. subst (AllFew key) (valued_apart key m ms f) h) (cases_Bool (bytes_eq m.key (letter key ∷ [])))

-- The members are read, and what they leave of each key.
pub record Read (form : Form) (message : List ℕ) (left : Option ℕ) (found : Fields) (ms : List Member) (bytes rest : List ℕ) : Type 0 where
  pub new : Fields
  pub read : members_in form (length bytes + 1) left found bytes ≡ Ok (new, rest)
  pub keys : (key : Key) → IsWanted form key → From message key (slot key found) ms (slot key new)
  pub few : ((key : Key) → IsWanted form key → AllFew key (valued key ms)) → found.too_big ≡ None → new.too_big ≡ None

closed : (left : Option ℕ) (rest : List ℕ) → IsCount left 0 → map_end left (closing left rest) ≡ Some rest
unfolding map_end break_at
closed None rest h = refl
closed (Some left) rest h = rw (sym h) refl

not_closed : (left : Option ℕ) (name behind text : List ℕ) (len : ℕ) → IsCount left (suc len) → IsPiece 3 name text → map_end left (name ++ behind) ≡ None
unfolding map_end
not_closed None name behind text len h piece = no_break 3 name text behind (omega arith) piece
not_closed (Some left) name behind text len h piece = rw (ne_eqb left 0 (λ e. omega (arith, e, h))) refl

count_less : (left : Option ℕ) (len : ℕ) → IsCount left (suc len) → IsCount (one_less left) len
count_less None len h = tt
count_less (Some left) len h = omega (arith, h)

read_more : (form : Form) (message : List ℕ) (left : Option ℕ) (found : Fields) (m : Member) (ms : List Member) (bytes inside rest : List ℕ) → map_end left bytes ≡ None → (first : Passing form message found m bytes (inside ++ closing left rest) ms)
    → Read form message (one_less left) first.more ms (inside ++ closing (one_less left) rest) rest → Read form message left found (m ∷ ms) bytes rest
read_more form message left found m ms bytes inside rest none first others =
    let behind = inside ++ closing left rest in
    record {
      new = others.new;
      read = sym (at_member form left found first.more bytes behind (members_in form (length bytes + 1) left found bytes) none first.read refl)
          ∙ ap (λ (t : List ℕ). members_in form (length (inside ++ t) + 1) (one_less left) first.more (inside ++ t)) (sym (closing_less left rest)) ∙ others.read;
      keys = λ key is. first.does key is ms (slot key others.new) (others.keys key is);
      few = λ few e. others.few (λ key is. few_behind key m ms (few key is)) (first.few few e);
    }

tail_less : (message : List ℕ) (left : Option ℕ) (behind rest : List ℕ) → IsTail message (behind ++ closing left rest) → IsTail message (behind ++ closing (one_less left) rest)
tail_less message left behind rest (front, e) = (front, e ∙ ap (λ (t : List ℕ). front ++ (behind ++ t)) (sym (closing_less left rest)))

pub members_are_read : (form : Form) (message : List ℕ) (left : Option ℕ) (found : Fields) (ms : List Member) (inside rest : List ℕ) → IsCount left (length ms) → IsTail message (inside ++ closing left rest) → AreMembers ms inside
    → ((key : Key) → IsWanted form key → Fits key (slot key found) ms) → Read form message left found ms (inside ++ closing left rest) rest
members_are_read form message left found [] inside rest count tail are fits =
    let bytes : inside ++ closing left rest ≡ closing left rest = ap (λ (t : List ℕ). t ++ closing left rest) are in
    subst (λ (t : List ℕ). Read form message left found [] t rest) (sym bytes)
    (record {
      new = found;
      read = at_map_end form left found (closing left rest) rest (members_in form (length (closing left rest) + 1) left found (closing left rest)) (closed left rest count) refl;
      keys = λ key is. inl (refl, refl);
      few = λ few e. e;
    })
members_are_read form message left found (m ∷ ms) inside rest count tail (name, behind, parts, key, value, are) fits =
    let close = closing left rest in
    let bytes : inside ++ close ≡ name ++ (m.value ++ (behind ++ close)) =
    ap (λ (t : List ℕ). t ++ close) parts ∙ append_assoc name (m.value ++ behind) close ∙ ap (λ (t : List ℕ). name ++ t) (append_assoc m.value behind close) in
    let at = tail_behind message tail.0 (inside ++ close) name (m.value ++ (behind ++ close)) tail.1 bytes in
    let first = passing_by form message found m name (behind ++ close) ms (wanted form m.key) at key value refl fits in
    let next = tail_behind message at.0 (m.value ++ (behind ++ close)) m.value (behind ++ close) at.1 refl in
    let others = members_are_read form message (one_less left) first.more ms behind rest (count_less left (length ms) count) (tail_less message left behind rest next) are (λ key is. first.fits key is (fits key is)) in
    subst (λ (t : List ℕ). Read form message left found (m ∷ ms) t rest) (sym bytes)
    (read_more form message left found m ms (name ++ (m.value ++ (behind ++ close))) behind rest (not_closed left name (m.value ++ (behind ++ close)) m.key (length ms) count key) first others)
