-- Which values an option takes, and what it is where it isn't given.
use Rattle.std.specs.Prelude.{ℕ, Bool, not, nat_lt, nat_le, ◌&&◌, List, length, Option, Some, None, if◌then◌else◌}
use Rattle.std.specs.List.{list_all}
use Rattle.plain_text.specs.Numbers.{number_in}
use Rattle.plain_text.specs.Reading.{◌>>=◌}
use Rattle.agent_journal.specs.Setups.{is_printed}
use Rattle.command_words.specs.Options.{Given, is_dashed}
use Rattle.command_words.specs.Tables.{value_of}

-- No value begins with `-`.
abbrev pub passes : (List ℕ → Bool) → List ℕ → Bool
passes test text = not (is_dashed text) && test text

abbrev pub tested : (List ℕ → Bool) → List ℕ → Option (List ℕ)
tested test text = if passes test text then Some text else None

-- a text that has to be given and pass the test
unfoldable pub text : (List ℕ → Bool) → List ℕ → List Given → Option (List ℕ)
text test name options = value_of name options >>= tested test

abbrev pub tested_or_none : (List ℕ → Bool) → Option (List ℕ) → Option (Option (List ℕ))
tested_or_none test None = Some None
tested_or_none test (Some given) = if passes test given then Some (Some given) else None

-- a text that passes the test where it is given
unfoldable pub text_or_none : (List ℕ → Bool) → List ℕ → List Given → Option (Option (List ℕ))
text_or_none test name options = tested_or_none test (value_of name options)

-- a number from `least` to `most` that has to be given
unfoldable pub number : ℕ → ℕ → List ℕ → List Given → Option ℕ
number least most name options = value_of name options >>= number_in least most

abbrev pub read_or : {A : Type 0} → A → (List ℕ → Option A) → Option (List ℕ) → Option A
read_or default read None = Some default
read_or default read (Some given) = read given

-- a number from `least` to `most`, or its default
unfoldable pub number_or : ℕ → ℕ → ℕ → List ℕ → List Given → Option ℕ
number_or default least most name options = read_or default (number_in least most) (value_of name options)

-- an address: 1 to 255 bytes from 21 to 7E hexadecimal
unfoldable pub is_address : List ℕ → Bool
is_address bytes = nat_lt 0 (length bytes) && nat_le (length bytes) 255 && list_all is_printed bytes
