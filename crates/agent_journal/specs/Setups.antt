-- Which setups an agent can be given.
use Rattle.std.specs.Prelude.{ℕ, Bool, ◌&&◌, nat_lt, nat_le, List, length}
use Rattle.std.specs.List.{list_all}

abbrev pub is_printed : ℕ → Bool
is_printed b = nat_le 33 b && nat_le b 126

-- a client identifier: 1 to 128 bytes from 21 to 7E hexadecimal
unfoldable pub is_client : List ℕ → Bool
is_client bytes = nat_lt 0 (length bytes) && nat_le (length bytes) 128 && list_all is_printed bytes
