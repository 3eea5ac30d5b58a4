-- Which requests the agent takes. The limits are the project's own.
use Rattle.std.specs.Prelude.{ℕ, Bool, true, ◌&&◌, nat_le, List, length}
use Rattle.std.specs.List.{list_all}
use Rattle.std.specs.Str.{is_utf8}
use Rattle.topic_filter.specs.Texts.{is_name, is_filter}
use Rattle.agent_journal.specs.declared.request.Request.{Request}
use Rattle.agent_journal.specs.declared.request.Request.TheVariants as requests

-- at most 1,024 bytes
abbrev pub is_short : List ℕ → Bool
is_short text = is_utf8 text && nat_le (length text) 1024

-- one to eight
abbrev pub is_few : ℕ → Bool
is_few count = nat_le 1 count && nat_le count 8

abbrev pub is_topic : List ℕ → Bool
is_topic text = is_short text && is_name text

abbrev pub is_wanted : List ℕ → Bool
is_wanted text = is_short text && is_filter text

unfoldable pub is_valid : Request → Bool
is_valid (requests.Publish qos topic payload) = is_topic topic && nat_le (length payload) 131072
is_valid (requests.Subscribe asks) = is_few (length asks) && list_all (λ ask. is_wanted ask.filter) asks
is_valid (requests.Unsubscribe filters) = is_few (length filters) && list_all is_wanted filters
is_valid requests.Ping = true
is_valid requests.Disconnect = true
is_valid requests.Terminate = true
is_valid requests.Leave = true
