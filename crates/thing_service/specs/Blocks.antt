-- The blocks of an image that a request names.
use Rattle.std.specs.Prelude.{ℕ, suc, ◌*◌, ◌-◌, Bool, ◌&&◌, nat_lt, nat_le, List, [], ◌∷◌, ◌++◌, length, take, drop, filter, Option, Some, None, Result, Ok, Err, find, if◌then◌else◌}
use Rattle.std.specs.Int.{div_ceil, is_power_of_two}
use Rattle.std.specs.List.{flat_map}
use Rattle.stream_blocks.specs.Reading.{Asked, request_of}
use Rattle.stream_blocks.specs.Sets.{bits}
use Rattle.stream_blocks.specs.Spelling as spelling
use Rattle.stream_blocks.specs.declared.request.AskBlocks.{AskBlocks}
use Rattle.thing_service.specs.declared.offers.Offer.{Offer}
use Rattle.thing_service.specs.Generator.{image}
use Rattle.thing_service.specs.Offers.{is_file_of}

-- a power of two from 256 to 65,536
abbrev pub is_block_size : ℕ → Bool
is_block_size size = nat_le 256 size && nat_le size 65536 && is_power_of_two size

-- the places of the flags that are set, of which the first flag stands for place `at`
abbrev pub named : ℕ → List Bool → List ℕ
named at [] = []
named at (is_named ∷ flags) = if is_named then at ∷ named (suc at) flags else named (suc at) flags

-- The blocks that a request names, in increasing order: bit j mod 8, lowest first, of byte j div 8 stands for the block j
-- behind the offset. Of those that exist, so many are sent.
abbrev pub wanted : ℕ → ℕ → ℕ → List ℕ → List ℕ
wanted number blocks offset bitmap = take number (filter (λ i. nat_lt i blocks) (named offset (flat_map (bits 8) bitmap)))

-- Some blocks were found, and behind them come those of the other flags.
abbrev pub more : ℕ → ℕ → ℕ → List ℕ → List Bool → List ℕ
more number blocks at found flags = found ++ take (number - length found) (filter (λ i. nat_lt i blocks) (named at flags))

-- what block i of an image holds, in blocks of so many bytes
abbrev pub block_in : Offer → ℕ → ℕ → List ℕ
block_in offer size i = take size (drop (i * size) (image offer.seed offer.job.size))

-- the data message of a block
abbrev pub message : Offer → ℕ → ℕ → List ℕ
message offer size i = spelling.block offer.job.file i (block_in offer size i)

-- An offered file, and what a request asks of it.
pub record Ask : Type 0 where
  pub offer : Offer
  pub size : ℕ
  pub offset : ℕ
  pub number : ℕ
  pub bitmap : List ℕ

abbrev pub ask_of : Asked → Option Offer → Option Ask
ask_of asked None = None
ask_of asked (Some offer) = Some (record { offer = offer; size = asked.1; offset = asked.2; number = asked.3; bitmap = asked.4 })

abbrev pub ask_in : List Offer → List ℕ → Asked → Option Ask
ask_in offers stream asked = if is_block_size asked.1 then ask_of asked (find (is_file_of stream asked.0) offers) else None

-- The request for blocks of an offered file of this stream that a payload is.
abbrev pub asked_by : {E : Type 0} → List Offer → List ℕ → Result Asked E → Option Ask
asked_by offers stream (Ok asked) = ask_in offers stream asked
asked_by offers stream (Err fault) = None

abbrev pub asked : List Offer → List ℕ → List ℕ → Option Ask
asked offers stream payload = asked_by offers stream (request_of payload)

-- what a reader found
abbrev pub found_ask : Offer → AskBlocks → Ask
found_ask offer request = record { offer = offer; size = request.size; offset = request.offset; number = request.number; bitmap = request.map.items }

-- the blocks of the image that are asked for
abbrev pub blocks_asked : Ask → List ℕ
blocks_asked ask = wanted ask.number (div_ceil ask.offer.job.size ask.size) ask.offset ask.bitmap
