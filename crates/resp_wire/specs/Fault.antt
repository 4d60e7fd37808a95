-- The line that is written of a fault of the wire.
use Rattle.std.specs.Prelude.{ℕ, List, ◌++◌, codes, decimal}
use Rattle.redis_model.specs.Render.{line_end}
use Rattle.resp_wire.specs.declared.fault.WireFault.{WireFault}
use Rattle.resp_wire.specs.declared.fault.WireFault.TheVariants.{BadMark, BadLength, TooLong, Quote, Cut}
use Rattle.resp_wire.specs.declared.stop.ProtocolFault.{ProtocolFault}
use Rattle.resp_wire.specs.declared.stop.ProtocolFault.TheVariants as kind

-- a fault of a request as one of the wire
abbrev pub wire_fault : ProtocolFault → WireFault
wire_fault kind.BadMark = BadMark
wire_fault kind.BadLength = BadLength
wire_fault kind.TooLong = TooLong
wire_fault kind.Quote = Quote

abbrev pub fault_text : WireFault → List ℕ
fault_text BadMark = codes "bad mark"
fault_text BadLength = codes "bad length"
fault_text TooLong = codes "too long"
fault_text Quote = codes "quote"
fault_text Cut = codes "cut"

-- an error reply that names the fault and its place, which counts the bytes of the input before it
abbrev pub fault_line : WireFault → ℕ → List ℕ
fault_line fault place = codes "-ERR Protocol error: " ++ fault_text fault ++ codes " at " ++ decimal place ++ line_end
