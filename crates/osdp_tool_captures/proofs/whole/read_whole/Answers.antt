use Rattle.std.proofs.Common.{◌≡◌, ◌+◌, ℕ, Option, List, [], ◌∷◌, Some, length, slice_index, subst, arith}
use Rattle.std.proofs.KnownBytes.{Consumes-trans}
use Rattle.std.specs.Io.KnownBytes.{Consumes}
use Rattle.osdp_tool_streams.specs.declared.fault.ToolFault.{ToolFault}
use Rattle.osdp_tool_streams.specs.declared.fault.ToolFault.TheVariants.{TooLong}
use Rattle.osdp_tool_streams.specs.declared.piece.Piece.{Piece}
use Rattle.osdp_tool_streams.specs.declared.piece.Piece.TheVariants.{PastLimit}
use Rattle.osdp_tool_streams.specs.Reading.{ReadsPiece}
use Rattle.osdp_tool_captures.specs.Whole.{ReadWhole}
use Rattle.osdp_tool_captures.proofs.whole.read_whole.Goals as goal

past : (limit left : ℕ) (a b c : Option (List ℕ)) (buffer read bytes : List ℕ) (fault : Option ToolFault) (piece : Piece) → Consumes a b read → length read + left ≡ limit
    → piece ≡ PastLimit → ReadsPiece left b c buffer piece → bytes ≡ read → fault ≡ Some TooLong → ReadWhole limit a c bytes fault
past limit left a b c buffer read bytes fault piece taken counts ends reads same is =
    let more = subst (ReadsPiece left b c buffer) ends reads in
    let none = more.0 in
    let byte = slice_index buffer 0 in
    rw (same, is) (omega arith, (byte, Consumes-trans a b c read (byte ∷ []) taken more.1))

pub returns-in-Ok-PastLimit-clause-read : goal.returns-in-Ok-PastLimit-clause-read
returns-in-Ok-PastLimit-clause-read g c =
    let same : c.cut_short.result.bytes.items ≡ c.reads.bytes.items = cc in
    past c.args.limit c.reads.left _ _ _ _ c.reads.bytes.items c.cut_short.result.bytes.items c.cut_short.result.fault c.in-Ok-PastLimit.field-0
    c.reads.invariant.taken c.reads.invariant.within c.in-Ok-PastLimit.field-0-is c.in-Ok-PastLimit.ensures.read same c.cut_short.ensures.fault
