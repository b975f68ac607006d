-- What a call over two streams answers in the end.
use Rattle.std.specs.Prelude.{◌≡◌, ◌↔◌, Bool, true, false, Result, Err}
use Rattle.osdp_tool_streams.specs.declared.fault.ToolFault.{ToolFault}
use Rattle.osdp_tool_streams.specs.declared.fault.ToolFault.TheVariants.{ReadFailed, WriteFailed}

-- a failed read comes before a failed write, and both before the answer of the call's own work
abbrev pub final_answer_of : {T : Type 0} → Bool → Bool → Result T ToolFault → Result T ToolFault
final_answer_of true output_failed answer = Err ReadFailed
final_answer_of false true answer = Err WriteFailed
final_answer_of false false answer = answer

-- the work itself tells a failed read or write only where there was one
pub record TellsTruly {T : Type 0} (input_failed output_failed : Bool) (answer : Result T ToolFault) : Type 0 where
  pub read : answer ≡ Err ReadFailed → input_failed ≡ true
  pub write : answer ≡ Err WriteFailed → output_failed ≡ true

-- The final answer tells a failed read exactly where the input failed, a failed write exactly where
-- the output alone did, and is the work's own where neither failed.
pub record TellsStreamsFirst {T : Type 0} (input_failed output_failed : Bool) (answer : Result T ToolFault) : Type 0 where
  pub read : (final_answer_of input_failed output_failed answer ≡ Err ReadFailed) ↔ (input_failed ≡ true)
  pub write : (final_answer_of input_failed output_failed answer ≡ Err WriteFailed) ↔ ((input_failed ≡ false) × (output_failed ≡ true))
  pub own : input_failed ≡ false → output_failed ≡ false → final_answer_of input_failed output_failed answer ≡ answer
