-- What the device of the reader's rows answers.
use Rattle.std.specs.Prelude.{[], ◌∷◌}
use Rattle.osdp_reader.specs.declared.handler.Answer.{Answer}
use Rattle.osdp_reader.specs.declared.handler.Answer.TheVariants as answer
use Rattle.osdp_machine_tests.specs.declared.bench.Given.{Given}
use Rattle.osdp_machine_tests.specs.declared.bench.Given.TheVariants as given

-- the answer that is given, a list of one byte, and a maker's reply with one byte
abbrev pub answer_given : Given → Answer
answer_given given.Done = answer.Done
answer_given (given.Local tamper power) = answer.Local tamper power
answer_given (given.List state) = answer.List (record { items = state ∷ [] })
answer_given (given.Refuse reason) = answer.Refuse reason
answer_given (given.Maker byte) = answer.Maker (record { vendor = 0x53 ∷ 0x49 ∷ 0x4D ∷ []; bytes = record { items = byte ∷ [] } })
