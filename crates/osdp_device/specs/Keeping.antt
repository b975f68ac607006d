-- An answer that is kept until it is said.
use Rattle.std.specs.Prelude.{ℕ, ◌≤◌, List, length}
use Rattle.osdp_msg.specs.Limits.{most_maker_bytes}
use Rattle.osdp_reader.specs.declared.handler.Answer.{Answer}
use Rattle.osdp_reader.specs.declared.handler.Answer.TheVariants as answers
use Rattle.osdp_device.specs.declared.question.Question.{Question}
use Rattle.osdp_device.specs.declared.question.Question.TheVariants as questions
use Rattle.osdp_device.specs.declared.question.Shape.{Shape}
use Rattle.osdp_device.specs.declared.question.Shape.TheVariants.{Done, Local, List as listed, Refuse, Maker}
use Rattle.osdp_device.specs.declared.question.Stage.{Stage}
use Rattle.osdp_device.specs.declared.question.Stage.TheVariants.{NotAsked, Asked, Answered}

-- an answer of this shape, whose list has these bytes
abbrev pub answer_of : Shape → List ℕ → Answer
answer_of Done bytes = answers.Done
answer_of (Local tamper power) bytes = answers.Local tamper power
answer_of listed bytes = answers.List (record { items = bytes })
answer_of (Refuse reason) bytes = answers.Refuse reason
answer_of (Maker vendor) bytes = answers.Maker (record { vendor = vendor; bytes = record { items = bytes } })

abbrev pub question_of : Stage → List ℕ → Question
question_of NotAsked bytes = questions.NotAsked
question_of Asked bytes = questions.Asked
question_of (Answered shape) bytes = questions.Answered (answer_of shape bytes)

-- a maker's own bytes are no more than a message has room for
abbrev pub ShapeFits : Shape → List ℕ → Type 0
ShapeFits (Maker vendor) bytes = length bytes ≤ most_maker_bytes
ShapeFits Done bytes = Unit
ShapeFits (Local tamper power) bytes = Unit
ShapeFits listed bytes = Unit
ShapeFits (Refuse reason) bytes = Unit

abbrev pub StageFits : Stage → List ℕ → Type 0
StageFits (Answered shape) bytes = ShapeFits shape bytes
StageFits NotAsked bytes = Unit
StageFits Asked bytes = Unit
