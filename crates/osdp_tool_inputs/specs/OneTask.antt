-- The words of a command that reads captures ask for one thing at most.
use Rattle.std.specs.Prelude.{◌≡◌, Option, None, Some}
use Rattle.osdp_tool.specs.Job.{Words, texts_of}
use Rattle.osdp_tool_captures.specs.declared.format.Format.{Format}
use Rattle.osdp_tool_inputs.specs.Asked.{ReadsWords}
use Rattle.osdp_tool_inputs.specs.declared.asked.Asked.{Asked}
use Rattle.osdp_tool_inputs.specs.declared.asked.Reads.{Reads}

-- the same is done with each input, the inputs have one form, and they are the same files
pub record AskTheSame (a b : Asked) : Type 0 where
  pub task : a.task ≡ b.task
  pub form : a.format ≡ b.format
  pub files : texts_of a.files.now ≡ texts_of b.files.now

abbrev pub AreAlike : Option Asked → Option Asked → Type 0
AreAlike None None = Unit {0}
AreAlike (Some a) (Some b) = AskTheSame a b
AreAlike _ _ = ⊥

abbrev pub AskOnce : Type 0
AskOnce = (reads : Reads) (format : Format) (words : Words) (a b : Option Asked) → ReadsWords reads format words a → ReadsWords reads format words b → AreAlike a b
