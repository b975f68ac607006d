-- What a reader's handle keeps.
use Rattle.osdp_device.specs.Ages.{AgesState}
use Rattle.osdp_device.specs.declared.program.ProgramAnswers.{ProgramAnswers}
use Rattle.osdp_frame.specs.Receiving.{Received}
use Rattle.osdp_reader.specs.State.{ReaderState}
use Rattle.osdp_c_values.specs.Clocks.{ClockState}

-- a device between two calls: its end of the link, what has come on its line, and how long its events have waited
pub record HeldDevice : Type 0 where
  pub reader : ReaderState ProgramAnswers
  pub line : Received
  pub ages : AgesState

-- .. and the moments that were seen
pub record HeldReader : Type 0 where
  pub device : HeldDevice
  pub clock : ClockState
