-- Why a session was lost, in one word.
use Rattle.std.specs.Prelude.{ℕ, List, codes}
use Rattle.osdp_controller.specs.declared.report.LostCause.{LostCause}
use Rattle.osdp_controller.specs.declared.report.LostCause.TheVariants.{NoReply, TooBusy, NumberRefused}

abbrev pub cause_name : LostCause → List ℕ
cause_name NoReply = codes "no-reply"
cause_name TooBusy = codes "too-busy"
cause_name NumberRefused = codes "number-refused"
