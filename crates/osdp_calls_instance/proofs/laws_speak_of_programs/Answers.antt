use Rattle.osdp_calls_instance.proofs.Fitting.{c_fits, lines_fit}
use Rattle.osdp_calls_instance.proofs.laws_speak_of_programs.Goals as goal

pub returns : goal.returns
returns g c = record { c = c_fits; lines = lines_fit }
