use Rattle.osdp_line_calls.specs.ReaderSessions.{new_session}
use Rattle.osdp_line_laws.proofs.OfReaders.{of_lines}
use Rattle.osdp_line_laws.proofs.a_device_comes_of_steps.Goals as goal

pub returns : goal.returns
returns c = λ config capacity gap absence lines text last spoken. of_lines (new_session config capacity gap absence) lines text last spoken
