use Rattle.osdp_bus_laws.proofs.Common.{new_bus, after_calls}
use Rattle.osdp_bus_laws.proofs.Calling.{always}
use Rattle.osdp_bus_laws.proofs.Holding.{holders_tick}
use Rattle.osdp_bus_laws.proofs.Making.{writes_once}
use Rattle.osdp_bus_laws.proofs.Resending.{sends_the_same}
use Rattle.osdp_bus_laws.proofs.Sending.{holders_send_their_frame}
use Rattle.osdp_bus_laws.proofs.holders_send_their_frame.Goals as goal

pub returns : goal.returns
returns c = record {
  frame = holders_send_their_frame;
  same = sends_the_same;
  due = λ config calls is. holders_tick (after_calls calls (new_bus config)) (always config calls is);
  written = writes_once;
}
