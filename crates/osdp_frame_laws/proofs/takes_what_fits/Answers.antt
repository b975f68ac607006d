use Rattle.osdp_frame_laws.proofs.Calls.{count_within, keeps_room, takes_all, takes_some}
use Rattle.osdp_frame_laws.proofs.takes_what_fits.Goals as goal

pub returns : goal.returns
returns c = record { count = count_within; room = keeps_room; all = takes_all; some = takes_some }
