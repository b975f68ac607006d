use Rattle.osdp_c_values.proofs.Common.{append_assoc, flat_map-append}
use Rattle.osdp_c_values.proofs.Putting.{put_then}
use Rattle.osdp_c_values.proofs.pieces.put_listed.Goals as goal

pub returns : goal.returns
returns c = put_then _ c.put_list.result c.put_list.new.out _ _ c.in_ok-first.ensures (simp (append_assoc, flat_map-append)) c.put_list.ensures
