use Rattle.osdp_msg.proofs.Common.{◌≡◌, ◌∷◌, take, All, flat_map}
use Rattle.osdp_msg.proofs.records.put_records.Given as goal

abbrev pub invariant-loop-record : goal.invariant-loop-record
invariant-loop-record g l = record {
  spelled : l.spelling.items ≡ l.code ∷ flat_map g.R.Record.spelled (take l.record-index l.records);
  fits : All g.R.Record.fits (take l.record-index l.records);
}
