use Rattle.osdp_frame_laws.proofs.Common.{refl, after_advance}
use Rattle.osdp_frame_laws.proofs.OneByOne.{fewer_held, items_on}
use Rattle.osdp_frame_laws.proofs.Readings.{items_undecided}
use Rattle.osdp_frame_laws.proofs.items_one_by_one.Goals as goal

pub returns-clause-first : goal.returns-clause-first
returns-clause-first c held part is = items_on held part is

pub returns-clause-none : goal.returns-clause-none
returns-clause-none c held is = items_undecided held.ended held.bytes is

pub returns-clause-fewer : goal.returns-clause-fewer
returns-clause-fewer c held part is = fewer_held held (after_advance held) part is refl
