use Rattle.osdp_frame_laws.proofs.Readings.{drained_reading, reading_drained, drained_items, reading_begins}
use Rattle.osdp_frame_laws.proofs.items_taken_off.Goals as goal

pub returns-clause-ended : goal.returns-clause-ended
returns-clause-ended c = λ run parts. (λ d. drained_reading run parts d, λ r. reading_drained run parts r)

pub returns-clause-items : goal.returns-clause-items
returns-clause-items c = λ ended bytes parts fits d. drained_items ended bytes parts fits d

pub returns-clause-beginning : goal.returns-clause-beginning
returns-clause-beginning c = λ bytes more parts all fits d r. reading_begins bytes more parts all fits d r
