-- Stamps of each form.
use Rattle.osdp_tool_times.proofs.Common.{refl, TellsDays, TellsSeconds}
use Rattle.memchr.specs.Find.{first_of, places_from}
use Rattle.osdp_tool_times.specs.Moments.{number_from}

pub tells_seconds : TellsSeconds
unfolding first_of number_from places_from
tells_seconds = (refl, refl, refl, refl, refl)

pub tells_days : TellsDays
unfolding first_of number_from places_from
tells_days = ((_, refl, refl), (_, refl, refl), (_, refl, refl), (_, refl, refl))
