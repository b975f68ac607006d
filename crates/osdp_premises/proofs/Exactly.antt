-- Each test holds exactly where its premise does, call by call.
use Rattle.osdp_premises.proofs.Common.{◌&&◌, ℕ, Decides, List, [], ◌∷◌, Option, Some, None, and_parts, Decides-eqb, Decides-or, Command, items_of, Answer, site_at, Call, NewDevice, NewPanel, Next, OfPanel, Step, after_call, read_by, read_up_to, InUse, Station, is_past_for_device, is_past_for_panel, Addresses, InOrder, IsOfOthers, NextInOrder, QuietOpening, are_fair, are_in_order, has_addresses, if_there, is_fair, is_in_order, is_of_others, is_quiet, FairCallsKeep, PremisesAreExact}
use Rattle.osdp_premises.proofs.Addresses.{apart_decides, free_decides, others_decides, panel_decides}
use Rattle.osdp_premises.proofs.Deciding.{always, if_decides, past_decides, said_decides}

module _ {H : Type 0} where
  next_decides : (l : InUse H) (places : List ℕ) (o : Option (Station H))
      → Decides (if_there (λ (t : Station H). are_in_order (is_of_others l) l.said (read_up_to t.reader (items_of t.line.held)) places t.place) o) (NextInOrder l places o)
  next_decides l places None = always tt
  next_decides l places (Some t) =
      said_decides (is_of_others l) (IsOfOthers l) (others_decides l) l.said (read_up_to t.reader (items_of t.line.held)) places t.place

  order_decides : (call : Call H) (places : List ℕ) (l : InUse H) → Decides (is_in_order call places l) (InOrder call places l)
  order_decides (OfPanel call) places l = said_decides (is_of_others l) (IsOfOthers l) (others_decides l) l.said (read_by call l.bus) places l.place
  order_decides (Next k) places l = next_decides l places (site_at k l.stations)
  order_decides _ places l = always tt

  quiet_decides : (call : Call H) (places : List ℕ) (l : InUse H) → Decides (is_quiet call places l) (QuietOpening call places l)
  quiet_decides (OfPanel call) places l = past_decides (is_past_for_panel l.openings) l.said places
  quiet_decides (Next k) places l = past_decides (is_past_for_device k l.openings) l.said places
  quiet_decides _ places l = always tt

  addresses_decide : (call : Call H) (l : InUse H) → Decides (has_addresses call l) (Addresses call l)
  addresses_decide (OfPanel call) l = panel_decides call l
  addresses_decide (NewDevice k config handler room gap) l =
      if_decides _ _ (λ t.
      Decides-or _ _ (Decides-eqb t.reader.config.address config.address)
      (free_decides k config.address l t))
      (site_at k l.stations)
  addresses_decide (NewPanel config addresses) l = apart_decides addresses l
  addresses_decide _ l = always tt

  pub exact : PremisesAreExact H
  exact = record {
    order = λ (step : Step H) (l : InUse H). order_decides step.call step.places l;
    quiet = λ (step : Step H) (l : InUse H). quiet_decides step.call step.places l;
    addresses = λ (step : Step H) (l : InUse H). addresses_decide step.call l;
  }

module _ {H : Type 0} (answer_of : H → Command → Answer) (after : H → Command → H) where
  pub fair_keep : FairCallsKeep answer_of after
  fair_keep [] l fair fits = tt
  fair_keep (step ∷ steps) l fair fits =
      let next = after_call answer_of after step.call step.places l in
      let both = and_parts (is_fair step l) (are_fair answer_of after steps next) fair in
      let order = and_parts (is_in_order step.call step.places l) (is_quiet step.call step.places l && has_addresses step.call l) both.0 in
      let rest = and_parts (is_quiet step.call step.places l) (has_addresses step.call l) order.1 in (
        record {
          in_order = (order_decides step.call step.places l).0 order.0;
          quiet_opening = (quiet_decides step.call step.places l).0 rest.0;
          addresses = (addresses_decide step.call l).0 rest.1;
          in_range = fits.0;
        },
        fair_keep steps next both.1 fits.1,
      )
