-- The calls of a bus's user, as moves of the links.
use Rattle.osdp_bus_links.proofs.Common.{◌≡◌, ◌||◌, ℕ, max, not, Bool, true, false, cond, List, [], map, Option, Some, None, refl, sym, subst, ap, ◌∙◌, slice_get, slice_set, is_some, Command, Communication, comset_of, ControllerFault, Answer, is_taken_beside, after_begin_at, after_submit_at, begin_refusal_at, begin_refusal_of, bus_fault, submit_refusal_at, submit_refusal_of, Net, Reopen, Site, Submit, after_net, asked_for, changed, keeping, left_by, link_of, reserved_unless, site_at, submits, BeginsAsAMove, IsBusOf, IsSubmitted, SubmitsAsAMove, device_of}
use Rattle.std.specs.Option.{option_map, option_map_or}
use Rattle.osdp_controller.specs.Machine as controllers
use Rattle.osdp_bus.specs.Buses.{BusState, seen}
use Rattle.osdp_bus.specs.Machine as bus
use Rattle.osdp_bus.specs.declared.fault.BusFault.TheVariants.{AddressTaken}
use Rattle.osdp_bus.specs.declared.entry.Entry.{Entry}
use Rattle.osdp_link_laws.specs.Link as link
use Rattle.osdp_shared_line.specs.Line as line
use Rattle.osdp_bus_links.proofs.Devices.{asked_same, beside_same, changed_same, get_device, get_none, set_device}

refused_same : {H : Type 0} (o : Option Communication) (k : ℕ) (s : Site H) (ss : List (Site H)) (b : BusState) → b.devices.entries ≡ map device_of ss
    → bus.is_comset_refused o k (device_of s) b ≡ line.is_comset_refused k o s ss
refused_same None k s ss b is = refl
refused_same (Some d) k s ss b is =
    ap (λ t. t || is_some s.reserved) (ap (is_taken_beside k d.address) is ∙ beside_same k d.address ss)

some_fault : (o : Option ControllerFault) → option_map bus_fault o ≡ None → o ≡ None
some_fault None none = refl
some_fault (Some fault) none = absurd cc

module _ {H : Type 0} where
  -- the entry of a site is its device
  there : (b : BusState) (ss : List (Site H)) (k : ℕ) (s : Site H) → IsBusOf b ss → site_at k ss ≡ Some s → slice_get b.devices.entries k ≡ Some (device_of s)
  there b ss k s h is = ap (λ ds. slice_get ds k) h.entries ∙ get_device k s ss is

  nobody : (b : BusState) (ss : List (Site H)) (k : ℕ) → IsBusOf b ss → site_at k ss ≡ None → slice_get b.devices.entries k ≡ None
  nobody b ss k h is = ap (λ ds. slice_get ds k) h.entries ∙ get_none k ss is

  -- the device of one entry changes as its site does
  one_changed : (b : BusState) (ss : List (Site H)) (k : ℕ) (s t : Site H) (change : Entry → Entry) → IsBusOf b ss → site_at k ss ≡ Some s
      → change (device_of s) ≡ device_of t → IsBusOf (bus.changes_entry k change b) (changed k t ss)
  one_changed b ss k s t change h is same =
      subst (λ o. IsBusOf (changes o) (changed k t ss)) (sym (there b ss k s h is)) (record {
        entries = ap (λ ds. slice_set ds k (change (device_of s))) h.entries
            ∙ ap (λ d. slice_set (map device_of ss) k d) same ∙ set_device k t ss;
        held = h.held;
        report = h.report;
      })
    where
      changes : Option Entry → BusState
      changes o = option_map_or (λ d. record b {
        devices = record b.devices { entries = slice_set b.devices.entries k (change d) };
      }) o b

module _ {H : Type 0} (answer_of : H → Command → Answer) (after : H → Command → H) where
  -- ---- a command

  -- what a command does to a site whose controller refuses it so
  abbrev submits_by : Option ControllerFault → Command → Site H → Site H
  submits_by fault c s =
      keeping (reserved_unless fault (asked_for (comset_of c) s.reserved) s.reserved) (left_by s (link.submits fault c (link_of s [] [])))

  submitted : (o : Option (Site H)) (b : BusState) (n : Net H) (k : ℕ) (c : Command) → IsBusOf b n.sites → site_at k n.sites ≡ o
      → IsSubmitted answer_of after (submit_refusal_at k c b) k c b n
  submitted None b n k c h is =
      subst (λ d. IsSubmitted answer_of after (submit_refusal_of k c d b) k c b n) (sym (nobody b n.sites k h is))
      (ap (λ o. line.change_unless (λ s. line.is_comset_refused k (comset_of c) s n.sites) k o (submits answer_of after c) n) is)
  submitted (Some s) b n k c h is =
      subst (λ d. IsSubmitted answer_of after (submit_refusal_of k c d b) k c b n) (sym (there b n.sites k s h is))
      (by_test (bus.is_comset_refused (comset_of c) k (device_of s) b) (sym (refused_same (comset_of c) k s n.sites b h.entries)))
    where
      fault : Option ControllerFault
      fault = controllers.submit_refusal c s.controller

      changes : after_net answer_of after (Submit k c) n
          ≡ cond (line.is_comset_refused k (comset_of c) s n.sites) n (record n { sites = changed k (submits answer_of after c s) n.sites })
      changes = ap (λ o. line.change_unless (λ t. line.is_comset_refused k (comset_of c) t n.sites) k o (submits answer_of after c) n) is

      by_fault : (f : Option ControllerFault) → controllers.submit_refusal c s.controller ≡ f → line.is_comset_refused k (comset_of c) s n.sites ≡ false
          → after_net answer_of after (Submit k c) n ≡ record n { sites = changed k (submits_by f c s) n.sites }
          → IsSubmitted answer_of after (option_map bus_fault f) k c b n
      by_fault (Some f) faults test same = same ∙ ap (λ ss. record n { sites = ss }) (changed_same k s n.sites is)
      by_fault None faults test same = (
        subst (λ (m : Net H). IsBusOf (after_submit_at k c b) m.sites) (sym same)
            (one_changed b n.sites k s (submits_by None c s) (bus.entry_submits c) h is
            (ap (λ r. record { controller = controllers.after_submit c s.controller; reserved = r }) (asked_same (comset_of c) s.reserved))),
        (
          s,
          is,
          ap (λ t. not (t || is_some (controllers.submit_refusal c s.controller))) test ∙ ap (λ f. not (is_some f)) faults,
          same ∙ ap (λ f. record n { sites = changed k (submits_by f c s) n.sites }) (sym faults),
        ),
      )

      by_test : (refused : Bool) → line.is_comset_refused k (comset_of c) s n.sites ≡ refused
          → IsSubmitted answer_of after (cond refused (Some AddressTaken) (option_map bus_fault fault)) k c b n
      by_test true test = changes ∙ ap (λ t. cond t n (record n { sites = changed k (submits answer_of after c s) n.sites })) test
      by_test false test =
          by_fault fault refl test (changes ∙ ap (λ t. cond t n (record n { sites = changed k (submits answer_of after c s) n.sites })) test)

  pub submits_as_a_move : SubmitsAsAMove answer_of after
  submits_as_a_move b n k c h = submitted (site_at k n.sites) b n k c h refl

  -- ---- a session

  abbrev begins_by : Option ControllerFault → ℕ → Site H → Site H
  begins_by fault now s = left_by s (link.reopens fault [] [] now (link_of s [] []))

  begun : (o : Option (Site H)) (b : BusState) (n : Net H) (k now : ℕ) → IsBusOf b n.sites → begin_refusal_at k b ≡ None → site_at k n.sites ≡ o
      → IsBusOf (after_begin_at k now b) (after_net answer_of after (Reopen k (max b.greatest now)) n).sites
  begun None b n k now h well is =
      absurd (let refused : begin_refusal_of None ≡ None = subst (λ d. begin_refusal_of d ≡ None) (nobody b n.sites k h is) well in cc)
  begun (Some s) b n k now h well is =
      let g = max b.greatest now in
      let none : controllers.begin_refusal s.controller ≡ None =
      some_fault (controllers.begin_refusal s.controller) (subst (λ d. begin_refusal_of d ≡ None) (there b n.sites k s h is) well) in
      let same : after_net answer_of after (Reopen k g) n ≡ record n { sites = changed k (begins_by None g s) n.sites } =
      ap (λ o. line.change_at k o (line.calls answer_of after (link.Reopen g)) n) is
      ∙ ap (λ f. record n { sites = changed k (begins_by f g s) n.sites }) none in
      subst (λ (m : Net H). IsBusOf (after_begin_at k now b) m.sites) (sym same)
      (one_changed (seen now b) n.sites k s (begins_by None g s) (bus.entry_begins g)
      (record { entries = h.entries; held = h.held; report = h.report }) is refl)

  pub begins_as_a_move : BeginsAsAMove answer_of after
  begins_as_a_move b n k now h well = begun (site_at k n.sites) b n k now h well refl
