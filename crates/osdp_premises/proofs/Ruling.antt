-- The test of the rule for programs holds exactly where the rule does.
use Rattle.osdp_premises.proofs.Common.{◌≡◌, ◌≢◌, ◌&&◌, ℕ, Bool, Decides, [], ◌∷◌, length, Option, Some, None, refl, subst, arith, and_parts, Decides-eqb, Decides-like, Decides-not, Command, Communication, comset_of, BusState, device_of, retarget_refusal_at, submit_refusal_at, Entry, BusFault, Answer, site_at, NewDevice, NewPanel, OfPanel, after_call, address_asked, if_there, is_in_order, is_quiet, some_same, at_length}
use Rattle.osdp_bus.specs.Entries.{address_of}
use Rattle.osdp_bus_laws.specs.Calls as bus
use Rattle.osdp_shared_line.specs.Programs.{Note}
use Rattle.osdp_calls.specs.Programs.{IsKnown, PanelKeepsRule, notes_after}
use Rattle.osdp_premises.specs.Ruling.{RuleIsExact, RuledCallsKeep, are_ruled, is_known, is_unknown_beside, keeps_rule, panel_keeps_rule, unless_refused}
use Rattle.osdp_premises.proofs.Deciding.{always, below_decides, get_below, if_decides, other_decides, some_decides, there_decides}
use Rattle.osdp_premises.proofs.Exactly.{exact}

known_decides : (address : ℕ) (d : Entry) (note : Note) → Decides (is_known address d note) (IsKnown address d note)
known_decides address d note = some_decides _ _ (λ a. Decides-eqb a address) (address_of d ∷ note.addresses)

-- no other entry knows it
abbrev Unknown : ℕ → ℕ → BusState → (ℕ → Note) → Type 0
Unknown k address b notes = (j : ℕ) (d : Entry) → j ≢ k → device_of j b ≡ Some d → IsKnown address d (notes j) → ⊥

unknown_decides : (k address : ℕ) (b : BusState) (notes : ℕ → Note) → Decides (is_unknown_beside k address b notes) (Unknown k address b notes)
unknown_decides k address b notes =
    Decides-like _ (λ h j d other at known. h j other (d, at, known))
    (λ all j other held. all j held.0 other held.1 held.2)
    (other_decides k (length b.devices.entries) _ _ (λ j. Decides-not _ (there_decides _ _ (λ d. known_decides address d (notes j)) (device_of j b)))
    (λ j above held. let below = get_below j b.devices.entries held.0 held.1 in absurd (omega (arith, above, below))))

refused_decides : (f : Option BusFault) (p : Bool) (P : Type 0) → Decides p P → Decides (unless_refused f p) (f ≡ None → P)
refused_decides None p P is = Decides-like _ (λ h e. h) (λ h. h refl) is
refused_decides (Some fault) p P is = always (λ none. absurd (let e = none in cc))

asked_decides : (k : ℕ) (asked : Option Communication) (b : BusState) (notes : ℕ → Note)
    → Decides (if_there (λ address. is_unknown_beside k address b notes) (address_asked asked)) ((c : Communication) → asked ≡ Some c → Unknown k c.address b notes)
asked_decides k None b notes = always (λ c none. absurd (let e = none in cc))
asked_decides k (Some c) b notes = Decides-like _ (λ h other same. subst (λ (x : Communication). Unknown k x.address b notes) (some_same c other same) h)
    (λ all. all c refl) (unknown_decides k c.address b notes)

panel_decides : (call : bus.Call) (b : BusState) (notes : ℕ → Note) → Decides (panel_keeps_rule call b notes) (PanelKeepsRule call b notes)
panel_decides (bus.Submit k command) b notes =
    refused_decides (submit_refusal_at k command b) (if_there (λ address. is_unknown_beside k address b notes) (address_asked (comset_of command)))
    ((c : Communication) → comset_of command ≡ Some c → Unknown k c.address b notes) (asked_decides k (comset_of command) b notes)
panel_decides (bus.Retarget k address) b notes =
    refused_decides (retarget_refusal_at k address b) (if_there (λ d. is_known address d (notes k)) (device_of k b))
    ((d : Entry) → device_of k b ≡ Some d → IsKnown address d (notes k))
    (if_decides _ _ (λ d. known_decides address d (notes k)) (device_of k b))
panel_decides _ b notes = always tt

module _ {H : Type 0} where
  pub rule_exact : RuleIsExact H
  rule_exact (OfPanel call) l notes = panel_decides call l.bus notes
  rule_exact (NewDevice k config handler room gap) l notes =
      if_decides _ _ (λ t. Decides-eqb t.reader.config.address config.address) (site_at k l.stations)
  rule_exact (NewPanel config addresses) l notes =
      Decides-like _ (λ h k a d at there. h k (at_length k a addresses at) a at d there)
      (λ all k below a at d there. all k a d at there)
      (below_decides _ _ (λ k. if_decides _ _ (λ a. if_decides _ _ (λ d. known_decides a d (notes k)) (device_of k l.bus)) (site_at k addresses))
      (length addresses))
  rule_exact _ l notes = always tt

module _ {H : Type 0} (answer_of : H → Command → Answer) (after : H → Command → H) where
  pub ruled_keep : RuledCallsKeep answer_of after
  ruled_keep [] l notes is fits = tt
  ruled_keep (step ∷ steps) l notes is fits =
      let next = after_call answer_of after step.call step.places l in
      let noted = notes_after step.call l notes in
      let rest = are_ruled answer_of after steps next noted in
      let a = and_parts (is_in_order step.call step.places l) (is_quiet step.call step.places l && (keeps_rule step.call l notes && rest)) is in
      let b = and_parts (is_quiet step.call step.places l) (keeps_rule step.call l notes && rest) a.1 in
      let c = and_parts (keeps_rule step.call l notes) rest b.1 in (
        record {
          in_order = (exact.order step l).0 a.0;
          quiet_opening = (exact.quiet step l).0 b.0;
          rule = (rule_exact step.call l notes).0 c.0;
          in_range = fits.0;
        },
        ruled_keep steps next noted c.1 fits.1,
      )
