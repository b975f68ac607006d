-- A link in which no COMSET is under way: both ends stay where they are over a round.
use Rattle.osdp_shared_line.proofs.Common.{◌≡◌, ℕ, List, [], ◌∷◌, ◌++◌, refl, sym, subst, ap, ◌∙◌, inl, inr, append_assoc, option_to_list, Packet, CommandFits, Command, seen, ticks, Answer, Delivered, Link, ReadsWhatIsAsked, SetsNoAddress, round, each_front, each_map, each_rest, Each, Sets, SetsReader, Somewhere, outstanding_command, ahead}
use Rattle.osdp_controller.specs.Hearing as controller
use Rattle.osdp_link_laws.specs.Link as link
use Rattle.osdp_shared_line.proofs.Controllers.{IsSent, hears_well, ticks_well}
use Rattle.osdp_shared_line.proofs.Readers.{IsNoAddress, StoresFrom, reads_well}

none_sets : (to : ℕ) (cs : List Command) → Each SetsNoAddress cs → Somewhere (Sets to) cs → ⊥
none_sets to [] none found = found
none_sets to (c ∷ cs) none (inl sets) = absurd (let is = none.0 in cc)
none_sets to (c ∷ cs) none (inr found) = none_sets to cs none.1 found

-- to this reader, and taking it nowhere
abbrev IsPlainTo : ℕ → Packet → Type 0
IsPlainTo here p = (p.address ≡ here) × ((to : ℕ) → SetsReader to p → ⊥)

module _ {H : Type 0} where
  abbrev pub asked_of : Link H → List Command
  asked_of l = ahead l.controller

  pub record IsStill (l : Link H) : Type 0 where
    pub together : l.reader.config.address ≡ l.controller.session.config.address
    pub none : Each SetsNoAddress (asked_of l)
    pub fits : Each CommandFits (asked_of l)
    pub stored : StoresFrom IsNoAddress l.reader

  module _ (answer_of : H → Command → Answer) (after : H → Command → H) (reads : ReadsWhatIsAsked) where
    ticking : (now : ℕ) (l : Link H) → l.to_reader ≡ [] → IsStill l
        → let next = link.after_move answer_of after (link.Tick now) l in IsStill next × Each (IsPlainTo next.reader.config.address) next.to_reader
    ticking now l empty h =
        let well = ticks_well reads l.controller.session.state (seen now l.controller.session) l.controller.waiting refl h.fits in
        let next = link.after_move answer_of after (link.Tick now) l in
        let none = each_rest SetsNoAddress well.left.0 (asked_of next) (subst (Each SetsNoAddress) well.left.1 h.none) in
        let said = option_to_list (ticks now l.controller.session l.controller.waiting).step.frame in (
          record {
            together = h.together ∙ sym well.address;
            none = none;
            fits = each_rest CommandFits well.left.0 (asked_of next) (subst (Each CommandFits) well.left.1 h.fits);
            stored = h.stored;
          },
          subst (λ ps. Each (IsPlainTo l.reader.config.address) (ps ++ said)) (sym empty)
              (each_map (IsSent l.controller.session.config.address (asked_of next)) (IsPlainTo l.reader.config.address)
              (λ p sends. (sends.0 ∙ sym h.together, λ to sets. none_sets to (asked_of next) none (sends.1 to sets))) said well.sent),
        )

    reading : (ps : List Packet) (l : Link H) → Each (IsPlainTo l.reader.config.address) ps → IsStill l → IsStill (link.to_reader answer_of after ps Delivered l)
    reading [] l plain h = h
    reading (p ∷ ps) l plain h =
        let well = reads_well IsNoAddress answer_of after l.reader p plain.0.0 h.stored in
        record {
          together = elim well.goes [ inl stays ↦ stays ∙ h.together | inr went ↦ absurd (plain.0.1 _ went) ];
          none = h.none;
          fits = h.fits;
          stored = well.stored;
        }

    getting : (qs : List Packet) (now : ℕ) (l : Link H) → IsStill l → IsStill (link.to_controller qs Delivered now l)
    getting [] now l h = h
    getting (q ∷ qs) now l h =
        let well = hears_well q now l.controller.session in
        let heard = controller.hears q now l.controller.session in
        let left : asked_of l ≡ well.left.0 ++ (option_to_list (outstanding_command heard.session.state) ++ l.controller.waiting) =
        ap (λ cs. cs ++ l.controller.waiting) well.left.1 ∙ append_assoc well.left.0 (option_to_list (outstanding_command heard.session.state)) l.controller.waiting in
        record {
          together = elim well.goes [
            | inl still ↦ h.together ∙ sym still
            | inr went ↦ absurd (none_sets _ (option_to_list (outstanding_command l.controller.session.state))
                (each_front SetsNoAddress (option_to_list (outstanding_command l.controller.session.state)) l.controller.waiting h.none) went.2)
          ];
          none = each_rest SetsNoAddress well.left.0 (option_to_list (outstanding_command heard.session.state) ++ l.controller.waiting) (subst (Each SetsNoAddress) left h.none);
          fits = each_rest CommandFits well.left.0 (option_to_list (outstanding_command heard.session.state) ++ l.controller.waiting) (subst (Each CommandFits) left h.fits);
          stored = h.stored;
        }

    pub round_still : (now : ℕ) (l : Link H) → l.to_reader ≡ [] → IsStill l → IsStill (link.run answer_of after (round now) l)
    round_still now l empty h =
        let ticked = link.after_move answer_of after (link.Tick now) l in
        let is = ticking now l empty h in
        let read = link.to_reader answer_of after ticked.to_reader Delivered ticked in
        getting read.to_controller now read (reading ticked.to_reader ticked is.1 is.0)
