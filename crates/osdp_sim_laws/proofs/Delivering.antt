-- What the line does with a burst, where a link's packets go over it in bytes.
use Rattle.osdp_sim_laws.proofs.Common.{◌≡◌, ℕ, List, [], ◌∷◌, None, IfSome, refl, sym, subst, ap, ◌∙◌, map, option_to_list, IsPacket, Packet, packets_in, reading, spelling, Command, Answer, SaysWhatFitsIf, Link, told_by_front, Each, Account, handed, left, SimState, SaysFit, controller_hears, damage_fault, reader_hears, ReadsPackets, delivery, in_bytes}
use Rattle.osdp_controller.specs.Hearing as controller
use Rattle.osdp_reader.specs.Table as reader
use Rattle.osdp_link_laws.specs.Link as link
use Rattle.osdp_link_laws.specs.Reports.{taken_by, taken_by_front}
use Rattle.osdp_sim.proofs.Bursts.{no_packets}
use Rattle.osdp_sim.specs.declared.step.Move as way
use Rattle.osdp_sim.specs.declared.step.Move.TheVariants.{Deliver, Drop, Repeat, Damage}
use Rattle.osdp_sim_laws.proofs.Accounts.{adds_report, adds_taken, nothing_added}
use Rattle.osdp_sim_laws.proofs.Carrying.{ArePackets, IsCarried, nothing, packets_after, sent_after}

module _ {H : Type 0} where
  -- nothing comes through
  lost : (l : Link H) (s : SimState H) (clock : ℕ) (a : Account) → s ≡ in_bytes l clock a → ArePackets l
      → IsCarried s l clock a nothing_added
  lost l s clock a is packets =
      subst (λ t. IsCarried t l clock a nothing_added) (sym is) (nothing l clock a packets)

  -- ---- to the controller

  heard : (p : Packet) (l : Link H) (line : List (List ℕ)) (clock : ℕ) (a : Account) → line ≡ map spelling l.to_controller
      → ArePackets l
      → IsCarried (controller_hears (p ∷ []) (record (in_bytes l clock a) { to_controller = line })) (link.controller_gets p clock l) clock a
      (record nothing_added { told = option_to_list (controller.hears p clock l.controller.session).report })
  heard p l line clock a is packets =
      let s = controller_hears (p ∷ []) (record (in_bytes l clock a) { to_controller = line }) in
      record {
        state = ap (λ bursts. record s { to_controller = bursts }) is;
        packets = record { to_reader = packets.to_reader; to_controller = packets.to_controller };
        adds = adds_report (controller.hears p clock l.controller.session).report a;
      }

  -- nothing is on its way
  none_to_controller : ReadsPackets → (l : Link H) (clock : ℕ) (a : Account) → l.to_controller ≡ [] → ArePackets l
      → IsCarried (controller_hears (packets_in []) (record (in_bytes l clock a) { to_controller = [] })) l clock a nothing_added
  none_to_controller reads l clock a is packets =
      lost l _ clock a
      (ap (λ qs. controller_hears qs (record (in_bytes l clock a) { to_controller = [] })) reads.none
      ∙ ap (λ bursts. record (in_bytes l clock a) { to_controller = bursts }) (sym (ap (map spelling) is)))
      packets

  pub to_controller : ReadsPackets → (ps : List Packet) (move : way.Move) (l : Link H) (clock : ℕ) (a : Account) → l.to_controller ≡ ps
      → damage_fault move ≡ None → ArePackets l
      → IsCarried
      (controller_hears (packets_in (handed move (map spelling ps))) (record (in_bytes l clock a) { to_controller = left move (map spelling ps) }))
      (link.to_controller ps (delivery move) clock l) clock a
      (record nothing_added { told = option_to_list (told_by_front (delivery move) ps clock l.controller.session) })
  to_controller reads [] Deliver l clock a is well packets = none_to_controller reads l clock a is packets
  to_controller reads [] Drop l clock a is well packets = none_to_controller reads l clock a is packets
  to_controller reads [] Repeat l clock a is well packets = none_to_controller reads l clock a is packets
  to_controller reads [] (Damage bytes) l clock a is well packets = none_to_controller reads l clock a is packets
  to_controller reads (p ∷ ps) Deliver l clock a is well packets =
      let on = subst (Each IsPacket) is packets.to_controller in
      let rest : Link H = record l { to_controller = ps } in
      subst (λ qs. IsCarried (controller_hears qs (record (in_bytes l clock a) { to_controller = map spelling ps })) (link.controller_gets p clock rest) clock a
      (record nothing_added { told = option_to_list (controller.hears p clock l.controller.session).report }))
      (sym (reads.one p on.0))
      (heard p rest (map spelling ps) clock a refl (record { to_reader = packets.to_reader; to_controller = on.1 }))
  to_controller reads (p ∷ ps) Drop l clock a is well packets =
      let on = subst (Each IsPacket) is packets.to_controller in
      lost (record l { to_controller = ps }) _ clock a
      (ap (λ qs. controller_hears qs (record (in_bytes l clock a) { to_controller = map spelling ps })) reads.none)
      (record { to_reader = packets.to_reader; to_controller = on.1 })
  to_controller reads (p ∷ ps) Repeat l clock a is well packets =
      let on = subst (Each IsPacket) is packets.to_controller in
      subst (λ qs. IsCarried (controller_hears qs (record (in_bytes l clock a) { to_controller = map spelling (p ∷ ps) })) (link.controller_gets p clock l) clock a
      (record nothing_added { told = option_to_list (controller.hears p clock l.controller.session).report }))
      (sym (reads.one p on.0))
      (heard p l (map spelling (p ∷ ps)) clock a (sym (ap (map spelling) is)) packets)
  to_controller reads (p ∷ ps) (Damage bytes) l clock a is well packets =
      let on = subst (Each IsPacket) is packets.to_controller in
      let rest : Link H = record l { to_controller = ps } in
      lost rest _ clock a
      (ap (λ qs. controller_hears qs (record (in_bytes l clock a) { to_controller = map spelling ps })) (no_packets (reading bytes.items) well))
      (record { to_reader = packets.to_reader; to_controller = on.1 })

  -- ---- to the reader

  module _ (answer_of : H → Command → Answer) (after : H → Command → H) where
    answered : (p : Packet) (l : Link H) (line : List (List ℕ)) (clock : ℕ) (a : Account) → line ≡ map spelling l.to_reader
        → IfSome (reader.hears answer_of after l.reader p).reply IsPacket → ArePackets l
        → IsCarried (reader_hears answer_of after (p ∷ []) (record (in_bytes l clock a) { to_reader = line })) (link.reader_gets answer_of after p l) clock a
        (record nothing_added { taken = taken_by answer_of after p l.reader })
    answered p l line clock a is fits packets =
        let o = reader.hears answer_of after l.reader p in
        let s = reader_hears answer_of after (p ∷ []) (record (in_bytes l clock a) { to_reader = line }) in
        record {
          state =
              ap (λ bursts. record s { to_reader = bursts }) is
              ∙ ap (λ bursts. record s { to_reader = map spelling l.to_reader; to_controller = bursts }) (sent_after l.to_controller o.reply);
          packets = record {
            to_reader = packets.to_reader;
            to_controller = packets_after l.to_controller o.reply packets.to_controller fits;
          };
          adds = adds_taken (reader.kind_of l.reader p) o.command a;
        }

    -- nothing is on its way
    none_to_reader : ReadsPackets → (l : Link H) (clock : ℕ) (a : Account) → l.to_reader ≡ [] → ArePackets l
        → IsCarried (reader_hears answer_of after (packets_in []) (record (in_bytes l clock a) { to_reader = [] })) l clock a nothing_added
    none_to_reader reads l clock a is packets =
        lost l _ clock a
        (ap (λ qs. reader_hears answer_of after qs (record (in_bytes l clock a) { to_reader = [] })) reads.none
        ∙ ap (λ bursts. record (in_bytes l clock a) { to_reader = bursts }) (sym (ap (map spelling) is)))
        packets

    pub to_reader : ReadsPackets → (ps : List Packet) (move : way.Move) (l : Link H) (clock : ℕ) (a : Account) → l.to_reader ≡ ps
        → damage_fault move ≡ None → SaysFit answer_of after (packets_in (handed move (map spelling ps))) l.reader
        → ArePackets l
        → IsCarried
        (reader_hears answer_of after (packets_in (handed move (map spelling ps))) (record (in_bytes l clock a) { to_reader = left move (map spelling ps) }))
        (link.to_reader answer_of after ps (delivery move) l) clock a
        (record nothing_added { taken = taken_by_front answer_of after (delivery move) ps l.reader })
    to_reader reads [] Deliver l clock a is well fits packets = none_to_reader reads l clock a is packets
    to_reader reads [] Drop l clock a is well fits packets = none_to_reader reads l clock a is packets
    to_reader reads [] Repeat l clock a is well fits packets = none_to_reader reads l clock a is packets
    to_reader reads [] (Damage bytes) l clock a is well fits packets = none_to_reader reads l clock a is packets
    to_reader reads (p ∷ ps) Deliver l clock a is well fits packets =
        let on = subst (Each IsPacket) is packets.to_reader in
        let rest : Link H = record l { to_reader = ps } in
        let one = subst (λ qs. SaysFit answer_of after qs l.reader) (reads.one p on.0) fits in
        subst (λ qs. IsCarried (reader_hears answer_of after qs (record (in_bytes l clock a) { to_reader = map spelling ps })) (link.reader_gets answer_of after p rest) clock a
        (record nothing_added { taken = taken_by answer_of after p l.reader }))
        (sym (reads.one p on.0))
        (answered p rest (map spelling ps) clock a refl one.1 (record { to_reader = on.1; to_controller = packets.to_controller }))
    to_reader reads (p ∷ ps) Drop l clock a is well fits packets =
        let on = subst (Each IsPacket) is packets.to_reader in
        lost (record l { to_reader = ps }) _ clock a
        (ap (λ qs. reader_hears answer_of after qs (record (in_bytes l clock a) { to_reader = map spelling ps })) reads.none)
        (record { to_reader = on.1; to_controller = packets.to_controller })
    to_reader reads (p ∷ ps) Repeat l clock a is well fits packets =
        let on = subst (Each IsPacket) is packets.to_reader in
        let one = subst (λ qs. SaysFit answer_of after qs l.reader) (reads.one p on.0) fits in
        subst (λ qs. IsCarried (reader_hears answer_of after qs (record (in_bytes l clock a) { to_reader = map spelling (p ∷ ps) })) (link.reader_gets answer_of after p l) clock a
        (record nothing_added { taken = taken_by answer_of after p l.reader }))
        (sym (reads.one p on.0))
        (answered p l (map spelling (p ∷ ps)) clock a (sym (ap (map spelling) is)) one.1 packets)
    to_reader reads (p ∷ ps) (Damage bytes) l clock a is well fits packets =
        let on = subst (Each IsPacket) is packets.to_reader in
        lost (record l { to_reader = ps }) _ clock a
        (ap (λ qs. reader_hears answer_of after qs (record (in_bytes l clock a) { to_reader = map spelling ps })) (no_packets (reading bytes.items) well))
        (record { to_reader = on.1; to_controller = packets.to_controller })

    -- the reader's answer is of the table of replies
    pub says_what_fits : ReadsPackets → (ps : List Packet) (move : way.Move) (l : Link H) → Each IsPacket ps
        → SaysFit answer_of after (packets_in (handed move (map spelling ps))) l.reader → SaysWhatFitsIf answer_of after (delivery move) ps l.reader
    says_what_fits reads [] Deliver l all fits = tt
    says_what_fits reads [] Drop l all fits = tt
    says_what_fits reads [] Repeat l all fits = tt
    says_what_fits reads [] (Damage bytes) l all fits = tt
    says_what_fits reads (p ∷ ps) Deliver l all fits = (subst (λ qs. SaysFit answer_of after qs l.reader) (reads.one p all.0) fits).0
    says_what_fits reads (p ∷ ps) Drop l all fits = tt
    says_what_fits reads (p ∷ ps) Repeat l all fits = (subst (λ qs. SaysFit answer_of after qs l.reader) (reads.one p all.0) fits).0
    says_what_fits reads (p ∷ ps) (Damage bytes) l all fits = tt
