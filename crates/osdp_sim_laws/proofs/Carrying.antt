-- What a step of a schedule does, where a link's packets go over the line in bytes: the calls and the moments.
use Rattle.osdp_sim_laws.proofs.Common.{◌≡◌, ℕ, Bool, true, false, not, ◌&&◌, ◌==◌, if◌then◌else◌, List, [], ◌∷◌, ◌++◌, length, arith, Option, Some, None, IfSome, refl, sym, subst, ap, ◌∙◌, ne_eqb, append-nil, map-append, map, option_to_list, IsPacket, Packet, spelling, Command, Event, is_closed, may_begin, Ticked, ControllerFault, State, Link, each_append, Each, Account, sent, SimState, NotQuiet, in_bytes}
use Rattle.osdp_controller.specs.Machine as controllers
use Rattle.osdp_reader.specs.State as readers
use Rattle.osdp_link_laws.specs.Link as link
use Rattle.osdp_link_laws.specs.Sessions as sessions
use Rattle.osdp_sim.specs.Steps as steps
use Rattle.osdp_sim_laws.proofs.Accounts.{Added, Adds, adds_command, adds_event, adds_nothing, adds_report, adds_session, nothing_added}

sent_is : (o : Option Packet) → map spelling (option_to_list o) ≡ sent o
sent_is None = refl
sent_is (Some p) = refl

-- what is sent goes after what is on the way
pub sent_after : (ps : List Packet) (o : Option Packet) → map spelling ps ++ sent o ≡ map spelling (ps ++ option_to_list o)
sent_after ps o = ap (λ l. map spelling ps ++ l) (sym (sent_is o)) ∙ sym (map-append spelling ps (option_to_list o))

pub packets_after : (ps : List Packet) (o : Option Packet) → Each IsPacket ps → IfSome o IsPacket → Each IsPacket (ps ++ option_to_list o)
packets_after ps None all fits = subst (Each IsPacket) (sym (append-nil ps)) all
packets_after ps (Some p) all fits = each_append IsPacket ps (p ∷ []) all (fits, tt)

-- where no fault says otherwise the line is quiet
all_true : (a b c : Bool) → (if true && not (a && b && c) then Some NotQuiet else None) ≡ None → (a ≡ true) × (b ≡ true) × (c ≡ true)
all_true true true true e = (refl, refl, refl)
all_true true true false e = absurd cc
all_true true false c e = absurd cc
all_true false b c e = absurd cc

none_on : (ps : List Packet) → (length (map spelling ps) == 0) ≡ true → ps ≡ []
none_on [] e = refl
none_on (p ∷ ps) e = absurd (let some = ne_eqb (length (map spelling (p ∷ ps))) 0 (λ h. omega (arith, h)) in cc)

pub is_quiet : (ps qs : List Packet) (state : State)
    → (if true && not (length (map spelling ps) == 0 && length (map spelling qs) == 0 && is_closed state) then Some NotQuiet else None) ≡ None
    → (ps ≡ []) × (qs ≡ []) × (controllers.refused_unless_closed state ≡ None)
is_quiet ps qs state e =
    let all = all_true (length (map spelling ps) == 0) (length (map spelling qs) == 0) (is_closed state) e in
    (none_on ps all.0, none_on qs all.1, may_begin state all.2)

module _ {H : Type 0} where
  -- what is on the line can be spelled
  pub record ArePackets (l : Link H) : Type 0 where
    pub to_reader : Each IsPacket l.to_reader
    pub to_controller : Each IsPacket l.to_controller

  -- the simulation is the link after a step, and this was added to its account
  pub record IsCarried (s : SimState H) (l : Link H) (clock : ℕ) (a : Account) (x : Added) : Type 0 where
    pub state : s ≡ in_bytes l clock s.account
    pub packets : ArePackets l
    pub adds : Adds a x s.account

  -- nothing happens
  pub nothing : (l : Link H) (clock : ℕ) (a : Account) → ArePackets l → IsCarried (in_bytes l clock a) l clock a nothing_added
  nothing l clock a packets = record { state = refl; packets = packets; adds = adds_nothing a }

  -- ---- calls

  pub issuing : (fault : Option ControllerFault) (command : Command) (l : Link H) (clock : ℕ) (a : Account) → ArePackets l
      → IsCarried (steps.issued fault command (in_bytes l clock a)) (link.submits fault command l) clock a
      (record nothing_added { submitted = sessions.accepted fault command })
  issuing (Some fault) command l clock a packets = nothing l clock a packets
  issuing None command l clock a packets = record {
    state = refl;
    packets = record { to_reader = packets.to_reader; to_controller = packets.to_controller };
    adds = adds_command command a;
  }

  pub queueing : (full : Bool) (event : Event) (l : Link H) (clock : ℕ) (a : Account) → ArePackets l
      → IsCarried (steps.queued full event (in_bytes l clock a)) (link.queues full event l) clock a
      (record nothing_added { queued = sessions.unless_full full event })
  queueing true event l clock a packets = nothing l clock a packets
  queueing false event l clock a packets = record {
    state = refl;
    packets = record { to_reader = packets.to_reader; to_controller = packets.to_controller };
    adds = adds_event event a;
  }

  pub setting_busy : (busy : Bool) (l : Link H) (clock : ℕ) (a : Account) → ArePackets l
      → let changed = readers.after_set_busy busy l.reader in
      IsCarried (record (in_bytes l clock a) { reader = changed }) (record l { reader = changed }) clock a nothing_added
  setting_busy busy l clock a packets = record {
    state = refl;
    packets = record { to_reader = packets.to_reader; to_controller = packets.to_controller };
    adds = adds_nothing a;
  }

  -- ---- moments

  pub ticking : (t : Ticked) (now : ℕ) (l : Link H) (clock : ℕ) (a : Account) → ArePackets l → IfSome t.step.frame IsPacket
      → IsCarried (steps.ticked t now (in_bytes l clock a)) (link.ticked t l) now a (record nothing_added { told = option_to_list t.step.report })
  ticking t now l clock a packets fits =
      let s = steps.ticked t now (in_bytes l clock a) in
      record {
        state = ap (λ line. record s { to_reader = line }) (sent_after l.to_reader t.step.frame);
        packets = record {
          to_reader = packets_after l.to_reader t.step.frame packets.to_reader fits;
          to_controller = packets.to_controller;
        };
        adds = adds_report t.step.report a;
      }

  -- ---- sessions

  -- a session begins again where nothing is on the line and the one before has ended
  begins_again : (l : Link H) (clock : ℕ) (a : Account) → ArePackets l
      → IsCarried (steps.reopened (in_bytes l clock a)) (link.reopens None [] [] clock l) clock a (record nothing_added { begun = 1 })
  begins_again l clock a packets = record {
    state = refl;
    packets = record { to_reader = packets.to_reader; to_controller = packets.to_controller };
    adds = adds_session a;
  }

  pub reopening : (ps qs : List Packet) (refusal : Option ControllerFault) (l : Link H) (clock : ℕ) (a : Account) → ps ≡ [] → qs ≡ [] → refusal ≡ None
      → ArePackets l
      → IsCarried (steps.reopened (in_bytes l clock a)) (link.reopens refusal ps qs clock l) clock a
      (record nothing_added { begun = sessions.begun_again refusal ps qs })
  reopening [] [] None l clock a here there well packets = begins_again l clock a packets
  reopening [] [] (Some fault) l clock a here there well packets = absurd cc
  reopening [] (q ∷ qs) refusal l clock a here there well packets = absurd cc
  reopening (p ∷ ps) qs refusal l clock a here there well packets = absurd cc
