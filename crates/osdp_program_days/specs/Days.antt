-- A list of calls that programs make, each with the places of the packets that it reads, in what was said on the line: which calls of a line in use these are.
use Rattle.std.specs.Prelude.{◌≡◌, ℕ, Bool, true, false, if◌then◌else◌, List, [], ◌∷◌, ◌++◌, map}
use Rattle.osdp_msg.specs.declared.command.Command.{Command}
use Rattle.osdp_msg.specs.declared.event.Event.{Event}
use Rattle.osdp_msg.specs.declared.reply.Reply.{Reply}
use Rattle.osdp_msg.specs.declared.reply.Reply.TheVariants as reply
use Rattle.osdp_bus_laws.specs.Calls as bus
use Rattle.osdp_ledger.specs.History.{AfterReport, CutOff, End, Exit, Forgotten, GivenBack, History, InDoubt, Lapsed, Left, Settled, new_history, runs}
use Rattle.osdp_ledger.specs.Ledger.{Card, Order}
use Rattle.osdp_reader.specs.declared.handler.Answer.{Answer}
use Rattle.osdp_calls.specs.Calls.{Call, Next, OfPanel, Step}
use Rattle.osdp_calls_instance.specs.OwnCalls.{DeviceKind, OwnCall, PanelKind, Programs, after_own, calls_by}
use Rattle.osdp_calls.specs.Premises.{AllKeep}
use Rattle.osdp_calls_ledger.specs.Steps.{steps_from}
use Rattle.osdp_premises.specs.LongDay.{first_line, key, station_at}
use Rattle.osdp_programs_ledger.specs.Programs.{AreTheirCalls}

-- a call of the panel by which it reads
abbrev pub panel_reads : bus.Call → Bool
panel_reads (bus.OnBytes bytes now) = true
panel_reads (bus.OnSilence now) = true
panel_reads _ = false

module _ {H : Type 0} where
  -- a call by which an end reads
  abbrev pub reads : Call H → Bool
  reads (OfPanel call) = panel_reads call
  reads (Next k) = true
  reads _ = false

  -- the first of these calls that reads takes all that stands at these places
  abbrev pub all_at : List ℕ → List (Call H) → List (Step H)
  all_at places [] = []
  all_at places (call ∷ calls) =
      if reads call then record { call = call; places = places } ∷ all_at [] calls else record { call = call; places = [] } ∷ all_at places calls

  module _ (P : PanelKind H) (D : DeviceKind H) where
    -- what one of the programs calls, and the places of what is read then
    pub record Made : Type 0 where
      pub own : OwnCall P D
      pub places : List ℕ

    -- the own calls of the programs
    abbrev pub owns : List Made → List (OwnCall P D)
    owns day = map (λ (made : Made). made.own) day

    -- .. and the calls of a line in use that they are, with the places of what is read
    abbrev pub steps_of : List Made → Programs P D → List (Step H)
    steps_of [] w = []
    steps_of (made ∷ more) w = all_at made.places (calls_by P D made.own w) ++ steps_of more (after_own P D made.own w)

-- a day of programs whose panel and devices are at first those of `first_line`: it keeps all premises of the theorem, and what it comes to of the first entry
module _ {H : Type 0} (P : PanelKind H) (D : DeviceKind H) (answer_of : H → Command → Answer) (after : H → Command → H) where
  -- the history of the device at 3 over such a day
  abbrev pub history_of : List (Made P D) → Programs P D → H → History
  history_of day w handler = runs (steps_from answer_of after 0 (station_at 3 handler) (steps_of P D day w) (first_line handler)) new_history

  -- In five sessions an order was settled, one was taken back, one expired, a COMSET was settled, one whose repeat was withheld was told in doubt, and when the panel was made
  -- anew one was cut off and one that waited was forgotten; the device acted on three of these. A key was reported in the first session, and again in the second, and left. Another
  -- lapsed in the fifth, and was reported after that.
  pub record DayKeeps (day : List (Made P D)) (w : Programs P D) (handler : H) : Type 0 where
    pub calls : AreTheirCalls P D answer_of after (owns P D day) w (first_line handler) (steps_of P D day w)
    pub keep : AllKeep answer_of after (steps_of P D day w) (first_line handler)
    pub sessions : (history_of day w handler).sessions ≡ 5
    pub ended : map (λ (e : Order × End). e.1) (history_of day w handler).ended
        ≡ Settled reply.Ack ∷ GivenBack ∷ GivenBack ∷ Settled (reply.Com (record { address = 5; baud_rate = 9600 })) ∷ InDoubt ∷ CutOff ∷ Forgotten ∷ []
    pub acted : map (λ (a : Order × Reply). a.0.place) (history_of day w handler).acted ≡ 0 ∷ 3 ∷ 5 ∷ []
    pub reported : map {B = ℕ × Event} (λ (told : ℕ × Card). (told.0, told.1.event)) (history_of day w handler).reports ≡ (1, key) ∷ (2, key) ∷ (5, key) ∷ []
    pub left : map {B = ℕ × Exit} (λ (gone : Left). (gone.session, gone.why)) (history_of day w handler).left ≡ (2, AfterReport) ∷ (5, Lapsed) ∷ []
