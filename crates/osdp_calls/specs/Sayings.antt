-- What goes out at a call is what is said, and entries that are added one by one are those of a line's set-up.
use Rattle.std.specs.Prelude.{◌≡◌, ℕ, true, false, All, List, [], ◌∷◌, ◌++◌, map, Option, Some, None, if◌then◌else◌, is_some, option_to_list}
use Rattle.std.specs.Option.{option_map}
use Rattle.osdp_frame.specs.Items.{whole_packets}
use Rattle.osdp_frame.specs.Packet.{Packet}
use Rattle.osdp_msg.specs.declared.command.Command.{Command}
use Rattle.osdp_bus.specs.Buses.{BusState, new_bus}
use Rattle.osdp_bus.specs.Machine.{add_refusal, after_add}
use Rattle.osdp_bus.specs.Ticking.{bus_ticks}
use Rattle.osdp_bus.specs.declared.config.BusConfig.{BusConfig}
use Rattle.osdp_bus_laws.specs.Calls as bus
use Rattle.osdp_device.specs.Saying.{Said, said_to, speaks, taken_by}
use Rattle.osdp_device.specs.Telling.{items_of, next_told}
use Rattle.osdp_reader.specs.State.{ReaderState}
use Rattle.osdp_reader.specs.Table.{hears, kind_of}
use Rattle.osdp_reader.specs.declared.handler.Answer.{Answer}
use Rattle.osdp_shared_line.specs.Line.{site_at}
use Rattle.osdp_calls.specs.Calls.{Next, OfPanel, after_call, asked_at, read_up_to, reply_to}
use Rattle.osdp_calls.specs.Lines.{Burst, InUse, Station, bus_with}

-- these packets were said after all others, each by such an end and for such an entry
pub record IsSaid (Who : Burst → Type 0) (packets : List Packet) (old new : List Burst) : Type 0 where
  pub bursts : List Burst
  pub more : new ≡ old ++ bursts
  pub are : map (λ (b : Burst). b.packet) bursts ≡ packets
  pub who : All Who bursts

-- of what goes out, what is for an entry whose device is ours
abbrev pub for_ours : {H : Type 0} → Option ℕ → Option Packet → InUse H → List Packet
for_ours None p l = []
for_ours (Some entry) p l = if is_some (site_at entry l.stations) then option_to_list p else []

-- by the panel, for the entry whose controller ticked
abbrev pub ByPanel : ℕ → BusState → Burst → Type 0
ByPanel now bus b = (b.by_panel ≡ true) × (asked_at now bus ≡ Some b.entry)

-- by the device of an entry
abbrev pub ByDevice : ℕ → Burst → Type 0
ByDevice k b = (b.by_panel ≡ false) × (b.entry ≡ k)

-- none of these addresses is refused
abbrev pub NoneRefused : List ℕ → BusState → Type 0
NoneRefused [] b = Unit {0}
NoneRefused (address ∷ addresses) b = (add_refusal address b ≡ None) × NoneRefused addresses (after_add address b)

-- the bus of a set-up is a new one to which these were added
abbrev pub AddsMakeTheBus : Type 0
AddsMakeTheBus = (config : BusConfig) (addresses : List ℕ) → NoneRefused addresses (new_bus config)
    → bus.after_calls (map bus.Add addresses) (new_bus config) ≡ bus_with config addresses

module _ {H : Type 0} where
  -- of these packets an end reads all up to and including the first that its reader answers, or all where it answers none
  abbrev pub ReadsToFirst : ReaderState H → List Packet → List Packet → Option Packet → Type 0
  ReadsToFirst r all read None = (read ≡ all) × All (λ p. speaks (kind_of r p) ≡ false) all
  ReadsToFirst r all read (Some p) =
      (before : List Packet) × (rest : List Packet) × (read ≡ before ++ p ∷ []) × (all ≡ read ++ rest)
      × All (λ q. speaks (kind_of r q) ≡ false) before × (speaks (kind_of r p) ≡ true)

  -- a reader that has heard all of these
  abbrev pub after_hearing : (H → Command → Answer) → (H → Command → H) → List Packet → ReaderState H → ReaderState H
  after_hearing answer_of after [] r = r
  after_hearing answer_of after (p ∷ ps) r = after_hearing answer_of after ps (hears answer_of after r p).reader

-- the command that a program acts on, once, by a response: one that was taken, but POLL
abbrev pub acted_on : Option Said → List Command
acted_on None = []
acted_on (Some said) = option_to_list (taken_by said.kind said.command)

module _ {H : Type 0} (answer_of : H → Command → Answer) (after : H → Command → H) where
  -- Of the packets that the bytes held decide a `next` hands those that are read to the reader, up to and including the first that it answers. Its
  -- response is that answer, and its bytes are the packet that is said.
  pub record NextSays (k : ℕ) (places : List ℕ) (t : Station H) (l : InUse H) : Type 0 where
    pub answered : Option Packet
    pub read : ReadsToFirst t.reader (whole_packets (items_of t.line.held)) (read_up_to t.reader (items_of t.line.held)) answered
    pub reader : (next_told answer_of after t.reader t.line.held).reader
        ≡ after_hearing answer_of after (read_up_to t.reader (items_of t.line.held)) t.reader
    pub response : (next_told answer_of after t.reader t.line.held).said ≡ option_map (said_to answer_of after t.reader) answered
    pub said : IsSaid (ByDevice k) (reply_to answer_of after answered t.reader) l.said (after_call answer_of after (Next k) places l).said

  -- What is said at a tick is the frame that goes out, where it is for an entry of ours. What is said at a `next` is as `NextSays` has it.
  pub record SaysWhatGoesOut (l : InUse H) : Type 0 where
    pub panel : (now : ℕ) (places : List ℕ)
        → IsSaid (ByPanel now l.bus) (for_ours (asked_at now l.bus) (bus_ticks now l.bus).sent l) l.said (after_call answer_of after (OfPanel (bus.Tick now)) places l).said
    pub device : (k : ℕ) (places : List ℕ) (t : Station H) → site_at k l.stations ≡ Some t → NextSays k places t l
