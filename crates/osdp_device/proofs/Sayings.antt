-- A response says what the reader's table says.
use Rattle.osdp_device.proofs.Common.{◌≡◌, ℕ, true, false, List, Option, Some, None, Result, Ok, Err, refl, sym, ap, ◌∙◌, result_ok, MsgFault, Packet, RunItem, PacketItem, SkippedItem, RefusedItem, Command, Answer, Kind, Silent, Zero, Taken, ReaderState, begun, command_in, hears, kind_of, outcome, taken, acted_on, said_if, Said, after_item, bytes_of, is_answered, said_of, said_to, speaks, unless_silent}
use Rattle.osdp_frame.proofs.Spelled.{spelled_is}
use Rattle.osdp_reader.specs.Spelled.{IsSpelled}

bytes_are : (o : Option Packet) (bytes : List ℕ) → IsSpelled o bytes → bytes ≡ bytes_of o
bytes_are None bytes is = is
bytes_are (Some p) bytes is = spelled_is p bytes is

says : (k : Kind) (said : Said) → speaks k ≡ true → Some said ≡ unless_silent k said
says Silent said speaks = absurd cc
says _ said speaks = refl

-- the command that is acted on is that of the packet, where its kind is one of those that act
module _ {H : Type 0} (answer_of : H → Command → Answer) (after : H → Command → H) where
  by_zero : (read : Result Command MsgFault) (r : ReaderState H) (p : Packet) → (begun answer_of after read r p).command ≡ result_ok read
  by_zero (Err fault) r p = refl
  by_zero (Ok command) r p = refl

  by_next : (read : Result Command MsgFault) (r : ReaderState H) (p : Packet) → (taken answer_of after read r p).command ≡ result_ok read
  by_next (Err fault) r p = refl
  by_next (Ok command) r p = refl

  acts_on : (k : Kind) (r : ReaderState H) (p : Packet) → (outcome answer_of after k r p).command ≡ acted_on k (result_ok (command_in p))
  acts_on Zero r p = by_zero (command_in p) r p
  acts_on Taken r p = by_next (command_in p) r p
  acts_on _ r p = refl

pub said_here : {H : Type 0} (answer_of : H → Command → Answer) (after : H → Command → H) (r : ReaderState H) (p : Packet) (k : Kind) (sent : List ℕ)
    → speaks (kind_of r p) ≡ true → k ≡ kind_of r p → IsSpelled (hears answer_of after r p).reply sent
    → said_if (Some k) (acted_on k (result_ok (command_in p))) sent ≡ unless_silent (kind_of r p) (said_to answer_of after r p)
said_here answer_of after r p k sent speaks kind reply =
    let bytes = bytes_are (hears answer_of after r p).reply sent reply in
    let command : acted_on k (result_ok (command_in p)) ≡ (hears answer_of after r p).command =
    ap (λ (x : Kind). acted_on x (result_ok (command_in p))) kind ∙ sym (acts_on answer_of after (kind_of r p) r p) in
    (λ i. said_if (Some (kind i)) (command i) (bytes i)) ∙ says (kind_of r p) (said_to answer_of after r p) speaks

-- A silent reader says nothing, and stays as it is.
says_nothing : (k : Kind) (said : Said) → speaks k ≡ false → None ≡ unless_silent k said
says_nothing Silent said silent = refl
says_nothing _ said silent = absurd cc

module _ {H : Type 0} (answer_of : H → Command → Answer) (after : H → Command → H) where
  stays_by : (k : Kind) (r : ReaderState H) (p : Packet) → speaks k ≡ false → r ≡ (outcome answer_of after k r p).reader
  stays_by Silent r p silent = refl
  stays_by _ r p silent = absurd cc

  pub none_said : (part : RunItem) (r : ReaderState H) → is_answered r part ≡ false → None ≡ said_of answer_of after part r
  none_said (PacketItem p) r silent = says_nothing (kind_of r p) (said_to answer_of after r p) silent
  none_said (SkippedItem byte) r silent = refl
  none_said (RefusedItem fault) r silent = refl

  pub stays : (part : RunItem) (r : ReaderState H) → is_answered r part ≡ false → r ≡ after_item answer_of after part r
  stays (PacketItem p) r silent = stays_by (kind_of r p) r p silent
  stays (SkippedItem byte) r silent = refl
  stays (RefusedItem fault) r silent = refl
