-- What is asked of order where others speak on the line, too: of what they say nothing, and of all else what is asked of a line without them.
use Rattle.std.specs.Prelude.{◌≡◌, ◌≤◌, ℕ, All, List, [], ◌∷◌, Option, Some, None}
use Rattle.osdp_frame.specs.Packet.{Packet}
use Rattle.osdp_device.specs.Telling.{items_of}
use Rattle.osdp_shared_line.specs.Line.{site_at}
use Rattle.osdp_calls.specs.Calls.{Call, Next, OfPanel, read_by, read_up_to}
use Rattle.osdp_calls.specs.Lines.{Burst, InUse, Station}
use Rattle.osdp_calls.specs.Premises.{InOrder, IsOfOthers}

-- each of these packets was said, at its place, and no place lies before the one before it
abbrev pub AreSaid : List Burst → List Packet → List ℕ → ℕ → Type 0
AreSaid said [] [] before = Unit {0}
AreSaid said (p ∷ ps) (i ∷ places) before =
    (b : Burst) × (site_at i said ≡ Some b) × (b.packet ≡ p) × (before ≤ i) × AreSaid said ps places i
AreSaid said [] (i ∷ places) before = ⊥
AreSaid said (p ∷ ps) [] before = ⊥

module _ {H : Type 0} where
  -- what a device's `next` reads
  abbrev pub read_next : Option (Station H) → List Packet
  read_next None = []
  read_next (Some t) = read_up_to t.reader (items_of t.line.held)

  -- what a call reads
  abbrev pub read_in : Call H → InUse H → List Packet
  read_in (OfPanel call) l = read_by call l.bus
  read_in (Next k) l = read_next (site_at k l.stations)
  read_in _ l = []

  -- all that a `next` of this device reads was said, in order
  abbrev pub NextIsSaid : List Burst → List ℕ → Option (Station H) → Type 0
  NextIsSaid said places None = Unit {0}
  NextIsSaid said places (Some t) = AreSaid said (read_up_to t.reader (items_of t.line.held)) places t.place

  -- all that a call reads was said on this line, in this order
  abbrev pub AllIsSaid : Call H → List ℕ → InUse H → Type 0
  AllIsSaid (OfPanel call) places l = AreSaid l.said (read_by call l.bus) places l.place
  AllIsSaid (Next k) places l = NextIsSaid l.said places (site_at k l.stations)
  AllIsSaid _ places l = Unit {0}

-- A call that reads nothing but what was said, in order, keeps the premise. Where no packet that it reads is of others, no other call keeps it. And a call
-- that reads packets of others alone keeps it, with no place.
pub record SparesOthers (H : Type 0) : Type 0 where
  pub all_said : (call : Call H) (places : List ℕ) (l : InUse H) → AllIsSaid call places l → InOrder call places l
  pub none_of_others : (call : Call H) (places : List ℕ) (l : InUse H) → All (λ p. IsOfOthers l p → ⊥) (read_in call l) → InOrder call places l
      → AllIsSaid call places l
  pub others_alone : (call : Call H) (l : InUse H) → All (IsOfOthers l) (read_in call l) → InOrder call [] l
