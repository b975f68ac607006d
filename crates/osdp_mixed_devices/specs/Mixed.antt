-- Devices of two kinds on one line, as those whose programs are in C and those that are run by lines: each does what it does alone.
use Rattle.std.specs.Prelude.{◌≡◌, ℕ, List, [], map}
use Rattle.osdp_msg.specs.declared.command.Command.{Command}
use Rattle.osdp_reader.specs.State.{ReaderState}
use Rattle.osdp_reader.specs.declared.handler.Answer.{Answer}
use Rattle.osdp_calls.specs.Calls.{Call, NewDevice, NewPanel, Next, OfPanel, Pending, SetBusy, SetHandler, Silence, SubmitEvent, Take, TickDevice, LapseEvent, WithdrawEvent, Held}
use Rattle.osdp_calls_instance.specs.OwnCalls.{DeviceKind, device_after_each}
use Rattle.osdp_mixed_devices.specs.Either.{after_either, answer_of_either}
use Rattle.osdp_mixed_devices.specs.declared.either.EitherHandler.{EitherHandler}
use Rattle.osdp_mixed_devices.specs.declared.either.EitherHandler.TheVariants.{First, Second}

module _ {H K : Type 0} (seen : H → K) where
  -- a device with its handler seen as one of another type
  abbrev pub reader_as : ReaderState H → ReaderState K
  reader_as r = record { config = r.config; last = r.last; stored = r.stored; queue = r.queue; busy = r.busy; handler = seen r.handler }

  -- .. and the whole device
  abbrev pub held_as : Held H → Held K
  held_as d = record { reader = reader_as d.reader; line = d.line }

  -- a call of it
  abbrev pub call_as : Call H → Call K
  call_as (OfPanel call) = OfPanel call
  call_as (SubmitEvent k event) = SubmitEvent k event
  call_as (SetBusy k busy) = SetBusy k busy
  call_as (SetHandler k handler) = SetHandler k (seen handler)
  call_as (WithdrawEvent k) = WithdrawEvent k
  call_as (LapseEvent k) = LapseEvent k
  call_as (Take k bytes now) = Take k bytes now
  call_as (TickDevice k now) = TickDevice k now
  call_as (Silence k now) = Silence k now
  call_as (Next k) = Next k
  call_as (Pending k) = Pending k
  call_as (NewDevice k config handler room gap) = NewDevice k config (seen handler) room gap
  call_as (NewPanel config addresses) = NewPanel config addresses

-- something of the first kind, or of the second
pub data OneOf (A B : Type 0) : Type 0 where
  OfFirst : A → OneOf A B
  OfSecond : B → OneOf A B

module _ {A B : Type 0} (D : DeviceKind A) (E : DeviceKind B) where
  -- a program of a device of either kind
  abbrev pub Program : Type 0
  Program = OneOf D.Program E.Program

  -- its device, with its handler as one of either type
  abbrev pub held_of : Program → Held (EitherHandler A B)
  held_of (OfFirst d) = held_as First (D.held d)
  held_of (OfSecond e) = held_as Second (E.held e)

  -- what holds of it at all times is what holds of a program of its kind
  abbrev pub IsSound : Program → Type 0
  IsSound (OfFirst d) = D.Sound d
  IsSound (OfSecond e) = E.Sound e

  -- a call of one kind to a program of that kind; a program of the other kind has no such call
  abbrev pub after_own : OneOf D.Own E.Own → Program → Program
  after_own (OfFirst own) (OfFirst d) = OfFirst (D.after own d)
  after_own (OfSecond own) (OfSecond e) = OfSecond (E.after own e)
  after_own (OfFirst own) (OfSecond e) = OfSecond e
  after_own (OfSecond own) (OfFirst d) = OfFirst d

  -- an own call fits a program of its kind that it fits there, and no program of the other kind
  abbrev pub OwnFits : OneOf D.Own E.Own → Program → Type 0
  OwnFits (OfFirst own) (OfFirst d) = D.Fits own d
  OwnFits (OfSecond own) (OfSecond e) = E.Fits own e
  OwnFits (OfFirst own) (OfSecond e) = ⊥
  OwnFits (OfSecond own) (OfFirst d) = ⊥

  -- which calls of a line in use an own call is: those that it is in its kind
  abbrev pub own_calls : ℕ → OneOf D.Own E.Own → Program → List (Call (EitherHandler A B))
  own_calls k (OfFirst own) (OfFirst d) = map (call_as First) (D.calls k own d)
  own_calls k (OfSecond own) (OfSecond e) = map (call_as Second) (E.calls k own e)
  own_calls k (OfFirst own) (OfSecond e) = []
  own_calls k (OfSecond own) (OfFirst d) = []

  -- devices of both kinds, as one kind
  abbrev pub either_device : DeviceKind (EitherHandler A B)
  either_device = record {
    Program = Program;
    held = held_of;
    Sound = IsSound;
    Own = OneOf D.Own E.Own;
    after = after_own;
    Fits = OwnFits;
    calls = own_calls;
  }

-- a device does the same, call for call, where its handler is seen as one of another type
abbrev pub DoesTheSame : {H K : Type 0} → (H → K) → (H → Command → Answer) → (H → Command → H) → (K → Command → Answer) → (K → Command → K) → Type 0
DoesTheSame {H} {K} seen answer_of after answer_as after_as =
    (calls : List (Call H)) (d : Held H)
    → device_after_each answer_as after_as (map (call_as seen) calls) (held_as seen d) ≡ held_as seen (device_after_each answer_of after calls d)

-- .. as one of two types
pub record EitherDoesTheSame (A B : Type 0) (answer_a : A → Command → Answer) (after_a : A → Command → A) (answer_b : B → Command → Answer)
    (after_b : B → Command → B) : Type 0 where
  pub first : DoesTheSame {H = A} {K = EitherHandler A B} First answer_a after_a (answer_of_either answer_a answer_b) (after_either after_a after_b)
  pub second : DoesTheSame {H = B} {K = EitherHandler A B} Second answer_b after_b (answer_of_either answer_a answer_b) (after_either after_a after_b)
