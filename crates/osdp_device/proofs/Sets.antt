-- What is said to a command about which a device's program was asked, and to what else comes.
use Rattle.osdp_device.proofs.Common.{◌≡◌, Bool, true, false, if◌then◌else◌, List, [], ◌∷◌, Option, Some, None, Result, Ok, Err, refl, sym, ap, ◌∙◌, subst, Held, later, Packet, RunItem, PacketItem, SkippedItem, RefusedItem, spelling, Command, Poll, Event, MsgFault, Reply, Answer, Kind, event_for, released, own_reply, reply_for, reply_packet, ReaderState, after_set_handler, Outcome, answered, begun, command_in, event_or_answer, kind_of, outcome, taken, acted_on, handled, pending_at, pending_in, unless_own, IsSaidTo, Said, after_item, bytes_of, is_answered, said_of, speaks, unless_silent, Told, told_by, told_or}
use Rattle.osdp_reader.specs.declared.config.ReaderConfig.{ReaderConfig}
use Rattle.osdp_reader.specs.declared.kind.Kind.TheVariants as kind
use Rattle.osdp_device.proofs.Sayings.{none_said, stays}

-- a command that the reader doesn't answer by itself isn't one to which an event is told
no_event : (config : ReaderConfig) (c : Command) (events : List Event) → own_reply config c ≡ None → event_for c events ≡ None
no_event config Poll events e = absurd cc
no_event config _ events e = refl

module _ {H : Type 0} (answer_of : H → Command → Answer) (after : H → Command → H) where
  -- what is said to a packet by a line of the table
  abbrev said_by : Kind → ReaderState H → Packet → Option Said
  said_by k r p = unless_silent k (record {
    kind = k;
    command = (outcome answer_of after k r p).command;
    bytes = bytes_of (outcome answer_of after k r p).reply;
  })

  abbrev Says : ReaderState H → Command → Option Said → Type 0
  Says r command told = IsSaidTo command (reply_for (answer_of r.handler command) command) told

  -- ---- another handler leaves what is pending

  answered_alike : (part : RunItem) (r : ReaderState H) (h : H) → is_answered (after_set_handler h r) part ≡ is_answered r part
  answered_alike (PacketItem p) r h = refl
  answered_alike (SkippedItem byte) r h = refl
  answered_alike (RefusedItem fault) r h = refl

  at_alike : (part : RunItem) (r : ReaderState H) (h : H) → pending_at (after_set_handler h r) part ≡ pending_at r part
  at_alike (PacketItem p) r h = refl
  at_alike (SkippedItem byte) r h = refl
  at_alike (RefusedItem fault) r h = refl

  pub pending_alike : (parts : List RunItem) (r : ReaderState H) (h : H) → pending_in parts (after_set_handler h r) ≡ pending_in parts r
  pending_alike [] r h = refl
  pending_alike (part ∷ parts) r h =
      λ i. if answered_alike part r h i then at_alike part r h i else pending_alike parts r h i

  -- ---- to a pending command

  same_command : (o : Option Reply) (c command : Command) → unless_own o c ≡ Some command → (o ≡ None) × (c ≡ command)
  same_command None c command e = (refl, (let f : Some c ≡ Some command = e in cc))
  same_command (Some own) c command e = absurd cc

  -- a line of the table that acts on the command says its reply, with this number
  says_so : (k : Kind) (p : Packet) (number : _) (c command : Command) (r : ReaderState H) (said : Reply) → c ≡ command
      → said ≡ reply_for (answer_of r.handler c) c
      → Says r command (Some (record { kind = k; command = Some c; bytes = spelling (reply_packet p number said) }))
  says_so k p number c command r said same is = record {
    said = _;
    told_is = refl;
    command_is = ap (λ x. Some x) same;
    packet = p;
    number = number;
    bytes_are = ap (λ x. spelling (reply_packet p number x)) (is ∙ ap (λ x. reply_for (answer_of r.handler x) x) same);
  }

  -- what is said of what was done
  abbrev said_as : Kind → Outcome H → Option Said
  said_as k o = Some (record { kind = k; command = o.command; bytes = bytes_of o.reply })

  by_zero : (read : Result Command MsgFault) (r : ReaderState H) (p : Packet) (command : Command) → handled r.config read ≡ Some command
      → Says r command (said_as kind.Zero (begun answer_of after read r p))
  by_zero (Err fault) r p command e = absurd cc
  by_zero (Ok c) r p command e =
      let both = same_command (own_reply r.config c) c command e in
      says_so kind.Zero p 0 c command r (answered answer_of after (own_reply r.config c) r.handler c).reply both.1
      (ap (λ o. (answered answer_of after o r.handler c).reply) both.0)

  by_next : (read : Result Command MsgFault) (r : ReaderState H) (p : Packet) (command : Command) → handled r.config read ≡ Some command
      → Says r command (said_as kind.Taken (taken answer_of after read r p))
  by_next (Err fault) r p command e = absurd cc
  by_next (Ok c) r p command e =
      let both = same_command (own_reply r.config c) c command e in
      let events = (released r.queue).events in
      says_so kind.Taken p p.sequence c command r (event_or_answer answer_of after (event_for c events) r.config r.handler c).reply both.1
      (ap (λ o. (event_or_answer answer_of after o r.config r.handler c).reply) (no_event r.config c events both.0)
      ∙ ap (λ o. (answered answer_of after o r.handler c).reply) both.0)

  by_kind : (k : Kind) (r : ReaderState H) (p : Packet) (command : Command) → acted_on k (handled r.config (command_in p)) ≡ Some command
      → Says r command (said_by k r p)
  by_kind kind.Zero r p command e = by_zero (command_in p) r p command e
  by_kind kind.Taken r p command e = by_next (command_in p) r p command e
  by_kind _ r p command e = absurd cc

  by_item : (part : RunItem) (r : ReaderState H) (command : Command) → pending_at r part ≡ Some command → Says r command (said_of answer_of after part r)
  by_item (PacketItem p) r command e = by_kind (kind_of r p) r p command e
  by_item (SkippedItem byte) r command e = absurd cc
  by_item (RefusedItem fault) r command e = absurd cc

  told_first : (o : Option Said) (r q : ReaderState H) (command : Command) (held : Held) (rest : Told H) → Says r command o
      → Says r command (told_or answer_of after o q held rest).said
  told_first (Some said) r q command held rest says = says
  told_first None r q command held rest says = absurd (let f : None ≡ Some says.said = says.told_is in cc)

  told_next : (o : Option Said) (r q : ReaderState H) (held : Held) (rest : Told H) (P : Option Said → Type 0) → None ≡ o → P rest.said
      → P (told_or answer_of after o q held rest).said
  told_next None r q held rest P none holds = holds
  told_next (Some said) r q held rest P none holds = absurd cc

  -- the same reader is asked on after an item that isn't answered
  rest_of : (parts : List RunItem) (r q : ReaderState H) (held : Held) (P : Option Said → Type 0) → r ≡ q
      → P (told_by answer_of after parts r held).said → P (told_by answer_of after parts q held).said
  rest_of parts r q held P same holds = subst (λ x. P (told_by answer_of after parts x held).said) same holds

  pub says_it : (parts : List RunItem) (r : ReaderState H) (held : Held) (command : Command) → pending_in parts r ≡ Some command
      → Says r command (told_by answer_of after parts r held).said
  says_it [] r held command e = absurd cc
  says_it (part ∷ parts) r held command e = by_test (says_it parts r (later held part) command) (is_answered r part) refl
    where
      told : Option Said
      told = (told_by answer_of after (part ∷ parts) r held).said

      by_test : (pending_in parts r ≡ Some command → Says r command (told_by answer_of after parts r (later held part)).said)
          → (t : Bool) → is_answered r part ≡ t → Says r command told
      by_test others true is =
          let here : pending_at r part ≡ Some command = sym (ap (λ (b : Bool). if b then pending_at r part else pending_in parts r) is) ∙ e in
          told_first (said_of answer_of after part r) r (after_item answer_of after part r) command (later held part) _ (by_item part r command here)
      by_test others false is =
          let on : pending_in parts r ≡ Some command = sym (ap (λ (b : Bool). if b then pending_at r part else pending_in parts r) is) ∙ e in
          told_next (said_of answer_of after part r) r (after_item answer_of after part r) (later held part) _ (Says r command) (none_said answer_of after part r is)
          (rest_of parts r (after_item answer_of after part r) (later held part) (Says r command) (stays answer_of after part r is)
          (others on))

  -- ---- to what isn't pending

  own_alone : (o : Option Reply) (c : Command) (h k : H) → unless_own o c ≡ None
      → (answered answer_of after o h c).reply ≡ (answered answer_of after o k c).reply
  own_alone (Some own) c h k e = refl
  own_alone None c h k e = absurd cc

  event_alone : (o : Option Reply) (config : ReaderConfig) (c : Command) (h k : H) → unless_own (own_reply config c) c ≡ None
      → (event_or_answer answer_of after o config h c).reply ≡ (event_or_answer answer_of after o config k c).reply
  event_alone (Some event) config c h k e = refl
  event_alone None config c h k e = own_alone (own_reply config c) c h k e

  zero_alone : (read : Result Command MsgFault) (r : ReaderState H) (h : H) (p : Packet) → handled r.config read ≡ None
      → bytes_of (begun answer_of after read (after_set_handler h r) p).reply ≡ bytes_of (begun answer_of after read r p).reply
  zero_alone (Err fault) r h p e = refl
  zero_alone (Ok c) r h p e = ap (λ x. spelling (reply_packet p 0 x)) (own_alone (own_reply r.config c) c h r.handler e)

  zero_command : (read : Result Command MsgFault) (r : ReaderState H) (h : H) (p : Packet)
      → (begun answer_of after read (after_set_handler h r) p).command ≡ (begun answer_of after read r p).command
  zero_command (Err fault) r h p = refl
  zero_command (Ok c) r h p = refl

  next_alone : (read : Result Command MsgFault) (r : ReaderState H) (h : H) (p : Packet) → handled r.config read ≡ None
      → bytes_of (taken answer_of after read (after_set_handler h r) p).reply ≡ bytes_of (taken answer_of after read r p).reply
  next_alone (Err fault) r h p e = refl
  next_alone (Ok c) r h p e =
      ap (λ x. spelling (reply_packet p p.sequence x)) (event_alone (event_for c (released r.queue).events) r.config c h r.handler e)

  next_command : (read : Result Command MsgFault) (r : ReaderState H) (h : H) (p : Packet)
      → (taken answer_of after read (after_set_handler h r) p).command ≡ (taken answer_of after read r p).command
  next_command (Err fault) r h p = refl
  next_command (Ok c) r h p = refl

  kind_alone : (k : Kind) (r : ReaderState H) (h : H) (p : Packet) → acted_on k (handled r.config (command_in p)) ≡ None
      → said_by k (after_set_handler h r) p ≡ said_by k r p
  kind_alone kind.Zero r h p e = (λ i. Some (record {
    kind = kind.Zero;
    command = zero_command (command_in p) r h p i;
    bytes = zero_alone (command_in p) r h p e i;
  }))
  kind_alone kind.Taken r h p e = (λ i. Some (record {
    kind = kind.Taken;
    command = next_command (command_in p) r h p i;
    bytes = next_alone (command_in p) r h p e i;
  }))
  kind_alone _ r h p e = refl

  item_alone : (part : RunItem) (r : ReaderState H) (h : H) → pending_at r part ≡ None
      → said_of answer_of after part (after_set_handler h r) ≡ said_of answer_of after part r
  item_alone (PacketItem p) r h e = kind_alone (kind_of r p) r h p e
  item_alone (SkippedItem byte) r h e = refl
  item_alone (RefusedItem fault) r h e = refl

  -- an item that is answered is told at once
  told_now : (o : Option Said) (q : ReaderState H) (held : Held) (rest : Told H) (w : Said) → o ≡ Some w → (told_or answer_of after o q held rest).said ≡ o
  told_now (Some said) q held rest w is = refl
  told_now None q held rest w is = absurd cc

  kind_some : (k : Kind) (r : ReaderState H) (p : Packet) → speaks k ≡ true → (w : Said) × (said_by k r p ≡ Some w)
  kind_some kind.Silent r p e = absurd cc
  kind_some _ r p e = (_, refl)

  item_some : (part : RunItem) (r : ReaderState H) → is_answered r part ≡ true → (w : Said) × (said_of answer_of after part r ≡ Some w)
  item_some (PacketItem p) r e = kind_some (kind_of r p) r p e
  item_some (SkippedItem byte) r e = absurd cc
  item_some (RefusedItem fault) r e = absurd cc

  pub says_no_other : (parts : List RunItem) (r : ReaderState H) (h : H) (held : Held) → pending_in parts r ≡ None
      → (told_by answer_of after parts (after_set_handler h r) held).said ≡ (told_by answer_of after parts r held).said
  says_no_other [] r h held e = refl
  says_no_other (part ∷ parts) r h held e = by_test (says_no_other parts r h (later held part)) (is_answered r part) refl
    where
      s : ReaderState H
      s = after_set_handler h r

      Same : Type 0
      Same = (told_by answer_of after (part ∷ parts) s held).said ≡ (told_by answer_of after (part ∷ parts) r held).said

      by_test : (pending_in parts r ≡ None
          → (told_by answer_of after parts s (later held part)).said ≡ (told_by answer_of after parts r (later held part)).said)
          → (t : Bool) → is_answered r part ≡ t → Same
      by_test others true is =
          let here : pending_at r part ≡ None = sym (ap (λ (b : Bool). if b then pending_at r part else pending_in parts r) is) ∙ e in
          let w = item_some part r is in
          let v = item_some part s is in
          told_now (said_of answer_of after part s) (after_item answer_of after part s) (later held part) _ v.0 v.1
          ∙ item_alone part r h here
          ∙ sym (told_now (said_of answer_of after part r) (after_item answer_of after part r) (later held part) _ w.0 w.1)
      by_test others false is =
          let on : pending_in parts r ≡ None = sym (ap (λ (b : Bool). if b then pending_at r part else pending_in parts r) is) ∙ e in
          told_next (said_of answer_of after part s) s (after_item answer_of after part s) (later held part) _
          (λ o. o ≡ (told_by answer_of after (part ∷ parts) r held).said) (none_said answer_of after part s is)
          (told_next (said_of answer_of after part r) r (after_item answer_of after part r) (later held part) _
          (λ o. (told_by answer_of after parts (after_item answer_of after part s) (later held part)).said ≡ o) (none_said answer_of after part r is)
          (rest_of parts s (after_item answer_of after part s) (later held part)
          (λ o. o ≡ (told_by answer_of after parts (after_item answer_of after part r) (later held part)).said) (stays answer_of after part s is)
          (rest_of parts r (after_item answer_of after part r) (later held part)
          (λ o. (told_by answer_of after parts s (later held part)).said ≡ o) (stays answer_of after part r is)
          (others on))))

  -- ---- a repeat

  abbrev pub Stored : ReaderState H → Option Said → Type 0
  Stored r told = (said : Said) → told ≡ Some said → said.kind ≡ kind.Repeat → said.bytes ≡ bytes_of r.stored

  told_is : (a said : Said) → Some a ≡ Some said → a ≡ said
  told_is a said e = cc

  not_repeat : (a said : Said) → (a.kind ≡ kind.Repeat → ⊥) → Some a ≡ Some said → said.kind ≡ kind.Repeat → ⊥
  not_repeat a said other e is = other (ap (λ x. x.kind) (told_is a said e) ∙ is)

  kind_stored : (k : Kind) (r : ReaderState H) (p : Packet) → Stored r (said_by k r p)
  kind_stored kind.Silent r p said e is = absurd cc
  kind_stored kind.Repeat r p said e is = sym (ap (λ x. x.bytes) (told_is _ said e))
  kind_stored _ r p said e is = absurd (not_repeat _ said (λ f. absurd cc) e is)

  item_stored : (part : RunItem) (r : ReaderState H) → Stored r (said_of answer_of after part r)
  item_stored (PacketItem p) r = kind_stored (kind_of r p) r p
  item_stored (SkippedItem byte) r = λ said e is. absurd cc
  item_stored (RefusedItem fault) r = λ said e is. absurd cc

  pub repeats_stored : (parts : List RunItem) (r : ReaderState H) (held : Held) → Stored r (told_by answer_of after parts r held).said
  repeats_stored [] r held = λ said e is. absurd cc
  repeats_stored (part ∷ parts) r held = by_test (repeats_stored parts r (later held part)) (is_answered r part) refl
    where
      by_test : Stored r (told_by answer_of after parts r (later held part)).said
          → (t : Bool) → is_answered r part ≡ t → Stored r (told_by answer_of after (part ∷ parts) r held).said
      by_test others true is =
          let w = item_some part r is in
          subst (Stored r) (sym (told_now (said_of answer_of after part r) (after_item answer_of after part r) (later held part) _ w.0 w.1)) (item_stored part r)
      by_test others false is =
          told_next (said_of answer_of after part r) r (after_item answer_of after part r) (later held part) _ (Stored r) (none_said answer_of after part r is)
          (rest_of parts r (after_item answer_of after part r) (later held part) (Stored r) (stays answer_of after part r is)
          others)
