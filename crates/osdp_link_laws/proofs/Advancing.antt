-- The frame of the current exchange comes to the reader for the first time: it acts on it, or is busy or elsewhere.
use Rattle.osdp_link_laws.proofs.Common.{◌≡◌, ◌⊎◌, ◌<◌, ℕ, List, [], ◌∷◌, ◌++◌, Option, Some, None, Result, Ok, refl, sym, subst, inl, inr, IfSome, option_to_list, eqb_tells, Packet, next_sequence, ReplyFits, Command, MsgFault, Reply, ControllerConfig, Exchange, Opening, Polling, Asking, exchange_command, Answer, Kind, Zero, Taken, Busy, event_for, offering, released, refused, reply_packet, UnexpectedSequence, ReaderState, answer_to, begun, command_in, event_or_answer, kind_of, moved, new_address, outcome, taken, IsPlain, MaySubmit, Link}
use Rattle.osdp_msg.specs.declared.command.Command.TheVariants as command
use Rattle.osdp_msg.specs.declared.reply.Reply.TheVariants as reply
use Rattle.osdp_link_laws.proofs.Acting.{kind_next, kind_unknown, kind_zero, moved_acted, no_event, polled}
use Rattle.osdp_link_laws.proofs.Lines.{both, each_append, runs_first}
use Rattle.osdp_link_laws.proofs.Numbers.{next_above_zero}
use Rattle.osdp_link_laws.proofs.Stages.{After, Before, Behind, Each, HasActed, IsFrame, Knows, Level, Never, Now, Restarted, Says, SaysOld, Stage, Start, ToControllerAt, answer, frame, heard_zero}
use Rattle.osdp_link_laws.proofs.Since.{Hears, has_acted, knows}
use Rattle.osdp_link_laws.proofs.Coming.{KeepsDue, Reads, ReadsTo}
use Rattle.osdp_link_laws.proofs.Parts.{At, HoldsThen}
use Rattle.osdp_link_laws.proofs.Taking.{StaysBy, away, gets_by, says}

-- what is known of the reply that a line of the table says anew
module _ {H : Type 0} (answer_of : H → Command → Answer) (after : H → Command → H) where
  abbrev pub SaysWell : Packet → ReaderState H → Kind → Type 0
  SaysWell p r kind =
      IfSome (outcome answer_of after kind r p).said ReplyFits
      × ((kind ≡ Zero) ⊎ (kind ≡ Taken) → IfSome (outcome answer_of after kind r p).said IsPlain)

module _ (fixed : ControllerConfig) {H : Type 0} (answer_of : H → Command → Answer) (after : H → Command → H) (since : Restarted) where
  abbrev Holding : Stage → Kind → Packet → Link H → Type 0
  Holding at k p l = HoldsThen fixed answer_of after (Reads answer_of after k p l.reader since at) (gets_by fixed answer_of after since k p l)

  abbrev AtStage : Stage → Link H → Type 0
  AtStage at l = At fixed answer_of after since at l

  -- number 0 has come
  opened_knows : (since : Restarted) (a : Reply) (r : ReaderState H) → HasActed fixed 0 Opening a r → Knows fixed (heard_zero since) 0 Opening a r
  opened_knows Never a r acted = acted
  opened_knows Before a r acted = acted
  opened_knows Now a r acted = acted

  opened_due : (since : Restarted) (a : Reply) → KeepsDue since (Behind Start Opening) (heard_zero since) (Level Start Opening a)
  opened_due Never a = record { due = refl; stands = refl; stood = refl; restarts = λ count is. is }
  opened_due Before a = record { due = refl; stands = refl; stood = refl; restarts = λ count is. is }
  opened_due Now a = record { due = refl; stands = refl; stood = refl; restarts = λ count is. is }

  -- the opening ID
  opened : (l : Link H) → command_in (frame fixed Opening 0) ≡ Ok (command.Id 0)
      → AtStage (Behind Start Opening) l → Each (IsFrame fixed Opening 0) l.to_reader
      → SaysWell answer_of after (frame fixed Opening 0) l.reader Zero
      → Holding (Behind Start Opening) Zero (frame fixed Opening 0) l
  opened l reads h frames well =
      let p = frame fixed Opening 0 in
      subst (λ c. IfSome (begun answer_of after c l.reader p).said ReplyFits
      → HoldsThen fixed answer_of after (ReadsTo Zero (command_in p) (begun answer_of after c l.reader p).said since (Behind Start Opening)) (record l {
        reader = (begun answer_of after c l.reader p).reader;
        to_controller = l.to_controller ++ option_to_list (begun answer_of after c l.reader p).reply;
      })) (sym reads)
      (λ fits. (
        heard_zero since,
        Level Start Opening (reply.PdId l.reader.config.id),
        (reads, opened_due since (reply.PdId l.reader.config.id)),
        record {
          stage = (tt, tt, (record { plain = tt; fits = fits }, (l.reader.config.id, refl)));
          controller = h.controller;
          waiting = h.waiting;
          reader = opened_knows since (reply.PdId l.reader.config.id) _ (record { here = λ e. (refl, tt); offer = refl });
          to_reader = frames;
          to_controller = runs_first (SaysOld fixed (heard_zero since) Start) (Says fixed (heard_zero since) 0 (reply.PdId l.reader.config.id)) l.to_controller
              (answer fixed 0 (reply.PdId l.reader.config.id) ∷ []) h.to_controller (inr (inl refl), tt);
        },
      )) well.0

  pub opens : (l : Link H) → fixed.address < 127 → command_in (frame fixed Opening 0) ≡ Ok (command.Id 0)
      → AtStage (Behind Start Opening) l → Each (IsFrame fixed Opening 0) l.to_reader
      → SaysWell answer_of after (frame fixed Opening 0) l.reader (kind_of l.reader (frame fixed Opening 0))
      → Holding (Behind Start Opening) (kind_of l.reader (frame fixed Opening 0)) (frame fixed Opening 0) l
  opens l device reads h frames well =
      elim (eqb_tells l.reader.config.address fixed.address) [
        | inl same ↦ subst (λ k. SaysWell answer_of after (frame fixed Opening 0) l.reader k → Holding (Behind Start Opening) k (frame fixed Opening 0) l)
            (sym (kind_zero fixed l.reader Opening same.1))
            (both (λ k. SaysWell answer_of after (frame fixed Opening 0) l.reader k → Holding (Behind Start Opening) k (frame fixed Opening 0) l)
            l.reader.busy Busy Zero
            (λ w. (
              since,
              Behind Start Opening,
              (refl, refl),
              says fixed answer_of after since (Behind Start Opening) l (answer fixed 0 reply.Busy) h
                  (each_append (SaysOld fixed since Start) l.to_controller (answer fixed 0 reply.Busy ∷ []) h.to_controller (refl, tt)),
            ))
            (λ w. opened l reads h frames w)) well
        | inr other ↦ let stays = away fixed answer_of after since (Behind Start Opening) Opening 0 l device other.1 h in (since, Behind Start Opening, stays.0, stays.1)
      ]

  -- the taken command of an exchange after another, by what is read of it
  abbrev taken_link : Result Command MsgFault → Packet → Link H → Link H
  taken_link c p l = record l {
    reader = (taken answer_of after c l.reader p).reader;
    to_controller = l.to_controller ++ option_to_list (taken answer_of after c l.reader p).reply;
  }

  -- the line after an answer: what was there is of the exchange before, or BUSY
  line_after : (n : ℕ) (y : Exchange) (b : Reply) (a : Reply) (ps : List Packet) → Each (SaysOld fixed since (After n y b)) ps
      → ToControllerAt fixed since (Level (After n y b) Polling a) (ps ++ answer fixed (next_sequence n) a ∷ [])
  line_after n y b a ps old =
      runs_first (SaysOld fixed since (After n y b)) (Says fixed since (next_sequence n) a) ps (answer fixed (next_sequence n) a ∷ []) old (inr (inl refl), tt)

  polls_on : (n : ℕ) (y : Exchange) (b : Reply) (l : Link H) → Hears since → command_in (frame fixed Polling (next_sequence n)) ≡ Ok command.Poll
      → AtStage (Behind (After n y b) Polling) l → Each (IsFrame fixed Polling (next_sequence n)) l.to_reader
      → SaysWell answer_of after (frame fixed Polling (next_sequence n)) l.reader Taken
      → Holding (Behind (After n y b) Polling) Taken (frame fixed Polling (next_sequence n)) l
  polls_on n y b l hears reads h frames well =
      let p = frame fixed Polling (next_sequence n) in
      let events = (released l.reader.queue).events in
      let told = event_for command.Poll events in
      let a = event_or_answer answer_of after told l.reader.config l.reader.handler command.Poll in
      let poll = polled fixed events l.reader.queue.capacity l.reader.queue.room (released l.reader.queue).ever_offered answer_of after l.reader.config l.reader.handler in
      subst (λ c. IfSome (taken answer_of after c l.reader p).said ReplyFits → IfSome (taken answer_of after c l.reader p).said IsPlain
      → HoldsThen fixed answer_of after (ReadsTo Taken (command_in p) (taken answer_of after c l.reader p).said since (Behind (After n y b) Polling)) (taken_link c p l))
      (sym reads)
      (λ fits plain. (
        since,
        Level (After n y b) Polling a.reply,
        (hears, refl, reads, (a.reply, refl, refl)),
        record {
          stage = (h.stage.0, tt, (record { plain = plain; fits = fits }, next_above_zero n));
          controller = h.controller;
          waiting = h.waiting;
          reader = knows fixed since (next_sequence n) Polling a.reply _ hears (record { here = λ e. (refl, refl); offer = poll.0 });
          to_reader = frames;
          to_controller = line_after n y b a.reply l.to_controller h.to_controller;
        },
      )) well.0 (well.1 (inr refl))

  -- a command other than POLL: the same, where it is answered as any command is
  abbrev asked_link : Option Reply → Command → Packet → Link H → Link H
  asked_link event c p l =
      let queue = released l.reader.queue in
      let a = event_or_answer answer_of after event l.reader.config l.reader.handler c in
      let back = reply_packet p p.sequence a.reply in
      record l {
        reader = moved (new_address c)
            (record l.reader { last = Some p.sequence; stored = Some back; queue = offering event queue; handler = a.handler });
        to_controller = l.to_controller ++ back ∷ [];
      }

  -- the reader after it
  asked_reader : (n : ℕ) (c : Command) (l : Link H) → l.reader.config.address ≡ fixed.address
      → HasActed fixed n (Asking c) (answer_to answer_of after l.reader.config l.reader.handler c).reply
      (asked_link None c (frame fixed (Asking c) n) l).reader
  asked_reader n c l here =
      let a = answer_to answer_of after l.reader.config l.reader.handler c in
      moved_acted fixed (new_address c) n (Asking c) a.reply
      (record l.reader {
        last = Some n;
        stored = Some (answer fixed n a.reply);
        queue = offering None (released l.reader.queue);
        handler = a.handler;
      }) here (record { here = λ e. (refl, refl); offer = refl })

  asked_on : (n : ℕ) (y : Exchange) (b : Reply) (c : Command) (l : Link H) → Hears since → MaySubmit c
      → command_in (frame fixed (Asking c) (next_sequence n)) ≡ Ok c → l.reader.config.address ≡ fixed.address
      → AtStage (Behind (After n y b) (Asking c)) l → Each (IsFrame fixed (Asking c) (next_sequence n)) l.to_reader
      → SaysWell answer_of after (frame fixed (Asking c) (next_sequence n)) l.reader Taken
      → Holding (Behind (After n y b) (Asking c)) Taken (frame fixed (Asking c) (next_sequence n)) l
  asked_on n y b c l hears may reads here h frames well =
      let m = next_sequence n in
      let p = frame fixed (Asking c) m in
      let a = answer_to answer_of after l.reader.config l.reader.handler c in
      subst (λ read. IfSome (taken answer_of after read l.reader p).said ReplyFits → IfSome (taken answer_of after read l.reader p).said IsPlain
      → HoldsThen fixed answer_of after (ReadsTo Taken (command_in p) (taken answer_of after read l.reader p).said since (Behind (After n y b) (Asking c)))
      (taken_link read p l)) (sym reads)
      (subst (λ event. ReplyFits (event_or_answer answer_of after event l.reader.config l.reader.handler c).reply
      → IsPlain (event_or_answer answer_of after event l.reader.config l.reader.handler c).reply
      → HoldsThen fixed answer_of after (ReadsTo Taken (command_in p) (Some (event_or_answer answer_of after event l.reader.config l.reader.handler c).reply) since
      (Behind (After n y b) (Asking c))) (asked_link event c p l)) (sym (no_event c (released l.reader.queue).events may.no_poll))
      (λ fits plain. (
        since,
        Level (After n y b) (Asking c) a.reply,
        (hears, refl, reads, (a.reply, refl, refl)),
        record {
          stage = (h.stage.0, may, (record { plain = plain; fits = fits }, next_above_zero n));
          controller = h.controller;
          waiting = h.waiting;
          reader = knows fixed since m (Asking c) a.reply (asked_link None c p l).reader hears (asked_reader m c l here);
          to_reader = frames;
          to_controller = runs_first (SaysOld fixed since (After n y b)) (Says fixed since m a.reply) l.to_controller (answer fixed m a.reply ∷ []) h.to_controller (inr (inl refl), tt);
        },
      ))) well.0 (well.1 (inr refl))

  -- an exchange after another
  advances : (n : ℕ) (y : Exchange) (b : Reply) (x : Exchange) (l : Link H) → Hears since → fixed.address < 127
      → command_in (frame fixed x (next_sequence n)) ≡ Ok (exchange_command x)
      → AtStage (Behind (After n y b) x) l → Each (IsFrame fixed x (next_sequence n)) l.to_reader
      → SaysWell answer_of after (frame fixed x (next_sequence n)) l.reader (kind_of l.reader (frame fixed x (next_sequence n)))
      → Holding (Behind (After n y b) x) (kind_of l.reader (frame fixed x (next_sequence n))) (frame fixed x (next_sequence n)) l
  advances n y b x l hears device reads h frames well =
      let p = frame fixed x (next_sequence n) in
      elim (eqb_tells l.reader.config.address fixed.address) [
        | inl same ↦ subst (λ k. SaysWell answer_of after p l.reader k → Holding (Behind (After n y b) x) k p l)
            (sym (kind_next fixed l.reader x n same.1 ((has_acted fixed since n y b l.reader hears h.reader).here same.1).0))
            (both (λ k. SaysWell answer_of after p l.reader k → Holding (Behind (After n y b) x) k p l) l.reader.busy Busy Taken
            (λ w. (
              since,
              Behind (After n y b) x,
              (refl, refl),
              says fixed answer_of after since (Behind (After n y b) x) l (answer fixed 0 reply.Busy) h
                  (each_append (SaysOld fixed since (After n y b)) l.to_controller (answer fixed 0 reply.Busy ∷ []) h.to_controller (inl refl, tt)),
            ))
            (λ w. acts x reads h frames w same.1)) well
        | inr other ↦ let stays = away fixed answer_of after since (Behind (After n y b) x) x (next_sequence n) l device other.1 h in (since, Behind (After n y b) x, stays.0, stays.1)
      ]
    where
      acts : (x : Exchange) → command_in (frame fixed x (next_sequence n)) ≡ Ok (exchange_command x)
          → AtStage (Behind (After n y b) x) l → Each (IsFrame fixed x (next_sequence n)) l.to_reader
          → SaysWell answer_of after (frame fixed x (next_sequence n)) l.reader Taken → l.reader.config.address ≡ fixed.address
          → Holding (Behind (After n y b) x) Taken (frame fixed x (next_sequence n)) l
      acts Opening reads h frames well here = absurd h.stage.1
      acts Polling reads h frames well here = polls_on n y b l hears reads h frames well
      acts (Asking c) reads h frames well here = asked_on n y b c l hears h.stage.1 reads here h frames well

-- .. unless the reader has restarted: it refuses the number
module _ (fixed : ControllerConfig) {H : Type 0} (answer_of : H → Command → Answer) (after : H → Command → H) where
  pub goes_on : (since : Restarted) (n : ℕ) (y : Exchange) (b : Reply) (x : Exchange) (l : Link H) → fixed.address < 127
      → command_in (frame fixed x (next_sequence n)) ≡ Ok (exchange_command x)
      → At fixed answer_of after since (Behind (After n y b) x) l → Each (IsFrame fixed x (next_sequence n)) l.to_reader
      → SaysWell answer_of after (frame fixed x (next_sequence n)) l.reader (kind_of l.reader (frame fixed x (next_sequence n)))
      → let k = kind_of l.reader (frame fixed x (next_sequence n)) in
      HoldsThen fixed answer_of after (Reads answer_of after k (frame fixed x (next_sequence n)) l.reader since (Behind (After n y b) x))
      (gets_by fixed answer_of after since k (frame fixed x (next_sequence n)) l)
  goes_on Never n y b x l device reads h frames well = advances fixed answer_of after Never n y b x l tt device reads h frames well
  goes_on Before n y b x l device reads h frames well = advances fixed answer_of after Before n y b x l tt device reads h frames well
  goes_on Now n y b x l device reads h frames well =
      let m = next_sequence n in
      elim (eqb_tells l.reader.config.address fixed.address) [
        | inl same ↦
            let stays = subst (λ k. StaysBy fixed answer_of after Now (Behind (After n y b) x) k (frame fixed x m) l)
            (sym (kind_unknown fixed l.reader x m same.1 (next_above_zero n) h.reader)) (
              (refl, refl),
              says fixed answer_of after Now (Behind (After n y b) x) l (answer fixed m (refused UnexpectedSequence)) h
                  (each_append (SaysOld fixed Now (After n y b)) l.to_controller (answer fixed m (refused UnexpectedSequence) ∷ []) h.to_controller (inr (inr (inl (tt, (m, refl)))), tt)),
            ) in
            (Now, Behind (After n y b) x, stays.0, stays.1)
        | inr other ↦ let stays = away fixed answer_of after Now (Behind (After n y b) x) x m l device other.1 h in (Now, Behind (After n y b) x, stays.0, stays.1)
      ]
