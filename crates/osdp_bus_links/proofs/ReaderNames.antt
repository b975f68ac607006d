-- What a packet may make of the reader's address, and what the reader says then.
use Rattle.osdp_bus_links.proofs.Common.{◌≡◌, ◌≢◌, ◌⊎◌, ◌<◌, ℕ, Bool, true, false, cond, List, [], ◌∷◌, Option, Some, None, IfSome, Result, Ok, Err, refl, sym, subst, ap, ◌∙◌, inl, inr, eqb_tells, Packet, ReplyFits, Command, Communication, Event, MsgFault, Reply, meaning_by_reason, meaning_by_reply, Plain, event_for, offering, released, unoffered, Answer, ReadsWhatIsAnswered, for_reader}
use Rattle.std.specs.Prelude.{not, nat_le}
use Rattle.osdp_msg.specs.declared.command.Command.TheVariants as command
use Rattle.osdp_msg.specs.declared.command_fields.MakerMessage.{MakerMessage}
use Rattle.osdp_msg.specs.declared.event.Event.TheVariants as event
use Rattle.osdp_msg.specs.declared.nak.NakReason.{NakReason}
use Rattle.osdp_msg.specs.declared.nak.NakReason.TheVariants as reason
use Rattle.osdp_msg.specs.declared.reply.Reply.TheVariants as reply
use Rattle.osdp_msg.specs.declared.reply_fields.Nak.{Nak as NakData}
use Rattle.osdp_reader.specs.Replies.{done_reply, list_reply, local_reply, maker_reply, not_processed, refusal_reply, refused, reply_for, reply_packet, unread_reason}
use Rattle.osdp_reader.specs.State.{ReaderState}
use Rattle.osdp_reader.specs.Table.{Outcome, answer_to, begun, command_in, event_or_answer, hears, kind_of, moved, new_address, outcome, refuses, taken}
use Rattle.osdp_reader.specs.declared.config.ReaderConfig.{ReaderConfig}
use Rattle.osdp_reader.specs.declared.handler.Answer.TheVariants as answer
use Rattle.osdp_reader.specs.declared.kind.Kind.{Kind}
use Rattle.osdp_reader.specs.declared.kind.Kind.TheVariants as kind
use Rattle.osdp_bus_links.proofs.Names.{MovesController, MovesReader}

-- ---- which answers are COM

by_reason : (n : NakReason) (k : NakData) (d : Communication) → meaning_by_reason n k ≡ Plain (reply.Com d) → ⊥
by_reason reason.CheckCharacters k d is = cc
by_reason reason.UnexpectedSequence k d is = cc
by_reason _ k d is = cc

com_said : (r : Reply) (d : Communication) → meaning_by_reply r ≡ Plain (reply.Com d) → r ≡ reply.Com d
com_said reply.Busy d is = absurd cc
com_said (reply.Nak k) d is = absurd (by_reason k.reason k d is)
com_said _ d is = cc

-- COM answers a COMSET to its address alone
abbrev AnswersCom : Command → Reply → Type 0
AnswersCom c r = (d : Communication) → r ≡ reply.Com d → new_address c ≡ Some d.address

done_com : (c : Command) (d : Communication) → done_reply c ≡ reply.Com d → ⊥
done_com command.Poll d is = cc
done_com _ d is = cc

local_com : (c : Command) (tamper power : ℕ) (d : Communication) → local_reply c tamper power ≡ reply.Com d → ⊥
local_com command.LocalStatus tamper power d is = cc
local_com _ tamper power d is = cc

list_com : (c : Command) (states : List ℕ) (d : Communication) → list_reply c states ≡ reply.Com d → ⊥
list_com command.InputStatus states d is = cc
list_com command.OutputStatus states d is = cc
list_com command.ReaderStatus states d is = cc
list_com _ states d is = cc

maker_com : (c : Command) (own : MakerMessage) (d : Communication) → maker_reply c own ≡ reply.Com d → ⊥
maker_com (command.Maker m) own d is = cc
maker_com _ own d is = cc

refusal_com : (n : NakReason) (d : Communication) → refusal_reply n ≡ reply.Com d → ⊥
refusal_com reason.CommandLength d is = cc
refusal_com reason.UnknownCommand d is = cc
refusal_com _ d is = cc

handled_com : (a : Answer) (c : Command) (d : Communication) → reply_for a c ≡ reply.Com d → ⊥
handled_com answer.Done c d is = done_com c d is
handled_com (answer.Local tamper power) c d is = local_com c tamper power d is
handled_com (answer.List states) c d is = list_com c states.items d is
handled_com (answer.Refuse n) c d is = refusal_com n d is
handled_com (answer.Maker own) c d is = maker_com c own d is

set_com : (e : Communication) (small : Bool) (d : Communication) → cond small (reply.Com e) not_processed ≡ reply.Com d → cond small (Some e.address) None ≡ Some d.address
set_com e true d is = ap (λ (f : Communication). Some f.address) (let same : e ≡ d = cc in same)
set_com e false d is = absurd cc

module _ {H : Type 0} (answer_of : H → Command → Answer) (after : H → Command → H) where
  answered_com : (config : ReaderConfig) (h : H) (c : Command) → AnswersCom c (answer_to answer_of after config h c).reply
  answered_com config h command.Poll d is = absurd cc
  answered_com config h (command.Id kept) d is = absurd cc
  answered_com config h (command.Cap kept) d is = absurd cc
  answered_com config h (command.Comset e) d is = set_com e (nat_le e.address 126) d is
  answered_com config h c d is = absurd (handled_com (answer_of h c) c d is)

  polled_com : (config : ReaderConfig) (h : H) (es : List Event)
      → AnswersCom command.Poll (event_or_answer answer_of after (event_for command.Poll es) config h command.Poll).reply
  polled_com config h [] d is = absurd cc
  polled_com config h (event.LocalState s ∷ es) d is = absurd cc
  polled_com config h es d is = absurd cc

  taken_com : (config : ReaderConfig) (h : H) (c : Command) (es : List Event)
      → AnswersCom c (event_or_answer answer_of after (event_for c es) config h c).reply
  taken_com config h command.Poll es d is = polled_com config h es d is
  taken_com config h c es d is = answered_com config h c d is

-- ---- what the reader keeps, and what it says

-- it sends no controller anywhere
abbrev pub IsStill : Packet → Type 0
IsStill q = (to : ℕ) → MovesController to q → ⊥

abbrev pub IsFrom : ℕ → Packet → Type 0
IsFrom address q = q.address ≡ address

-- what is stored was said here, and sends no controller anywhere
abbrev pub KeepsStill : {H : Type 0} → ReaderState H → Type 0
KeepsStill r = IfSome r.stored (λ q. IsFrom r.config.address q × IsStill q)

-- a COMSET sends the reader to another address, and no other reply than its COM sends the controller there
pub record ReaderGoes {H : Type 0} (here : ℕ) (p : Packet) (o : Outcome H) : Type 0 where
  pub to : ℕ
  pub named : p.address ≡ here
  pub moves : MovesReader to p
  pub address : o.reader.config.address ≡ to
  pub says : IfSome o.reply (λ q. (other : ℕ) → MovesController other q → other ≡ to)

abbrev pub ReaderStays : {H : Type 0} → ℕ → Outcome H → Type 0
ReaderStays here o = (o.reader.config.address ≡ here) × IfSome o.reply IsStill

pub record ReaderWell {H : Type 0} (here : ℕ) (p : Packet) (o : Outcome H) : Type 0 where
  pub stored : KeepsStill o.reader
  pub named : IfSome o.reply (IsFrom here)
  pub goes : ReaderStays here o ⊎ ReaderGoes here p o

module _ (reads : ReadsWhatIsAnswered) where
  -- only a COM sends the controller anywhere
  com_of_packet : (p : Packet) (n : ℕ) (r : Reply) (to : ℕ) → ReplyFits r → MovesController to (reply_packet p n r)
      → (d : Communication) × (r ≡ reply.Com d) × (d.address ≡ to) × (to ≢ p.address)
  com_of_packet p n r to fits moves = (
    moves.answered,
    com_said r moves.answered (sym (reads p n r fits) ∙ moves.read),
    moves.sets,
    moves.other,
  )

  still : (p : Packet) (n : ℕ) (r : Reply) → ReplyFits r → ((d : Communication) → r ≡ reply.Com d → ⊥) → IsStill (reply_packet p n r)
  still p n r fits refused to moves = let is = com_of_packet p n r to fits moves in refused is.0 is.1

  refused_com : (n : NakReason) (d : Communication) → refused n ≡ reply.Com d → ⊥
  refused_com n d is = cc

  module _ {H : Type 0} (answer_of : H → Command → Answer) (after : H → Command → H) where
    refuses_well : (r : ReaderState H) (p : Packet) (n : ℕ) (said : Reply) → p.address ≡ r.config.address → ReplyFits said
        → ((d : Communication) → said ≡ reply.Com d → ⊥) → KeepsStill r → ReaderWell r.config.address p (refuses r p n said)
    refuses_well r p n said here fits not kept = record {
      stored = kept;
      named = here;
      goes = inl (refl, still p n said fits not);
    }

    -- a command is acted on: the address that it sets, if any
    set_well : (r new : ReaderState H) (p : Packet) (n : ℕ) (said : Reply) (c : Command) (o : Option ℕ) → p.address ≡ r.config.address
        → command_in p ≡ Ok c → new_address c ≡ o → ReplyFits said → AnswersCom c said → new.config.address ≡ r.config.address
        → (IsStill (reply_packet p n said) → KeepsStill new)
        → ReaderWell r.config.address p (record { command = Some c; said = Some said; reply = Some (reply_packet p n said); reader = moved o new })
    set_well r new p n said c None here read sets fits answers same kept =
        let quiet : IsStill (reply_packet p n said) = still p n said fits (λ d is. let set = answers d is in absurd cc) in
        record { stored = kept quiet; named = here; goes = inl (same, quiet) }
    set_well r new p n said c (Some to) here read sets fits answers same kept =
        elim (eqb_tells to new.config.address) [
          | inl equal ↦
              let quiet : IsStill (reply_packet p n said) = λ other moves.
              (com_of_packet p n said other fits moves).3 (sets_to other moves ∙ equal.1 ∙ same ∙ sym here)
              in
              subst Well (sym equal.0) (record { stored = kept quiet; named = here; goes = inl (same, quiet) })
          | inr differs ↦
              subst Well (sym differs.0) (record {
                stored = tt;
                named = here;
                goes = inr (record {
                  to = to;
                  named = here;
                  moves = record { command = c; read = read; sets = sets; other = λ e. differs.1 (e ∙ here ∙ sym same) };
                  address = refl;
                  says = sets_to;
                });
              })
        ]
      where
        -- .. by whether that is the address here
        Well : Bool → Type 0
        Well b = ReaderWell r.config.address p (record {
          command = Some c;
          said = Some said;
          reply = Some (reply_packet p n said);
          reader = cond b new (record new { config = record new.config { address = to }; last = None; stored = None });
        })

        sets_to : (other : ℕ) → MovesController other (reply_packet p n said) → other ≡ to
        sets_to other moves =
            let is = com_of_packet p n said other fits moves in
            let set = answers is.0 is.1 in
            let at : is.0.address ≡ to = cc in
            sym is.2 ∙ at

    begun_well : (c : Result Command MsgFault) (r : ReaderState H) (p : Packet) → p.address ≡ r.config.address → command_in p ≡ c
        → IfSome (begun answer_of after c r p).said ReplyFits → KeepsStill r → ReaderWell r.config.address p (begun answer_of after c r p)
    begun_well (Err fault) r p here read fits kept = record {
      stored = kept;
      named = here;
      goes = inl (refl, still p 0 (refused (unread_reason fault)) fits (refused_com (unread_reason fault)));
    }
    begun_well (Ok c) r p here read fits kept =
        let a = answer_to answer_of after r.config r.handler c in
        set_well r (record r { last = Some 0; queue = unoffered r.queue; handler = a.handler }) p 0 a.reply c (new_address c) here read refl fits
        (answered_com answer_of after r.config r.handler c) refl (λ quiet. kept)

    taken_well : (c : Result Command MsgFault) (r : ReaderState H) (p : Packet) → p.address ≡ r.config.address → command_in p ≡ c
        → IfSome (taken answer_of after c r p).said ReplyFits → KeepsStill r → ReaderWell r.config.address p (taken answer_of after c r p)
    taken_well (Err fault) r p here read fits kept =
        let quiet = still p p.sequence (refused (unread_reason fault)) fits (refused_com (unread_reason fault)) in
        record { stored = (here, quiet); named = here; goes = inl (refl, quiet) }
    taken_well (Ok c) r p here read fits kept =
        let queue = released r.queue in
        let event = event_for c queue.events in
        let a = event_or_answer answer_of after event r.config r.handler c in
        let back = reply_packet p p.sequence a.reply in
        set_well r (record r { last = Some p.sequence; stored = Some back; queue = offering event queue; handler = a.handler }) p p.sequence a.reply c
        (new_address c) here read refl fits (taken_com answer_of after r.config r.handler c queue.events) refl (λ quiet. (here, quiet))

    repeated : (o : Option Packet) (address : ℕ) → IfSome o (λ q. IsFrom address q × IsStill q) → IfSome o (IsFrom address) × IfSome o IsStill
    repeated None address kept = (tt, tt)
    repeated (Some q) address kept = kept

    outcome_well : (k : Kind) (r : ReaderState H) (p : Packet) → (p.address ≡ r.config.address) ⊎ (k ≡ kind.Silent)
        → IfSome (outcome answer_of after k r p).said ReplyFits → KeepsStill r → ReaderWell r.config.address p (outcome answer_of after k r p)
    outcome_well kind.Silent r p here fits kept = record { stored = kept; named = tt; goes = inl (refl, tt) }
    outcome_well kind.Repeat r p here fits kept =
        let both = repeated r.stored r.config.address kept in record { stored = kept; named = both.0; goes = inl (refl, both.1) }
    outcome_well kind.Secured r p (inl here) fits kept = refuses_well r p p.sequence _ here fits (λ d is. cc) kept
    outcome_well kind.Zero r p (inl here) fits kept = begun_well (command_in p) r p here refl fits kept
    outcome_well kind.Taken r p (inl here) fits kept = taken_well (command_in p) r p here refl fits kept
    outcome_well kind.Busy r p (inl here) fits kept = refuses_well r p 0 reply.Busy here fits (λ d is. cc) kept
    outcome_well kind.Wrong r p (inl here) fits kept = refuses_well r p p.sequence _ here fits (λ d is. cc) kept
    outcome_well kind.Secured r p (inr none) fits kept = absurd cc
    outcome_well kind.Zero r p (inr none) fits kept = absurd cc
    outcome_well kind.Taken r p (inr none) fits kept = absurd cc
    outcome_well kind.Busy r p (inr none) fits kept = absurd cc
    outcome_well kind.Wrong r p (inr none) fits kept = absurd cc

    pub reader_well : (r : ReaderState H) (p : Packet) → p.address < 127 → IfSome (hears answer_of after r p).said ReplyFits → KeepsStill r
        → ReaderWell r.config.address p (hears answer_of after r p)
    reader_well r p device fits kept = outcome_well (kind_of r p) r p (for_reader r p device) fits kept
