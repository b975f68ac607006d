-- A reader of ours whose handler does what its CAP says breaks no rule about CAP.
use Rattle.osdp_rules_laws.proofs.Common.{◌≡◌, ◌≢◌, ℕ, Bool, true, false, cond, eqb, not, ◌&&◌, nat_lt, List, [], length, Option, Some, None, Result, Ok, Err, refl, sym, subst, inl, inr, ap, ◌∙◌, cond_both, eq-eqb, eqb-true, false≢true, IfSome, Packet, ReplyFits, Command, Event, MsgFault, NakReason, CommandLength, RecordNotProcessed, SecurityBlock, UnexpectedSequence, UnknownCommand, Reply, ReaderConfig, Answer, Kind, Silent, Secured, Zero, Repeat, Taken, Busy, Wrong, event_for, released, refusal_reply, refused, reply_for, reply_packet, unread_reason, ReaderState, answer_to, begun, event_or_answer, hears, kind_of, outcome, taken, last_number, turn_of, asked, is_to, takes_nothing, told, Aspect, Nothing, Kept, Either, Broken, Known, Gone, Unknown, Opened, Took, AnswerIsLost, Comes, PacketIsLost, Way, heard_by}
use Rattle.osdp_msg.specs.Values.{NakValue}
use Rattle.osdp_msg.specs.declared.capability.Capability.{Capability}
use Rattle.osdp_msg.specs.declared.command.Command.TheVariants as command
use Rattle.osdp_msg.specs.declared.leds.LedRecord.{LedRecord}
use Rattle.osdp_msg.specs.declared.outputs.OutputRecord.{OutputRecord}
use Rattle.osdp_msg.specs.declared.reply.Reply.TheVariants as reply
use Rattle.osdp_reader.specs.declared.handler.Answer.TheVariants as answer
use Rattle.osdp_rules.specs.Claiming.{agrees, are_leds, are_outputs, claim_finding, claim_heard, claim_judged, leds_finding, listed_finding, may_agree, outputs_finding, text_finding, text_room}
use Rattle.osdp_rules.specs.Claims.{claims_after, claims_by, claims_of, claims_told, is_anew, is_new, no_claims}
use Rattle.osdp_rules.specs.declared.aspect.Aspect.TheVariants as rule
use Rattle.osdp_rules.specs.declared.claims.Claims.{Claims}
use Rattle.osdp_rules_laws.specs.Claims.{KeepsClaims, ReadersAreOpen, RefusalIsNoLie}
use Rattle.osdp_rules_laws.proofs.Fine.{IsFine, fine_both, fine_kept, fine_unbroken}
use Rattle.osdp_rules_laws.proofs.Meeting.{Met, MetNumber, again_last, met, unknown_above}
use Rattle.osdp_rules_laws.proofs.Reading.{ReadsReplies}
use Rattle.osdp_rules_laws.proofs.Steps.{Knows, knows_last}

-- ---- a refusal breaks no rule about CAP

nak_outputs : (o : Option ℕ) (records : List OutputRecord) (n : NakValue) → IsFine (outputs_finding o records (Ok (reply.Nak n)))
nak_outputs None records n = tt
nak_outputs (Some count) records n = fine_both (are_outputs count records) Nothing Kept tt tt

nak_leds : (o : Option ℕ) (records : List LedRecord) (n : NakValue) → IsFine (leds_finding o records (Ok (reply.Nak n)))
nak_leds None records n = tt
nak_leds (Some count) records n = fine_both (are_leds count records) Nothing Kept tt tt

nak_text : (o : Option ℕ) (characters : ℕ) (n : NakValue) → IsFine (text_finding o characters (Ok (reply.Nak n)))
nak_text None characters n = tt
nak_text (Some level) characters n =
    fine_both (eqb level 0) Kept (cond (nat_lt (text_room level) characters) Kept Nothing) tt
    (fine_both (nat_lt (text_room level) characters) Kept Nothing tt tt)

nak_claim : (aspect : Aspect) (claims : Claims) (c : Command) (n : NakValue) → IsFine (claim_finding aspect claims (Ok c) (Ok (reply.Nak n)))
nak_claim rule.Listed claims command.InputStatus n = tt
nak_claim rule.Listed claims command.OutputStatus n = tt
nak_claim rule.Listed claims command.ReaderStatus n = tt
nak_claim rule.Listed claims c n = tt
nak_claim rule.Beyond claims (command.Output records) n = nak_outputs claims.outputs records n
nak_claim rule.Beyond claims (command.Led records) n = nak_leds claims.leds records n
nak_claim rule.Beyond claims (command.Text text) n = nak_text claims.text (length text.characters.items) n
nak_claim rule.Beyond claims c n = tt
nak_claim aspect claims c n = tt

unread_claim : (aspect : Aspect) (claims : Claims) (fault : MsgFault) (x : Reply) → IsFine (claim_finding aspect claims (Err fault) (Ok x))
unread_claim rule.Listed claims fault x = tt
unread_claim rule.Beyond claims fault x = tt
unread_claim aspect claims fault x = tt

nak_read : (aspect : Aspect) (claims : Claims) (read : Result Command MsgFault) (n : NakValue)
    → IsFine (claim_finding aspect claims read (Ok (reply.Nak n)))
nak_read aspect claims (Ok c) n = nak_claim aspect claims c n
nak_read aspect claims (Err fault) n = unread_claim aspect claims fault (reply.Nak n)

refusal_claim : (aspect : Aspect) (claims : Claims) (c : Command) (reason : NakReason)
    → IsFine (claim_finding aspect claims (Ok c) (Ok (refusal_reply reason)))
refusal_claim aspect claims c CommandLength = nak_claim aspect claims c (record { reason = CommandLength; detail = record { items = [] } })
refusal_claim aspect claims c UnknownCommand = nak_claim aspect claims c (record { reason = UnknownCommand; detail = record { items = [] } })
refusal_claim aspect claims c reason = nak_claim aspect claims c (record { reason = RecordNotProcessed; detail = record { items = [] } })

-- ---- what was done

done_outputs : (o : Option ℕ) (records : List OutputRecord) → ((n : ℕ) → o ≡ Some n → are_outputs n records ≡ false → ⊥)
    → IsFine (outputs_finding o records (Ok reply.Ack))
done_outputs None records never = tt
done_outputs (Some n) records never = cond_both (are_outputs n records) Nothing Broken IsFine (λ there. tt) (λ not_there. absurd (never n refl not_there))

done_leds : (o : Option ℕ) (records : List LedRecord) → ((n : ℕ) → o ≡ Some n → are_leds n records ≡ false → ⊥)
    → IsFine (leds_finding o records (Ok reply.Ack))
done_leds None records never = tt
done_leds (Some n) records never = cond_both (are_leds n records) Nothing Broken IsFine (λ there. tt) (λ not_there. absurd (never n refl not_there))

done_text : (o : Option ℕ) (characters : ℕ) → (o ≡ Some 0 → ⊥) → IsFine (text_finding o characters (Ok reply.Ack))
done_text None characters never = tt
done_text (Some level) characters never =
    cond_both (eqb level 0) Broken (cond (nat_lt (text_room level) characters) Either Nothing) IsFine
    (λ zero. absurd (never (ap Some (eqb-true level 0 zero))))
    (λ above. fine_both (nat_lt (text_room level) characters) Either Nothing tt tt)

list_agrees : (o : Option ℕ) (entries : ℕ) → ((n : ℕ) → o ≡ Some n → entries ≡ n) → IsFine (agrees o entries)
list_agrees None entries is = tt
list_agrees (Some n) entries is = fine_kept (eqb entries n) (eq-eqb entries n (is n refl))

readers_agree : (o : Option ℕ) (entries : ℕ) → IsFine (may_agree o entries)
readers_agree None entries = tt
readers_agree (Some n) entries = fine_both (eqb entries n) Kept Either tt tt

no_packet : (to plain new : Bool) → new ≡ false → (to && plain && new) ≡ false
no_packet true true new e = e
no_packet false plain new e = refl
no_packet true false new e = refl

none_some : (n : ℕ) → None ≡ Some n → ⊥
none_some n e = subst (λ (o : Option ℕ). IsNone o) e tt
  where
    IsNone : Option ℕ → Type 0
    IsNone None = Unit {0}
    IsNone (Some m) = ⊥

module _ {H : Type 0} (answer_of : H → Command → Answer) (after : H → Command → H) (reads : ReadsReplies) where
  module _ (claims : Claims) (keeps : KeepsClaims answer_of claims) where
    inputs_fine : (h : H) (a : Answer) → answer_of h command.InputStatus ≡ a
        → IsFine (listed_finding claims (Ok command.InputStatus) (Ok (reply_for a command.InputStatus)))
    inputs_fine h (answer.List states) is = list_agrees claims.inputs (length states.items) (λ n said. keeps.inputs h n states said is)
    inputs_fine h (answer.Refuse reason) is = refusal_claim rule.Listed claims command.InputStatus reason
    inputs_fine h a is = tt

    outputs_fine : (h : H) (a : Answer) → answer_of h command.OutputStatus ≡ a
        → IsFine (listed_finding claims (Ok command.OutputStatus) (Ok (reply_for a command.OutputStatus)))
    outputs_fine h (answer.List states) is = list_agrees claims.outputs (length states.items) (λ n said. keeps.outputs h n states said is)
    outputs_fine h (answer.Refuse reason) is = refusal_claim rule.Listed claims command.OutputStatus reason
    outputs_fine h a is = tt

    readers_fine : (a : Answer) → IsFine (listed_finding claims (Ok command.ReaderStatus) (Ok (reply_for a command.ReaderStatus)))
    readers_fine (answer.List states) = readers_agree claims.readers (length states.items)
    readers_fine (answer.Refuse reason) = refusal_claim rule.Listed claims command.ReaderStatus reason
    readers_fine a = tt

    abbrev nine : NakValue
    nine = record { reason = RecordNotProcessed; detail = record { items = [] } }

    output_fine : (h : H) (records : List OutputRecord) (a : Answer) → answer_of h (command.Output records) ≡ a
        → IsFine (outputs_finding claims.outputs records (Ok (reply_for a (command.Output records))))
    output_fine h records answer.Done is = done_outputs claims.outputs records (λ n said beyond. keeps.no_output h n records said beyond is)
    output_fine h records (answer.Refuse reason) is = refusal_claim rule.Beyond claims (command.Output records) reason
    output_fine h records a is = nak_outputs claims.outputs records nine

    led_fine : (h : H) (records : List LedRecord) (a : Answer) → answer_of h (command.Led records) ≡ a
        → IsFine (leds_finding claims.leds records (Ok (reply_for a (command.Led records))))
    led_fine h records answer.Done is = done_leds claims.leds records (λ n said beyond. keeps.no_led h n records said beyond is)
    led_fine h records (answer.Refuse reason) is = refusal_claim rule.Beyond claims (command.Led records) reason
    led_fine h records a is = nak_leds claims.leds records nine

    shown_fine : (aspect : Aspect) (h : H) (c : Command) (config : ReaderConfig)
        → IsFine (claim_finding aspect claims (Ok c) (Ok (answer_to answer_of after config h c).reply))
    shown_fine rule.Listed h command.InputStatus config = inputs_fine h (answer_of h command.InputStatus) refl
    shown_fine rule.Listed h command.OutputStatus config = outputs_fine h (answer_of h command.OutputStatus) refl
    shown_fine rule.Listed h command.ReaderStatus config = readers_fine (answer_of h command.ReaderStatus)
    shown_fine rule.Listed h c config = tt
    shown_fine rule.Beyond h (command.Output records) config = output_fine h records (answer_of h (command.Output records)) refl
    shown_fine rule.Beyond h (command.Led records) config = led_fine h records (answer_of h (command.Led records)) refl
    shown_fine rule.Beyond h (command.Text text) config = by_answer (answer_of h (command.Text text)) refl
      where
        by_answer : (a : Answer) → answer_of h (command.Text text) ≡ a
            → IsFine (text_finding claims.text (length text.characters.items) (Ok (reply_for a (command.Text text))))
        by_answer answer.Done is = done_text claims.text (length text.characters.items) (λ none. keeps.no_display h text none is)
        by_answer (answer.Refuse reason) is = refusal_claim rule.Beyond claims (command.Text text) reason
        by_answer a is = nak_text claims.text (length text.characters.items) nine
    shown_fine rule.Beyond h c config = tt
    shown_fine aspect h c config = tt

    told_fine : (aspect : Aspect) (h : H) (c : Command) (config : ReaderConfig) (events : List Event)
        → IsFine (claim_finding aspect claims (Ok c) (Ok (event_or_answer answer_of after (event_for c events) config h c).reply))
    told_fine rule.Listed h command.Poll config events = tt
    told_fine rule.Beyond h command.Poll config events = tt
    told_fine aspect h command.Poll config events = tt
    told_fine aspect h c config events = shown_fine aspect h c config

    -- what was heard breaks no rule, and what was said by CAP is kept
    abbrev Says : Result Command MsgFault → Option Packet → Type 0
    Says read heard = ((aspect : Aspect) → IsFine (claim_heard aspect claims read heard)) × KeepsClaims answer_of (claims_by read heard claims)

    silent_says : (read : Result Command MsgFault) → Says read None
    silent_says (Ok (command.Cap kept)) = ((λ aspect. tt), keeps)
    silent_says (Ok c) = ((λ aspect. tt), keeps)
    silent_says (Err fault) = ((λ aspect. tt), keeps)

    heard_fine : (aspect : Aspect) (read : Result Command MsgFault) (p : Packet) (number : ℕ) (x : Reply) → ReplyFits x
        → IsFine (claim_finding aspect claims read (Ok x)) → IsFine (claim_heard aspect claims read (Some (reply_packet p number x)))
    heard_fine aspect read p number x fits fine =
        fine_both (takes_nothing (reply_packet p number x)) Nothing (claim_finding aspect claims read (told (reply_packet p number x))) tt
        (subst (λ (t : Result Reply MsgFault). IsFine (claim_finding aspect claims read t)) (sym (reads x fits)) fine)

    -- a reply that tells nothing by CAP
    kept_by : (read : Result Command MsgFault) (p : Packet) (number : ℕ) (x : Reply) → ReplyFits x → claims_told (Ok x) claims ≡ claims
        → KeepsClaims answer_of (claims_by read (Some (reply_packet p number x)) claims)
    kept_by (Ok (command.Cap kept)) p number x fits same =
        subst (λ (t : Result Reply MsgFault). KeepsClaims answer_of (claims_told t claims)) (sym (reads x fits))
        (subst (λ (c : Claims). KeepsClaims answer_of c) (sym same) keeps)
    kept_by (Ok c) p number x fits same = keeps
    kept_by (Err fault) p number x fits same = keeps

    plain_says : (read : Result Command MsgFault) (p : Packet) (number : ℕ) (x : Reply) → ReplyFits x
        → ((aspect : Aspect) → IsFine (claim_finding aspect claims read (Ok x))) → claims_told (Ok x) claims ≡ claims
        → Says read (Some (reply_packet p number x))
    plain_says read p number x fits fine same =
        ((λ aspect. heard_fine aspect read p number x fits (fine aspect)), kept_by read p number x fits same)

    module _ (caps : List Capability) (truth : KeepsClaims answer_of (claims_of caps)) where
      -- the answer to CAP is what it says by CAP
      cap_says : (config : ReaderConfig) (p : Packet) (number kept : ℕ) → config.caps.items ≡ caps
          → ReplyFits (reply.PdCap (record { capabilities = config.caps }))
          → KeepsClaims answer_of (claims_told (told (reply_packet p number (reply.PdCap (record { capabilities = config.caps })))) claims)
      cap_says config p number kept same fits =
          subst (λ (t : Result Reply MsgFault). KeepsClaims answer_of (claims_told t claims))
          (sym (reads (reply.PdCap (record { capabilities = config.caps })) fits))
          (subst (λ (cs : List Capability). KeepsClaims answer_of (claims_of cs)) (sym same) truth)

      answer_kept : (c : Command) (config : ReaderConfig) (h : H) (p : Packet) (number : ℕ) → config.caps.items ≡ caps
          → ReplyFits (answer_to answer_of after config h c).reply
          → KeepsClaims answer_of (claims_by (Ok c) (Some (reply_packet p number (answer_to answer_of after config h c).reply)) claims)
      answer_kept (command.Cap kept) config h p number same fits = cap_says config p number kept same fits
      answer_kept c config h p number same fits = keeps

      told_kept : (c : Command) (config : ReaderConfig) (h : H) (events : List Event) (p : Packet) (number : ℕ) → config.caps.items ≡ caps
          → ReplyFits (event_or_answer answer_of after (event_for c events) config h c).reply
          → KeepsClaims answer_of (claims_by (Ok c) (Some (reply_packet p number (event_or_answer answer_of after (event_for c events) config h c).reply)) claims)
      told_kept (command.Cap kept) config h events p number same fits = cap_says config p number kept same fits
      told_kept c config h events p number same fits = keeps

      begun_says : (read : Result Command MsgFault) (r : ReaderState H) (p : Packet) → r.config.caps.items ≡ caps
          → IfSome (begun answer_of after read r p).said ReplyFits → Says read (begun answer_of after read r p).reply
      begun_says (Err fault) r p same fits =
          ((λ aspect. heard_fine aspect (Err fault) p 0 (refused (unread_reason fault)) fits (unread_claim aspect claims fault (refused (unread_reason fault)))), keeps)
      begun_says (Ok c) r p same fits = (
        (λ aspect. heard_fine aspect (Ok c) p 0 (answer_to answer_of after r.config r.handler c).reply fits (shown_fine aspect r.handler c r.config)),
        answer_kept c r.config r.handler p 0 same fits,
      )

      taken_says : (read : Result Command MsgFault) (r : ReaderState H) (p : Packet) → r.config.caps.items ≡ caps
          → IfSome (taken answer_of after read r p).said ReplyFits → Says read (taken answer_of after read r p).reply
      taken_says (Err fault) r p same fits =
          ((λ aspect. heard_fine aspect (Err fault) p p.sequence (refused (unread_reason fault)) fits (unread_claim aspect claims fault (refused (unread_reason fault)))), keeps)
      taken_says (Ok c) r p same fits =
          let events = (released r.queue).events in (
            (λ aspect. heard_fine aspect (Ok c) p p.sequence (event_or_answer answer_of after (event_for c events) r.config r.handler c).reply fits
                (told_fine aspect r.handler c r.config events)),
            told_kept c r.config r.handler events p p.sequence same fits,
          )

      never_repeated : (address : ℕ) (k : Known) (r : ReaderState H) (p : Packet) → Knows address k r → MetNumber r.last p.sequence Repeat
          → is_new (turn_of (last_number k) p.sequence) ≡ false
      never_repeated address k r p knows number =
          elim (knows_last address k r knows) [
            | inl none ↦ ap is_new (ap (λ o. turn_of o p.sequence) none ∙ unknown_above p.sequence number.0)
            | inr same ↦ ap is_new (ap (λ o. turn_of o p.sequence) (same ∙ number.1.1) ∙ again_last number.1.0 p.sequence number.0 number.1.2)
          ]

      not_anew : (address : ℕ) (k : Known) (p : Packet) → is_new (turn_of (last_number k) p.sequence) ≡ false → is_anew address k p ≡ false
      not_anew address Gone p never = refl
      not_anew address Unknown p never = no_packet (is_to address p) (not p.block) (is_new (turn_of None p.sequence)) never
      not_anew address Opened p never = no_packet (is_to address p) (not p.block) (is_new (turn_of (Some 0) p.sequence)) never
      not_anew address (Took sent first) p never = no_packet (is_to address p) (not p.block) (is_new (turn_of (Some sent.sequence) p.sequence)) never

      by_kind : (address : ℕ) (k : Known) (r : ReaderState H) (p : Packet) (kind : Kind) → Met r p kind → Knows address k r
          → is_anew address k p ≡ true → r.config.caps.items ≡ caps → IfSome (outcome answer_of after kind r p).said ReplyFits
          → Says (asked p) (outcome answer_of after kind r p).reply
      by_kind address k r p Silent met knows anew same fits = silent_says (asked p)
      by_kind address k r p Secured met knows anew same fits =
          plain_says (asked p) p p.sequence (refused SecurityBlock) fits
          (λ aspect. nak_read aspect claims (asked p) (record { reason = SecurityBlock; detail = record { items = [] } })) refl
      by_kind address k r p Zero met knows anew same fits = begun_says (asked p) r p same fits
      by_kind address k r p Taken met knows anew same fits = taken_says (asked p) r p same fits
      by_kind address k r p Busy met knows anew same fits = ((λ aspect. tt), kept_by (asked p) p 0 reply.Busy tt refl)
      by_kind address k r p Wrong met knows anew same fits =
          plain_says (asked p) p p.sequence (refused UnexpectedSequence) fits
          (λ aspect. nak_read aspect claims (asked p) (record { reason = UnexpectedSequence; detail = record { items = [] } })) refl
      by_kind address k r p Repeat met knows anew same fits =
          absurd (false≢true (sym (not_anew address k p (never_repeated address k r p knows met.number)) ∙ anew))

  module _ (caps : List Capability) (truth : KeepsClaims answer_of (claims_of caps)) where
    pub by_way : (claims : Claims) (keeps : KeepsClaims answer_of claims) (address : ℕ) (k : Known) (r : ReaderState H) (p : Packet) (way : Way)
        → Knows address k r → is_anew address k p ≡ true → r.config.caps.items ≡ caps → IfSome (hears answer_of after r p).said ReplyFits
        → Says claims keeps (asked p) (heard_by way (hears answer_of after r p).reply)
    by_way claims keeps address k r p Comes knows anew same fits =
        by_kind claims keeps caps truth address k r p (kind_of r p) (met r p) knows anew same fits
    by_way claims keeps address k r p AnswerIsLost knows anew same fits = silent_says claims keeps (asked p)
    by_way claims keeps address k r p PacketIsLost knows anew same fits = silent_says claims keeps (asked p)

    -- what is heard of a packet, if that says something of what was asked
    pub judged_fine : (aspect : Aspect) (claims : Claims) (keeps : KeepsClaims answer_of claims) (address : ℕ) (k : Known) (p : Packet) (o : Option Packet)
        → (is_anew address k p ≡ true → Says claims keeps (asked p) o) → IsFine (claim_judged aspect address k claims p o)
    judged_fine aspect claims keeps address k p o so =
        cond_both (is_anew address k p) (claim_heard aspect claims (asked p) o) Nothing IsFine (λ anew. (so anew).0 aspect) (λ other. tt)

    pub after_kept : (claims : Claims) (keeps : KeepsClaims answer_of claims) (address : ℕ) (k : Known) (p : Packet) (o : Option Packet)
        → (is_anew address k p ≡ true → Says claims keeps (asked p) o) → KeepsClaims answer_of (claims_after address k p o claims)
    after_kept claims keeps address k p o so =
        cond_both (is_anew address k p) (claims_by (asked p) o claims) claims (λ c. KeepsClaims answer_of c) (λ anew. (so anew).1) (λ other. keeps)

  -- nothing was said: each handler keeps it
  pub nothing_said : KeepsClaims answer_of no_claims
  nothing_said = record {
    inputs = λ h n states said is. absurd (none_some n said);
    outputs = λ h n states said is. absurd (none_some n said);
    no_output = λ h n records said beyond is. none_some n said;
    no_led = λ h n records said beyond is. none_some n said;
    no_display = λ h text said is. none_some 0 said;
  }

-- ---- what the rules about CAP leave open

claim_open : (aspect : Aspect) (address : ℕ) (k : Known) (claims : Claims) (p a : Packet) → IsFine (claim_finding aspect claims (asked p) (told a))
    → claim_judged aspect address k claims p (Some a) ≢ Broken
claim_open aspect address k claims p a fine =
    let heard = claim_heard aspect claims (asked p) (Some a) in
    fine_unbroken (claim_judged aspect address k claims p (Some a))
    (fine_both (is_anew address k p) heard Nothing
    (fine_both (takes_nothing a) Nothing (claim_finding aspect claims (asked p) (told a)) tt fine) tt)

pub refusal_is_no_lie : RefusalIsNoLie
refusal_is_no_lie aspect address k claims p a n is =
    claim_open aspect address k claims p a
    (subst (λ (t : Result Reply MsgFault). IsFine (claim_finding aspect claims (asked p) t)) (sym is) (nak_read aspect claims (asked p) n))

any_readers : (aspect : Aspect) (claims : Claims) (t : Result Reply MsgFault) → IsFine (claim_finding aspect claims (Ok command.ReaderStatus) t)
any_readers rule.Listed claims (Ok (reply.Readers states)) = readers_agree claims.readers (length states.items)
any_readers rule.Listed claims (Ok (reply.Nak n)) = tt
any_readers rule.Listed claims (Ok x) = tt
any_readers rule.Listed claims (Err fault) = tt
any_readers rule.Beyond claims t = tt
any_readers aspect claims t = tt

pub readers_are_open : ReadersAreOpen
readers_are_open aspect address k claims p a is =
    claim_open aspect address k claims p a
    (subst (λ (c : Result Command MsgFault). IsFine (claim_finding aspect claims c (told a))) (sym is) (any_readers aspect claims (told a)))
