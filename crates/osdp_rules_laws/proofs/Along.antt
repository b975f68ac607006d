-- Exchange after exchange with a reader of ours: no rule is broken.
use Rattle.osdp_rules_laws.proofs.Common.{◌≡◌, ℕ, None, refl, subst, ◌∙◌, IfSome, Packet, ReplyFits, Command, Answer, ReaderState, hears, kind_of, judged, sent_judged, after_sent, known_after, Aspect, Known, Gone, Unknown, Opened, Took, AnswerIsLost, Comes, Exchange, IsStill, PacketIsLost, Way, heard_by, heard_in, reader_after, reader_by}
use Rattle.osdp_rules_laws.proofs.Fine.{IsFine}
use Rattle.osdp_rules_laws.proofs.Meeting.{met}
use Rattle.osdp_rules_laws.proofs.Reading.{ReadsReplies}
use Rattle.osdp_rules_laws.proofs.Steps.{Knows, heard_knows, lost_knows, sent_fine, silent_fine, still_knows}

module _ {H : Type 0} where
  pub knows_still : (address : ℕ) (k : Known) (r s : ReaderState H) → Knows address k r → IsStill r s → Knows address k s
  knows_still address Gone r s knows still = tt
  knows_still address Unknown r s knows still = still.address ∙ knows
  knows_still address Opened r s knows still = (still.address ∙ knows.0, still.last ∙ knows.1)
  knows_still address (Took p a) r s knows still = (still.address ∙ knows.0, still.last ∙ knows.1, still.stored ∙ knows.2)

  module _ (answer_of : H → Command → Answer) (after : H → Command → H) (reads : ReadsReplies) where
    -- at the reader's own address
    own_fine : (aspect : Aspect) (k : Known) (r : ReaderState H) (p : Packet) (way : Way) → Knows r.config.address k r
        → IfSome (hears answer_of after r p).said ReplyFits
        → IsFine (sent_judged aspect r.config.address k p (heard_by way (hears answer_of after r p).reply))
    own_fine aspect k r p Comes knows fits = sent_fine answer_of after reads aspect k r p knows fits
    own_fine aspect k r p AnswerIsLost knows fits = silent_fine aspect r.config.address k p
    own_fine aspect k r p PacketIsLost knows fits = silent_fine aspect r.config.address k p

    own_known : (k : Known) (r : ReaderState H) (p : Packet) (way : Way) → Knows r.config.address k r
        → Knows r.config.address (after_sent r.config.address p (heard_by way (hears answer_of after r p).reply) k)
        (reader_by way r (hears answer_of after r p).reader)
    own_known k r p Comes knows = heard_knows answer_of after k r p (kind_of r p) (met r p) knows
    own_known k r p AnswerIsLost knows = lost_knows answer_of after k r p (kind_of r p) (met r p) knows
    own_known k r p PacketIsLost knows = still_knows answer_of after k r p None knows (λ here. refl)

    -- at the address that is tested, which is the reader's
    fine_at : (aspect : Aspect) (address : ℕ) (k : Known) (x : Exchange H) → x.reader.config.address ≡ address → Knows x.reader.config.address k x.reader
        → IfSome (hears answer_of after x.reader x.packet).said ReplyFits
        → IsFine (sent_judged aspect address k x.packet (heard_in answer_of after x))
    fine_at aspect address k x same knows fits =
        subst (λ (a : ℕ). IsFine (sent_judged aspect a k x.packet (heard_in answer_of after x))) same
        (own_fine aspect k x.reader x.packet x.way knows fits)

    known_at : (address : ℕ) (k : Known) (x : Exchange H) → x.reader.config.address ≡ address → Knows x.reader.config.address k x.reader
        → Knows address (after_sent address x.packet (heard_in answer_of after x) k) (reader_after answer_of after x)
    known_at address k x same knows =
        subst (λ (a : ℕ). Knows a (after_sent a x.packet (heard_in answer_of after x) k) (reader_after answer_of after x)) same
        (own_known k x.reader x.packet x.way knows)

    pub one_fine : (aspect : Aspect) (address : ℕ) (k : Known) (x : Exchange H) → Knows address k x.reader
        → IfSome (hears answer_of after x.reader x.packet).said ReplyFits
        → IsFine (judged aspect address k x.packet (heard_in answer_of after x))
    one_fine aspect address Gone x knows fits = tt
    one_fine aspect address Unknown x knows fits = fine_at aspect address Unknown x knows refl fits
    one_fine aspect address Opened x knows fits = fine_at aspect address Opened x knows.0 (refl, knows.1) fits
    one_fine aspect address (Took p a) x knows fits = fine_at aspect address (Took p a) x knows.0 (refl, knows.1, knows.2) fits

    pub one_known : (address : ℕ) (k : Known) (x : Exchange H) → Knows address k x.reader
        → Knows address (known_after address x.packet (heard_in answer_of after x) k) (reader_after answer_of after x)
    one_known address Gone x knows = tt
    one_known address Unknown x knows = known_at address Unknown x knows refl
    one_known address Opened x knows = known_at address Opened x knows.0 (refl, knows.1)
    one_known address (Took p a) x knows = known_at address (Took p a) x knows.0 (refl, knows.1, knows.2)
