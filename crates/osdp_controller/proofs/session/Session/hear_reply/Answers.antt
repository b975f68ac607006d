use Rattle.osdp_controller.proofs.Common.{◌≡◌, ℕ, true, ap, refl, sym, ◌∙◌, rules, ReplyMeaning, Session, State, Waiting, Pausing, meaning_of, Heard, hears_in, is_numbered, numbered_in}
use Rattle.osdp_controller.proofs.Keeping.{keeps_numbered}
use Rattle.osdp_controller.proofs.session.Session.hear_reply.Goals as goal

-- an answer that has the number is heard as one
has_number : (state : State) (number : ℕ) (answer : ReplyMeaning) (s : Session) → is_numbered number answer s ≡ true
    → hears_in state number answer s ≡ numbered_in state answer s
has_number (Waiting until sends o) number answer s e = rw e refl
has_number (Pausing until o) number answer s e = rw e refl
has_number _ number answer s e = refl

pub returns-then-not-is_no_answer : goal.returns-then-not-is_no_answer
returns-then-not-is_no_answer c =
    let s = c.args.self.now in
    let read : c.read-answer.result ≡ meaning_of c.args.frame.now = search rules in
    let same = ap (λ (answer : ReplyMeaning). hears_in s.state c.args.frame.now.sequence answer s) (sym read)
    ∙ has_number s.state c.args.frame.now.sequence c.read-answer.result s (search rules) in
    record {
      report = c.hear_numbered.ensures.report ∙ ap (λ (h : Heard). h.report) (sym same);
      session = c.hear_numbered.ensures.session ∙ ap (λ (h : Heard). h.session) (sym same);
      kept = rw c.hear_numbered.ensures.session (keeps_numbered s.state c.read-answer.result s c.requires.session.state c.requires.session.opening c.requires.session);
    }
