use Rattle.osdp_device.proofs.Common.{◌≡◌, List, [], ◌∷◌, ◌++◌, Answer, Some, refl, sym, ap, ◌∙◌, subst, Held, Command, reply_for, ReaderState, pending_of, stops, turned, turned_by, IsSaidTo, program_after, program_answer, set_or_told, items_of, next_told, ProgramAnswers, Question, Asked, Answered}
use Rattle.osdp_device.proofs.Sets.{pending_alike, says_it}
use Rattle.osdp_device.proofs.Staying.{stays_ended, stays_taken, stays_tick}
use Rattle.osdp_device.specs.Deciding.{with_question}
use Rattle.osdp_device.specs.DecidingLaws.{StaysElse, after_sets}
use Rattle.osdp_device.proofs.laws.says_what_was_set.Goals as goal

-- what is said where the program was asked, by what its question is
said_by : (r : ReaderState ProgramAnswers) (held : Held) (command : Command) (question : Question) → r.handler.question ≡ question
    → (turned_by question (pending_of r held) r held).said ≡ (next_told program_answer program_after r held).said → pending_of r held ≡ Some command
    → IsSaidTo command (reply_for (set_or_told question r.handler.status command) command) (turned_by r.handler.question (pending_of r held) r held).said
said_by r held command question is told pending =
    subst (λ q. IsSaidTo command (reply_for (set_or_told q r.handler.status command) command) (turned_by r.handler.question (pending_of r held) r held).said) is
    (subst (IsSaidTo command (reply_for (program_answer r.handler command) command))
    (sym (ap (λ q. (turned_by q (pending_of r held) r held).said) is ∙ told))
    (says_it program_answer program_after (items_of held) r held command pending))

pub returns-clause-said : goal.returns-clause-said
returns-clause-said c = λ r held command pending. record {
  set = λ answer is. said_by r held command (Answered answer) is refl pending;
  told = λ is. said_by r held command Asked is refl pending;
}

pub returns-clause-stops : goal.returns-clause-stops
returns-clause-stops c = λ r held command pending is.
    let whole : turned r held ≡ stops command r held = (λ i. turned_by (is i) (pending i) r held) in
    record { pending = ap (λ t. t.pending) whole; silent = ap (λ t. t.said) whole; reader = ap (λ t. t.reader) whole }

-- what is set last is what is set
sets_last : (set : List Answer) (answer : Answer) (r : ReaderState ProgramAnswers)
    → after_sets (set ++ answer ∷ []) r ≡ with_question (Answered answer) r
sets_last [] answer r = refl
sets_last (first ∷ set) answer r = sets_last set answer (with_question (Answered first) r)

stays_else : (set : List Answer) (r : ReaderState ProgramAnswers) → StaysElse r (after_sets set r)
stays_else [] r = record { config = refl; last = refl; stored = refl; queue = refl; busy = refl; status = refl }
stays_else (first ∷ set) r =
    let rest = stays_else set (with_question (Answered first) r) in
    record { config = rest.config; last = rest.last; stored = rest.stored; queue = rest.queue; busy = rest.busy; status = rest.status }

pub returns-clause-last : goal.returns-clause-last
returns-clause-last c = λ r held command set answer pending.
    let still = pending_alike program_answer program_after (items_of held) r (record r.handler { question = Answered answer }) ∙ pending in
    record {
      last = subst (λ s. IsSaidTo command (reply_for answer command) (turned s held).said) (sym (sets_last set answer r))
          (said_by (with_question (Answered answer) r) held command (Answered answer) refl refl still);
      alone = ap (λ s. turned s held) (sets_last set answer r);
      same = stays_else (set ++ answer ∷ []) r;
    }

pub returns-clause-stays : goal.returns-clause-stays
returns-clause-stays c = λ r l command run pending. record {
  bytes = λ bytes now are. stays_taken l bytes now r command run are pending;
  tick = λ now. stays_tick l now r command run pending;
  silence = λ now. stays_ended l.held r command run.bytes pending;
}
