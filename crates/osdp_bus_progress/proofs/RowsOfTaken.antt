-- Of two commands that were taken one was settled.
use Rattle.osdp_bus_progress.proofs.Common.{◌≡◌, ◌∙◌, ◌≤◌, ap, sym, List, [], ◌∷◌, ◌++◌, length, Ok, arith, each_of, with_answers, Command, handler_after, handler_answer, new_handler, lists_of, AnswersHoldOnce, IsInSession, none_reopen, buz, config, out}
use Rattle.osdp_msg.specs.declared.reply.Reply.{Reply}
use Rattle.osdp_msg.specs.declared.reply.Reply.TheVariants.{Ack}
use Rattle.osdp_bus_progress.specs.RowsOfTaken.{OfTwoTakenOneIsSettled}

same_first : {A : Type 0} (x y : A) (xs ys : List A) → x ∷ xs ≡ y ∷ ys → x ≡ y
same_first x y xs ys is = cc

first_settled : (settled more : List (Command × Reply)) → (out, Ack) ∷ (buz, Ack) ∷ [] ≡ settled ++ more → length more ≤ 1
    → (rest : List (Command × Reply)) × (settled ≡ (out, Ack) ∷ rest)
first_settled [] more is few = absurd (let long : 2 ≡ length more = ap length is in omega (arith, long, few))
first_settled (p ∷ settled) more is few =
    (settled, ap (λ q. q ∷ settled) (sym (same_first (out, Ack) p ((buz, Ack) ∷ []) (settled ++ more) is)))

pub of_two_taken : AnswersHoldOnce handler_answer handler_after → OfTwoTakenOneIsSettled
of_two_taken once steps account is within taken =
    let held = (once config new_handler steps (Ok account) is tt (none_reopen 1 steps (each_of IsInSession steps within))).settled in
    first_settled (lists_of account).settled held.0
    (sym (ap (with_answers handler_answer handler_after config.reader new_handler) taken) ∙ held.1) held.2
