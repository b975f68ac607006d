-- Answers to lists of commands.
use Rattle.osdp_reader_laws.proofs.Common.{◌≡◌, ℕ, zero, suc, List, [], ◌∷◌, ◌++◌, take, Some, refl, ap, ◌∙◌, slice_get, Command, ReaderConfig, Answer, own_reply, answer_to, answered}
use Rattle.osdp_msg.specs.declared.command.Command.TheVariants as command
use Rattle.osdp_msg.specs.declared.reply.Reply.TheVariants as reply
use Rattle.osdp_reader_laws.specs.Answering.{answers, handler_after_commands}

same_first : (c d : Command) (cs ds : List Command) → c ∷ cs ≡ d ∷ ds → c ≡ d
same_first c d cs ds e = cc

same_rest : (c d : Command) (cs ds : List Command) → c ∷ cs ≡ d ∷ ds → cs ≡ ds
same_rest c d cs ds e = cc

-- what is answered without the handler doesn't depend on the address
pub same_own : (c d : ReaderConfig) (asked : Command) → c.id ≡ d.id → c.caps ≡ d.caps → own_reply c asked ≡ own_reply d asked
same_own c d (command.Id kept) id caps = ap (λ i. Some (reply.PdId i)) id
same_own c d (command.Cap kept) id caps = ap (λ k. Some (reply.PdCap (record { capabilities = k }))) caps
same_own c d asked id caps = refl

module _ {H : Type 0} (answer_of : H → Command → Answer) (after : H → Command → H) where
  pub answers_anywhere : (c d : ReaderConfig) (handler : H) (commands : List Command) → c.id ≡ d.id → c.caps ≡ d.caps
      → answers answer_of after c handler commands ≡ answers answer_of after d handler commands
  answers_anywhere c d handler [] id caps = refl
  answers_anywhere c d handler (x ∷ xs) id caps =
      let a = answer_to answer_of after d handler x in
      ap (λ own. (answered answer_of after own handler x).reply ∷ answers answer_of after c (answered answer_of after own handler x).handler xs)
      (same_own c d x id caps)
      ∙ ap (λ rest. a.reply ∷ rest) (answers_anywhere c d a.handler xs id caps)

module _ {H : Type 0} (answer_of : H → Command → Answer) (after : H → Command → H) (config : ReaderConfig) where
  pub answers-append : (handler : H) (first more : List Command)
      → answers answer_of after config handler (first ++ more)
      ≡ answers answer_of after config handler first ++ answers answer_of after config (handler_after_commands answer_of after config handler first) more
  answers-append handler [] more = refl
  answers-append handler (c ∷ cs) more =
      ap (λ rest. (answer_to answer_of after config handler c).reply ∷ rest)
      (answers-append (answer_to answer_of after config handler c).handler cs more)

  pub answer_by_what_came : (handler : H) (k : ℕ) (commands others : List Command) → take (suc k) commands ≡ take (suc k) others
      → slice_get (answers answer_of after config handler commands) k ≡ slice_get (answers answer_of after config handler others) k
  answer_by_what_came handler k [] [] e = refl
  answer_by_what_came handler k [] (d ∷ ds) e = absurd cc
  answer_by_what_came handler k (c ∷ cs) [] e = absurd cc
  answer_by_what_came handler zero (c ∷ cs) (d ∷ ds) e =
      ap (λ (x : Command). Some (answer_to answer_of after config handler x).reply) (same_first c d (take zero cs) (take zero ds) e)
  answer_by_what_came handler (suc k) (c ∷ cs) (d ∷ ds) e =
      answer_by_what_came (answer_to answer_of after config handler c).handler k cs ds (same_rest c d (take (suc k) cs) (take (suc k) ds) e)
      ∙ ap (λ (x : Command). slice_get (answers answer_of after config (answer_to answer_of after config handler x).handler ds) k)
      (same_first c d (take (suc k) cs) (take (suc k) ds) e)
