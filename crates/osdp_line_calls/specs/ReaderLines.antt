-- What a line is answered.
use Rattle.std.specs.Prelude.{◌≡◌, ℕ, List}
use Rattle.osdp_line_calls.specs.LineAnswers.{AnswersBy, IsAnsweredBy}
use Rattle.osdp_line_calls.specs.ReaderCalls.{CallFits, call_words}
use Rattle.osdp_line_calls.specs.ReaderSessions.{Called, Session, answered, ended}
use Rattle.osdp_line_calls.specs.ReaderTexts.{no_line}

-- a line that is none changes nothing
abbrev pub refuses : Session → Called
refuses s = ended (record { text = no_line; session = s })

-- what ends so, as the text of an answer, and the session after it
abbrev pub TellsAndLeaves : Called → List ℕ → Session → Type 0
TellsAndLeaves c text next = (text ≡ c.text) × (next ≡ c.session)

-- what a line comes to, and the same as what a machine answers it
abbrev pub IsAnswered : List ℕ → Session → Called → Type 0
IsAnswered = IsAnsweredBy call_words CallFits (λ call s c. c ≡ answered call s) (λ s c. c ≡ refuses s)

abbrev pub Answers : Session → List ℕ → List ℕ → Session → Type 0
Answers = AnswersBy call_words CallFits (λ call s c. c ≡ answered call s) (λ s c. c ≡ refuses s)
