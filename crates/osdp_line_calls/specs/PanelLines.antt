-- What a line is answered.
use Rattle.std.specs.Prelude.{◌≡◌, ℕ, List, Option}
use Rattle.osdp_line_calls.specs.LineAnswers.{AnswersBy, IsAnsweredBy}
use Rattle.osdp_line_calls.specs.PanelCalls.{CallFits, call_words}
use Rattle.osdp_line_calls.specs.PanelSessions.{Called, IsDue, Session, answered, ended}
use Rattle.osdp_line_calls.specs.PanelTexts.{no_line}

-- a line that is none changes nothing
abbrev pub refuses : Session → Called
refuses s = record { text = no_line; session = s }

-- the answer ends with the moment of the next turn
abbrev pub Ends : Called → Called → Type 0
Ends done c = (due : Option ℕ) × IsDue done.session due × (c ≡ ended due done)

-- what ends so, as the text of an answer, and the session after it
abbrev pub TellsAndLeaves : Called → List ℕ → Session → Type 0
TellsAndLeaves done text next = (c : Called) × Ends done c × (text ≡ c.text) × (next ≡ c.session)

-- what a line comes to, and the same as what a machine answers it
abbrev pub IsAnswered : List ℕ → Session → Called → Type 0
IsAnswered = IsAnsweredBy call_words CallFits (λ call s. Ends (answered call s)) (λ s. Ends (refuses s))

abbrev pub Answers : Session → List ℕ → List ℕ → Session → Type 0
Answers = AnswersBy call_words CallFits (λ call s. Ends (answered call s)) (λ s. Ends (refuses s))
