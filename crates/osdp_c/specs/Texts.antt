-- The calls of texts.
use Rattle.std.specs.Prelude.{◌≡◌, ℕ, List}
use Rattle.osdp_c_values.specs.declared.status.Status.{Status}
use Rattle.osdp_c_values.specs.Statuses.{number}
use Rattle.osdp_c_values.specs.Texts.{CommandTextEnds, ReplyTextEnds}

-- the answer is the number of the status with which the text ends
abbrev pub CommandTextAnswered : ℕ → List ℕ → ℕ → List ℕ → List ℕ → ℕ → ℕ → Type 0
CommandTextAnswered code body answer room room' count count' =
    (status : Status) × CommandTextEnds code body status room room' count count' × (answer ≡ number status)

abbrev pub ReplyTextAnswered : ℕ → List ℕ → ℕ → List ℕ → List ℕ → ℕ → ℕ → Type 0
ReplyTextAnswered code body answer room room' count count' =
    (status : Status) × ReplyTextEnds code body status room room' count count' × (answer ≡ number status)
