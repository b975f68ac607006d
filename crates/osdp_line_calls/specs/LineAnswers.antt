-- What a line is answered, where each call is words.
use Rattle.std.specs.Prelude.{◌≡◌, ◌⊎◌, ℕ, List}
use Rattle.osdp_line_calls.specs.Calls.{Says, SaysNothing}
use Rattle.osdp_words.specs.Word.{Word}

-- what a call comes to: its lines, and the session after it
pub record CalledIn (S : Type 0) : Type 0 where
  pub text : List ℕ
  pub session : S

-- what a call of a session comes to, and what a line that is none does
module _ {C S : Type 0} (words : C → List Word) (Fits : C → Type 0) (IsCalled : C → S → CalledIn S → Type 0) (IsRefused : S → CalledIn S → Type 0) where
  -- what a line comes to: what its call does, or else it is refused
  abbrev pub IsAnsweredBy : List ℕ → S → CalledIn S → Type 0
  IsAnsweredBy line s c =
      ((call : C) × Says words Fits line call × IsCalled call s c) ⊎ (SaysNothing words Fits line × IsRefused s c)

  -- the same, as what a machine answers a line: the text of the answer, and the session after it
  pub record AnswersBy (s : S) (line text : List ℕ) (next : S) : Type 0 where
    pub called : CalledIn S
    pub is : IsAnsweredBy line s called
    pub text_is : text ≡ called.text
    pub next_is : next ≡ called.session
