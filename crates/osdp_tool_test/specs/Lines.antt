-- What a line of a test says.
use Rattle.std.specs.Prelude.{ℕ, ◌<◌, ◌≤◌, ◌^◌, List, [], ◌∷◌, codes}
use Rattle.arrayvec.specs.ArrayVec.{ArrayVec, array_vec_len}
use Rattle.hex.specs.Hex.{IsBytes}
use Rattle.osdp_words.specs.Word.{Word, bytes, number, plain}
use Rattle.osdp_tool_test.specs.Rules.{IsRule}
use Rattle.osdp_tool_test.specs.declared.exchange.Exchange.{Exchange}
use Rattle.osdp_tool_test.specs.declared.said.Said.{Said}
use Rattle.osdp_tool_test.specs.declared.said.Said.TheVariants.{Device, Opens, Asks, Skips, Times, Keeps, Breaks}
use Rattle.osdp_tool_test.specs.declared.exchange.Skip.{Skip}

-- as many bytes as a line holds
abbrev pub IsList : ArrayVec ℕ → Type 0
IsList list = (array_vec_len list ≤ 4096) × IsBytes list.items

-- how much later the answer began, and what was heard
abbrev pub heard_words : ℕ × ArrayVec ℕ → List Word
heard_words x = number x.0 ∷ bytes x.1.items ∷ []

abbrev pub HeardFits : ℕ × ArrayVec ℕ → Type 0
HeardFits x = (x.0 < 2 ^ 64) × IsList x.1

-- what was sent, and what was heard of it
abbrev pub pair_words : ArrayVec ℕ × ℕ × ArrayVec ℕ → List Word
pair_words x = bytes x.0.items ∷ number x.1 ∷ bytes x.2.items ∷ []

abbrev pub PairFits : ArrayVec ℕ × ℕ × ArrayVec ℕ → Type 0
PairFits x = IsList x.0 × (x.1 < 2 ^ 64) × IsList x.2

-- the moment, what was sent, and what was heard of it
abbrev pub sent_words : ℕ × ArrayVec ℕ × ℕ × ArrayVec ℕ → List Word
sent_words x = number x.0 ∷ bytes x.1.items ∷ number x.2 ∷ bytes x.3.items ∷ []

abbrev pub SentFits : ℕ × ArrayVec ℕ × ℕ × ArrayVec ℕ → Type 0
SentFits x = (x.0 < 2 ^ 64) × IsList x.1 × (x.2 < 2 ^ 64) × IsList x.3

-- the number of the rule for which it was said stands first
abbrev pub exchange_words : Exchange → List Word
exchange_words x = number x.number ∷ number x.moment ∷ bytes x.sent.items ∷ number x.delay ∷ bytes x.heard.items ∷ []

abbrev pub ExchangeFits : (ℕ → Type 0) → Exchange → Type 0
ExchangeFits IsNumber x = IsNumber x.number × (x.moment < 2 ^ 64) × IsList x.sent × (x.delay < 2 ^ 64) × IsList x.heard

-- a rule that was left out, and why
pub record LeftOut : Type 0 where
  pub number : ℕ
  pub why : List ℕ

abbrev pub skip_of : Skip → LeftOut
skip_of x = record { number = x.number; why = x.why.now }

abbrev pub skips_words : LeftOut → List Word
skips_words x = number x.number ∷ plain x.why ∷ []

abbrev pub SkipsFits : (ℕ → Type 0) → LeftOut → Type 0
SkipsFits IsNumber x = IsNumber x.number

-- ---- the lines of a test of a device

-- What a line says. By the times of all answers so far a rule is judged, and what somebody beside the line saw keeps it, or breaks it.
pub data Line : Type 0 where
  device : ℕ → Line
  opens : Exchange → Line
  asks : Exchange → Line
  skips : LeftOut → Line
  times : ℕ → Line
  keeps : ℕ → Line
  breaks : LeftOut → Line

abbrev pub said_of : Said → Line
said_of (Device address) = device address
said_of (Opens x) = opens x
said_of (Asks x) = asks x
said_of (Skips x) = skips (skip_of x)
said_of (Times n) = times n
said_of (Keeps n) = keeps n
said_of (Breaks x) = breaks (skip_of x)

-- the name of a line, and the words after it
abbrev pub said_name : Line → List ℕ
said_name (device address) = codes "device"
said_name (opens x) = codes "opens"
said_name (asks x) = codes "asks"
said_name (skips x) = codes "skips"
said_name (times n) = codes "times"
said_name (keeps n) = codes "keeps"
said_name (breaks x) = codes "breaks"

abbrev pub said_fields : Line → List Word
said_fields (device address) = number address ∷ []
said_fields (opens x) = exchange_words x
said_fields (asks x) = exchange_words x
said_fields (skips x) = skips_words x
said_fields (times n) = number n ∷ []
said_fields (keeps n) = number n ∷ []
said_fields (breaks x) = skips_words x

abbrev pub said_words : Line → List Word
said_words said = plain (said_name said) ∷ said_fields said

abbrev pub SaidFits : Line → Type 0
SaidFits (device address) = address < 127
SaidFits (opens x) = ExchangeFits IsRule x
SaidFits (asks x) = ExchangeFits IsRule x
SaidFits (skips x) = SkipsFits IsRule x
SaidFits (times n) = IsRule n
SaidFits (keeps n) = IsRule n
SaidFits (breaks x) = SkipsFits IsRule x
