-- What a line of a test of a panel says.
use Rattle.std.specs.Prelude.{ℕ, ◌<◌, ◌^◌, List, [], ◌∷◌, codes}
use Rattle.osdp_tool_test.specs.Lines.{ExchangeFits, IsList, LeftOut, SkipsFits, exchange_words, skip_of, skips_words}
use Rattle.osdp_tool_test.specs.declared.exchange.Exchange.{Exchange}
use Rattle.osdp_words.specs.Word.{Word, bytes, number, plain}
use Rattle.osdp_tool_test_panel.specs.Rules.{IsAsked, IsRule}
use Rattle.osdp_tool_test_panel.specs.declared.said.More.{More}
use Rattle.osdp_tool_test_panel.specs.declared.said.Said.{Said}
use Rattle.osdp_tool_test_panel.specs.declared.said.Said.TheVariants.{Device, Hears, Says, Skips}

-- what the device said too, some time later
abbrev pub more_words : More → List Word
more_words x = number x.delay ∷ bytes x.said.items ∷ []

abbrev pub MoreFits : More → Type 0
MoreFits x = (x.delay < 2 ^ 64) × IsList x.said

-- what a line says
pub data Line : Type 0 where
  device : ℕ → Line
  hears : Exchange → Line
  says : More → Line
  skips : LeftOut → Line

abbrev pub said_of : Said → Line
said_of (Device address) = device address
said_of (Hears x) = hears x
said_of (Says x) = says x
said_of (Skips x) = skips (skip_of x)

-- the name of a line, and the words after it
abbrev pub said_name : Line → List ℕ
said_name (device address) = codes "device"
said_name (hears x) = codes "hears"
said_name (says x) = codes "says"
said_name (skips x) = codes "skips"

abbrev pub said_fields : Line → List Word
said_fields (device address) = number address ∷ []
said_fields (hears x) = exchange_words x
said_fields (says x) = more_words x
said_fields (skips x) = skips_words x

abbrev pub said_words : Line → List Word
said_words said = plain (said_name said) ∷ said_fields said

abbrev pub SaidFits : Line → Type 0
SaidFits (device address) = address < 127
SaidFits (hears x) = ExchangeFits IsAsked x
SaidFits (says x) = MoreFits x
SaidFits (skips x) = SkipsFits IsRule x
