-- What the device said too, by the words of what was heard.
use Rattle.osdp_tool_test_panel.proofs.Common.{◌≡◌, ℕ, List, Option, Some, None, ap, option_map, AllStandFor, HeardFits, heard_words, MoreFits, more_words, More}
use Rattle.std.specs.Prelude.{IfSome}
use Rattle.osdp_words.specs.Reading.{ReadsWords}
use Rattle.osdp_tool_test.proofs.Parts.{Heard}

abbrev pub more_of : Heard → More
more_of x = record { delay = x.0; said = x.1 }

more_value : (given : List (List ℕ)) (r : Option Heard) → IfSome r (λ x. AllStandFor (heard_words x) given × HeardFits x)
    → IfSome (option_map more_of r) (λ m. AllStandFor (more_words m) given × MoreFits m)
more_value given None h = tt
more_value given (Some x) h = h

pub more_read : (given : List (List ℕ)) (r : Option Heard) (result : Option More) → ReadsWords (λ (x : Heard). heard_words x) (λ (x : Heard). HeardFits x) given r
    → result ≡ option_map more_of r → ReadsWords more_words MoreFits given result
more_read given r result reads e = rw e record {
  value = more_value given r reads.value;
  only = λ m fits stands. ap (option_map more_of) (reads.only (m.delay, m.said) fits stands);
}
