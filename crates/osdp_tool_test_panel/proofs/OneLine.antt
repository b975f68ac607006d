-- A line says one thing at most.
use Rattle.osdp_tool_test_panel.proofs.Common.{◌≡◌, ◌∙◌, ◌<◌, ◌^◌, ℕ, List, [], ◌∷◌, codes, refl, sym, ap, arith, differ, AllStandFor, Line, MoreFits, SaidFits, device, hears, more_words, said_name, said_words, says, skips, IsAsked, More}
use Rattle.std.proofs.lemmas.Fmt.{decimal_injective}
use Rattle.arrayvec.specs.ArrayVec.{ArrayVec}
use Rattle.osdp_tool_test.proofs.Once.{AreNamed}
use Rattle.osdp_tool_test.proofs.OneLine.{exchange_once, list_once, number_once, skip_once}

abbrev more : ℕ → ArrayVec ℕ → More
more delay said = record { delay = delay; said = said }

more_once : (given : List (List ℕ)) (x y : More) → MoreFits x → MoreFits y → AllStandFor (more_words x) given → AllStandFor (more_words y) given → x ≡ y
more_once [] x y h k s t = absurd s
more_once (a ∷ []) x y h k s t = absurd s.1
more_once (a ∷ b ∷ given) x y h k s t =
    ap (λ (m : ℕ). more m x.said) (decimal_injective x.delay y.delay h.0 k.0 (sym s.0 ∙ t.0)) ∙ ap (more y.delay) (list_once b x.said y.said h.1 k.1 s.1.0 t.1.0)

asked_small : (n : ℕ) → IsAsked n → n < 2 ^ 64
asked_small n is = omega (arith, is)

one_line : (given : List (List ℕ)) (m n : Line) → SaidFits m → SaidFits n → AllStandFor (said_words m) given → AllStandFor (said_words n) given → m ≡ n
one_line [] m n h k s t = absurd s
one_line (word ∷ given) (device p) (device q) h k s t = ap device (number_once given p q (omega (arith, h)) (omega (arith, k)) s.1 t.1)
one_line (word ∷ given) (hears x) (hears y) h k s t = ap hears (exchange_once IsAsked asked_small given x y h k s.1 t.1)
one_line (word ∷ given) (says x) (says y) h k s t = ap says (more_once given x y h k s.1 t.1)
one_line (word ∷ given) (skips x) (skips y) h k s t = ap skips (skip_once given x y (omega (arith, h)) (omega (arith, k)) s.1 t.1)
one_line (word ∷ given) m n h k s t = absurd (differ (said_name m) (said_name n) refl (sym s.0 ∙ t.0))

no_hash : (m : Line) (word : List ℕ) (others : List (List ℕ)) → AllStandFor (said_words m) ((35 ∷ word) ∷ others) → ⊥
no_hash (device p) word others s = differ (35 ∷ word) (codes "device") refl s.0
no_hash (hears x) word others s = differ (35 ∷ word) (codes "hears") refl s.0
no_hash (says x) word others s = differ (35 ∷ word) (codes "says") refl s.0
no_hash (skips x) word others s = differ (35 ∷ word) (codes "skips") refl s.0

pub lines_named : AreNamed said_words SaidFits
lines_named = record { one = one_line; some = λ m s. s; plain = no_hash }
