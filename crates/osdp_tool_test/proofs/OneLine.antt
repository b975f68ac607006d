-- A line says one thing at most.
use Rattle.osdp_tool_test.proofs.Common.{◌≡◌, ◌∙◌, ◌<◌, ◌^◌, ℕ, List, [], ◌∷◌, codes, refl, sym, ap, arith, ArrayVec, differ, AllStandFor, StandsFor, Word, bytes, number, plain, ExchangeFits, IsList, LeftOut, Line, SaidFits, asks, breaks, device, exchange_words, keeps, opens, said_name, said_words, skips, skips_words, times, IsRule, Exchange}
use Rattle.std.proofs.lemmas.Fmt.{decimal_injective}
use Rattle.osdp_words.proofs.WordLaws.{has_one_word}
use Rattle.osdp_tool_test.proofs.Once.{AreNamed}

pub number_once : (given : List (List ℕ)) (m n : ℕ) → m < 2 ^ 64 → n < 2 ^ 64 → AllStandFor (number m ∷ []) given → AllStandFor (number n ∷ []) given → m ≡ n
number_once [] m n h k s t = absurd s
number_once (text ∷ given) m n h k s t = decimal_injective m n h k (sym s.0 ∙ t.0)

abbrev bytes_in : Word → List ℕ
bytes_in (plain text) = []
bytes_in (bytes list) = list

abbrev listed : List ℕ → ArrayVec ℕ
listed items = record { items = items }

pub list_once : (given : List ℕ) (x y : ArrayVec ℕ) → IsList x → IsList y → StandsFor (bytes x.items) given → StandsFor (bytes y.items) given → x ≡ y
list_once given x y h k s t =
    ap listed (ap bytes_in (has_one_word given (bytes x.items) (bytes y.items) h.1 k.1 tt s t))

abbrev made : ℕ → ℕ → ArrayVec ℕ → ℕ → ArrayVec ℕ → Exchange
made n moment sent delay heard = record { number = n; moment = moment; sent = sent; delay = delay; heard = heard }

pub exchange_once : (IsNumber : ℕ → Type 0) → ((n : ℕ) → IsNumber n → n < 2 ^ 64) → (given : List (List ℕ)) (x y : Exchange)
    → ExchangeFits IsNumber x → ExchangeFits IsNumber y → AllStandFor (exchange_words x) given → AllStandFor (exchange_words y) given → x ≡ y
exchange_once IsNumber small [] x y h k s t = absurd s
exchange_once IsNumber small (a ∷ []) x y h k s t = absurd s.1
exchange_once IsNumber small (a ∷ b ∷ []) x y h k s t = absurd s.1.1
exchange_once IsNumber small (a ∷ b ∷ c ∷ []) x y h k s t = absurd s.1.1.1
exchange_once IsNumber small (a ∷ b ∷ c ∷ d ∷ []) x y h k s t = absurd s.1.1.1.1
exchange_once IsNumber small (a ∷ b ∷ c ∷ d ∷ e ∷ f ∷ given) x y h k s t = absurd s.1.1.1.1.1
exchange_once IsNumber small (a ∷ b ∷ c ∷ d ∷ e ∷ []) x y h k s t =
    let n = decimal_injective x.number y.number (small x.number h.0) (small y.number k.0) (sym s.0 ∙ t.0) in
    let moment = decimal_injective x.moment y.moment h.1 k.1 (sym s.1.0 ∙ t.1.0) in
    let sent = list_once c x.sent y.sent h.2 k.2 s.1.1.0 t.1.1.0 in
    let delay = decimal_injective x.delay y.delay h.3 k.3 (sym s.1.1.1.0 ∙ t.1.1.1.0) in
    let heard = list_once e x.heard y.heard h.4 k.4 s.1.1.1.1.0 t.1.1.1.1.0 in
    ap (λ (m : ℕ). made m x.moment x.sent x.delay x.heard) n
    ∙ ap (λ (m : ℕ). made y.number m x.sent x.delay x.heard) moment
    ∙ ap (λ (l : ArrayVec ℕ). made y.number y.moment l x.delay x.heard) sent
    ∙ ap (λ (m : ℕ). made y.number y.moment y.sent m x.heard) delay
    ∙ ap (λ (l : ArrayVec ℕ). made y.number y.moment y.sent y.delay l) heard

abbrev left_out : ℕ → List ℕ → LeftOut
left_out n why = record { number = n; why = why }

pub skip_once : (given : List (List ℕ)) (x y : LeftOut) → x.number < 2 ^ 64 → y.number < 2 ^ 64 → AllStandFor (skips_words x) given → AllStandFor (skips_words y) given → x ≡ y
skip_once [] x y h k s t = absurd s
skip_once (a ∷ []) x y h k s t = absurd s.1
skip_once (a ∷ b ∷ given) x y h k s t =
    ap (λ (m : ℕ). left_out m x.why) (decimal_injective x.number y.number h k (sym s.0 ∙ t.0)) ∙ ap (left_out y.number) (sym s.1.0 ∙ t.1.0)

small : (n : ℕ) → IsRule n → n < 2 ^ 64
small n is = omega (arith, is)

one_line : (given : List (List ℕ)) (m n : Line) → SaidFits m → SaidFits n → AllStandFor (said_words m) given → AllStandFor (said_words n) given → m ≡ n
one_line [] m n h k s t = absurd s
one_line (word ∷ given) (device p) (device q) h k s t = ap device (number_once given p q (omega (arith, h)) (omega (arith, k)) s.1 t.1)
one_line (word ∷ given) (opens x) (opens y) h k s t = ap opens (exchange_once IsRule small given x y h k s.1 t.1)
one_line (word ∷ given) (asks x) (asks y) h k s t = ap asks (exchange_once IsRule small given x y h k s.1 t.1)
one_line (word ∷ given) (skips x) (skips y) h k s t = ap skips (skip_once given x y (small x.number h) (small y.number k) s.1 t.1)
one_line (word ∷ given) (times p) (times q) h k s t = ap times (number_once given p q (small p h) (small q k) s.1 t.1)
one_line (word ∷ given) (keeps p) (keeps q) h k s t = ap keeps (number_once given p q (small p h) (small q k) s.1 t.1)
one_line (word ∷ given) (breaks x) (breaks y) h k s t = ap breaks (skip_once given x y (small x.number h) (small y.number k) s.1 t.1)
one_line (word ∷ given) m n h k s t = absurd (differ (said_name m) (said_name n) refl (sym s.0 ∙ t.0))

no_hash : (m : Line) (word : List ℕ) (others : List (List ℕ)) → AllStandFor (said_words m) ((35 ∷ word) ∷ others) → ⊥
no_hash (device p) word others s = differ (35 ∷ word) (codes "device") refl s.0
no_hash (opens x) word others s = differ (35 ∷ word) (codes "opens") refl s.0
no_hash (asks x) word others s = differ (35 ∷ word) (codes "asks") refl s.0
no_hash (skips x) word others s = differ (35 ∷ word) (codes "skips") refl s.0
no_hash (times p) word others s = differ (35 ∷ word) (codes "times") refl s.0
no_hash (keeps p) word others s = differ (35 ∷ word) (codes "keeps") refl s.0
no_hash (breaks x) word others s = differ (35 ∷ word) (codes "breaks") refl s.0

pub lines_named : AreNamed said_words SaidFits
lines_named = record { one = one_line; some = λ m s. s; plain = no_hash }
