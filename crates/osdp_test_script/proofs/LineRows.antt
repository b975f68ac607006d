-- Lines by their names: which word of them cannot stand where it is.
use Rattle.osdp_test_script.proofs.Common.{◌≡◌, ℕ, suc, ◌+◌, List, [], ◌∷◌, ◌++◌, codes, Some, None, refl, subst, ◌∙◌, arith, Bor, check_name, CheckKind, differ, GoesOn, StopsAt, AllStandFor, plain, awaited_name, CallFits, PermitFits, TermFits, call_name, call_words, permit_text, term_words, HasNoLine, SaysLine, SaysLineOf, SaysTerm, Awaited, Silence, Term, ScriptCall, Device, Check, May, Send, Repeat, Reopen, Lose, Damage, Wait, Expect, ReadsLine, Keep, Counts, Heard, Ready}
use Rattle.osdp_frame.specs.declared.check_kind.CheckKind.TheVariants.{Crc}
use Rattle.osdp_refused_words.proofs.Stopping.{after, ended, first_refused, same_texts, stops_alike, stops_alike_there}
use Rattle.osdp_refused_words.proofs.Filling.{some_word}
use Rattle.osdp_refused_words.specs.Messages.{SaysCommand, SaysReply}
use Rattle.osdp_refused_words.specs.Slots.{Fills}
use Rattle.osdp_refused_words.specs.declared.slot.Slot.{Slot}
use Rattle.osdp_refused_words.specs.declared.slot.Slot.TheVariants.{Text, Number, Bytes}
use Rattle.osdp_words.specs.Reading.{Reads}
use Rattle.osdp_test_script.specs.declared.call.Permit.{Permit}
use Rattle.osdp_test_script.specs.declared.call.Permit.TheVariants.{Led}
use Rattle.osdp_test_script.specs.declared.call.Term.TheVariants.{Open, Within, FromUser}

-- the words after a name, of a line with this name
abbrev To : List ℕ → (List (List ℕ) → Type 0) → Type 0
To name Says = (m : ScriptCall) (given : List (List ℕ)) → AllStandFor (call_words m) (name ∷ given) → CallFits m → Says given

-- they are stopped where other words are
abbrev pub IsStopped : List ℕ → (List (List ℕ) → Type 0) → Type 0
IsStopped name Says = (given : List (List ℕ)) (place : ℕ) → StopsAt Says given place → StopsAt (SaysLineOf name) given place

alike : (name : List ℕ) (Says : List (List ℕ) → Type 0) → To name Says → ((given : List (List ℕ)) → Says given → SaysLineOf name given) → IsStopped name Says
alike name Says to from given place h =
    stops_alike (SaysLineOf name) Says given place (same_texts (SaysLineOf name) Says (λ g s. to s.0 g s.1 s.2) from) h

device_to : To (codes "device") (Fills (Number 0 126 ∷ []))
device_to (Device a) given s f = ((a, tt), s.1, ((omega arith, omega (arith, f)), tt))
device_to m given s f = absurd (differ (codes "device") (call_name m) refl s.0)

pub device : IsStopped (codes "device") (Fills (Number 0 126 ∷ []))
device = alike _ _ device_to (λ given h. (Device h.0.0, (refl, h.1), omega (arith, h.2.0.1)))

send_to : To (codes "send") SaysCommand
send_to (Send m) given s f = (m, s.1, f)
send_to m given s f = absurd (differ (codes "send") (call_name m) refl s.0)

pub send : IsStopped (codes "send") SaysCommand
send = alike _ _ send_to (λ given h. (Send h.0, (refl, h.1), h.2))

reads_to : To (codes "reads") SaysReply
reads_to (ReadsLine m) given s f = (m, s.1, f)
reads_to m given s f = absurd (differ (codes "reads") (call_name m) refl s.0)

pub reads : IsStopped (codes "reads") SaysReply
reads = alike _ _ reads_to (λ given h. (ReadsLine h.0, (refl, h.1), h.2))

repeat_to : To (codes "repeat") (Fills [])
repeat_to Repeat given s f = (tt, s.1, tt)
repeat_to m given s f = absurd (differ (codes "repeat") (call_name m) refl s.0)

pub repeat_line : IsStopped (codes "repeat") (Fills [])
repeat_line = alike _ _ repeat_to (λ given h. (Repeat, (refl, h.1), tt))

reopen_to : To (codes "reopen") (Fills [])
reopen_to Reopen given s f = (tt, s.1, tt)
reopen_to m given s f = absurd (differ (codes "reopen") (call_name m) refl s.0)

pub reopen : IsStopped (codes "reopen") (Fills [])
reopen = alike _ _ reopen_to (λ given h. (Reopen, (refl, h.1), tt))

ready_to : To (codes "ready") (Fills [])
ready_to Ready given s f = (tt, s.1, tt)
ready_to m given s f = absurd (differ (codes "ready") (call_name m) refl s.0)

pub ready : IsStopped (codes "ready") (Fills [])
ready = alike _ _ ready_to (λ given h. (Ready, (refl, h.1), tt))

abbrev lent : List ℕ → Bor (List ℕ)
lent text = record { ref_ptr = (0, 0); now = text }

lose_to : To (codes "lose") (Fills (Text (lent (codes "answer")) ∷ []))
lose_to Lose given s f = ((tt, tt), s.1, (tt, tt))
lose_to m given s f = absurd (differ (codes "lose") (call_name m) refl s.0)

pub lose : IsStopped (codes "lose") (Fills (Text (lent (codes "answer")) ∷ []))
lose = alike _ _ lose_to (λ given h. (Lose, (refl, h.1), tt))

damage_to : To (codes "damage") (Fills (Number 1 65535 ∷ []))
damage_to (Damage n) given s f = ((n, tt), s.1, ((omega (arith, f.0), omega (arith, f.1)), tt))
damage_to m given s f = absurd (differ (codes "damage") (call_name m) refl s.0)

pub damage : IsStopped (codes "damage") (Fills (Number 1 65535 ∷ []))
damage = alike _ _ damage_to (λ given h. (Damage h.0.0, (refl, h.1), (omega (arith, h.2.0.0), omega (arith, h.2.0.1))))

keep_to : To (codes "keep") (Fills (Number 1 65535 ∷ []))
keep_to (Keep n) given s f = ((n, tt), s.1, ((omega (arith, f.0), omega (arith, f.1)), tt))
keep_to m given s f = absurd (differ (codes "keep") (call_name m) refl s.0)

pub keep : IsStopped (codes "keep") (Fills (Number 1 65535 ∷ []))
keep = alike _ _ keep_to (λ given h. (Keep h.0.0, (refl, h.1), (omega (arith, h.2.0.0), omega (arith, h.2.0.1))))

wait_to : To (codes "wait") (Fills (Number 0 3600000 ∷ []))
wait_to (Wait n) given s f = ((n, tt), s.1, ((omega arith, f), tt))
wait_to m given s f = absurd (differ (codes "wait") (call_name m) refl s.0)

pub wait : IsStopped (codes "wait") (Fills (Number 0 3600000 ∷ []))
wait = alike _ _ wait_to (λ given h. (Wait h.0.0, (refl, h.1), h.2.0.1))

counts_to : To (codes "counts") (Fills (Number 0 255 ∷ []))
counts_to (Counts n) given s f = ((n, tt), s.1, ((omega arith, omega (arith, f)), tt))
counts_to m given s f = absurd (differ (codes "counts") (call_name m) refl s.0)

pub counts : IsStopped (codes "counts") (Fills (Number 0 255 ∷ []))
counts = alike _ _ counts_to (λ given h. (Counts h.0.0, (refl, h.1), omega (arith, h.2.0.1)))

abbrev moment : Slot
moment = Number 0 18446744073709551615

heard_to : To (codes "heard") (Fills (moment ∷ moment ∷ Bytes 0 4096 ∷ []))
heard_to (Heard a b list) given s f = ((a, (b, (list.items, tt))), s.1, ((omega arith, omega (arith, f.0)), ((omega arith, omega (arith, f.1)), ((omega arith, f.2.0, f.2.1), tt))))
heard_to m given s f = absurd (differ (codes "heard") (call_name m) refl s.0)

pub heard : IsStopped (codes "heard") (Fills (moment ∷ moment ∷ Bytes 0 4096 ∷ []))
heard = alike _ _ heard_to
    (λ given h. (Heard h.0.0 h.0.1.0 (record { items = h.0.1.1.0 }), (refl, h.1), (omega (arith, h.2.0.1), omega (arith, h.2.1.0.1), (h.2.1.1.0.1, h.2.1.1.0.2))))

-- ---- lines whose first word has a reader of its own

abbrev SaysCheck : List (List ℕ) → Type 0
SaysCheck = SaysLineOf (codes "check")

some_check : GoesOn SaysCheck []
some_check = (codes "crc" ∷ [], (Check Crc, (refl, (refl, tt)), tt))

check_rest : (word : List ℕ) (more : List (List ℕ)) (m : ScriptCall) → AllStandFor (call_words m) (codes "check" ∷ word ∷ more) → ((kind : CheckKind) × (word ≡ check_name kind)) × AllStandFor [] more
check_rest word more (Check kind) s = ((kind, s.1.0), s.1.1)
check_rest word more m s = absurd (differ (codes "check") (call_name m) refl s.0)

pub check_none : StopsAt SaysCheck [] 0
check_none = ended SaysCheck some_check

pub check_refused : (word : List ℕ) (rest : List (List ℕ)) → ((kind : CheckKind) → word ≡ check_name kind → ⊥) → StopsAt SaysCheck (word ∷ rest) 0
check_refused word rest none =
    first_refused SaysCheck word rest some_check (λ goes. let h = check_rest word goes.0 goes.1.0 goes.1.1 in none h.0.0 h.0.1)

pub check_after : (word : List ℕ) (rest : List (List ℕ)) (place : ℕ) (kind : CheckKind) → word ≡ check_name kind → StopsAt (Fills []) rest place → StopsAt SaysCheck (word ∷ rest) (1 + place)
check_after word rest place kind e h =
    subst (StopsAt SaysCheck (word ∷ rest)) (let n : suc place ≡ 1 + place = omega arith in n)
    (after SaysCheck (Fills []) word rest place (record {
      to = λ front goes. (goes.0, (tt, (check_rest word (front ++ goes.0) goes.1.0 goes.1.1).1, tt));
      from = λ front goes. (goes.0, (Check kind, (refl, (e, goes.1.1)), tt));
    }) h)

abbrev SaysMay : List (List ℕ) → Type 0
SaysMay = SaysLineOf (codes "may")

some_may : GoesOn SaysMay []
some_may = (codes "led" ∷ [], (May Led, (refl, (refl, tt)), tt))

may_rest : (word : List ℕ) (more : List (List ℕ)) (m : ScriptCall) → AllStandFor (call_words m) (codes "may" ∷ word ∷ more) → CallFits m
    → ((p : Permit) × (word ≡ permit_text p) × PermitFits p) × AllStandFor [] more
may_rest word more (May p) s f = ((p, s.1.0, f), s.1.1)
may_rest word more m s f = absurd (differ (codes "may") (call_name m) refl s.0)

pub may_none : StopsAt SaysMay [] 0
may_none = ended SaysMay some_may

pub may_refused : (word : List ℕ) (rest : List (List ℕ)) → Reads (λ permit. plain (permit_text permit)) PermitFits word None → StopsAt SaysMay (word ∷ rest) 0
may_refused word rest none =
    first_refused SaysMay word rest some_may (λ goes. let h = may_rest word goes.0 goes.1.0 goes.1.1 goes.1.2 in let e = none.only h.0.0 h.0.2 h.0.1 in cc e)

pub may_after : (word : List ℕ) (rest : List (List ℕ)) (place : ℕ) (p : Permit) → Reads (λ permit. plain (permit_text permit)) PermitFits word (Some p) → StopsAt (Fills []) rest place
    → StopsAt SaysMay (word ∷ rest) (1 + place)
may_after word rest place p e h =
    subst (StopsAt SaysMay (word ∷ rest)) (let n : suc place ≡ 1 + place = omega arith in n)
    (after SaysMay (Fills []) word rest place (record {
      to = λ front goes. (goes.0, (tt, (may_rest word (front ++ goes.0) goes.1.0 goes.1.1 goes.1.2).1, tt));
      from = λ front goes. (goes.0, (May p, (refl, (e.value.0, goes.1.1)), e.value.1));
    }) h)

abbrev SaysExpect : List (List ℕ) → Type 0
SaysExpect = SaysLineOf (codes "expect")

some_expect : GoesOn SaysExpect []
some_expect = (codes "silence" ∷ [], (Expect Silence Open, (refl, (refl, tt)), tt))

expect_rest : (word : List ℕ) (more : List (List ℕ)) (m : ScriptCall) → AllStandFor (call_words m) (codes "expect" ∷ word ∷ more) → CallFits m
    → ((a : Awaited) × (word ≡ awaited_name a)) × SaysTerm more
expect_rest word more (Expect a t) s f = ((a, s.1.0), (t, s.1.1, f))
expect_rest word more m s f = absurd (differ (codes "expect") (call_name m) refl s.0)

pub expect_none : StopsAt SaysExpect [] 0
expect_none = ended SaysExpect some_expect

pub expect_refused : (word : List ℕ) (rest : List (List ℕ)) → ((a : Awaited) → word ≡ awaited_name a → ⊥) → StopsAt SaysExpect (word ∷ rest) 0
expect_refused word rest none =
    first_refused SaysExpect word rest some_expect (λ goes. let h = expect_rest word goes.0 goes.1.0 goes.1.1 goes.1.2 in none h.0.0 h.0.1)

pub expect_after : (word : List ℕ) (rest : List (List ℕ)) (place : ℕ) (a : Awaited) → word ≡ awaited_name a → StopsAt SaysTerm rest place → StopsAt SaysExpect (word ∷ rest) (1 + place)
expect_after word rest place a e h =
    subst (StopsAt SaysExpect (word ∷ rest)) (let n : suc place ≡ 1 + place = omega arith in n)
    (after SaysExpect SaysTerm word rest place (record {
      to = λ front goes. (goes.0, (expect_rest word (front ++ goes.0) goes.1.0 goes.1.1 goes.1.2).1);
      from = λ front goes. (goes.0, (Expect a goes.1.0, (refl, (e, goes.1.1)), goes.1.2));
    }) h)

-- ---- until when something is expected: two texts, which their first word tells apart

abbrev time : Slot
time = Number 0 3600000

abbrev User : List Slot
User = Text (lent (codes "user")) ∷ Text (lent (codes "within")) ∷ time ∷ []

abbrev WithinTime : List Slot
WithinTime = Text (lent (codes "within")) ∷ time ∷ []

some_term : GoesOn SaysTerm []
some_term = ([], (Open, tt, tt))

pub term_none : StopsAt SaysTerm [] 0
term_none = ended SaysTerm some_term

user_to : (t : Term) (more : List (List ℕ)) → AllStandFor (term_words t) (codes "from" ∷ more) → TermFits t → Fills User more
user_to Open more s f = absurd s
user_to (Within n) more s f = absurd (differ (codes "from") (codes "within") refl s.0)
user_to (FromUser n) more s f = ((tt, (tt, (n, tt))), s.1, (tt, (tt, ((omega arith, f), tt))))

pub user : (rest : List (List ℕ)) (place : ℕ) → StopsAt (Fills User) rest place → StopsAt SaysTerm (codes "from" ∷ rest) (1 + place)
user rest place h =
    subst (StopsAt SaysTerm (codes "from" ∷ rest)) (let n : suc place ≡ 1 + place = omega arith in n)
    (after SaysTerm (Fills User) (codes "from") rest place (record {
      to = λ front goes. (goes.0, user_to goes.1.0 (front ++ goes.0) goes.1.1 goes.1.2);
      from = λ front goes. (goes.0, (FromUser goes.1.0.1.1.0, (refl, goes.1.1), goes.1.2.1.1.0.1));
    }) h)

within_to : (t : Term) (word : List ℕ) (more : List (List ℕ)) → (word ≡ codes "from" → ⊥) → AllStandFor (term_words t) (word ∷ more) → TermFits t → Fills WithinTime (word ∷ more)
within_to Open word more no_from s f = absurd s
within_to (Within n) word more no_from s f = ((tt, (n, tt)), s, (tt, ((omega arith, f), tt)))
within_to (FromUser n) word more no_from s f = absurd (no_from s.0)

module _ (first : List ℕ) (rest : List (List ℕ)) (no_from : first ≡ codes "from" → ⊥) where
  term_to : (front more : List (List ℕ)) → first ∷ rest ≡ front ++ more → GoesOn SaysTerm front → GoesOn (Fills WithinTime) front
  term_to [] more k goes = let w = some_word time (omega arith, omega arith) in (codes "within" ∷ w.0 ∷ [], ((tt, (w.1.0, tt)), (refl, (w.1.1, tt)), (tt, (w.1.2, tt))))
  term_to (word ∷ front) more k (tail, (t, s, f)) =
      let same : first ≡ word = cc k in (tail, within_to t word (front ++ tail) (λ e. no_from (same ∙ e)) s f)

  pub within_time : (place : ℕ) → StopsAt (Fills WithinTime) (first ∷ rest) place → StopsAt SaysTerm (first ∷ rest) place
  within_time place h =
      stops_alike_there SaysTerm (Fills WithinTime) (first ∷ rest) place term_to (λ front more k goes. (goes.0, (Within goes.1.0.1.0, goes.1.1, goes.1.2.1.0.1))) h

-- ---- all lines

some_line : GoesOn SaysLine []
some_line = (codes "repeat" ∷ [], (Repeat, (refl, tt), tt))

-- no word stands there, or no line has this name, or one has
pub at_none : StopsAt SaysLine [] 0
at_none = ended SaysLine some_line

pub at_unnamed : (name : List ℕ) (rest : List (List ℕ)) → HasNoLine name → StopsAt SaysLine (name ∷ rest) 0
at_unnamed name rest none = first_refused SaysLine name rest some_line (λ goes. none goes.0 goes.1)

pub at_named : (name : List ℕ) (rest : List (List ℕ)) (place : ℕ) → StopsAt (SaysLineOf name) rest place → StopsAt SaysLine (name ∷ rest) (1 + place)
at_named name rest place h =
    subst (StopsAt SaysLine (name ∷ rest)) (let e : suc place ≡ 1 + place = omega arith in e)
    (after SaysLine (SaysLineOf name) name rest place (record { to = λ front goes. goes; from = λ front goes. goes }) h)
