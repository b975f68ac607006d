-- The lines that a run prints.
use Rattle.std.specs.Prelude.{ℕ, ◌+◌, ◌==◌, List, [], ◌++◌, codes, Option, Some, None, option_map, if◌then◌else◌}
use Rattle.std.specs.Borrow.{Bor}
use Rattle.std.specs.Fmt.{decimal}
use Rattle.osdp_frame.specs.Packet.{Packet}
use Rattle.osdp_frame.specs.Spelling.{spelling}
use Rattle.osdp_words.specs.Word.{bytes, printed}
use Rattle.osdp_test_script.specs.Awaited.{awaited_name}
use Rattle.osdp_test_script.specs.declared.awaited.Awaited.{Awaited}
use Rattle.osdp_test_script.specs.declared.call.Term.{Term}
use Rattle.osdp_test_script.specs.declared.call.Term.TheVariants.{Open, Within, FromUser}
use Rattle.osdp_test_script.specs.declared.refusal.Refusal.{Refusal}
use Rattle.osdp_test_script.specs.declared.refusal.Refusal.TheVariants.{NoDevice, NotAllowed, NothingSent, NothingKept, NothingAwaited, TooLong, NoText}
use Rattle.osdp_test_script.specs.declared.run.Exchange.{Exchange}
use Rattle.osdp_test_script.specs.declared.seen.Seen.{Seen}
use Rattle.osdp_test_script.specs.declared.seen.Seen.TheVariants.{Ok, Broken, Unclear}

abbrev pub refusal_text : Refusal → List ℕ
refusal_text NoDevice = codes "no line above it names the device"
refusal_text NotAllowed = codes "no may above it allows this command"
refusal_text NothingSent = codes "nothing was sent above it"
refusal_text NothingKept = codes "nothing was kept above it"
refusal_text NothingAwaited = codes "no answer is waited for"
refusal_text TooLong = codes "it has more than 8192 bytes"
refusal_text NoText = codes "it is no text in UTF-8"

abbrev pub text_in : Option (Bor (List ℕ)) → Option (List ℕ)
text_in word = option_map (λ (w : Bor (List ℕ)). w.now) word

-- which word of a line cannot stand where it is, by its place, counted from 0, or that none stands there
abbrev pub wrong_word_text : ℕ → Option (List ℕ) → List ℕ
wrong_word_text place None = codes "word " ++ (decimal (place + 1) ++ codes " is missing")
wrong_word_text place (Some word) =
    if place == 0 then codes "no line begins with " ++ word else codes "word " ++ (decimal (place + 1) ++ (codes " cannot be " ++ word))

abbrev pub refusal_line : ℕ → List ℕ → List ℕ
refusal_line line why = codes "line " ++ (decimal line ++ (codes " refused: " ++ (why ++ codes "\n")))

-- the bytes that go out
abbrev pub send_line : List ℕ → List ℕ
send_line list = codes "send " ++ (printed (bytes list) ++ codes "\n")

-- how long nothing is to go out
abbrev pub wait_line : ℕ → List ℕ
wait_line time = codes "wait " ++ (decimal time ++ codes "\n")

abbrev pub term_text : Term → List ℕ
term_text Open = []
term_text (Within time) = codes " within " ++ decimal time
term_text (FromUser time) = codes " from user within " ++ decimal time

abbrev pub expect_text : Awaited → Term → List ℕ
expect_text awaited term = codes "expect " ++ (awaited_name awaited ++ term_text term)

abbrev pub seen_name : Seen → List ℕ
seen_name Ok = codes "ok"
seen_name Broken = codes "broken"
seen_name Unclear = codes "unclear"

-- a verdict on a line, and what the line says
abbrev pub seen_line : ℕ → Seen → List ℕ → List ℕ
seen_line line seen says = codes "line " ++ (decimal line ++ (codes " " ++ (seen_name seen ++ (codes ": " ++ (says ++ codes "\n")))))

abbrev pub heard_text : Option Packet → List ℕ
heard_text None = codes "none"
heard_text (Some a) = printed (bytes (spelling a))

-- what was sent and read, where a line is broken
abbrev pub exchange_lines : Exchange → List ℕ
exchange_lines x =
    codes "  at " ++ (decimal x.moment ++ (codes " ms sent " ++ (printed (bytes (spelling x.sent)) ++ (codes "\n  read "
    ++ (heard_text x.heard ++ (codes " after " ++ (decimal x.delay ++ codes " ms\n")))))))

abbrev pub broken_lines : Seen → Exchange → List ℕ
broken_lines Broken x = exchange_lines x
broken_lines seen x = []

-- a line's verdict
abbrev pub verdict_lines : ℕ → Seen → List ℕ → Exchange → List ℕ
verdict_lines line seen says x = seen_line line seen says ++ broken_lines seen x
