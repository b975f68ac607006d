-- Commands by their names.
use Rattle.osdp_refused_words.proofs.Common.{◌≡◌, ℕ, suc, ◌+◌, List, [], ◌∷◌, ◌++◌, codes, refl, subst, arith, All-from_recursion, recursion_from_All, AllStandFor, IsBytes-each, differ, LedFits, OutputFits, HasNoCommand, SaysCommand, SaysCommandOf, Fills, SaysRecords, GoesOn, StopsAt}
use Rattle.osdp_msg.specs.CommandTable.{CommandFits}
use Rattle.osdp_msg.specs.CommandText.{command_row, command_words}
use Rattle.osdp_msg.specs.declared.command.Command.{Command}
use Rattle.osdp_msg.specs.declared.command.Command.TheVariants.{Poll, Id, Cap, LocalStatus, InputStatus, OutputStatus, ReaderStatus, Output, Led, Buzzer, Text, Comset, Maker}
use Rattle.osdp_refused_words.specs.declared.slot.Slot.TheVariants as slots
use Rattle.osdp_refused_words.proofs.Filling.{some_word}
use Rattle.osdp_refused_words.proofs.Parts.{byte, byte_fits, rate, vendor}
use Rattle.osdp_refused_words.proofs.Stopping.{after, ended, first_refused, same_texts, stops_alike}

-- the words after a name, of a command with this name
abbrev To : List ℕ → (List (List ℕ) → Type 0) → Type 0
To name Says = (m : Command) (given : List (List ℕ)) → AllStandFor (command_words m) (name ∷ given) → CommandFits m → Says given

-- they are stopped where other words are
abbrev pub IsStopped : List ℕ → (List (List ℕ) → Type 0) → Type 0
IsStopped name Says = (given : List (List ℕ)) (place : ℕ) → StopsAt Says given place → StopsAt (SaysCommandOf name) given place

alike : (name : List ℕ) (Says : List (List ℕ) → Type 0) → To name Says → ((given : List (List ℕ)) → Says given → SaysCommandOf name given) → IsStopped name Says
alike name Says to from given place h =
    stops_alike (SaysCommandOf name) Says given place (same_texts (SaysCommandOf name) Says (λ g s. to s.0 g s.1 s.2) from) h

poll_to : To (codes "POLL") (Fills [])
poll_to Poll given s f = (tt, s.1, tt)
poll_to m given s f = absurd (differ (codes "POLL") (command_row m).0 refl s.0)

pub poll : IsStopped (codes "POLL") (Fills [])
poll = alike _ _ poll_to (λ given h. (Poll, (refl, h.1), tt))

id_to : To (codes "ID") (Fills (byte ∷ []))
id_to (Id n) given s f = ((n, tt), s.1, (byte_fits n f, tt))
id_to m given s f = absurd (differ (codes "ID") (command_row m).0 refl s.0)

pub id : IsStopped (codes "ID") (Fills (byte ∷ []))
id = alike _ _ id_to (λ given h. (Id h.0.0, (refl, h.1), omega (arith, h.2.0.1)))

cap_to : To (codes "CAP") (Fills (byte ∷ []))
cap_to (Cap n) given s f = ((n, tt), s.1, (byte_fits n f, tt))
cap_to m given s f = absurd (differ (codes "CAP") (command_row m).0 refl s.0)

pub cap : IsStopped (codes "CAP") (Fills (byte ∷ []))
cap = alike _ _ cap_to (λ given h. (Cap h.0.0, (refl, h.1), omega (arith, h.2.0.1)))

lstat_to : To (codes "LSTAT") (Fills [])
lstat_to LocalStatus given s f = (tt, s.1, tt)
lstat_to m given s f = absurd (differ (codes "LSTAT") (command_row m).0 refl s.0)

pub lstat : IsStopped (codes "LSTAT") (Fills [])
lstat = alike _ _ lstat_to (λ given h. (LocalStatus, (refl, h.1), tt))

istat_to : To (codes "ISTAT") (Fills [])
istat_to InputStatus given s f = (tt, s.1, tt)
istat_to m given s f = absurd (differ (codes "ISTAT") (command_row m).0 refl s.0)

pub istat : IsStopped (codes "ISTAT") (Fills [])
istat = alike _ _ istat_to (λ given h. (InputStatus, (refl, h.1), tt))

ostat_to : To (codes "OSTAT") (Fills [])
ostat_to OutputStatus given s f = (tt, s.1, tt)
ostat_to m given s f = absurd (differ (codes "OSTAT") (command_row m).0 refl s.0)

pub ostat : IsStopped (codes "OSTAT") (Fills [])
ostat = alike _ _ ostat_to (λ given h. (OutputStatus, (refl, h.1), tt))

rstat_to : To (codes "RSTAT") (Fills [])
rstat_to ReaderStatus given s f = (tt, s.1, tt)
rstat_to m given s f = absurd (differ (codes "RSTAT") (command_row m).0 refl s.0)

pub rstat : IsStopped (codes "RSTAT") (Fills [])
rstat = alike _ _ rstat_to (λ given h. (ReaderStatus, (refl, h.1), tt))

buz_to : To (codes "BUZ") (Fills (byte ∷ byte ∷ byte ∷ byte ∷ byte ∷ []))
buz_to (Buzzer b) given s f =
    ((b.reader, (b.tone, (b.on_time, (b.off_time, (b.count, tt))))), s.1, (byte_fits b.reader f.0, (byte_fits b.tone f.1, (byte_fits b.on_time f.2, (byte_fits b.off_time f.3, (byte_fits b.count f.4, tt))))))
buz_to m given s f = absurd (differ (codes "BUZ") (command_row m).0 refl s.0)

pub buz : IsStopped (codes "BUZ") (Fills (byte ∷ byte ∷ byte ∷ byte ∷ byte ∷ []))
buz = alike _ _ buz_to
    (λ given h. (
      Buzzer (record { reader = h.0.0; tone = h.0.1.0; on_time = h.0.1.1.0; off_time = h.0.1.1.1.0; count = h.0.1.1.1.1.0 }),
      (refl, h.1),
      (omega (arith, h.2.0.1), omega (arith, h.2.1.0.1), omega (arith, h.2.1.1.0.1), omega (arith, h.2.1.1.1.0.1), omega (arith, h.2.1.1.1.1.0.1)),
    ))

text_to : To (codes "TEXT") (Fills (byte ∷ byte ∷ byte ∷ byte ∷ byte ∷ slots.Bytes 0 255 ∷ []))
text_to (Text t) given s f = (
  (t.reader, (t.command, (t.time, (t.row, (t.column, (t.characters.items, tt)))))),
  s.1,
  (byte_fits t.reader (f.numbers 0), (byte_fits t.command (f.numbers 1), (byte_fits t.time (f.numbers 2), (byte_fits t.row (f.numbers 3), (byte_fits t.column (f.numbers 4), ((omega arith, f.room, f.characters), tt)))))),
)
text_to m given s f = absurd (differ (codes "TEXT") (command_row m).0 refl s.0)

pub text : IsStopped (codes "TEXT") (Fills (byte ∷ byte ∷ byte ∷ byte ∷ byte ∷ slots.Bytes 0 255 ∷ []))
text = alike _ _ text_to
    (λ given h. (
      Text (record { reader = h.0.0; command = h.0.1.0; time = h.0.1.1.0; row = h.0.1.1.1.0; column = h.0.1.1.1.1.0; characters = record { items = h.0.1.1.1.1.1.0 } }),
      (refl, h.1),
      record {
        numbers = IsBytes-each (h.0.0 ∷ h.0.1.0 ∷ h.0.1.1.0 ∷ h.0.1.1.1.0 ∷ h.0.1.1.1.1.0 ∷ [])
            (omega (arith, h.2.0.1), (omega (arith, h.2.1.0.1), (omega (arith, h.2.1.1.0.1), (omega (arith, h.2.1.1.1.0.1), (omega (arith, h.2.1.1.1.1.0.1), tt)))));
        room = h.2.1.1.1.1.1.0.1;
        characters = h.2.1.1.1.1.1.0.2;
      },
    ))

comset_to : To (codes "COMSET") (Fills (byte ∷ rate ∷ []))
comset_to (Comset x) given s f = ((x.address, (x.baud_rate, tt)), s.1, (byte_fits x.address f.0, ((omega arith, omega (arith, f.1)), tt)))
comset_to m given s f = absurd (differ (codes "COMSET") (command_row m).0 refl s.0)

pub comset : IsStopped (codes "COMSET") (Fills (byte ∷ rate ∷ []))
comset = alike _ _ comset_to (λ given h. (Comset (record { address = h.0.0; baud_rate = h.0.1.0 }), (refl, h.1), (omega (arith, h.2.0.1), omega (arith, h.2.1.0.1))))

mfg_to : To (codes "MFG") (Fills (vendor ∷ slots.Bytes 0 1429 ∷ []))
mfg_to (Maker m) given s f = ((m.vendor, (m.bytes.items, tt)), s.1, ((omega (arith, f.vendor_length), omega (arith, f.vendor_length), f.vendor), ((omega arith, f.room, f.bytes), tt)))
mfg_to m given s f = absurd (differ (codes "MFG") (command_row m).0 refl s.0)

pub mfg : IsStopped (codes "MFG") (Fills (vendor ∷ slots.Bytes 0 1429 ∷ []))
mfg = alike _ _ mfg_to
    (λ given h. (
      Maker (record { vendor = h.0.0; bytes = record { items = h.0.1.0 } }),
      (refl, h.1),
      record { vendor_length = omega (arith, h.2.0.0, h.2.0.1); vendor = h.2.0.2; room = h.2.1.0.1; bytes = h.2.1.0.2 },
    ))

-- ---- records: one at least

out_to : To (codes "OUT") (SaysRecords slots.Output 358)
out_to (Output rs) given s f = (rs, s.1, (f.1, recursion_from_All OutputFits rs f.2))
out_to m given s f = absurd (differ (codes "OUT") (command_row m).0 refl s.0)

out_from : (front : List (List ℕ)) → GoesOn (SaysRecords slots.Output 358) front → GoesOn (SaysCommandOf (codes "OUT")) front
out_from [] goes = let w = some_word slots.Output tt in
    (w.0 ∷ [], (Output (w.1.0 ∷ []), (refl, (w.1.1, tt)), (omega arith, omega arith, All-from_recursion OutputFits (w.1.0 ∷ []) (w.1.2, tt))))
out_from (word ∷ front) (rest, ([], stands, fit)) = absurd stands
out_from (word ∷ front) (rest, (r ∷ rs, stands, fit)) = (rest, (Output (r ∷ rs), (refl, stands), (omega arith, fit.0, All-from_recursion OutputFits (r ∷ rs) fit.1)))

pub out : IsStopped (codes "OUT") (SaysRecords slots.Output 358)
out given place h = stops_alike (SaysCommandOf (codes "OUT")) (SaysRecords slots.Output 358) given place
    (record { to = λ front goes. (goes.0, out_to goes.1.0 (front ++ goes.0) goes.1.1 goes.1.2); from = out_from }) h

led_to : To (codes "LED") (SaysRecords slots.Led 102)
led_to (Led rs) given s f = (rs, s.1, (f.1, recursion_from_All LedFits rs f.2))
led_to m given s f = absurd (differ (codes "LED") (command_row m).0 refl s.0)

led_from : (front : List (List ℕ)) → GoesOn (SaysRecords slots.Led 102) front → GoesOn (SaysCommandOf (codes "LED")) front
led_from [] goes = let w = some_word slots.Led tt in
    (w.0 ∷ [], (Led (w.1.0 ∷ []), (refl, (w.1.1, tt)), (omega arith, omega arith, All-from_recursion LedFits (w.1.0 ∷ []) (w.1.2, tt))))
led_from (word ∷ front) (rest, ([], stands, fit)) = absurd stands
led_from (word ∷ front) (rest, (r ∷ rs, stands, fit)) = (rest, (Led (r ∷ rs), (refl, stands), (omega arith, fit.0, All-from_recursion LedFits (r ∷ rs) fit.1)))

pub led : IsStopped (codes "LED") (SaysRecords slots.Led 102)
led given place h = stops_alike (SaysCommandOf (codes "LED")) (SaysRecords slots.Led 102) given place
    (record { to = λ front goes. (goes.0, led_to goes.1.0 (front ++ goes.0) goes.1.1 goes.1.2); from = led_from }) h

-- ---- all commands

some_command : GoesOn SaysCommand []
some_command = (codes "POLL" ∷ [], (Poll, (refl, tt), tt))

-- no word stands there, or no command has this name, or one has
pub at_none : StopsAt SaysCommand [] 0
at_none = ended SaysCommand some_command

pub at_unnamed : (name : List ℕ) (rest : List (List ℕ)) → HasNoCommand name → StopsAt SaysCommand (name ∷ rest) 0
at_unnamed name rest none = first_refused SaysCommand name rest some_command (λ goes. none goes.0 goes.1)

pub at_named : (name : List ℕ) (rest : List (List ℕ)) (place : ℕ) → StopsAt (SaysCommandOf name) rest place → StopsAt SaysCommand (name ∷ rest) (1 + place)
at_named name rest place h =
    subst (StopsAt SaysCommand (name ∷ rest)) (let e : suc place ≡ 1 + place = omega arith in e)
    (after SaysCommand (SaysCommandOf name) name rest place (record { to = λ front goes. goes; from = λ front goes. goes }) h)
