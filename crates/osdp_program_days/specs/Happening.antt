-- What happens on a day of a panel's program and of the programs of its devices, whatever language they are written in.
use Rattle.std.specs.Prelude.{ℕ, Bool, List, [], ◌∷◌, ◌++◌, take, drop, true, false}
use Rattle.osdp_msg.specs.declared.command.Command.{Command}
use Rattle.osdp_msg.specs.declared.command.Command.TheVariants.{Cap, Output}
use Rattle.osdp_msg.specs.declared.outputs.OutputRecord.{OutputRecord}
use Rattle.osdp_panel.specs.Orders.{never}
use Rattle.osdp_calls_instance.specs.Panels.{FirstEntry}
use Rattle.osdp_premises.specs.LongDay.{answers, asks, away}

-- Moments are milliseconds. Where an end reads, the places stand in what was said on the line: those of the packets that it reads.
pub data Happening : Type 0 where
  -- the panel begins a session of an entry at a moment; orders, until a moment; takes an order back; sends what is due at a moment, and takes what is to be told; hears
  -- bytes at a moment, takes what is to be told, and ticks; is made anew with these entries; and gets one more at an address, whose first order has this number
  Begins : ℕ → ℕ → Happening
  Orders : ℕ → Command → ℕ → Happening
  TakesBack : ℕ → Happening
  Sends : ℕ → Happening
  Hears : List ℕ → ℕ → List ℕ → Happening
  IsMadeAnew : List FirstEntry → Happening
  GetsOneMore : ℕ → ℕ → Happening
  -- the device of an entry has one output, which is off; hears bytes at a moment; hears an order that its program decides, and does it; sees the line silent;
  -- a key is pressed there; it is busy from now on, or isn't any more; at a moment it lets the oldest event go that waits, where that is older than a second
  -- and no packet has come for eight; and it is made anew at an address
  HasOutput : ℕ → Happening
  DeviceHears : ℕ → List ℕ → ℕ → List ℕ → Happening
  DeviceDoes : ℕ → List ℕ → ℕ → List ℕ → Happening
  SeesSilence : ℕ → ℕ → Happening
  KeyIsPressed : ℕ → Happening
  IsBusy : ℕ → Bool → Happening
  LetsOldGo : ℕ → ℕ → Happening
  DeviceIsMadeAnew : ℕ → ℕ → Happening

-- an entry at an address, of a device that never had an order
abbrev pub first_at : ℕ → FirstEntry
first_at address = record { address = address; next = 0 }

-- what a device says of itself, and an order: output 0 on, for good
abbrev pub identity : List ℕ
identity = 69 ∷ 1 ∷ 2 ∷ 3 ∷ 4 ∷ 5 ∷ 6 ∷ 0 ∷ 0 ∷ 0 ∷ 7 ∷ 8 ∷ 9 ∷ []

-- output 0 is switched on for good
abbrev pub on : OutputRecord
on = record { output = 0; control = 2; timer = 0 }

-- .. as the body of an OUT
abbrev pub ordered_on : List ℕ
ordered_on = 104 ∷ 0 ∷ 2 ∷ 0 ∷ 0 ∷ []

-- Sessions of both devices open. The first opening ID comes to its device in two pieces, and its answer to the panel.
abbrev pub opening : List Happening
opening =
    Begins 0 0
    ∷ Begins 1 0
    ∷ Sends 400
    ∷ DeviceHears 0 (take 5 (asks 3 0 (97 ∷ 0 ∷ []))) 401 []
    ∷ DeviceHears 0 (drop 5 (asks 3 0 (97 ∷ 0 ∷ []))) 402 (0 ∷ [])
    ∷ DeviceHears 1 (asks 3 0 (97 ∷ 0 ∷ [])) 402 (0 ∷ [])
    ∷ Hears (take 9 (answers 3 0 identity)) 405 []
    ∷ Hears (drop 9 (answers 3 0 identity)) 405 (1 ∷ [])
    ∷ Sends 406
    ∷ DeviceHears 1 (asks 4 0 (97 ∷ 0 ∷ [])) 407 (2 ∷ [])
    ∷ Hears (answers 4 0 identity) 410 (3 ∷ [])
    ∷ []

-- An order comes damaged, and is sent again. The device does it. The answer is lost, and the line says the order once more: the device gives the kept
-- answer, and the order is settled.
abbrev pub order : List Happening
order =
    HasOutput 0
    ∷ Orders 0 (Output (on ∷ [])) 5000
    ∷ Sends 411
    ∷ DeviceHears 0 (83 ∷ 3 ∷ 11 ∷ 0 ∷ 1 ∷ 104 ∷ 0 ∷ 2 ∷ 0 ∷ 0 ∷ 0 ∷ []) 412 []
    ∷ SeesSilence 0 413
    ∷ Sends 611
    ∷ DeviceDoes 0 (asks 3 1 ordered_on) 612 (5 ∷ [])
    ∷ DeviceHears 0 (asks 3 1 ordered_on) 614 (5 ∷ [])
    ∷ Hears (answers 3 1 (64 ∷ [])) 615 (7 ∷ [])
    ∷ []

-- A key is pressed while the device is busy. It is told as soon as the device isn't.
abbrev pub busy : List Happening
busy =
    KeyIsPressed 0
    ∷ IsBusy 0 true
    ∷ Sends 616
    ∷ DeviceHears 1 (asks 4 1 (96 ∷ [])) 617 (8 ∷ [])
    ∷ Hears (answers 4 1 (64 ∷ [])) 618 (9 ∷ [])
    ∷ Sends 665
    ∷ DeviceHears 0 (asks 3 2 (96 ∷ [])) 666 (10 ∷ [])
    ∷ Hears (answers 3 0 (121 ∷ [])) 667 (11 ∷ [])
    ∷ IsBusy 0 false
    ∷ Sends 717
    ∷ DeviceHears 0 (asks 3 2 (96 ∷ [])) 718 (12 ∷ [])
    ∷ Hears (answers 3 2 (83 ∷ 0 ∷ 1 ∷ 49 ∷ [])) 720 (13 ∷ [])
    ∷ []

-- The next POLL is lost twice, and the session has ended. An order is taken back. Another may be sent until this moment.
abbrev pub lost : List Happening
lost =
    Sends 769
    ∷ DeviceHears 1 (asks 4 2 (96 ∷ [])) 769 (14 ∷ [])
    ∷ Hears (answers 4 2 (64 ∷ [])) 769 (15 ∷ [])
    ∷ Sends 770
    ∷ Sends 970
    ∷ Sends 1170
    ∷ Orders 0 (Cap 0) never
    ∷ TakesBack 0
    ∷ Orders 0 (Cap 0) 1170
    ∷ []

-- A millisecond later that order has expired: the tick sends nothing, and it is told. The other device loses power, and is made anew. It refuses the number of the next POLL.
abbrev pub restart : List Happening
restart =
    Begins 0 1171
    ∷ Sends 1171
    ∷ Sends 1172
    ∷ DeviceIsMadeAnew 1 4
    ∷ DeviceHears 1 (asks 4 3 (96 ∷ [])) 1173 (18 ∷ [])
    ∷ Hears (answers 4 3 (65 ∷ 4 ∷ [])) 1174 (19 ∷ [])
    ∷ []

-- The next session begins, and the key is told again.
abbrev pub again : List Happening
again =
    Sends 1571
    ∷ DeviceHears 0 (asks 3 0 (97 ∷ 0 ∷ [])) 1572 (20 ∷ [])
    ∷ Hears (answers 3 0 identity) 1574 (21 ∷ [])
    ∷ Sends 1624
    ∷ DeviceHears 0 (asks 3 1 (96 ∷ [])) 1625 (22 ∷ [])
    ∷ Hears (answers 3 1 (83 ∷ 0 ∷ 1 ∷ 49 ∷ [])) 1627 (23 ∷ [])
    ∷ []

-- A COMSET is settled: the device goes to 5, and the next session opens there.
abbrev pub move : List Happening
move =
    Orders 0 (away 5) 5000
    ∷ Sends 1628
    ∷ DeviceHears 0 (asks 3 2 (110 ∷ 5 ∷ 128 ∷ 37 ∷ 0 ∷ 0 ∷ [])) 1629 (24 ∷ [])
    ∷ Hears (answers 3 2 (84 ∷ 5 ∷ 128 ∷ 37 ∷ 0 ∷ 0 ∷ [])) 1631 (25 ∷ [])
    ∷ Begins 0 1632
    ∷ Sends 2032
    ∷ DeviceHears 0 (asks 5 0 (97 ∷ 0 ∷ [])) 2033 (26 ∷ [])
    ∷ Hears (answers 5 0 identity) 2035 (27 ∷ [])
    ∷ []

-- An order goes out, and is lost. Its repeat is withheld, since the last moment of the order has passed. So the session ends, and what became of the order is unknown. The next
-- session opens.
abbrev pub withheld : List Happening
withheld =
    Orders 0 (Cap 0) 2100
    ∷ Sends 2036
    ∷ Sends 2236
    ∷ Sends 2436
    ∷ Begins 0 2437
    ∷ Sends 2837
    ∷ DeviceHears 0 (asks 5 0 (97 ∷ 0 ∷ [])) 2838 (30 ∷ [])
    ∷ Hears (answers 5 0 identity) 2840 (31 ∷ [])
    ∷ []

-- An order is acted on while another one waits, and the panel is made anew before the answer comes, with the number that it has stored. The next session begins without them.
abbrev pub panel_restart : List Happening
panel_restart =
    Orders 0 (Cap 0) never
    ∷ Orders 0 (Cap 0) never
    ∷ Sends 2841
    ∷ DeviceHears 0 (asks 5 1 (98 ∷ 0 ∷ [])) 2842 (32 ∷ [])
    ∷ IsMadeAnew (record { address = 5; next = 7 } ∷ record { address = 4; next = 0 } ∷ record { address = 20; next = 0 } ∷ [])
    ∷ Begins 0 2845
    ∷ Sends 3245
    ∷ DeviceHears 0 (asks 5 0 (97 ∷ 0 ∷ [])) 3246 (34 ∷ [])
    ∷ Hears (answers 5 0 identity) 3248 (35 ∷ [])
    ∷ []

-- A key is pressed, and told, but the answer is lost. The panel says nothing for nine seconds. So the device lets the key go, in doubt. Then the panel asks once
-- more: the device gives the kept answer, and the key is reported.
abbrev pub lapse : List Happening
lapse =
    KeyIsPressed 0
    ∷ Sends 3298
    ∷ DeviceHears 0 (asks 5 1 (96 ∷ [])) 3299 (36 ∷ [])
    ∷ LetsOldGo 0 12000
    ∷ Sends 12001
    ∷ DeviceHears 0 (asks 5 1 (96 ∷ [])) 12002 (38 ∷ [])
    ∷ Hears (answers 5 1 (83 ∷ 0 ∷ 1 ∷ 49 ∷ [])) 12004 (39 ∷ [])
    ∷ []

-- all that happens on that day
abbrev pub day : List Happening
day = opening ++ order ++ busy ++ lost ++ restart ++ again ++ move ++ withheld ++ panel_restart ++ lapse
