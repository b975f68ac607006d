-- Replies by their names.
use Rattle.osdp_refused_words.proofs.Common.{◌≡◌, ℕ, suc, ◌+◌, ◌/◌, ◌<◌, ◌≤◌, List, [], ◌∷◌, ◌++◌, codes, length, refl, sym, subst, append_assoc, arith, decimal, All-from_recursion, recursion_from_All, IsBytes, AllStandFor, number, differ, CapabilityFits, detail_words, raw_words, RawFits, HasNoReply, IsCountOf, SaysReply, SaysReplyOf, Fills, SaysRecords, GoesOn, StopsAt, Slot}
use Rattle.osdp_msg.proofs.ReplyRows.{reason_back, reason_byte, reason_fits}
use Rattle.osdp_msg.specs.NakReasons.{ReasonFits, reason_number, reason_of}
use Rattle.osdp_msg.specs.Raw.{RawCard}
use Rattle.osdp_msg.specs.ReplyTable.{ReplyFits}
use Rattle.osdp_msg.specs.ReplyText.{reply_row, reply_words}
use Rattle.osdp_msg.specs.declared.nak.NakReason.{NakReason}
use Rattle.osdp_msg.specs.declared.reply.Reply.{Reply}
use Rattle.osdp_msg.specs.declared.reply.Reply.TheVariants.{Ack, Nak, PdId, PdCap, LocalState, Inputs, Outputs, Readers, Raw, Formatted, Keypad, Com, Busy, MakerReply}
use Rattle.osdp_refused_words.specs.declared.slot.Slot.TheVariants as slots
use Rattle.osdp_refused_words.proofs.Filling.{some_word}
use Rattle.osdp_refused_words.proofs.Parts.{byte, byte_fits, rate, vendor}
use Rattle.osdp_refused_words.proofs.Stopping.{after, ended, first_refused, same_texts, stops_alike, stops_alike_there}

-- the words after a name, of a reply with this name
abbrev To : List ℕ → (List (List ℕ) → Type 0) → Type 0
To name Says = (m : Reply) (given : List (List ℕ)) → AllStandFor (reply_words m) (name ∷ given) → ReplyFits m → Says given

-- they are stopped where other words are
abbrev pub IsStopped : List ℕ → (List (List ℕ) → Type 0) → Type 0
IsStopped name Says = (given : List (List ℕ)) (place : ℕ) → StopsAt Says given place → StopsAt (SaysReplyOf name) given place

alike : (name : List ℕ) (Says : List (List ℕ) → Type 0) → To name Says → ((given : List (List ℕ)) → Says given → SaysReplyOf name given) → IsStopped name Says
alike name Says to from given place h =
    stops_alike (SaysReplyOf name) Says given place (same_texts (SaysReplyOf name) Says (λ g s. to s.0 g s.1 s.2) from) h

ack_to : To (codes "ACK") (Fills [])
ack_to Ack given s f = (tt, s.1, tt)
ack_to m given s f = absurd (differ (codes "ACK") (reply_row m).0 refl s.0)

pub ack : IsStopped (codes "ACK") (Fills [])
ack = alike _ _ ack_to (λ given h. (Ack, (refl, h.1), tt))

busy_to : To (codes "BUSY") (Fills [])
busy_to Busy given s f = (tt, s.1, tt)
busy_to m given s f = absurd (differ (codes "BUSY") (reply_row m).0 refl s.0)

pub busy : IsStopped (codes "BUSY") (Fills [])
busy = alike _ _ busy_to (λ given h. (Busy, (refl, h.1), tt))

lstatr_to : To (codes "LSTATR") (Fills (byte ∷ byte ∷ []))
lstatr_to (LocalState x) given s f = ((x.tamper, (x.power, tt)), s.1, (byte_fits x.tamper f.0, (byte_fits x.power f.1, tt)))
lstatr_to m given s f = absurd (differ (codes "LSTATR") (reply_row m).0 refl s.0)

pub lstatr : IsStopped (codes "LSTATR") (Fills (byte ∷ byte ∷ []))
lstatr = alike _ _ lstatr_to (λ given h. (LocalState (record { tamper = h.0.0; power = h.0.1.0 }), (refl, h.1), (omega (arith, h.2.0.1), omega (arith, h.2.1.0.1))))

istatr_to : To (codes "ISTATR") (Fills (slots.Bytes 0 1432 ∷ []))
istatr_to (Inputs x) given s f = ((x.items, tt), s.1, ((omega arith, f.room, f.bytes), tt))
istatr_to m given s f = absurd (differ (codes "ISTATR") (reply_row m).0 refl s.0)

pub istatr : IsStopped (codes "ISTATR") (Fills (slots.Bytes 0 1432 ∷ []))
istatr = alike _ _ istatr_to (λ given h. (Inputs (record { items = h.0.0 }), (refl, h.1), record { room = h.2.0.1; bytes = h.2.0.2 }))

ostatr_to : To (codes "OSTATR") (Fills (slots.Bytes 0 1432 ∷ []))
ostatr_to (Outputs x) given s f = ((x.items, tt), s.1, ((omega arith, f.room, f.bytes), tt))
ostatr_to m given s f = absurd (differ (codes "OSTATR") (reply_row m).0 refl s.0)

pub ostatr : IsStopped (codes "OSTATR") (Fills (slots.Bytes 0 1432 ∷ []))
ostatr = alike _ _ ostatr_to (λ given h. (Outputs (record { items = h.0.0 }), (refl, h.1), record { room = h.2.0.1; bytes = h.2.0.2 }))

rstatr_to : To (codes "RSTATR") (Fills (slots.Bytes 0 1432 ∷ []))
rstatr_to (Readers x) given s f = ((x.items, tt), s.1, ((omega arith, f.room, f.bytes), tt))
rstatr_to m given s f = absurd (differ (codes "RSTATR") (reply_row m).0 refl s.0)

pub rstatr : IsStopped (codes "RSTATR") (Fills (slots.Bytes 0 1432 ∷ []))
rstatr = alike _ _ rstatr_to (λ given h. (Readers (record { items = h.0.0 }), (refl, h.1), record { room = h.2.0.1; bytes = h.2.0.2 }))

fmt_to : To (codes "FMT") (Fills (byte ∷ byte ∷ slots.Bytes 0 255 ∷ []))
fmt_to (Formatted x) given s f = ((x.reader, (x.direction, (x.digits.items, tt))), s.1, (byte_fits x.reader f.reader, (byte_fits x.direction f.direction, ((omega arith, f.room, f.digits), tt))))
fmt_to m given s f = absurd (differ (codes "FMT") (reply_row m).0 refl s.0)

pub fmt : IsStopped (codes "FMT") (Fills (byte ∷ byte ∷ slots.Bytes 0 255 ∷ []))
fmt = alike _ _ fmt_to (λ given h. (Formatted (record { reader = h.0.0; direction = h.0.1.0; digits = record { items = h.0.1.1.0 } }), (refl, h.1), record { reader = omega (arith, h.2.0.1); direction = omega (arith, h.2.1.0.1); room = h.2.1.1.0.1; digits = h.2.1.1.0.2 }))

keypad_to : To (codes "KEYPAD") (Fills (byte ∷ slots.Bytes 0 255 ∷ []))
keypad_to (Keypad x) given s f = ((x.reader, (x.digits.items, tt)), s.1, (byte_fits x.reader f.reader, ((omega arith, f.room, f.digits), tt)))
keypad_to m given s f = absurd (differ (codes "KEYPAD") (reply_row m).0 refl s.0)

pub keypad : IsStopped (codes "KEYPAD") (Fills (byte ∷ slots.Bytes 0 255 ∷ []))
keypad = alike _ _ keypad_to (λ given h. (Keypad (record { reader = h.0.0; digits = record { items = h.0.1.0 } }), (refl, h.1), record { reader = omega (arith, h.2.0.1); room = h.2.1.0.1; digits = h.2.1.0.2 }))

communication_to : To (codes "COM") (Fills (byte ∷ rate ∷ []))
communication_to (Com x) given s f = ((x.address, (x.baud_rate, tt)), s.1, (byte_fits x.address f.0, ((omega arith, omega (arith, f.1)), tt)))
communication_to m given s f = absurd (differ (codes "COM") (reply_row m).0 refl s.0)

pub communication : IsStopped (codes "COM") (Fills (byte ∷ rate ∷ []))
communication = alike _ _ communication_to (λ given h. (Com (record { address = h.0.0; baud_rate = h.0.1.0 }), (refl, h.1), (omega (arith, h.2.0.1), omega (arith, h.2.1.0.1))))

mfgrep_to : To (codes "MFGREP") (Fills (vendor ∷ slots.Bytes 0 1429 ∷ []))
mfgrep_to (MakerReply m) given s f = ((m.vendor, (m.bytes.items, tt)), s.1, ((omega (arith, f.vendor_length), omega (arith, f.vendor_length), f.vendor), ((omega arith, f.room, f.bytes), tt)))
mfgrep_to m given s f = absurd (differ (codes "MFGREP") (reply_row m).0 refl s.0)

pub mfgrep : IsStopped (codes "MFGREP") (Fills (vendor ∷ slots.Bytes 0 1429 ∷ []))
mfgrep = alike _ _ mfgrep_to (λ given h. (MakerReply (record { vendor = h.0.0; bytes = record { items = h.0.1.0 } }), (refl, h.1), record { vendor_length = omega (arith, h.2.0.0, h.2.0.1); vendor = h.2.0.2; room = h.2.1.0.1; bytes = h.2.1.0.2 }))

pdid_to : To (codes "PDID") (Fills (vendor ∷ byte ∷ byte ∷ rate ∷ byte ∷ byte ∷ byte ∷ []))
pdid_to (PdId p) given s f = ((p.vendor, (p.model, (p.version, (p.serial, (p.firmware_major, (p.firmware_minor, (p.firmware_build, tt))))))), s.1, ((omega (arith, f.vendor_length), omega (arith, f.vendor_length), f.vendor), (byte_fits p.model f.model, (byte_fits p.version f.version, ((omega arith, omega (arith, f.serial)), (byte_fits p.firmware_major f.firmware_major, (byte_fits p.firmware_minor f.firmware_minor, (byte_fits p.firmware_build f.firmware_build, tt))))))))
pdid_to m given s f = absurd (differ (codes "PDID") (reply_row m).0 refl s.0)

pub pdid : IsStopped (codes "PDID") (Fills (vendor ∷ byte ∷ byte ∷ rate ∷ byte ∷ byte ∷ byte ∷ []))
pdid = alike _ _ pdid_to (λ given h. (PdId (record { vendor = h.0.0; model = h.0.1.0; version = h.0.1.1.0; serial = h.0.1.1.1.0; firmware_major = h.0.1.1.1.1.0; firmware_minor = h.0.1.1.1.1.1.0; firmware_build = h.0.1.1.1.1.1.1.0 }), (refl, h.1), record { vendor_length = omega (arith, h.2.0.0, h.2.0.1); vendor = h.2.0.2; model = omega (arith, h.2.1.0.1); version = omega (arith, h.2.1.1.0.1); serial = omega (arith, h.2.1.1.1.0.1); firmware_major = omega (arith, h.2.1.1.1.1.0.1); firmware_minor = omega (arith, h.2.1.1.1.1.1.0.1); firmware_build = omega (arith, h.2.1.1.1.1.1.1.0.1) }))

pdcap_to : To (codes "PDCAP") (SaysRecords slots.Capability 477)
pdcap_to (PdCap p) given s f = (p.capabilities.items, s.1, (f.0, recursion_from_All CapabilityFits p.capabilities.items f.1))
pdcap_to m given s f = absurd (differ (codes "PDCAP") (reply_row m).0 refl s.0)

pub pdcap : IsStopped (codes "PDCAP") (SaysRecords slots.Capability 477)
pdcap = alike _ _ pdcap_to (λ given h. (PdCap (record { capabilities = record { items = h.0 } }), (refl, h.1), (h.2.0, All-from_recursion CapabilityFits h.0 h.2.1)))

-- ---- a NAK: a reason, and a detail that isn't empty where there is one

abbrev pub Reasons : List Slot
Reasons = byte ∷ slots.Bytes 1 1431 ∷ []

with_detail : (k : ℕ) (given : List (List ℕ)) → k < 256 → AllStandFor (number k ∷ []) given
    → (word : List ℕ) × Fills Reasons (given ++ word ∷ [])
with_detail k [] small s = absurd s
with_detail k (g ∷ []) small s = let w = some_word (slots.Bytes 1 1431) (omega arith, omega arith) in (w.0, ((k, (w.1.0, tt)), (s.0, (w.1.1, tt)), (byte_fits k small, (w.1.2, tt))))
with_detail k (g ∷ x ∷ given) small s = absurd s.1

nak_goes : (reason : NakReason) (d : List ℕ) (front rest : List (List ℕ)) → AllStandFor (number (reason_number reason) ∷ detail_words d) (front ++ rest) → ReasonFits reason
    → length d ≤ 1431 → IsBytes d → GoesOn (Fills Reasons) front
nak_goes reason [] front rest s fits room bytes_fit =
    let w = with_detail (reason_number reason) (front ++ rest) (reason_byte reason fits) s in
    (rest ++ w.0 ∷ [], subst (Fills Reasons) (append_assoc front rest (w.0 ∷ [])) w.1)
nak_goes reason (b ∷ bs) front rest s fits room bytes_fit =
    (rest, ((reason_number reason, (b ∷ bs, tt)), s, (byte_fits (reason_number reason) (reason_byte reason fits), ((omega arith, room, bytes_fit), tt))))

nak_to : (front : List (List ℕ)) (m : Reply) (rest : List (List ℕ)) → AllStandFor (reply_words m) (codes "NAK" ∷ front ++ rest) → ReplyFits m → GoesOn (Fills Reasons) front
nak_to front (Nak n) rest s f = nak_goes n.reason n.detail.items front rest s.1 f.reason f.room f.detail
nak_to front m rest s f = absurd (differ (codes "NAK") (reply_row m).0 refl s.0)

nak_made : (k : ℕ) (d : List ℕ) (given : List (List ℕ)) → AllStandFor (number k ∷ detail_words d) given → k < 256 → length d ≤ 1431 → IsBytes d → SaysReplyOf (codes "NAK") given
nak_made k d given s small room bytes_fit = (
  Nak (record { reason = reason_of k; detail = record { items = d } }),
  (refl, subst (λ (n : ℕ). AllStandFor (number n ∷ detail_words d) given) (sym (reason_back k)) s),
  record { reason = reason_fits k small; room = room; detail = bytes_fit },
)

nak_from : (given : List (List ℕ)) → Fills Reasons given → SaysReplyOf (codes "NAK") given
nak_from given ((k, ([], end)), s, (fit, (list, e))) = absurd (omega (arith, list.0))
nak_from given ((k, (b ∷ bs, end)), s, (fit, (list, e))) = nak_made k (b ∷ bs) given s (omega (arith, fit.1)) list.1 list.2

pub nak : IsStopped (codes "NAK") (Fills Reasons)
nak given place h = stops_alike (SaysReplyOf (codes "NAK")) (Fills Reasons) given place
    (record { to = λ front goes. nak_to front goes.1.0 goes.0 goes.1.1 goes.1.2; from = λ front goes. (goes.0, nak_from (front ++ goes.0) goes.1) }) h

-- ---- a card: as many bytes as its bits need

abbrev pub Card : ℕ → List Slot
Card count = byte ∷ byte ∷ slots.Number 0 11424 ∷ slots.Bytes count count ∷ []

abbrev SaysCard : List (List ℕ) → Type 0
SaysCard = SaysReplyOf (codes "RAW")

card_made : (given : List (List ℕ)) (reader format bits : ℕ) (list : List ℕ) → AllStandFor (raw_words (record { reader = reader; format = format; bits = bits; bytes = list })) given
    → reader ≤ 255 → format ≤ 255 → bits ≤ 11424 → length list ≡ (bits + 7) / 8 → IsBytes list → SaysCard given
card_made given reader format bits list s r f b needed fits = (
  Raw (record { reader = reader; format = format; bits = bits; bytes = list }),
  (refl, s),
  record { reader = omega (arith, r); format = omega (arith, f); bits = omega (arith, b); needed = needed; room = omega (arith, needed, b); bytes = fits },
)

nothing_bytes : IsBytes []
nothing_bytes i = omega arith

module _ (given : List (List ℕ)) (count : ℕ) (few : count ≤ 1428) (is : IsCountOf given count) where
  card_from : (front more : List (List ℕ)) → given ≡ front ++ more → GoesOn (Fills (Card count)) front → GoesOn SaysCard front
  card_from [] more e (rest, (vs, s, fit)) =
      (decimal 0 ∷ decimal 0 ∷ decimal 0 ∷ codes "none" ∷ [], card_made _ 0 0 0 [] (refl, (refl, (refl, (refl, tt)))) (omega arith) (omega arith) (omega arith) refl nothing_bytes)
  card_from (a ∷ []) more e (rest, (vs, s, fit)) =
      (decimal 0 ∷ decimal 0 ∷ codes "none" ∷ [], card_made _ vs.0 0 0 [] (s.0, (refl, (refl, (refl, tt)))) fit.0.1 (omega arith) (omega arith) refl nothing_bytes)
  card_from (a ∷ b ∷ []) more e (rest, (vs, s, fit)) =
      (decimal 0 ∷ codes "none" ∷ [], card_made _ vs.0 vs.1.0 0 [] (s.0, (s.1.0, (refl, (refl, tt)))) fit.0.1 fit.1.0.1 (omega arith) refl nothing_bytes)
  card_from (a ∷ b ∷ w ∷ front) more e (rest, (vs, s, fit)) =
      let same : count ≡ (vs.1.1.0 + 7) / 8 = is a b w (front ++ more) vs.1.1.0 e fit.1.1.0.1 s.1.1.0 in
      (rest, card_made _ vs.0 vs.1.0 vs.1.1.0 vs.1.1.1.0 s fit.0.1 fit.1.0.1 fit.1.1.0.1 (omega (arith, same, fit.1.1.1.0.0, fit.1.1.1.0.1)) fit.1.1.1.0.2)

  raw_goes : (r : RawCard) (front more rest : List (List ℕ)) → given ≡ front ++ more → AllStandFor (raw_words r) (front ++ rest) → RawFits r → GoesOn (Fills (Card count)) front
  raw_goes r [] more rest e s f =
      let w = some_word (slots.Bytes count count) (omega arith, omega (arith, few)) in
      (decimal 0 ∷ decimal 0 ∷ decimal 0 ∷ w.0 ∷ [], ((0, (0, (0, (w.1.0, tt)))), (refl, (refl, (refl, (w.1.1, tt)))), ((omega arith, omega arith), ((omega arith, omega arith), ((omega arith, omega arith), (w.1.2, tt))))))
  raw_goes r (a ∷ []) more rest e s f =
      let w = some_word (slots.Bytes count count) (omega arith, omega (arith, few)) in
      (decimal 0 ∷ decimal 0 ∷ w.0 ∷ [], ((r.reader, (0, (0, (w.1.0, tt)))), (s.0, (refl, (refl, (w.1.1, tt)))), (byte_fits r.reader f.reader, ((omega arith, omega arith), ((omega arith, omega arith), (w.1.2, tt))))))
  raw_goes r (a ∷ b ∷ []) more rest e s f =
      let w = some_word (slots.Bytes count count) (omega arith, omega (arith, few)) in
      (decimal 0 ∷ w.0 ∷ [], ((r.reader, (r.format, (0, (w.1.0, tt)))), (s.0, (s.1.0, (refl, (w.1.1, tt)))), (byte_fits r.reader f.reader, (byte_fits r.format f.format, ((omega arith, omega arith), (w.1.2, tt))))))
  raw_goes r (a ∷ b ∷ w ∷ front) more rest e s f =
      let small : r.bits ≤ 11424 = omega (arith, f.needed, f.room) in
      let same : count ≡ (r.bits + 7) / 8 = is a b w (front ++ more) r.bits e small s.1.1.0 in
      (rest, ((r.reader, (r.format, (r.bits, (r.bytes, tt)))), s, (byte_fits r.reader f.reader, (byte_fits r.format f.format, ((omega arith, small), ((omega (arith, same, f.needed), omega (arith, same, f.needed), f.bytes), tt))))))

  card_to : (m : Reply) (front more rest : List (List ℕ)) → given ≡ front ++ more → AllStandFor (reply_words m) (codes "RAW" ∷ front ++ rest) → ReplyFits m → GoesOn (Fills (Card count)) front
  card_to (Raw r) front more rest e s f = raw_goes r front more rest e s.1 f
  card_to m front more rest e s f = absurd (differ (codes "RAW") (reply_row m).0 refl s.0)

  pub card : (place : ℕ) → StopsAt (Fills (Card count)) given place → StopsAt SaysCard given place
  card place h = stops_alike_there SaysCard (Fills (Card count)) given place (λ front more e goes. card_to goes.1.0 front more goes.0 e goes.1.1 goes.1.2) card_from h

-- ---- all replies

some_reply : GoesOn SaysReply []
some_reply = (codes "ACK" ∷ [], (Ack, (refl, tt), tt))

-- no word stands there, or no reply has this name, or one has
pub at_none : StopsAt SaysReply [] 0
at_none = ended SaysReply some_reply

pub at_unnamed : (name : List ℕ) (rest : List (List ℕ)) → HasNoReply name → StopsAt SaysReply (name ∷ rest) 0
at_unnamed name rest none = first_refused SaysReply name rest some_reply (λ goes. none goes.0 goes.1)

pub at_named : (name : List ℕ) (rest : List (List ℕ)) (place : ℕ) → StopsAt (SaysReplyOf name) rest place → StopsAt SaysReply (name ∷ rest) (1 + place)
at_named name rest place h =
    subst (StopsAt SaysReply (name ∷ rest)) (let e : suc place ≡ 1 + place = omega arith in e)
    (after SaysReply (SaysReplyOf name) name rest place (record { to = λ front goes. goes; from = λ front goes. goes }) h)
