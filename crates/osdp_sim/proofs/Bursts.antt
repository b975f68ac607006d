-- Bursts on the line: each is the packet that it spells.
use Rattle.osdp_sim.proofs.Common.{◌≡◌, ◌↔◌, ◌⊎◌, ◌≤◌, ◌-◌, ℕ, true, false, not, ◌==◌, min, if◌then◌else◌, arith, List, [], ◌∷◌, length, take, Option, Some, None, inl, inr, refl, sym, ap, ◌∙◌, take_all, is_some, option_map, ArrayVec, after_gap, after_push, by_itself, decided, new_run, Packet, largest, Spells, spelling, bytes_of, handed, has_packet, sent, damage_fault, Move, Drop, Damage}
use Rattle.osdp_frame.specs.Items.{items, packets_in, reading, whole_packets}
use Rattle.osdp_frame.specs.Reading.{RunItem, PacketItem, SkippedItem, RefusedItem, IsFirst}
use Rattle.osdp_frame.specs.Shown.{item_of}
use Rattle.osdp_frame.specs.declared.fault.FrameFault.{FrameFault}
use Rattle.osdp_frame.specs.declared.item.Item.{Item}
use Rattle.osdp_frame.specs.declared.item.Item.TheVariants as shown
use Rattle.osdp_controller.specs.Lent.{IsWritten}
use Rattle.osdp_reader.specs.Spelled.{IsSpelled}
use Rattle.osdp_sim.specs.declared.fault.Cause.TheVariants.{HoldsPacket}

-- what spells a packet has it first
pub spelled_first : (p : Packet) (bytes : List ℕ) → Spells p bytes
    → ((part : RunItem) → (decided false bytes ≡ Some part) ↔ IsFirst false bytes part) → decided false bytes ≡ Some (PacketItem p)
spelled_first p bytes spelled decides =
    (decides (PacketItem p)).1 (λ more ends. record { bytes = bytes; after = more; spelled = spelled; parts = refl })

-- a framer that was given a run, which has ended
pub framed_run : (bytes : List ℕ) → length bytes ≤ largest → after_gap (after_push new_run bytes) ≡ record { bytes = bytes; ended = not (length bytes == 0) }
framed_run bytes fits =
    let all : take (min (length bytes) (largest - 0)) bytes ≡ bytes = take_all (min (length bytes) (largest - 0)) bytes (omega arith) in
    ap (λ (b : List ℕ). record { bytes = b; ended = not (length b == 0) }) all

-- no bytes hold no packet
pub no_bytes : packets_in [] ≡ []
unfolding items
no_bytes = refl

-- damage that is not refused holds no packet
pub no_packets : (parts : List RunItem) → (if has_packet parts then Some HoldsPacket else None) ≡ None → whole_packets parts ≡ []
no_packets [] e = refl
no_packets (PacketItem p ∷ parts) e = absurd cc
no_packets (SkippedItem b ∷ parts) e = no_packets parts e
no_packets (RefusedItem fault ∷ parts) e = no_packets parts e

-- the item that stands first in a burst is its packet
pub whole_packet : (p : Packet) (o : Option Item) → option_map item_of o ≡ Some (PacketItem p) → o ≡ Some (shown.Packet p)
whole_packet p None is = absurd cc
whole_packet p (Some (shown.Packet q)) is = cc
whole_packet p (Some (shown.Skipped b)) is = absurd cc
whole_packet p (Some (shown.Refused fault)) is = absurd cc

pub burst_packet : (p : Packet) (bytes : List ℕ) (o : Option Item) → option_map item_of o ≡ by_itself (decided false bytes)
    → decided false bytes ≡ Some (PacketItem p) → o ≡ Some (shown.Packet p)
burst_packet p bytes o shows is = whole_packet p o (shows ∙ ap by_itself is)

pub no_item : (p : Packet) → None ≡ Some (shown.Packet p) → ⊥
no_item p is = cc

pub no_other : (p : Packet) (item : Item) → Some item ≡ Some (shown.Packet p)
    → ((b : ℕ) × (item ≡ shown.Skipped b)) ⊎ ((fault : FrameFault) × (item ≡ shown.Refused fault)) → ⊥
no_other p item is (inl (b, other)) = cc
no_other p item is (inr (fault, other)) = cc

pub same_packet : (p q : Packet) (item : Item) → Some item ≡ Some (shown.Packet p) → item ≡ shown.Packet q → p ≡ q
same_packet p q item is shows = cc

-- what is sent are the bytes of the burst
pub sent_burst : (o : Option Packet) (bytes : List ℕ) → IsSpelled o bytes → (length bytes == 0) ≡ false
    → ((p : Packet) → Spells p bytes → bytes ≡ spelling p) → bytes ∷ [] ≡ sent o
sent_burst None bytes spelled some one = absurd (let none = ap (λ (b : List ℕ). length b == 0) spelled in cc)
sent_burst (Some p) bytes spelled some one = ap (λ b. b ∷ []) (one p spelled)

-- .. and so where they were written into a place
pub written_sent : (o : Option Packet) (old bytes : List ℕ) → is_some o ≡ true → IsWritten o old bytes
    → ((p : Packet) → Spells p bytes → bytes ≡ spelling p) → bytes ∷ [] ≡ sent o
written_sent None old bytes some written one = cc
written_sent (Some p) old bytes some written one = ap (λ b. b ∷ []) (one p written)

pub none_sent : (o : Option Packet) → is_some o ≡ false → sent o ≡ []
none_sent None none = refl
none_sent (Some p) none = cc

dropped : (line : List (ArrayVec ℕ)) → packets_in (handed Drop (bytes_of line)) ≡ []
dropped [] = no_bytes
dropped (burst ∷ line) = no_bytes

damaged : (bytes : ArrayVec ℕ) (line : List (ArrayVec ℕ)) → damage_fault (Damage bytes) ≡ None → packets_in (handed (Damage bytes) (bytes_of line)) ≡ []
damaged bytes [] well = no_bytes
damaged bytes (burst ∷ line) well = no_packets (reading bytes.items) well

-- a loss, and damage, hand over no packet
pub lost : (move : Move) (line : List (ArrayVec ℕ)) → (move ≡ Drop) ⊎ ((bytes : ArrayVec ℕ) × (move ≡ Damage bytes)) → damage_fault move ≡ None
    → packets_in (handed move (bytes_of line)) ≡ []
lost move line (inl is) well = ap (λ m. packets_in (handed m (bytes_of line))) is ∙ dropped line
lost move line (inr (bytes, is)) well =
    ap (λ m. packets_in (handed m (bytes_of line))) is ∙ damaged bytes line (sym (ap damage_fault is) ∙ well)
