-- What a list of what was sent and heard says of a device, with no word of what a tester remembers.
use Rattle.std.specs.Prelude.{◌≡◌, ◌≢◌, ◌⊎◌, ℕ, List, [], ◌∷◌, ◌++◌, Some}
use Rattle.osdp_frame.specs.Packet.{Packet, next_sequence}
use Rattle.osdp_rules.specs.Runs.{Sent, heard}
use Rattle.osdp_rules_laws.specs.Terms.{IsComset, IsNakOf, IsPlainTo, IsTo, TakesNothing}

-- ---- places in a list, each with all that stands before it

-- somewhere in a list, where these were said before it
abbrev pub Somewhere : (List Sent → Sent → Type 0) → List Sent → List Sent → Type 0
Somewhere At past [] = ⊥
Somewhere At past (x ∷ xs) = At past x ⊎ Somewhere At (past ++ x ∷ []) xs

abbrev pub Nowhere : (List Sent → Sent → Type 0) → List Sent → List Sent → Type 0
Nowhere At past [] = Unit {0}
Nowhere At past (x ∷ xs) = (At past x → ⊥) × Nowhere At (past ++ x ∷ []) xs

-- ---- what was taken

-- no COMSET was sent: after one the device may have another address
abbrev pub NoComset : List Sent → Type 0
NoComset [] = Unit {0}
NoComset (x ∷ xs) = ((p : Packet) → x.packet ≡ Some p → IsComset p → ⊥) × NoComset xs

module _ (address : ℕ) where
  -- a packet to the device, and its answer, which doesn't say that the packet wasn't taken
  pub record Takes (x : Sent) (p a : Packet) : Type 0 where
    pub packet : x.packet ≡ Some p
    pub own : IsPlainTo address p
    pub heard : heard x ≡ Some a
    pub taken : TakesNothing a → ⊥

  -- what leaves the number that the device took last: no packet to it, or one that it says it didn't take
  abbrev pub Leaves : Sent → Type 0
  Leaves x = (p : Packet) → x.packet ≡ Some p → IsPlainTo address p → (a : Packet) × (heard x ≡ Some a) × TakesNothing a

  abbrev pub AllLeave : List Sent → Type 0
  AllLeave [] = Unit {0}
  AllLeave (x ∷ xs) = Leaves x × AllLeave xs

  -- the packet that the device took last, and its answer; no packet to it since then is without an answer
  abbrev pub TookLast : List Sent → Packet → Packet → Type 0
  TookLast [] p a = ⊥
  TookLast (x ∷ xs) p a = (Takes x p a × AllLeave xs) ⊎ TookLast xs p a

  -- ---- the turn of a number

  -- number 0, or the one after the number that was taken last
  abbrev pub IsNew : List Sent → Packet → Type 0
  IsNew past p =
      (p.sequence ≡ 0) ⊎ ((q : Packet) × (b : Packet) × TookLast past q b × (p.sequence ≡ next_sequence q.sequence))

  -- neither 0, nor the number that was taken last, nor the one after it
  abbrev pub IsOutOfTurn : List Sent → Packet → Type 0
  IsOutOfTurn past p =
      (q : Packet) × (b : Packet) × TookLast past q b × (p.sequence ≢ 0) × (p.sequence ≢ q.sequence)
      × (p.sequence ≢ next_sequence q.sequence)

  -- the packet that was taken last, once more, and the answer that it had
  pub record IsAgain (past : List Sent) (p first : Packet) : Type 0 where
    pub last : TookLast past p first
    pub number : p.sequence ≢ 0

  -- ---- an answer

  -- a packet to the device and its first answer, while its address is known; NAK 1 says that the packet came damaged
  pub record IsAnswered (past : List Sent) (x : Sent) (p a : Packet) : Type 0 where
    pub here : NoComset past
    pub packet : x.packet ≡ Some p
    pub to : IsTo address p
    pub heard : heard x ≡ Some a
    pub undamaged : IsNakOf 1 a → ⊥
