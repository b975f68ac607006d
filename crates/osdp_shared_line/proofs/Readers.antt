-- Where a reader goes when it hears a packet, and from where it answers.
use Rattle.osdp_shared_line.proofs.Common.{◌≡◌, ◌⊎◌, ℕ, Bool, cond, Option, Some, None, IfSome, Result, Ok, Err, refl, sym, subst, ap, ◌∙◌, inl, inr, eqb_tells, Packet, Command, event_for, offering, released, unoffered, ReaderState, Answer, Kind, SetsReader, address_in}
use Rattle.osdp_msg.specs.declared.fault.MsgFault.{MsgFault}
use Rattle.osdp_reader.specs.Replies.{reply_packet}
use Rattle.osdp_reader.specs.Table.{Outcome, answer_to, begun, command_in, event_or_answer, hears, kind_of, moved, new_address, outcome, taken}
use Rattle.osdp_reader.specs.declared.kind.Kind.TheVariants as kind

-- the address that is all devices', and no address at all
abbrev pub IsForAll : ℕ → Type 0
IsForAll address = address ≡ 127

abbrev pub IsNoAddress : ℕ → Type 0
IsNoAddress address = ⊥

-- a packet from here, or from one of these addresses
abbrev pub IsFrom : (ℕ → Type 0) → ℕ → Packet → Type 0
IsFrom Others here q = (q.address ≡ here) ⊎ Others q.address

-- what is stored is
abbrev pub StoresFrom : {H : Type 0} → (ℕ → Type 0) → ReaderState H → Type 0
StoresFrom Others r = IfSome r.stored (IsFrom Others r.config.address)

abbrev pub StoresOwn : {H : Type 0} → ReaderState H → Type 0
StoresOwn r = StoresFrom IsForAll r

-- the reader stays, or goes where the packet's COMSET takes it; what it says, it says from where it was, or says what it stored
pub record ReadsWell {H : Type 0} (Others : ℕ → Type 0) (here : ℕ) (p : Packet) (o : Outcome H) : Type 0 where
  pub goes : (o.reader.config.address ≡ here) ⊎ SetsReader o.reader.config.address p
  pub said : IfSome o.reply (IsFrom Others here)
  pub stored : StoresFrom Others o.reader

module _ {H : Type 0} (Others : ℕ → Type 0) where
  moves : (o : Option ℕ) (r : ReaderState H) → StoresFrom Others r → ((moved o r).config.address ≡ r.config.address ⊎ (o ≡ Some (moved o r).config.address)) × StoresFrom Others (moved o r)
  moves None r own = (inl refl, own)
  moves (Some to) r own =
      elim (eqb_tells to r.config.address) [
        | inl equal ↦ subst Both (sym equal.0) (inl refl, own)
        | inr differs ↦ subst Both (sym differs.0) (inr refl, tt)
      ]
    where
      next : Bool → ReaderState H
      next b = cond b r (record r { config = record r.config { address = to }; last = None; stored = None })

      Both : Bool → Type 0
      Both b = ((next b).config.address ≡ r.config.address ⊎ (Some to ≡ Some (next b).config.address)) × StoresFrom Others (next b)

  module _ (answer_of : H → Command → Answer) (after : H → Command → H) where
    begun_well : (c : Result Command MsgFault) (r : ReaderState H) (p : Packet) → p.address ≡ r.config.address → command_in p ≡ c → StoresFrom Others r
        → ReadsWell Others r.config.address p (begun answer_of after c r p)
    begun_well (Err fault) r p here read own = record { goes = inl refl; said = inl here; stored = own }
    begun_well (Ok c) r p here read own =
        let a = answer_to answer_of after r.config r.handler c in
        let is = moves (new_address c) (record r { last = Some 0; queue = unoffered r.queue; handler = a.handler }) own in
        record {
          goes = elim is.0 [ inl stays ↦ inl stays | inr went ↦ inr (ap address_in read ∙ went) ];
          said = inl here;
          stored = is.1;
        }

    taken_well : (c : Result Command MsgFault) (r : ReaderState H) (p : Packet) → p.address ≡ r.config.address → command_in p ≡ c → StoresFrom Others r
        → ReadsWell Others r.config.address p (taken answer_of after c r p)
    taken_well (Err fault) r p here read own = record { goes = inl refl; said = inl here; stored = inl here }
    taken_well (Ok c) r p here read own =
        let queue = released r.queue in
        let event = event_for c queue.events in
        let a = event_or_answer answer_of after event r.config r.handler c in
        let back = reply_packet p p.sequence a.reply in
        let is = moves (new_address c) (record r { last = Some p.sequence; stored = Some back; queue = offering event queue; handler = a.handler }) (inl here) in
        record {
          goes = elim is.0 [ inl stays ↦ inl stays | inr went ↦ inr (ap address_in read ∙ went) ];
          said = inl here;
          stored = is.1;
        }

    outcome_well : (k : Kind) (r : ReaderState H) (p : Packet) → p.address ≡ r.config.address → StoresFrom Others r
        → ReadsWell Others r.config.address p (outcome answer_of after k r p)
    outcome_well kind.Silent r p here own = record { goes = inl refl; said = tt; stored = own }
    outcome_well kind.Zero r p here own = begun_well (command_in p) r p here refl own
    outcome_well kind.Repeat r p here own = record { goes = inl refl; said = own; stored = own }
    outcome_well kind.Taken r p here own = taken_well (command_in p) r p here refl own
    outcome_well _ r p here own = record { goes = inl refl; said = inl here; stored = own }

    pub reads_well : (r : ReaderState H) (p : Packet) → p.address ≡ r.config.address → StoresFrom Others r
        → ReadsWell Others r.config.address p (hears answer_of after r p)
    reads_well r p here own = outcome_well (kind_of r p) r p here own
