-- What readers say are replies, and a reader that stays silent stays as it is.
use Rattle.osdp_calls.proofs.Common.{◌≡◌, ℕ, Bool, true, false, cond, List, [], ◌∷◌, Option, Some, None, IfSome, Result, Ok, Err, refl, sym, ap, Packet, RunItem, PacketItem, SkippedItem, RefusedItem, Command, said_to, speaks, unless_silent, Told, told_by, told_or, event_for, offering, released, unoffered, ReaderState, Answer, Kind, first_answered, read_up_to}
use Rattle.std.specs.Option.{option_map}
use Rattle.std.specs.Prelude.{◌==◌, ◌||◌, not}
use Rattle.osdp_frame.specs.Held.{Held, later}
use Rattle.osdp_msg.specs.declared.fault.MsgFault.{MsgFault}
use Rattle.osdp_reader.specs.Table.{Outcome, answer_to, begun, command_in, event_or_answer, hears, kind_of, moved, new_address, outcome, taken}
use Rattle.osdp_reader.specs.declared.kind.Kind.TheVariants as kind

abbrev pub IsReply : Packet → Type 0
IsReply p = p.reply ≡ true

module _ {H : Type 0} where
  abbrev pub StoresReply : ReaderState H → Type 0
  StoresReply r = IfSome r.stored IsReply

  pub record SaysReplies (o : Outcome H) : Type 0 where
    pub said : IfSome o.reply IsReply
    pub stored : StoresReply o.reader

  moved_stores : (o : Option ℕ) (r : ReaderState H) → StoresReply r → StoresReply (moved o r)
  moved_stores None r is = is
  moved_stores (Some to) r is = by_test (to == r.config.address)
    where
      by_test : (b : Bool) → StoresReply (cond b r (record r { config = record r.config { address = to }; last = None; stored = None }))
      by_test true = is
      by_test false = tt

  -- a packet of a device is for no reader
  pub silent_to_replies : (r : ReaderState H) (p : Packet) → p.reply ≡ true → speaks (kind_of r p) ≡ false
  silent_to_replies r p is = ap (λ b. speaks (by_first b)) is
    where
      by_first : Bool → Kind
      by_first b = cond (b || not ((p.address == r.config.address) || (p.address == 127))) kind.Silent (cond p.block kind.Secured (cond (p.sequence == 0) (cond r.busy kind.Busy kind.Zero) (Rattle.osdp_reader.specs.Table.kind_by_number r.last p.sequence r.busy)))

  module _ (answer_of : H → Command → Answer) (after : H → Command → H) where
    begun_replies : (c : Result Command MsgFault) (r : ReaderState H) (p : Packet) → StoresReply r → SaysReplies (begun answer_of after c r p)
    begun_replies (Err fault) r p is = record { said = refl; stored = is }
    begun_replies (Ok c) r p is = record {
      said = refl;
      stored = moved_stores (new_address c)
          (record r { last = Some 0; queue = unoffered r.queue; handler = (answer_to answer_of after r.config r.handler c).handler }) is;
    }

    taken_replies : (c : Result Command MsgFault) (r : ReaderState H) (p : Packet) → StoresReply r → SaysReplies (taken answer_of after c r p)
    taken_replies (Err fault) r p is = record { said = refl; stored = refl }
    taken_replies (Ok c) r p is =
        let queue = released r.queue in
        let event = event_for c queue.events in
        let a = event_or_answer answer_of after event r.config r.handler c in
        record {
          said = refl;
          stored = moved_stores (new_address c) (record r {
            last = Some p.sequence;
            stored = Some (Rattle.osdp_reader.specs.Replies.reply_packet p p.sequence a.reply);
            queue = offering event queue;
            handler = a.handler;
          }) refl;
        }

    says_replies : (k : Kind) (r : ReaderState H) (p : Packet) → StoresReply r → SaysReplies (outcome answer_of after k r p)
    says_replies kind.Silent r p is = record { said = tt; stored = is }
    says_replies kind.Zero r p is = begun_replies (command_in p) r p is
    says_replies kind.Repeat r p is = record { said = is; stored = is }
    says_replies kind.Taken r p is = taken_replies (command_in p) r p is
    says_replies _ r p is = record { said = refl; stored = is }

    pub hears_replies : (r : ReaderState H) (p : Packet) → StoresReply r → SaysReplies (hears answer_of after r p)
    hears_replies r p is = says_replies (kind_of r p) r p is

    -- ---- the reader after a `next`

    abbrev pub reader_with : Option Packet → ReaderState H → ReaderState H
    reader_with None r = r
    reader_with (Some p) r = (hears answer_of after r p).reader

    -- .. goes by the first that is answered, and so does what is said
    abbrev pub IsTold : Told H → Option Packet → ReaderState H → Type 0
    IsTold told first r = (told.said ≡ option_map (said_to answer_of after r) first) × (told.reader ≡ reader_with first r)

    pub told_first : (parts : List RunItem) (r : ReaderState H) (held : Held)
        → IsTold (told_by answer_of after parts r held) (first_answered r (read_up_to r parts)) r
    told_first [] r held = (refl, refl)
    told_first (SkippedItem byte ∷ parts) r held = told_first parts r (later held (SkippedItem byte))
    told_first (RefusedItem fault ∷ parts) r held = told_first parts r (later held (RefusedItem fault))
    told_first (PacketItem p ∷ parts) r held = by_kind (kind_of r p) refl (told_first parts r (later held (PacketItem p)))
      where
        Goal : Kind → Type 0
        Goal k = IsTold
            (told_or answer_of after (unless_silent k (said_to answer_of after r p)) (outcome answer_of after k r p).reader (later held (PacketItem p))
            (told_by answer_of after parts (outcome answer_of after k r p).reader (later held (PacketItem p))))
            (cond (speaks k) (Some p) (first_answered r (cond (speaks k) [] (read_up_to r parts)))) r

        by_kind : (k : Kind) → kind_of r p ≡ k
            → IsTold (told_by answer_of after parts r (later held (PacketItem p))) (first_answered r (read_up_to r parts)) r → Goal k
        by_kind kind.Silent is rest = rest
        by_kind _ is rest = (refl, ap (λ k. (outcome answer_of after k r p).reader) (sym is))
