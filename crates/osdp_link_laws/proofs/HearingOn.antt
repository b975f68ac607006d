-- A reader hears on until it restarts, and again from number 0 on.
use Rattle.osdp_link_laws.proofs.Common.{◌≡◌, ℕ, Some, Result, Ok, Err, refl, sym, subst, ap, arith, inl, inr, Packet, Command, MsgFault, Room, unoffered, ReaderState, command_in, ReaderConfig, Answer, Link, RestartReader, after_move, HearsOn, SetsNoAddress, KeepsReader, restarts_after}
use Rattle.osdp_reader.specs.Table as table
use Rattle.osdp_link_laws.specs.HearingOn.{HearsOnUntilRestart}
use Rattle.osdp_link_laws.proofs.Counting.{none_in_session}
use Rattle.osdp_link_laws.proofs.Lines.{each_of}

module _ {H : Type 0} (answer_of : H → Command → Answer) (after : H → Command → H) where
  -- what was acted on with number 0 leaves this number, unless the reader goes elsewhere
  begun_at_zero : (c : Result Command MsgFault) (r : ReaderState H) (p : Packet) → ((command : Command) → c ≡ Ok command → SetsNoAddress command)
      → (table.begun answer_of after c r p).reader.last ≡ Some 0
  begun_at_zero (Err fault) r p stays = refl
  begun_at_zero (Ok command) r p stays =
      ap (λ o. (table.moved o (record r {
        last = Some 0;
        queue = unoffered r.queue;
        handler = (table.answer_to answer_of after r.config r.handler command).handler;
      })).last) (stays command refl)

  restarts_deaf : (l : Link H) (config : ReaderConfig) (handler : H) (room : Room) (count : ℕ) → let restart = RestartReader config handler room in
      HearsOn (restarts_after answer_of after restart l count) (after_move answer_of after restart l) → ⊥
  restarts_deaf l config handler room count (inl none) = omega (arith, none)
  restarts_deaf l config handler room count (inr known) = absurd (let is = known.1 in cc)

  pub hears_on : HearsOnUntilRestart answer_of after
  hears_on = record {
    kept = λ l moves begins keep. inl (none_in_session answer_of after moves l (each_of KeepsReader moves keep));
    restarted = restarts_deaf;
    again = λ l p count zero stays. inr (
      0,
      subst (λ k. (table.outcome answer_of after k l.reader p).reader.last ≡ Some 0) (sym zero) (begun_at_zero (command_in p) l.reader p stays),
    );
  }
