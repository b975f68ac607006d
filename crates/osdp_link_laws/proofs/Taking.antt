-- A frame comes to the reader: how far the session has come then.
use Rattle.osdp_link_laws.proofs.Common.{◌≡◌, ◌≢◌, ◌<◌, ℕ, zero, suc, [], ◌∷◌, ◌++◌, length, Some, None, Ok, refl, sym, subst, inl, inr, append-nil, option_to_list, IfSome, eqb_tells, Packet, ReplyFits, Command, Reply, ControllerConfig, Exchange, Opening, Polling, Asking, Answer, Kind, Zero, Busy, refused, ReaderState, UnexpectedSequence, begun, command_in, kind_of, outcome, Link}
use Rattle.osdp_msg.specs.declared.command.Command.TheVariants as command
use Rattle.osdp_msg.specs.declared.reply.Reply.TheVariants as reply
use Rattle.osdp_link_laws.proofs.Acting.{kind_again, kind_away, kind_unknown, kind_zero}
use Rattle.osdp_link_laws.proofs.Coming.{KeepsDue, Reads, standing_at}
use Rattle.osdp_link_laws.proofs.Lines.{both}
use Rattle.osdp_link_laws.proofs.Parts.{At, with_to_controller}
use Rattle.osdp_link_laws.proofs.Since.{line_since}
use Rattle.osdp_link_laws.proofs.Stages.{Acted, Before, HasActed, HoldsOf, Knows, Never, Now, ReaderAt, Restarted, Says, Stage, ToControllerAt, answer, frame, owed_at, pending_at, shown, shown_at, unreported_at}

-- no event counts as told at this stage
abbrev pub TellsNone : Stage → Type 0
TellsNone at = (shown_at at ≡ []) × (unreported_at at ≡ [])

none_stands : (since : Restarted) (at : Stage) → TellsNone at → standing_at since at ≡ []
none_stands Never at none = (λ i. none.0 i ++ none.1 i)
none_stands Before at none = (λ i. none.0 i ++ none.1 i)
none_stands Now at none = refl

-- as much is due as before where nothing changes
as_due : (since : Restarted) (at : Stage) → TellsNone at → KeepsDue since at since at
as_due since at none = record { due = refl; stands = none_stands since at none; stood = none_stands since at none; restarts = λ count is. is }

module _ {H : Type 0} (answer_of : H → Command → Answer) (after : H → Command → H) where
  -- what is said anew is of the table of replies
  abbrev pub FitsBy : Kind → Packet → Link H → Type 0
  FitsBy kind p l = IfSome (outcome answer_of after kind l.reader p).said ReplyFits

module _ (fixed : ControllerConfig) {H : Type 0} (answer_of : H → Command → Answer) (after : H → Command → H) (since : Restarted) where
  abbrev AtStage : Stage → Link H → Type 0
  AtStage at l = At fixed answer_of after since at l

  -- what comes of a packet that meets this line of the reader's table
  abbrev pub gets_by : Kind → Packet → Link H → Link H
  gets_by kind p l =
      let o = outcome answer_of after kind l.reader p in
      record l {
        reader = o.reader;
        to_controller = l.to_controller ++ option_to_list o.reply;
      }

  -- the reader stays as it is, and says this
  pub says : (at : Stage) (l : Link H) (q : Packet) → AtStage at l → ToControllerAt fixed since at (l.to_controller ++ q ∷ [])
      → AtStage at (record l { to_controller = l.to_controller ++ q ∷ [] })
  says at l q h line = with_to_controller fixed answer_of after since at l (l.to_controller ++ q ∷ []) h line

  -- .. or nothing
  says_nothing : (at : Stage) (l : Link H) → AtStage at l → AtStage at (record l { to_controller = l.to_controller ++ [] })
  says_nothing at l h =
      with_to_controller fixed answer_of after since at l (l.to_controller ++ []) h
      (subst (ToControllerAt fixed since at) (sym (append-nil l.to_controller)) h.to_controller)

  -- as far as before
  abbrev pub StaysBy : Stage → Kind → Packet → Link H → Type 0
  StaysBy at k p l = Reads answer_of after k p l.reader since at since at × AtStage at (gets_by k p l)

  pub away : (at : Stage) (x : Exchange) (n : ℕ) (l : Link H) → fixed.address < 127 → l.reader.config.address ≢ fixed.address
      → AtStage at l → StaysBy at (kind_of l.reader (frame fixed x n)) (frame fixed x n) l
  away at x n l device differ h =
      subst (λ k. StaysBy at k (frame fixed x n) l) (sym (kind_away fixed l.reader x n differ device)) ((refl, refl), says_nothing at l h)

  -- the line takes a packet that answers with this number; the reader is where the stage has it
  abbrev pub Grows : Stage → ℕ → Reply → Link H → Type 0
  Grows at n a l = (q : Packet) → Says fixed since n a q → ToControllerAt fixed since at (l.to_controller ++ q ∷ [])

  abbrev pub Puts : Stage → ℕ → Exchange → Reply → Type 0
  Puts at n x a = (r : ReaderState H) → HasActed fixed n x a r → ReaderAt fixed since at r

  -- the command at number 0: what holds of the reader then, and of what it says, may be of another restart
  pub zero_heard : (new : Restarted) (at : Stage) (a : Reply) (l : Link H) → command_in (frame fixed Opening 0) ≡ Ok (command.Id 0) → AtStage at l
      → ((r : ReaderState H) → HasActed fixed 0 Opening a r → ReaderAt fixed new at r)
      → ToControllerAt fixed new at (l.to_controller ++ answer fixed 0 (reply.PdId l.reader.config.id) ∷ [])
      → At fixed answer_of after new at (gets_by Zero (frame fixed Opening 0) l)
  zero_heard new at a l reads h puts line =
      let p = frame fixed Opening 0 in
      subst (λ c. HoldsOf fixed new at l.controller.session l.controller.waiting (begun answer_of after c l.reader p).reader l.to_reader
      (l.to_controller ++ option_to_list (begun answer_of after c l.reader p).reply)) (sym reads) (record {
        stage = h.stage;
        controller = h.controller;
        waiting = h.waiting;
        reader = puts _ (record { here = λ e. (refl, tt); offer = refl });
        to_reader = h.to_reader;
        to_controller = line;
      })

  -- it says who the device is, be it the one that was there before or another
  pub introduces : (a : Reply) (l : Link H) → command_in (frame fixed Opening 0) ≡ Ok (command.Id 0) → FitsBy answer_of after Zero (frame fixed Opening 0) l
      → Says fixed since 0 a (answer fixed 0 (reply.PdId l.reader.config.id))
  introduces a l reads fits =
      inr (inr (inr (
        refl,
        (l.reader.config.id, subst (λ c. IfSome (begun answer_of after c l.reader (frame fixed Opening 0)).said ReplyFits) reads fits, refl),
      )))

  -- .. again
  zero_again : (at : Stage) (a : Reply) (l : Link H) → command_in (frame fixed Opening 0) ≡ Ok (command.Id 0) → AtStage at l
      → Grows at 0 a l → Puts at 0 Opening a → FitsBy answer_of after Zero (frame fixed Opening 0) l
      → AtStage at (gets_by Zero (frame fixed Opening 0) l)
  zero_again at a l reads h grows puts fits =
      zero_heard since at a l reads h puts (grows (answer fixed 0 (reply.PdId l.reader.config.id)) (introduces a l reads fits))

  -- the frame of an exchange that the reader has acted on
  pub again : (at : Stage) (n : ℕ) (x : Exchange) (a : Reply) (l : Link H) → fixed.address < 127
      → command_in (frame fixed Opening 0) ≡ Ok (command.Id 0) → AtStage at l
      → HasActed fixed n x a l.reader → Acted n x a → (x ≡ Opening → TellsNone at)
      → Grows at n a l → Puts at n x a → FitsBy answer_of after (kind_of l.reader (frame fixed x n)) (frame fixed x n) l
      → StaysBy at (kind_of l.reader (frame fixed x n)) (frame fixed x n) l
  again at n x a l device reads h acted is silent grows puts fits =
      elim (eqb_tells l.reader.config.address fixed.address) [
        | inl same ↦ by_exchange n x acted is silent grows puts same.1 fits
        | inr other ↦ away at x n l device other.1 h
      ]
    where
      repeated : (n : ℕ) (x : Exchange) → n ≢ 0 → l.reader.config.address ≡ fixed.address
          → (l.reader.last ≡ Some n) × (l.reader.stored ≡ Some (answer fixed n a))
          → Grows at n a l
          → StaysBy at (kind_of l.reader (frame fixed x n)) (frame fixed x n) l
      repeated n x above same kept grows =
          subst (λ k. StaysBy at k (frame fixed x n) l) (sym (kind_again fixed l.reader x n same above kept.0)) (
            (refl, refl),
            subst (λ o. AtStage at (record l { to_controller = l.to_controller ++ option_to_list o })) (sym kept.1)
                (says at l (answer fixed n a) h (grows (answer fixed n a) (inr (inl refl)))),
          )

      by_exchange : (n : ℕ) (x : Exchange) → HasActed fixed n x a l.reader → Acted n x a → (x ≡ Opening → TellsNone at)
          → Grows at n a l → Puts at n x a → l.reader.config.address ≡ fixed.address → FitsBy answer_of after (kind_of l.reader (frame fixed x n)) (frame fixed x n) l
          → StaysBy at (kind_of l.reader (frame fixed x n)) (frame fixed x n) l
      by_exchange zero Opening acted is silent grows puts same fits =
          subst (λ k. FitsBy answer_of after k (frame fixed Opening 0) l → StaysBy at k (frame fixed Opening 0) l) (sym (kind_zero fixed l.reader Opening same))
          (both (λ k. FitsBy answer_of after k (frame fixed Opening 0) l → StaysBy at k (frame fixed Opening 0) l) l.reader.busy Busy Zero
          (λ f. ((refl, refl), says at l (answer fixed 0 reply.Busy) h (grows (answer fixed 0 reply.Busy) (inl refl))))
          (λ f. ((reads, as_due since at (silent refl)), zero_again at a l reads h grows puts f))) fits
      by_exchange (suc n) Opening acted is silent grows puts same fits = absurd is.1
      by_exchange n Polling acted is silent grows puts same fits = repeated n Polling is.1 same (acted.here same) grows
      by_exchange n (Asking c) acted is silent grows puts same fits = repeated n (Asking c) is.1 same (acted.here same) grows

-- a restarted reader that has heard number 0
module _ (fixed : ControllerConfig) {H : Type 0} (answer_of : H → Command → Answer) (after : H → Command → H) where
  pub shows_none : (x : Exchange) (a : Reply) → x ≡ Opening → shown x a ≡ []
  shows_none Opening a is = refl
  shows_none Polling a is = absurd cc
  shows_none (Asking c) a is = absurd cc

  -- .. so as much is due as before
  revived_due : (at : Stage) → TellsNone at → KeepsDue Now at Before at
  revived_due at none = record {
    due = (λ i. record { pend = pending_at at; owing = owed_at at; untold = unreported_at at; stands = length (none.0 i ++ none.1 i) });
    stands = none_stands Before at none;
    stood = refl;
    restarts = λ count is. is;
  }

  revived : (at : Stage) (a : Reply) (l : Link H) → command_in (frame fixed Opening 0) ≡ Ok (command.Id 0)
      → At fixed answer_of after Now at l → TellsNone at
      → Grows fixed answer_of after Now at 0 a l → Puts fixed answer_of after Before at 0 Opening a → FitsBy answer_of after Zero (frame fixed Opening 0) l
      → At fixed answer_of after Before at (gets_by fixed answer_of after Now Zero (frame fixed Opening 0) l)
  revived at a l reads h none grows puts fits =
      zero_heard fixed answer_of after Now Before at a l reads h puts
      (line_since fixed Now Before (λ may. may) at (l.to_controller ++ answer fixed 0 (reply.PdId l.reader.config.id) ∷ [])
      (grows (answer fixed 0 (reply.PdId l.reader.config.id)) (introduces fixed answer_of after Now a l reads fits)))

  -- the frame of an exchange that the reader has acted on: it says its answer again, refuses the number, or hears number 0
  abbrev pub HeardAt : Restarted → Stage → Kind → Packet → Link H → Type 0
  HeardAt since at k p l =
      (new : Restarted) × Reads answer_of after k p l.reader since at new at × At fixed answer_of after new at (gets_by fixed answer_of after since k p l)

  refuses_it : (at : Stage) (n : ℕ) (x : Exchange) (a : Reply) (l : Link H) → n ≢ 0 → l.reader.config.address ≡ fixed.address → l.reader.last ≡ None
      → At fixed answer_of after Now at l → Grows fixed answer_of after Now at n a l
      → HeardAt Now at (kind_of l.reader (frame fixed x n)) (frame fixed x n) l
  refuses_it at n x a l above here none h grows =
      let stays = subst (λ k. StaysBy fixed answer_of after Now at k (frame fixed x n) l) (sym (kind_unknown fixed l.reader x n here above none)) (
        (refl, refl),
        says fixed answer_of after Now at l (answer fixed n (refused UnexpectedSequence)) h
            (grows (answer fixed n (refused UnexpectedSequence)) (inr (inr (inl (tt, (n, refl)))))),
      ) in
      (Now, stays.0, stays.1)

  unknown : (at : Stage) (n : ℕ) (x : Exchange) (a : Reply) (l : Link H) → fixed.address < 127
      → command_in (frame fixed Opening 0) ≡ Ok (command.Id 0) → At fixed answer_of after Now at l
      → l.reader.last ≡ None → Acted n x a → (x ≡ Opening → TellsNone at)
      → Grows fixed answer_of after Now at n a l → Puts fixed answer_of after Before at n x a
      → FitsBy answer_of after (kind_of l.reader (frame fixed x n)) (frame fixed x n) l
      → HeardAt Now at (kind_of l.reader (frame fixed x n)) (frame fixed x n) l
  unknown at n x a l device reads h none is silent grows puts fits =
      elim (eqb_tells l.reader.config.address fixed.address) [
        | inl same ↦ by_exchange n x is silent grows puts same.1 fits
        | inr other ↦ let stays = away fixed answer_of after Now at x n l device other.1 h in (Now, stays.0, stays.1)
      ]
    where
      by_exchange : (n : ℕ) (x : Exchange) → Acted n x a → (x ≡ Opening → TellsNone at)
          → Grows fixed answer_of after Now at n a l → Puts fixed answer_of after Before at n x a → l.reader.config.address ≡ fixed.address
          → FitsBy answer_of after (kind_of l.reader (frame fixed x n)) (frame fixed x n) l
          → HeardAt Now at (kind_of l.reader (frame fixed x n)) (frame fixed x n) l
      by_exchange zero Opening is silent grows puts same fits =
          let p = frame fixed Opening 0 in
          subst (λ k. FitsBy answer_of after k p l → HeardAt Now at k p l) (sym (kind_zero fixed l.reader Opening same))
          (both (λ k. FitsBy answer_of after k p l → HeardAt Now at k p l) l.reader.busy Busy Zero
          (λ f. (Now, (refl, refl), says fixed answer_of after Now at l (answer fixed 0 reply.Busy) h (grows (answer fixed 0 reply.Busy) (inl refl))))
          (λ f. (Before, (reads, revived_due at (silent refl)), revived at a l reads h (silent refl) grows puts f))) fits
      by_exchange (suc n) Opening is silent grows puts same fits = absurd is.1
      by_exchange n Polling is silent grows puts same fits = refuses_it at n Polling a l is.1 same none h grows
      by_exchange n (Asking c) is silent grows puts same fits = refuses_it at n (Asking c) a l is.1 same none h grows

  pub heard_again : (since : Restarted) (at : Stage) (n : ℕ) (x : Exchange) (a : Reply) (l : Link H) → fixed.address < 127
      → command_in (frame fixed Opening 0) ≡ Ok (command.Id 0) → At fixed answer_of after since at l
      → Knows fixed since n x a l.reader → Acted n x a → (x ≡ Opening → TellsNone at)
      → Grows fixed answer_of after since at n a l → ((s : Restarted) (r : ReaderState H) → Knows fixed s n x a r → ReaderAt fixed s at r)
      → FitsBy answer_of after (kind_of l.reader (frame fixed x n)) (frame fixed x n) l
      → HeardAt since at (kind_of l.reader (frame fixed x n)) (frame fixed x n) l
  heard_again Never at n x a l device reads h knows is silent grows puts fits =
      let stays = again fixed answer_of after Never at n x a l device reads h knows is silent grows (puts Never) fits in (Never, stays.0, stays.1)
  heard_again Before at n x a l device reads h knows is silent grows puts fits =
      let stays = again fixed answer_of after Before at n x a l device reads h knows is silent grows (puts Before) fits in (Before, stays.0, stays.1)
  heard_again Now at n x a l device reads h knows is silent grows puts fits =
      unknown at n x a l device reads h knows is silent grows (puts Before) fits
