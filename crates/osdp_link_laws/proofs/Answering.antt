-- What a reader that is ready says to the frame of the outstanding exchange.
use Rattle.osdp_link_laws.proofs.Common.{◌≡◌, ◌≢◌, ◌⊎◌, ℕ, false, cond, Some, None, Ok, refl, sym, subst, ap, ◌∙◌, inl, inr, arith, IfSome, Packet, next_sequence, ReplyFits, Command, Reply, exchange_command, ControllerConfig, Exchange, Opening, Polling, Asking, Answer, Zero, Repeat, Taken, Busy, event_for, offering, released, refused, ReaderState, UnexpectedSequence, IsPlain, Link}
use Rattle.osdp_msg.specs.declared.command.Command.TheVariants as command
use Rattle.osdp_msg.specs.declared.reply.Reply.TheVariants as reply
use Rattle.osdp_reader.specs.Table.{Answered, begun, event_or_answer, hears, kind_of, moved, new_address, outcome, taken}
use Rattle.osdp_link_laws.proofs.Acting.{kind_again, kind_next, kind_unknown, kind_zero}
use Rattle.osdp_link_laws.proofs.Moves.{Premises, asked_fits}
use Rattle.osdp_link_laws.proofs.Numbers.{next_above_zero}
use Rattle.osdp_link_laws.proofs.Parts.{At}
use Rattle.osdp_link_laws.proofs.Settling.{MovesNone}
use Rattle.osdp_link_laws.proofs.Stages.{Acted, After, Before, Behind, Fresh, IsAnswerTo, IsAsked, IsOut, Knows, Level, Never, Now, Rest, Restarted, Stage, Start, answer, exchange_at, frame, number_at}

pub same_some : {A : Type 0} (x y : A) → Some x ≡ Some y → x ≡ y
same_some x y e = cc

-- the exchange sets no address
pub no_address : (x : Exchange) → MovesNone x → new_address (exchange_command x) ≡ None
no_address Opening none = refl
no_address Polling none = refl
no_address (Asking c) none = none

module _ (fixed : ControllerConfig) {H : Type 0} (answer_of : H → Command → Answer) (after : H → Command → H) where
  abbrev Given : Type 0
  Given = Premises fixed answer_of after

  -- it is at the controller's address, and not busy
  pub record IsReady (r : ReaderState H) : Type 0 where
    pub here : r.config.address ≡ fixed.address
    pub ready : r.busy ≡ false

  -- what it says anew is of the table of replies
  abbrev pub SaysFit : Packet → ReaderState H → Type 0
  SaysFit p r = IfSome (hears answer_of after r p).said ReplyFits

  -- its answer to this exchange with this number
  pub record Replies (x : Exchange) (n : ℕ) (r : ReaderState H) (a : Reply) : Type 0 where
    pub sent : (hears answer_of after r (frame fixed x n)).reply ≡ Some (answer fixed n a)
    pub acted : Acted n x a
    pub stays : MovesNone x → IsReady (hears answer_of after r (frame fixed x n)).reader
    pub known : MovesNone x → (hears answer_of after r (frame fixed x n)).reader.last ≡ Some n

  -- .. or it refuses the number
  abbrev pub Refused : Exchange → ℕ → ReaderState H → Type 0
  Refused x n r = (hears answer_of after r (frame fixed x n)).reply ≡ Some (answer fixed n (refused UnexpectedSequence))

  -- .. to the opening ID
  pub opening : Given → (r : ReaderState H) → IsReady r → SaysFit (frame fixed Opening 0) r
      → Replies Opening 0 r (reply.PdId r.config.id)
  opening given r ready fits =
      let p = frame fixed Opening 0 in
      let kind : kind_of r p ≡ Zero = kind_zero fixed r Opening ready.here ∙ ap (λ b. cond b Busy Zero) ready.ready in
      let e : hears answer_of after r p ≡ begun answer_of after (Ok (command.Id 0)) r p =
      ap (λ k. outcome answer_of after k r p) kind ∙ ap (λ c. begun answer_of after c r p) (given.reads Opening 0 (omega arith)) in
      record {
        sent = ap (λ o. o.reply) e;
        acted = (record { plain = tt; fits = subst (λ o. IfSome o.said ReplyFits) e fits }, (r.config.id, refl));
        stays = λ none. subst (λ o. IsReady o.reader) (sym e) (record { here = ready.here; ready = ready.ready });
        known = λ none. ap (λ o. o.reader.last) e;
      }

  -- .. to a command with the next number
  abbrev pub taken_answer : Command → ReaderState H → Answered H
  taken_answer c r = event_or_answer answer_of after (event_for c (released r.queue).events) r.config r.handler c

  pub taken_hears : Given → (n : ℕ) (y : Exchange) (b : Reply) (x : Exchange) (r : ReaderState H) → IsReady r → r.last ≡ Some n → IsAsked (After n y b) x
      → hears answer_of after r (frame fixed x (next_sequence n)) ≡ taken answer_of after (Ok (exchange_command x)) r (frame fixed x (next_sequence n))
  taken_hears given n y b x r ready last asked =
      let p = frame fixed x (next_sequence n) in
      let kind : kind_of r p ≡ Taken = kind_next fixed r x n ready.here last ∙ ap (λ u. cond u Busy Taken) ready.ready in
      ap (λ k. outcome answer_of after k r p) kind
      ∙ ap (λ c. taken answer_of after c r p) (given.reads x (next_sequence n) (asked_fits (After n y b) x asked))

  numbered : (x : Exchange) (n : ℕ) (y : Exchange) (b : Reply) (a : Reply) → IsAsked (After n y b) x → IsAnswerTo x (next_sequence n) a
  numbered Opening n y b a asked = absurd asked
  numbered Polling n y b a asked = next_above_zero n
  numbered (Asking c) n y b a asked = next_above_zero n

  pub taking : Given → (n : ℕ) (y : Exchange) (b : Reply) (x : Exchange) (r : ReaderState H) → IsReady r → r.last ≡ Some n → IsAsked (After n y b) x
      → SaysFit (frame fixed x (next_sequence n)) r
      → Replies x (next_sequence n) r (taken_answer (exchange_command x) r).reply
  taking given n y b x r ready last asked fits =
      let p = frame fixed x (next_sequence n) in
      let a = taken_answer (exchange_command x) r in
      let kind : kind_of r p ≡ Taken = kind_next fixed r x n ready.here last ∙ ap (λ u. cond u Busy Taken) ready.ready in
      let e = taken_hears given n y b x r ready last asked in
      let o = given.plainly r p (inr kind) in
      let same : o.0 ≡ a.reply = same_some o.0 a.reply (sym o.1 ∙ ap (λ t. t.said) e) in
      record {
        sent = ap (λ t. t.reply) e;
        acted = (record { plain = subst IsPlain same o.3; fits = subst (λ t. IfSome t.said ReplyFits) e fits }, numbered x n y b a.reply asked);
        stays = λ none. subst (λ o. IsReady o.reader) (sym e) (subst (λ to. IsReady (moved to (record r {
          last = Some (next_sequence n);
          stored = Some (answer fixed (next_sequence n) a.reply);
          queue = offering (event_for (exchange_command x) (released r.queue).events) (released r.queue);
          handler = a.handler;
        }))) (sym (no_address x none)) (record { here = ready.here; ready = ready.ready }));
        known = λ none. ap (λ o. o.reader.last) e ∙ ap (λ to. (moved to (record r {
          last = Some (next_sequence n);
          stored = Some (answer fixed (next_sequence n) a.reply);
          queue = offering (event_for (exchange_command x) (released r.queue).events) (released r.queue);
          handler = a.handler;
        })).last) (no_address x none);
      }

  -- .. again
  repeating : (n : ℕ) (x : Exchange) (a : Reply) (r : ReaderState H) → IsReady r → n ≢ 0 → r.last ≡ Some n → r.stored ≡ Some (answer fixed n a)
      → Acted n x a → Replies x n r a
  repeating n x a r ready above last stored acted =
      let p = frame fixed x n in
      let e : hears answer_of after r p ≡ outcome answer_of after Repeat r p =
      ap (λ k. outcome answer_of after k r p) (kind_again fixed r x n ready.here above last) in
      record { sent = ap (λ o. o.reply) e ∙ stored; acted = acted; stays = λ none. subst (λ o. IsReady o.reader) (sym e) ready; known = λ none. ap (λ o. o.reader.last) e ∙ last }

  refusing : (n : ℕ) (x : Exchange) (r : ReaderState H) → IsReady r → n ≢ 0 → r.last ≡ None → Refused x n r
  refusing n x r ready above none =
      ap (λ k. (outcome answer_of after k r (frame fixed x n)).reply) (kind_unknown fixed r x n ready.here above none)

  -- what comes of the frame of the exchange that is outstanding
  abbrev pub RepliesOrRefuses : Exchange → ℕ → ReaderState H → Type 0
  RepliesOrRefuses x n r = ((a : Reply) × Replies x n r a) ⊎ Refused x n r

  goes_next : Given → (since : Restarted) (n : ℕ) (y : Exchange) (b : Reply) (x : Exchange) (r : ReaderState H) → IsReady r → Knows fixed since n y b r
      → IsAsked (After n y b) x → SaysFit (frame fixed x (next_sequence n)) r → RepliesOrRefuses x (next_sequence n) r
  goes_next given Never n y b x r ready knows asked fits =
      inl ((taken_answer (exchange_command x) r).reply, taking given n y b x r ready (knows.here ready.here).0 asked fits)
  goes_next given Before n y b x r ready knows asked fits =
      inl ((taken_answer (exchange_command x) r).reply, taking given n y b x r ready (knows.here ready.here).0 asked fits)
  goes_next given Now n y b x r ready knows asked fits = inr (refusing (next_sequence n) x r ready (next_above_zero n) knows)

  again_polled : (since : Restarted) (n : ℕ) (b : Reply) (r : ReaderState H) → IsReady r → n ≢ 0 → Knows fixed since n Polling b r → Acted n Polling b
      → RepliesOrRefuses Polling n r
  again_polled Never n b r ready above knows acted = let kept = knows.here ready.here in inl (b, repeating n Polling b r ready above kept.0 kept.1 acted)
  again_polled Before n b r ready above knows acted = let kept = knows.here ready.here in inl (b, repeating n Polling b r ready above kept.0 kept.1 acted)
  again_polled Now n b r ready above knows acted = inr (refusing n Polling r ready above knows)

  again_asked : (since : Restarted) (n : ℕ) (c : Command) (b : Reply) (r : ReaderState H) → IsReady r → n ≢ 0 → Knows fixed since n (Asking c) b r
      → Acted n (Asking c) b → RepliesOrRefuses (Asking c) n r
  again_asked Never n c b r ready above knows acted = let kept = knows.here ready.here in inl (b, repeating n (Asking c) b r ready above kept.0 kept.1 acted)
  again_asked Before n c b r ready above knows acted = let kept = knows.here ready.here in inl (b, repeating n (Asking c) b r ready above kept.0 kept.1 acted)
  again_asked Now n c b r ready above knows acted = inr (refusing n (Asking c) r ready above knows)

  pub replies_at : Given → (since : Restarted) (at : Stage) (l : Link H) → At fixed answer_of after since at l → IsOut at → IsReady l.reader
      → SaysFit (frame fixed (exchange_at at) (number_at at)) l.reader → RepliesOrRefuses (exchange_at at) (number_at at) l.reader
  replies_at given since Fresh l h out ready fits = absurd out
  replies_at given since (Behind Start Opening) l h out ready fits = inl (reply.PdId l.reader.config.id, opening given l.reader ready fits)
  replies_at given since (Behind Start Polling) l h out ready fits = absurd h.stage.1
  replies_at given since (Behind Start (Asking c)) l h out ready fits = absurd h.stage.1
  replies_at given since (Behind (After n y b) x) l h out ready fits = goes_next given since n y b x l.reader ready h.reader h.stage.1 fits
  replies_at given since (Level Start Opening b) l h out ready fits = inl (reply.PdId l.reader.config.id, opening given l.reader ready fits)
  replies_at given since (Level Start Polling b) l h out ready fits = absurd h.stage.1
  replies_at given since (Level Start (Asking c) b) l h out ready fits = absurd h.stage.1
  replies_at given since (Level (After n y d) Opening b) l h out ready fits = absurd h.stage.1
  replies_at given since (Level (After n y d) Polling b) l h out ready fits =
      again_polled since (next_sequence n) b l.reader ready (next_above_zero n) h.reader h.stage.2
  replies_at given since (Level (After n y d) (Asking c) b) l h out ready fits =
      again_asked since (next_sequence n) c b l.reader ready (next_above_zero n) h.reader h.stage.2
  replies_at given since (Rest n x b) l h out ready fits = absurd out
