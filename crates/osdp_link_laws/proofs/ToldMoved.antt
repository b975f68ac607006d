-- A COMSET to a device's address is only ever told moved.
use Rattle.osdp_link_laws.proofs.Common.{◌≡◌, ◌<◌, ℕ, Bool, true, false, cond, eqb, leb, ltb, List, [], ◌∷◌, Option, Some, None, refl, sym, subst, ap, ◌∙◌, inl, inr, arith, leb-false, leb-true, lt-ltb, ◌&&◌, IfSome, option_to_list, Packet, Command, Communication, Reply, com_of, comset_of, hears, hears_in, ignores, is_from_reader, is_numbered, moved_by, pausing_hears, waiting_hears, said_by, NumberRefused, Session, State, Waiting, Pausing, seen, Report, ReaderConfig, Answer, not_processed, answer_to, MovesFit, Delivered, Delivery, Link, Move, Repeated, Tick, ToController, after_move, IsNoDevice, IsToldAsAsked, TellAsAsked, ReadEachOther, reports, told_by, told_by_front}
use Rattle.osdp_msg.specs.declared.command.Command.TheVariants as command
use Rattle.osdp_msg.specs.declared.reply.Reply.TheVariants as reply
use Rattle.osdp_controller.specs.declared.report.Report.TheVariants as report
use Rattle.osdp_link_laws.proofs.Coming.{MovesTo, settled_in}
use Rattle.osdp_link_laws.proofs.Deliveries.{IsRead, all_read}
use Rattle.osdp_link_laws.proofs.GivenAnswers.{AreAnswers, IsAnswerOf, move_given, told_given}
use Rattle.osdp_link_laws.proofs.InARow.{Assumed, Stands, assumed, begins_so, standing_so}
use Rattle.osdp_link_laws.proofs.Lines.{both, each_all, each_append}
use Rattle.osdp_link_laws.proofs.Numbers.{is_true}
use Rattle.osdp_link_laws.proofs.Reports.{MayBring, heard_so, tick_so}
use Rattle.osdp_link_laws.proofs.Stages.{Each, Restarted, Stage}
use Rattle.osdp_link_laws.proofs.Refusals.{one_report}

abbrev pub ToldAsAsked : Option Report → Type 0
ToldAsAsked r = IfSome r IsToldAsAsked

-- the COM of a COMSET to a device's address moves the reader
above : (d : Communication) (small : Bool) → leb d.address 126 ≡ small → moved_by (Some d) (com_of (cond small (reply.Com d) not_processed)) ≡ None → 126 < d.address
above d false test none = leb-false d.address 126 test
above d true test none =
    let small : ltb d.address 127 ≡ true = lt-ltb d.address 127 (omega (arith, leb-true d.address 126 test)) in
    let same : eqb d.address d.address ≡ true = is_true d.address d.address refl in
    let some : cond (ltb d.address 127 && eqb d.address d.address) (Some d) None ≡ Some d =
    ap (λ b. cond (b && eqb d.address d.address) (Some d) None) small ∙ ap (λ b. cond b (Some d) None) same in
    absurd cc

-- what such a packet, or a refused number, may bring: no COMSET is settled whose COM moves the reader, and each reply is read
abbrev pub MayTell : Option Report → Type 0
MayTell (Some (report.Settled c a)) = moved_by (comset_of c) (com_of a) ≡ None
MayTell (Some (report.Unread c code)) = ⊥
MayTell _ = Unit {0}

brought : (r : Option Report) → MayBring r → MayTell r
brought (Some (report.Settled c a)) is = is
brought (Some (report.Unread c code)) is = is
brought r is = tt

refused_so : (state : State) (number : ℕ) (s : Session) → MayTell (hears_in state number NumberRefused s).report
refused_so (Waiting until k o) number s =
    both (λ h. MayTell h.report) (is_numbered number NumberRefused s) (waiting_hears NumberRefused k o s) (ignores s) tt tt
refused_so (Pausing until o) number s =
    both (λ h. MayTell h.report) (is_numbered number NumberRefused s) (pausing_hears NumberRefused o s) (ignores s) tt tt
refused_so _ number s = tt

heard_read : (p : Packet) (now : ℕ) (s : Session) → IsRead p → MayTell (hears p now s).report
heard_read p now s (inl plain) = brought (hears p now s).report (heard_so p now s plain)
heard_read p now s (inr refuses) =
    both (λ h. MayTell h.report) (is_from_reader p s) (hears_in s.state p.sequence (said_by p) (seen now s)) (ignores (seen now s))
    (subst (λ a. MayTell (hears_in s.state p.sequence a (seen now s)).report) (sym refuses) (refused_so s.state p.sequence (seen now s))) tt

module _ {H : Type 0} (answer_of : H → Command → Answer) (after : H → Command → H) where
  no_device : (config : ReaderConfig) (h : H) (c : Command) (a : Reply) → a ≡ (answer_to answer_of after config h c).reply
      → moved_by (comset_of c) (com_of a) ≡ None → IsNoDevice (comset_of c)
  no_device config h (command.Comset d) a is none =
      above d (leb d.address 126) refl (subst (λ r. moved_by (Some d) (com_of r) ≡ None) is none)
  no_device config h c a is none = tt

  told_so : (r : Option Report) → MayTell r → Each (IsAnswerOf answer_of after) (settled_in r) → ToldAsAsked r
  told_so (Some (report.Settled c a)) is given = no_device given.0.0 given.0.1 c a given.0.2 is
  told_so (Some (report.Unread c code)) is given = is
  told_so r is given = tt

module _ {H : Type 0} (answer_of : H → Command → Answer) (after : H → Command → H) where
  front_told : (how : Delivery) (ps : List Packet) (now : ℕ) (s : Session) → Each IsRead ps → MayTell (told_by_front how ps now s)
  front_told Delivered (p ∷ ps) now s read = heard_read p now s read.0
  front_told Repeated (p ∷ ps) now s read = heard_read p now s read.0
  front_told how ps now s read = tt

  move_told : Assumed answer_of after → (move : Move H) (l : Link H) (h : Stands answer_of after l) (to : Stage) (new : Restarted)
      → MovesTo answer_of after move l h.goes.holds.0 h.goes.holds.1 new to → AreAnswers answer_of after h.goes.holds.1 → ToldAsAsked (told_by move l)
  move_told given (Tick now) l h to new comes are =
      tick_so ToldAsAsked tt (λ o. tt) l.controller.session.state (seen now l.controller.session) l.controller.waiting
  move_told given (ToController how now) l h to new comes are =
      let s = l.controller.session in
      let held = h.goes.holds in
      let r = told_by_front how l.to_controller now s in
      told_so answer_of after r
      (front_told how l.to_controller now s (all_read h.fixed answer_of after held.0 (given h.fixed h.device) held.1 l held.2))
      (told_given answer_of after r held.0 held.1 to comes.1 are)
  move_told given _ l h to new comes are = tt

  each_told : Assumed answer_of after → (moves : List (Move H)) (l : Link H) → MovesFit answer_of after moves l → (h : Stands answer_of after l)
      → AreAnswers answer_of after h.goes.holds.1 → Each IsToldAsAsked (reports answer_of after moves l)
  each_told given [] l fits h are = tt
  each_told given (move ∷ moves) l fits h are =
      let new = after_move answer_of after move l in
      let next = standing_so answer_of after given move l fits.0 h in
      let held = next.0.goes.holds in
      each_append IsToldAsAsked (option_to_list (told_by move l)) (reports answer_of after moves new)
      (one_report IsToldAsAsked (told_by move l) (move_told given move l h held.1 held.0 next.1 are))
      (each_told given moves new fits.1 next.0
      (move_given answer_of after move l h.goes.holds.0 h.goes.holds.1 held.0 held.1 h.goes.holds.2.stage next.1 are))

module _ {H : Type 0} (answer_of : H → Command → Answer) (after : H → Command → H) where
  pub tell_as_asked : ReadEachOther answer_of after → TellAsAsked answer_of after
  tell_as_asked peers l moves b fits =
      let s = begins_so answer_of after l b in
      each_all IsToldAsAsked (reports answer_of after moves l)
      (each_told answer_of after (assumed answer_of after peers) moves l fits s.0 (subst (AreAnswers answer_of after) (sym s.1) tt))
