-- When a move fits, by each move.
use Rattle.osdp_link_laws.proofs.Common.{◌≡◌, ◌≢◌, List, [], ◌∷◌, refl, subst, IfSome, Packet, ReplyFits, Command, ReaderState, Answer, AtEach, MoveFits, MovesFit, SaysWhatFits, SaysWhatFitsIf, Delivered, Delivery, Link, Lost, Move, Repeated, RestartController, RestartReader, Submit, ToReader, after_move}
use Rattle.osdp_reader.specs.Table.{hears}
use Rattle.osdp_link_laws.specs.Fitting.{FittingIsExact, IsInItsRanges}
use Rattle.osdp_link_laws.proofs.AskedMoves.{each_asked, each_then}

module _ {H : Type 0} (answer_of : H → Command → Answer) (after : H → Command → H) where
  abbrev Fits : Packet → ReaderState H → Type 0
  Fits p r = IfSome (hears answer_of after r p).said ReplyFits

  says : (how : Delivery) (p : Packet) (rest ps : List Packet) (r : ReaderState H) → how ≢ Lost → ps ≡ p ∷ rest → SaysWhatFitsIf answer_of after how ps r → Fits p r
  says Delivered p rest ps r through front fits = subst (λ qs. SaysWhatFits answer_of after qs r) front fits
  says Lost p rest ps r through front fits = absurd (through refl)
  says Repeated p rest ps r through front fits = subst (λ qs. SaysWhatFits answer_of after qs r) front fits

  said_fits : (how : Delivery) (ps : List Packet) (r : ReaderState H) → ((p : Packet) (rest : List Packet) → how ≢ Lost → ps ≡ p ∷ rest → Fits p r)
      → SaysWhatFitsIf answer_of after how ps r
  said_fits Lost ps r fits = tt
  said_fits Delivered [] r fits = tt
  said_fits Delivered (p ∷ rest) r fits = fits p rest (λ e. let is = e in cc) refl
  said_fits Repeated [] r fits = tt
  said_fits Repeated (p ∷ rest) r fits = fits p rest (λ e. let is = e in cc) refl

  in_ranges : (move : Move H) (l : Link H) → MoveFits answer_of after move l → IsInItsRanges answer_of after move l
  in_ranges move l fits = record {
    submitted = λ command e. subst (λ m. MoveFits answer_of after m l) e fits;
    said = λ how p rest e through front. says how p rest l.to_reader l.reader through front (subst (λ m. MoveFits answer_of after m l) e fits);
    reader = λ config handler room e. subst (λ m. MoveFits answer_of after m l) e fits;
    controller = λ config room e. subst (λ m. MoveFits answer_of after m l) e fits;
  }

  move_fits : (move : Move H) (l : Link H) → IsInItsRanges answer_of after move l → MoveFits answer_of after move l
  move_fits (Submit command) l is = is.submitted command refl
  move_fits (ToReader how) l is = said_fits how l.to_reader l.reader (λ p rest through front. is.said how p rest refl through front)
  move_fits (RestartReader config handler room) l is = is.reader config handler room refl
  move_fits (RestartController config room) l is = is.controller config room refl
  move_fits move l is = tt

  moves_fit : (moves : List (Move H)) (l : Link H) → AtEach answer_of after (MoveFits answer_of after) moves l → MovesFit answer_of after moves l
  moves_fit [] l each = tt
  moves_fit (m ∷ moves) l each =
      let both = each_then answer_of after (MoveFits answer_of after) m moves l each in (both.0, moves_fit moves (after_move answer_of after m l) both.1)

  pub fitting_exact : FittingIsExact answer_of after
  fitting_exact = record {
    one = λ move l. (in_ranges move l, move_fits move l);
    all = λ moves l. (
      each_asked answer_of after (MoveFits answer_of after) (MovesFit answer_of after) (λ m ms n fits. fits) moves l,
      moves_fit moves l,
    );
  }
