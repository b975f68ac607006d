-- What holds of the reader, and of what it has said, by whether it has restarted in this session.
use Rattle.osdp_link_laws.proofs.Common.{ℕ, List, inl, inr, Packet, Reply, ControllerConfig, Exchange, ReaderState}
use Rattle.osdp_link_laws.proofs.Lines.{each_map, runs_map}
use Rattle.osdp_link_laws.proofs.Stages.{After, Before, Behind, Fresh, HasActed, Knows, Level, MayRefuse, Never, Now, Past, Rest, Restarted, Says, SaysOld, Stage, Start, ToControllerAt, number_after}

-- it knows its last number
abbrev pub Hears : Restarted → Type 0
Hears Never = Unit {0}
Hears Before = Unit {0}
Hears Now = ⊥

module _ (fixed : ControllerConfig) {H : Type 0} where
  pub knows : (since : Restarted) (n : ℕ) (x : Exchange) (a : Reply) (r : ReaderState H) → Hears since → HasActed fixed n x a r → Knows fixed since n x a r
  knows Never n x a r hears acted = acted
  knows Before n x a r hears acted = acted
  knows Now n x a r hears acted = absurd hears

  pub has_acted : (since : Restarted) (n : ℕ) (x : Exchange) (a : Reply) (r : ReaderState H) → Hears since → Knows fixed since n x a r → HasActed fixed n x a r
  has_acted Never n x a r hears acted = acted
  has_acted Before n x a r hears acted = acted
  has_acted Now n x a r hears acted = absurd hears

-- what may be on the line to the controller where no number was refused may be there where some were
module _ (fixed : ControllerConfig) (s u : Restarted) (more : MayRefuse s → MayRefuse u) where
  says_since : (n : ℕ) (a : Reply) (p : Packet) → Says fixed s n a p → Says fixed u n a p
  says_since n a p (inl busy) = inl busy
  says_since n a p (inr (inl is)) = inr (inl is)
  says_since n a p (inr (inr (inl (may, refused)))) = inr (inr (inl (more may, refused)))
  says_since n a p (inr (inr (inr introduces))) = inr (inr (inr introduces))

  old_since : (past : Past) (p : Packet) → SaysOld fixed s past p → SaysOld fixed u past p
  old_since Start p is = is
  old_since (After n y b) p is = says_since n b p is

  pub line_since : (at : Stage) (ps : List Packet) → ToControllerAt fixed s at ps → ToControllerAt fixed u at ps
  line_since Fresh ps line = line
  line_since (Behind past x) ps line = each_map (SaysOld fixed s past) (SaysOld fixed u past) (old_since past) ps line
  line_since (Level past x a) ps line =
      runs_map (SaysOld fixed s past) (SaysOld fixed u past) (Says fixed s (number_after past) a) (Says fixed u (number_after past) a)
      (old_since past) (says_since (number_after past) a) ps line
  line_since (Rest n x a) ps line = each_map (Says fixed s n a) (Says fixed u n a) (says_since n a) ps line
