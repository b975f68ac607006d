-- A reply that goes by one of these names is made of a value that is read after it.
use Rattle.osdp_msg.proofs.Common.{ℕ, List, codes, refl, Word, Reply, Ack, LocalState, Com, Busy}
use Rattle.osdp_msg.specs.ReplyText.{reply_row}
use Rattle.osdp_msg.proofs.RowTexts.{IsMadeBy, apart}

abbrev pub reply_name : Reply → List ℕ
reply_name m = (reply_row m).0

abbrev pub reply_fields : Reply → List Word
reply_fields m = (reply_row m).1

pub made_by_names : (m : Reply) → IsMadeBy reply_name (codes "LSTATR") LocalState m × IsMadeBy reply_name (codes "COM") Com m
made_by_names (LocalState x) = (λ e. (x, refl), apart _ _ refl)
made_by_names (Com x) = (apart _ _ refl, λ e. (x, refl))
made_by_names m = (apart _ _ refl, apart _ _ refl)

-- a reply without data is made of nothing
abbrev IsBare : List ℕ → Reply → Reply → Type 0
IsBare name bare m = IsMadeBy reply_name name (λ (nothing : Unit {0}). bare) m

pub bare_by_names : (m : Reply) → IsBare (codes "ACK") Ack m × IsBare (codes "BUSY") Busy m
bare_by_names Ack = (λ e. (tt, refl), apart _ _ refl)
bare_by_names Busy = (apart _ _ refl, λ e. (tt, refl))
bare_by_names m = (apart _ _ refl, apart _ _ refl)
