-- A command that goes by one of these names is made of a value that is read after it.
use Rattle.osdp_msg.proofs.Common.{ℕ, List, codes, refl, Word, Command, Poll, Id, Cap, LocalStatus, InputStatus, OutputStatus, ReaderStatus, Buzzer, Comset}
use Rattle.osdp_msg.specs.CommandText.{command_row}
use Rattle.osdp_msg.proofs.RowTexts.{IsMadeBy, apart}

abbrev pub command_name : Command → List ℕ
command_name m = (command_row m).0

abbrev pub command_fields : Command → List Word
command_fields m = (command_row m).1

pub made_by_names : (m : Command)
    → IsMadeBy command_name (codes "ID") Id m × IsMadeBy command_name (codes "CAP") Cap m
    × IsMadeBy command_name (codes "BUZ") Buzzer m × IsMadeBy command_name (codes "COMSET") Comset m
made_by_names (Id x) = (λ e. (x, refl), apart _ _ refl, apart _ _ refl, apart _ _ refl)
made_by_names (Cap x) = (apart _ _ refl, λ e. (x, refl), apart _ _ refl, apart _ _ refl)
made_by_names (Buzzer x) = (apart _ _ refl, apart _ _ refl, λ e. (x, refl), apart _ _ refl)
made_by_names (Comset x) = (apart _ _ refl, apart _ _ refl, apart _ _ refl, λ e. (x, refl))
made_by_names m = (apart _ _ refl, apart _ _ refl, apart _ _ refl, apart _ _ refl)

-- a command without data is made of nothing
abbrev IsBare : List ℕ → Command → Command → Type 0
IsBare name bare m = IsMadeBy command_name name (λ (nothing : Unit {0}). bare) m

pub bare_by_names : (m : Command)
    → IsBare (codes "POLL") Poll m × IsBare (codes "LSTAT") LocalStatus m × IsBare (codes "ISTAT") InputStatus m × IsBare (codes "OSTAT") OutputStatus m × IsBare (codes "RSTAT") ReaderStatus m
bare_by_names Poll = (λ e. (tt, refl), apart _ _ refl, apart _ _ refl, apart _ _ refl, apart _ _ refl)
bare_by_names LocalStatus = (apart _ _ refl, λ e. (tt, refl), apart _ _ refl, apart _ _ refl, apart _ _ refl)
bare_by_names InputStatus = (apart _ _ refl, apart _ _ refl, λ e. (tt, refl), apart _ _ refl, apart _ _ refl)
bare_by_names OutputStatus = (apart _ _ refl, apart _ _ refl, apart _ _ refl, λ e. (tt, refl), apart _ _ refl)
bare_by_names ReaderStatus = (apart _ _ refl, apart _ _ refl, apart _ _ refl, apart _ _ refl, λ e. (tt, refl))
bare_by_names m = (apart _ _ refl, apart _ _ refl, apart _ _ refl, apart _ _ refl, apart _ _ refl)
