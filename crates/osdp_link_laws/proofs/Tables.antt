-- A value of a table is read from its code and data.
use Rattle.osdp_link_laws.proofs.Common.{◌≡◌, ℕ, suc, List, Result, Ok, refl, CommandFits, IsCommand, command_code, command_data, command_of, IsReply, ReplyFits, reply_code, reply_data, reply_of, Command, MsgFault, Reply}
use Rattle.osdp_msg_laws.specs.Laws.{FitsAPacket, ReadsTheTable}

read_back : {M : Type 0} (Is : ℕ → List ℕ → M → Type 0) (reading : ℕ → List ℕ → Result M MsgFault)
    → ReadsTheTable Is reading → FitsAPacket Is
    → (code : ℕ) (bytes : List ℕ) (m : M) → Is code bytes m → reading code bytes ≡ Ok m
read_back Is reading reads fits code bytes m is = (reads code bytes m (λ i. (fits code bytes m is).0 (suc i))).1 is

pub command_read : ReadsTheTable IsCommand command_of → FitsAPacket IsCommand
    → (m : Command) → CommandFits m → command_of (command_code m) (command_data m) ≡ Ok m
command_read reads room m fits =
    read_back IsCommand command_of reads room (command_code m) (command_data m) m
    (record { code_is = refl; data_is = refl; fits = fits })

pub reply_read : ReadsTheTable IsReply reply_of → FitsAPacket IsReply
    → (m : Reply) → ReplyFits m → reply_of (reply_code m) (reply_data m) ≡ Ok m
reply_read reads room m fits =
    read_back IsReply reply_of reads room (reply_code m) (reply_data m) m
    (record { code_is = refl; data_is = refl; fits = fits })
