-- What is counted of messages, by their codes.
use Rattle.osdp_tool_monitor.proofs.Common.{◌≡◌, ◌↔◌, ℕ, List, nat_eq, Bool, true, false, Result, Ok, refl, sym, ap, arith, is_poll, kind_of_reply}
use Rattle.osdp_msg.specs.ReplyTable.{reply_of, reply_fault, reply_at}
use Rattle.osdp_msg.specs.declared.command.Command.{Command}
use Rattle.osdp_msg.specs.declared.command.Command.TheVariants.{Poll}
use Rattle.osdp_msg.specs.declared.fault.MsgFault.{MsgFault}
use Rattle.osdp_tool_monitor.specs.declared.counts.ReplyKind.TheVariants.{Other}

-- what tells a POLL from the rest counts it as one
pub poll_is : (read : Result Command MsgFault) (b : Bool) → (b ≡ true) ↔ (read ≡ Ok Poll) → b ≡ is_poll read
poll_is (Ok Poll) b h = h.1 refl
poll_is read true h = sym (ap is_poll (h.0 refl))
poll_is read false h = refl

pub other_by_code : (code : ℕ) (bytes : List ℕ) → nat_eq code 0x41 ≡ false → nat_eq code 0x50 ≡ false → nat_eq code 0x51 ≡ false → nat_eq code 0x53 ≡ false
    → nat_eq code 0x54 ≡ false → nat_eq code 0x79 ≡ false → kind_of_reply (reply_of code bytes) ≡ Other
unfolding reply_of reply_fault reply_at
other_by_code code bytes nak raw formatted keypad sets busy = grind arith
