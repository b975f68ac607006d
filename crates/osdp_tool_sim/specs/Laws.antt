-- The text of accounts is of these accounts alone.
use Rattle.std.specs.Prelude.{◌≡◌, ℕ, ◌+◌, ◌<◌, ◌≤◌, ◌^◌, All, List, length}
use Rattle.std.specs.List.{AllZip}
use Rattle.osdp_msg.specs.declared.command.Command.{Command}
use Rattle.osdp_msg.specs.declared.reply.Reply.{Reply}
use Rattle.osdp_msg.specs.CommandTable.{CommandFits}
use Rattle.osdp_msg.specs.Events.{EventFits}
use Rattle.osdp_msg.specs.ReplyTable.{ReplyFits}
use Rattle.osdp_sim.specs.Account.{Account}
use Rattle.osdp_tool_sim.specs.AccountText.{account_text, texts_from}

-- a command and its answer have their fields in their ranges
abbrev pub PairFits : Command × Reply → Type 0
PairFits (command, answer) = CommandFits command × ReplyFits answer

-- the messages of an account have their fields in their ranges, and its lists are no longer than a list can be
pub record AccountFits (a : Account) : Type 0 where
  pub issued : length a.issued < 2 ^ 64
  pub taken_length : length a.taken < 2 ^ 64
  pub settled_length : length a.settled < 2 ^ 64
  pub unsettled_length : length a.unsettled < 2 ^ 64
  pub queued : length a.queued < 2 ^ 64
  pub reported_length : length a.reported < 2 ^ 64
  pub taken : All CommandFits a.taken
  pub settled : All PairFits a.settled
  pub unsettled : All CommandFits a.unsettled
  pub reported : All EventFits a.reported

-- two accounts tell the same: the lists of one are those of the other, and as many commands were issued and events queued
pub record TellSame (a b : Account) : Type 0 where
  pub issued : length a.issued ≡ length b.issued
  pub taken : a.taken ≡ b.taken
  pub settled : a.settled ≡ b.settled
  pub unsettled : a.unsettled ≡ b.unsettled
  pub queued : length a.queued ≡ length b.queued
  pub reported : a.reported ≡ b.reported
  pub ends : a.ends ≡ b.ends

-- a text is that of one number and of one account
abbrev pub HasOneAccount : Type 0
HasOneAccount =
    (n m : ℕ) (a b : Account) → n < 2 ^ 64 → m < 2 ^ 64 → AccountFits a → AccountFits b → account_text n a ≡ account_text m b
    → (n ≡ m) × TellSame a b

-- a text of several accounts is that of as many, and of each in its place
abbrev pub HasOneEach : Type 0
HasOneEach =
    (n : ℕ) (told others : List Account) → n + length told ≤ 2 ^ 64 → n + length others ≤ 2 ^ 64 → All AccountFits told → All AccountFits others
    → texts_from n told ≡ texts_from n others → AllZip TellSame told others
