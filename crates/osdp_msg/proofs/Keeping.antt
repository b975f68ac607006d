-- Messages are read back from their bytes.
use Rattle.osdp_msg.proofs.Common.{◌≡◌, ◌∷◌, Some, refl, ap, Command, Reply, command_from, event_from, reply_from}
use Rattle.std.specs.Result.{result_ok}
use Rattle.osdp_msg.specs.declared.event.Event.{Event}
use Rattle.osdp_msg.specs.declared.event.Event.TheVariants as events
use Rattle.osdp_msg.specs.CommandTable.{CommandFits, command_code, command_data, command_of}
use Rattle.osdp_msg.specs.Events.{event_in, event_reply}
use Rattle.osdp_msg.specs.ReplyTable.{ReplyFits, reply_code, reply_data, reply_of}
use Rattle.osdp_msg.proofs.Commands.{commands}
use Rattle.osdp_msg.proofs.Replies.{replies}
use Rattle.osdp_msg.proofs.Table.{found}

pub command_back : (m : Command) → CommandFits m → command_from (command_code m ∷ command_data m) ≡ Some m
unfolding command_of
command_back m fits =
    ap result_ok (found commands (command_code m) (command_data m) m (record { code_is = refl; data_is = refl; fits = fits }))

pub reply_back : (m : Reply) → ReplyFits m → reply_from (reply_code m ∷ reply_data m) ≡ Some m
unfolding reply_of
reply_back m fits =
    ap result_ok (found replies (reply_code m) (reply_data m) m (record { code_is = refl; data_is = refl; fits = fits }))

event_back_in : (e : Event) → event_in (event_reply e) ≡ Some e
event_back_in (events.LocalState x) = refl
event_back_in e = refl

pub event_back : (e : Event) → ReplyFits (event_reply e) → event_from (reply_code (event_reply e) ∷ reply_data (event_reply e)) ≡ Some e
event_back e fits = rw (reply_back (event_reply e) fits) (event_back_in e)
