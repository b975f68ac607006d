-- An entry as a link; and that no two devices are ever at one address.
use Rattle.std.specs.Prelude.{◌≡◌, ◌≢◌, ℕ, List, [], Some}
use Rattle.osdp_msg.specs.declared.command.Command.{Command}
use Rattle.osdp_bus.specs.declared.entry.Entry.{Entry}
use Rattle.osdp_link_laws.specs.Link.{Link}
use Rattle.osdp_reader.specs.declared.handler.Answer.{Answer}
use Rattle.osdp_shared_line.specs.Line.{site_at}
use Rattle.osdp_calls.specs.Calls.{Step, after_calls}
use Rattle.osdp_calls.specs.Lines.{InUse, Station}
use Rattle.osdp_calls.specs.Premises.{AllKeep, IsSetUp}

module _ {H : Type 0} where
  -- an entry as a link, with nothing on the line
  abbrev pub link_of_entry : Entry → Station H → Link H
  link_of_entry d t = record { controller = d.controller; reader = t.reader; to_reader = []; to_controller = [] }

  module _ (answer_of : H → Command → Answer) (after : H → Command → H) where
    -- no two devices are ever at one address
    abbrev pub CallsKeepApart : Type 0
    CallsKeepApart = (l : InUse H) (steps : List (Step H)) → IsSetUp l → AllKeep answer_of after steps l
        → (j k : ℕ) (s t : Station H) → j ≢ k → site_at j (after_calls answer_of after steps l).stations ≡ Some s
        → site_at k (after_calls answer_of after steps l).stations ≡ Some t → s.reader.config.address ≢ t.reader.config.address
