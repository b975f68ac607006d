-- What rounds ask from the first sessions on.
use Rattle.std.specs.Prelude.{◌≡◌, ◌↔◌, ℕ, false, List, [], length, Some}
use Rattle.osdp_msg.specs.declared.command.Command.{Command}
use Rattle.osdp_reader.specs.declared.handler.Answer.{Answer}
use Rattle.osdp_shared_line.specs.Addresses.{IsSetUp, NetMovesFit}
use Rattle.osdp_shared_line.specs.Line.{Net, Site, run, site_at}
use Rattle.osdp_shared_line.specs.Progress.{AreRounds, StoresFromThere, net_rounds}

-- of a line that is set up: a site's reader isn't busy, what it stores was said from where it is, and the rounds are moves as a line has them
abbrev pub FirstRoundsAreExact : {H : Type 0} → (H → Command → Answer) → (H → Command → H) → Type 0
FirstRoundsAreExact {H} answer_of after = (n : Net H) (turns : List (ℕ × ℕ)) (k : ℕ) (s last : Site H) → IsSetUp n → site_at k n.sites ≡ Some s
    → site_at k (run answer_of after (net_rounds (length n.sites) turns) n).sites ≡ Some last
    → (AreRounds answer_of after n [] turns k s s last)
    ↔ ((s.reader.busy ≡ false) × StoresFromThere s × NetMovesFit answer_of after (net_rounds (length n.sites) turns) n)
