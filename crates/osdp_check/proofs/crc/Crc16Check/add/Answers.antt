use Rattle.osdp_check.proofs.Common.{rules, ◌∙◌, ◌∷◌, [], ap, crc_from}
use Rattle.osdp_check.proofs.Entries.{crc_step, table_step}
use Rattle.osdp_check.proofs.crc.Crc16Check.add.Goals as goal

pub returns-clause-took : goal.returns-clause-took
returns-clause-took c =
    λ bytes e. rw c.entry.ensures (crc_step c.self.inside.state c.args.byte (search rules) (search rules) bytes (c.self.view_is ∙ e))

pub returns-clause-since : goal.returns-clause-since
returns-clause-since c =
    rw c.entry.ensures (table_step c.self.inside.state c.args.byte (search rules) (search rules) ∙ ap (λ n. crc_from n (c.args.byte ∷ [])) c.self.view_is)
