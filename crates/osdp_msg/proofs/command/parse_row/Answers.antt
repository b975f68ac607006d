use Rattle.osdp_msg.proofs.Common.{None, Some, codes, refl, Poll, Id, Cap, LocalStatus, InputStatus, OutputStatus, ReaderStatus, Buzzer, Comset, CommandFits}
use Rattle.osdp_msg.proofs.CommandTextRows.{bare_by_names, command_fields, command_name, made_by_names}
use Rattle.osdp_msg.proofs.RowTexts.{made_row_read}
use Rattle.osdp_msg.proofs.command.parse_row.Goals as goal

pub returns-in_err-parse_byte-in-ID : goal.returns-in_err-parse_byte-in-ID
returns-in_err-parse_byte-in-ID c = rw c.in-ID.is (made_row_read command_name command_fields CommandFits (codes "ID") Id (λ x. refl) (λ m. (made_by_names m).0) c.args.fields None _ c.in_err-parse_byte-in-ID.ensures c.from_residual-in_err-parse_byte-in-ID.ensures)

pub returns-in_ok-parse_byte-in-ID : goal.returns-in_ok-parse_byte-in-ID
returns-in_ok-parse_byte-in-ID c = rw c.in-ID.is (made_row_read command_name command_fields CommandFits (codes "ID") Id (λ x. refl) (λ m. (made_by_names m).0) c.args.fields (Some _) _ c.in_ok-parse_byte-in-ID.ensures refl)

pub returns-in_err-parse_byte-in-CAP : goal.returns-in_err-parse_byte-in-CAP
returns-in_err-parse_byte-in-CAP c = rw c.in-CAP.is (made_row_read command_name command_fields CommandFits (codes "CAP") Cap (λ x. refl) (λ m. (made_by_names m).1) c.args.fields None _ c.in_err-parse_byte-in-CAP.ensures c.from_residual-in_err-parse_byte-in-CAP.ensures)

pub returns-in_ok-parse_byte-in-CAP : goal.returns-in_ok-parse_byte-in-CAP
returns-in_ok-parse_byte-in-CAP c = rw c.in-CAP.is (made_row_read command_name command_fields CommandFits (codes "CAP") Cap (λ x. refl) (λ m. (made_by_names m).1) c.args.fields (Some _) _ c.in_ok-parse_byte-in-CAP.ensures refl)

pub returns-in_err-parse-in-BUZ : goal.returns-in_err-parse-in-BUZ
returns-in_err-parse-in-BUZ c = rw c.in-BUZ.is (made_row_read command_name command_fields CommandFits (codes "BUZ") Buzzer (λ x. refl) (λ m. (made_by_names m).2) c.args.fields None _ c.in_err-parse-in-BUZ.ensures c.from_residual-in_err-parse-in-BUZ.ensures)

pub returns-in_ok-parse-in-BUZ : goal.returns-in_ok-parse-in-BUZ
returns-in_ok-parse-in-BUZ c = rw c.in-BUZ.is (made_row_read command_name command_fields CommandFits (codes "BUZ") Buzzer (λ x. refl) (λ m. (made_by_names m).2) c.args.fields (Some _) _ c.in_ok-parse-in-BUZ.ensures refl)

pub returns-in_err-parse-in-COMSET : goal.returns-in_err-parse-in-COMSET
returns-in_err-parse-in-COMSET c = rw c.in-COMSET.is (made_row_read command_name command_fields CommandFits (codes "COMSET") Comset (λ x. refl) (λ m. (made_by_names m).3) c.args.fields None _ c.in_err-parse-in-COMSET.ensures c.from_residual-in_err-parse-in-COMSET.ensures)

pub returns-in_ok-parse-in-COMSET : goal.returns-in_ok-parse-in-COMSET
returns-in_ok-parse-in-COMSET c = rw c.in-COMSET.is (made_row_read command_name command_fields CommandFits (codes "COMSET") Comset (λ x. refl) (λ m. (made_by_names m).3) c.args.fields (Some _) _ c.in_ok-parse-in-COMSET.ensures refl)

pub returns-in_err-parse_nothing-in-POLL : goal.returns-in_err-parse_nothing-in-POLL
returns-in_err-parse_nothing-in-POLL c = rw c.in-POLL.is (made_row_read command_name command_fields CommandFits (codes "POLL") (λ nothing. Poll) (λ nothing. refl) (λ m. (bare_by_names m).0) c.args.fields None _ c.in_err-parse_nothing-in-POLL.ensures c.from_residual.ensures)

pub returns-in_err-parse_nothing-in-LSTAT : goal.returns-in_err-parse_nothing-in-LSTAT
returns-in_err-parse_nothing-in-LSTAT c = rw c.in-LSTAT.is (made_row_read command_name command_fields CommandFits (codes "LSTAT") (λ nothing. LocalStatus) (λ nothing. refl) (λ m. (bare_by_names m).1) c.args.fields None _ c.in_err-parse_nothing-in-LSTAT.ensures c.from_residual-in_err-parse_nothing-in-LSTAT.ensures)

pub returns-in_err-parse_nothing-in-ISTAT : goal.returns-in_err-parse_nothing-in-ISTAT
returns-in_err-parse_nothing-in-ISTAT c = rw c.in-ISTAT.is (made_row_read command_name command_fields CommandFits (codes "ISTAT") (λ nothing. InputStatus) (λ nothing. refl) (λ m. (bare_by_names m).2) c.args.fields None _ c.in_err-parse_nothing-in-ISTAT.ensures c.from_residual-in_err-parse_nothing-in-ISTAT.ensures)

pub returns-in_err-parse_nothing-in-OSTAT : goal.returns-in_err-parse_nothing-in-OSTAT
returns-in_err-parse_nothing-in-OSTAT c = rw c.in-OSTAT.is (made_row_read command_name command_fields CommandFits (codes "OSTAT") (λ nothing. OutputStatus) (λ nothing. refl) (λ m. (bare_by_names m).3) c.args.fields None _ c.in_err-parse_nothing-in-OSTAT.ensures c.from_residual-in_err-parse_nothing-in-OSTAT.ensures)

pub returns-in_err-parse_nothing-in-RSTAT : goal.returns-in_err-parse_nothing-in-RSTAT
returns-in_err-parse_nothing-in-RSTAT c = rw c.in-RSTAT.is (made_row_read command_name command_fields CommandFits (codes "RSTAT") (λ nothing. ReaderStatus) (λ nothing. refl) (λ m. (bare_by_names m).4) c.args.fields None _ c.in_err-parse_nothing-in-RSTAT.ensures c.from_residual-in_err-parse_nothing-in-RSTAT.ensures)
