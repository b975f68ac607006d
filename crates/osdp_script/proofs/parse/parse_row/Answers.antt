use Rattle.osdp_script.proofs.Common.{Some, None, ap, refl, texts}
use Rattle.osdp_script.proofs.Rows.{BusyRow, CheckRow, CleanRow, IssueRow, QueueRow, ReaderRow, ReopenRow, WaitRow, reads_row, row_line}
use Rattle.osdp_script.proofs.parse.parse_row.Goals as goal

pub returns-in_err-parse_check-in-check : goal.returns-in_err-parse_check-in-check
returns-in_err-parse_check-in-check c = rw c.in-check.is (reads_row c.args.readers CheckRow (texts c.args.words.now) None _ c.in_err-parse_check-in-check.ensures c.from_residual.ensures)

pub returns-in_err-address-in-reader : goal.returns-in_err-address-in-reader
returns-in_err-address-in-reader c = rw c.in-reader.is (reads_row c.args.readers ReaderRow (texts c.args.words.now) None _ c.in_err-address-in-reader.ensures c.from_residual-in_err-address-in-reader.ensures)

pub returns-in_ok-address-in-reader : goal.returns-in_ok-address-in-reader
returns-in_ok-address-in-reader c = rw c.in-reader.is (reads_row c.args.readers ReaderRow (texts c.args.words.now) (Some (c.in_ok-address-in-reader.address, c.in_ok-address-in-reader.room)) _ c.in_ok-address-in-reader.ensures refl)

pub returns-in_err-reader-in-issue : goal.returns-in_err-reader-in-issue
returns-in_err-reader-in-issue c = rw c.in-issue.is (reads_row c.args.readers IssueRow (texts c.args.words.now) None _ c.in_err-reader-in-issue.ensures c.from_residual-in_err-reader-in-issue.ensures)

pub returns-in_ok-reader-in-issue : goal.returns-in_ok-reader-in-issue
returns-in_ok-reader-in-issue c = rw c.in-issue.is (reads_row c.args.readers IssueRow (texts c.args.words.now) (Some (c.in_ok-reader-in-issue.reader, c.in_ok-reader-in-issue.command)) _ c.in_ok-reader-in-issue.ensures refl)

pub returns-in_err-reader-in-queue : goal.returns-in_err-reader-in-queue
returns-in_err-reader-in-queue c = rw c.in-queue.is (reads_row c.args.readers QueueRow (texts c.args.words.now) None _ c.in_err-reader-in-queue.ensures c.from_residual-in_err-reader-in-queue.ensures)

pub returns-in_ok-reader-in-queue : goal.returns-in_ok-reader-in-queue
returns-in_ok-reader-in-queue c = rw c.in-queue.is (reads_row c.args.readers QueueRow (texts c.args.words.now) (Some (c.in_ok-reader-in-queue.reader, c.in_ok-reader-in-queue.event)) _ c.in_ok-reader-in-queue.ensures refl)

pub returns-in_err-reader-in-busy : goal.returns-in_err-reader-in-busy
returns-in_err-reader-in-busy c = rw c.in-busy.is (reads_row c.args.readers BusyRow (texts c.args.words.now) None _ c.in_err-reader-in-busy.ensures c.from_residual-in_err-reader-in-busy.ensures)

pub returns-in_ok-reader-in-busy : goal.returns-in_ok-reader-in-busy
returns-in_ok-reader-in-busy c = rw c.in-busy.is (reads_row c.args.readers BusyRow (texts c.args.words.now) (Some (c.in_ok-reader-in-busy.reader, c.in_ok-reader-in-busy.busy)) _ c.in_ok-reader-in-busy.ensures refl)

pub returns-in_err-time-in-wait : goal.returns-in_err-time-in-wait
returns-in_err-time-in-wait c = rw c.in-wait.is (reads_row c.args.readers WaitRow (texts c.args.words.now) None _ c.in_err-time-in-wait.ensures c.from_residual-in_err-time-in-wait.ensures)

pub returns-in_ok-time-in-wait : goal.returns-in_ok-time-in-wait
returns-in_ok-time-in-wait c = rw c.in-wait.is (reads_row c.args.readers WaitRow (texts c.args.words.now) (Some c.in_ok-time-in-wait.time) _ c.in_ok-time-in-wait.ensures (ap (λ n. Some (row_line WaitRow n)) c.from.ensures))

pub returns-in_err-reader-in-reopen : goal.returns-in_err-reader-in-reopen
returns-in_err-reader-in-reopen c = rw c.in-reopen.is (reads_row c.args.readers ReopenRow (texts c.args.words.now) None _ c.in_err-reader-in-reopen.ensures c.from_residual-in_err-reader-in-reopen.ensures)

pub returns-in_ok-reader-in-reopen : goal.returns-in_ok-reader-in-reopen
returns-in_ok-reader-in-reopen c = rw c.in-reopen.is (reads_row c.args.readers ReopenRow (texts c.args.words.now) (Some c.in_ok-reader-in-reopen.reader) _ c.in_ok-reader-in-reopen.ensures refl)

pub returns-in_err-parse_number-in-clean : goal.returns-in_err-parse_number-in-clean
returns-in_err-parse_number-in-clean c = rw c.in-clean.is (reads_row c.args.readers CleanRow (texts c.args.words.now) None _ c.in_err-parse_number-in-clean.ensures c.from_residual-in_err-parse_number-in-clean.ensures)

pub returns-in_ok-parse_number-in-clean : goal.returns-in_ok-parse_number-in-clean
returns-in_ok-parse_number-in-clean c = rw c.in-clean.is (reads_row c.args.readers CleanRow (texts c.args.words.now) (Some c.in_ok-parse_number-in-clean.field-0) _ c.in_ok-parse_number-in-clean.ensures refl)
