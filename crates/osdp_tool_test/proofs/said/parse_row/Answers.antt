use Rattle.std.proofs.Common.{Some, None, ap, codes, option_map, refl}
use Rattle.osdp_tool_test.proofs.Common.{made_row_read, texts, SaidFits, asks, breaks, device, keeps, opens, said_fields, said_name, said_of, skip_of, skips, times}
use Rattle.osdp_tool_test.proofs.Rows.{is_asks, is_breaks, is_device, is_keeps, is_opens, is_skips, is_times}
use Rattle.osdp_tool_test.proofs.said.parse_row.Goals as goal

pub returns-in_ok-parse_device-in-device : goal.returns-in_ok-parse_device-in-device
returns-in_ok-parse_device-in-device c =
    rw c.in-device.is (made_row_read said_name said_fields SaidFits (codes "device") device (λ x. refl) is_device (texts c.args.words.now) (Some c.in_ok-parse_device-in-device.field-0) _ c.in_ok-parse_device-in-device.ensures refl)

pub returns-in_ok-parse_exchange-in-opens : goal.returns-in_ok-parse_exchange-in-opens
returns-in_ok-parse_exchange-in-opens c =
    rw c.in-opens.is (made_row_read said_name said_fields SaidFits (codes "opens") opens (λ x. refl) is_opens (texts c.args.words.now) (Some c.in_ok-parse_exchange-in-opens.field-0) _ c.in_ok-parse_exchange-in-opens.ensures refl)

pub returns-in_ok-parse_exchange-in-asks : goal.returns-in_ok-parse_exchange-in-asks
returns-in_ok-parse_exchange-in-asks c =
    rw c.in-asks.is (made_row_read said_name said_fields SaidFits (codes "asks") asks (λ x. refl) is_asks (texts c.args.words.now) (Some c.in_ok-parse_exchange-in-asks.field-0) _ c.in_ok-parse_exchange-in-asks.ensures refl)

pub returns-in_ok-parse_skip-in-skips : goal.returns-in_ok-parse_skip-in-skips
returns-in_ok-parse_skip-in-skips c =
    rw c.in-skips.is (made_row_read said_name said_fields SaidFits (codes "skips") skips (λ x. refl) is_skips (texts c.args.words.now) (Some (skip_of c.in_ok-parse_skip-in-skips.field-0)) _ c.in_ok-parse_skip-in-skips.ensures refl)

pub returns-in_ok-parse_skip-in-breaks : goal.returns-in_ok-parse_skip-in-breaks
returns-in_ok-parse_skip-in-breaks c =
    rw c.in-breaks.is (made_row_read said_name said_fields SaidFits (codes "breaks") breaks (λ x. refl) is_breaks (texts c.args.words.now) (Some (skip_of c.in_ok-parse_skip-in-breaks.field-0)) _ c.in_ok-parse_skip-in-breaks.ensures refl)

pub returns-in_ok-parse_number-in-times : goal.returns-in_ok-parse_number-in-times
returns-in_ok-parse_number-in-times c =
    rw c.in-times.is (made_row_read said_name said_fields SaidFits (codes "times") times (λ x. refl) is_times (texts c.args.words.now) (Some c.in_ok-parse_number-in-times.field-0) _ c.in_ok-parse_number-in-times.ensures refl)

pub returns-in_ok-parse_number-in-keeps : goal.returns-in_ok-parse_number-in-keeps
returns-in_ok-parse_number-in-keeps c =
    rw c.in-keeps.is (made_row_read said_name said_fields SaidFits (codes "keeps") keeps (λ x. refl) is_keeps (texts c.args.words.now) (Some c.in_ok-parse_number-in-keeps.field-0) _ c.in_ok-parse_number-in-keeps.ensures refl)

pub returns-in_err-parse_device-in-device : goal.returns-in_err-parse_device-in-device
returns-in_err-parse_device-in-device c =
    rw c.in-device.is (made_row_read said_name said_fields SaidFits (codes "device") device (λ x. refl) is_device (texts c.args.words.now) None _ c.in_err-parse_device-in-device.ensures (ap (option_map said_of) c.from_residual.ensures))

pub returns-in_err-parse_skip-in-skips : goal.returns-in_err-parse_skip-in-skips
returns-in_err-parse_skip-in-skips c =
    rw c.in-skips.is (made_row_read said_name said_fields SaidFits (codes "skips") skips (λ x. refl) is_skips (texts c.args.words.now) None _ c.in_err-parse_skip-in-skips.ensures (ap (option_map said_of) c.from_residual-in_err-parse_skip-in-skips.ensures))

pub returns-in_err-parse_skip-in-breaks : goal.returns-in_err-parse_skip-in-breaks
returns-in_err-parse_skip-in-breaks c =
    rw c.in-breaks.is (made_row_read said_name said_fields SaidFits (codes "breaks") breaks (λ x. refl) is_breaks (texts c.args.words.now) None _ c.in_err-parse_skip-in-breaks.ensures (ap (option_map said_of) c.from_residual-in_err-parse_skip-in-breaks.ensures))

pub returns-in_err-parse_number-in-times : goal.returns-in_err-parse_number-in-times
returns-in_err-parse_number-in-times c =
    rw c.in-times.is (made_row_read said_name said_fields SaidFits (codes "times") times (λ x. refl) is_times (texts c.args.words.now) None _ c.in_err-parse_number-in-times.ensures (ap (option_map said_of) c.from_residual-in_err-parse_number-in-times.ensures))

pub returns-in_err-parse_number-in-keeps : goal.returns-in_err-parse_number-in-keeps
returns-in_err-parse_number-in-keeps c =
    rw c.in-keeps.is (made_row_read said_name said_fields SaidFits (codes "keeps") keeps (λ x. refl) is_keeps (texts c.args.words.now) None _ c.in_err-parse_number-in-keeps.ensures (ap (option_map said_of) c.from_residual-in_err-parse_number-in-keeps.ensures))
