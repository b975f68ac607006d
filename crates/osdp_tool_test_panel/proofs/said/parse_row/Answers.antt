use Rattle.osdp_tool_test_panel.proofs.Common.{Some, None, ap, codes, option_map, refl, made_row_read, texts, SaidFits, device, said_fields, said_name, said_of, skips}
use Rattle.osdp_tool_test_panel.proofs.Rows.{is_device, is_skips}
use Rattle.osdp_tool_test_panel.proofs.said.parse_row.Goals as goal

pub returns-in_err-parse_device-in-device : goal.returns-in_err-parse_device-in-device
returns-in_err-parse_device-in-device c =
    rw c.in-device.is (made_row_read said_name said_fields SaidFits (codes "device") device (λ x. refl) is_device (texts c.args.words.now) None _ c.in_err-parse_device-in-device.ensures (ap (option_map said_of) c.from_residual.ensures))

pub returns-in_ok-parse_device-in-device : goal.returns-in_ok-parse_device-in-device
returns-in_ok-parse_device-in-device c =
    rw c.in-device.is (made_row_read said_name said_fields SaidFits (codes "device") device (λ x. refl) is_device (texts c.args.words.now) (Some c.in_ok-parse_device-in-device.field-0) _ c.in_ok-parse_device-in-device.ensures refl)

pub returns-in_err-parse_skip-in-skips : goal.returns-in_err-parse_skip-in-skips
returns-in_err-parse_skip-in-skips c =
    rw c.in-skips.is (made_row_read said_name said_fields SaidFits (codes "skips") skips (λ x. refl) is_skips (texts c.args.words.now) None _ c.in_err-parse_skip-in-skips.ensures (ap (option_map said_of) c.from_residual-in_err-parse_skip-in-skips.ensures))
