use Rattle.osdp_msg.proofs.ParsedRows.{pd_id_no_firmware, pd_id_no_model, pd_id_no_serial, pd_id_no_vendor, pd_id_whole}
use Rattle.osdp_msg.proofs.reply_fields.PdId.parse.Goals as goal

pub returns-in_err-vendor : goal.returns-in_err-vendor
returns-in_err-vendor c = pd_id_no_vendor _ _ _ c.in_err-vendor.ensures c.from_residual.ensures

pub returns-in_err-model : goal.returns-in_err-model
returns-in_err-model c =
    pd_id_no_model _ _ _ _ _ c.in_ok-vendor.ensures c.in_err-model.ensures c.from_residual-in_err-model.ensures

pub returns-in_err-serial : goal.returns-in_err-serial
returns-in_err-serial c =
    pd_id_no_serial _ _ _ _ _ _ _ c.in_ok-vendor.ensures c.in_ok-model.ensures c.in_err-serial.ensures c.from_residual-in_err-serial.ensures

pub returns-in_err-firmware_major : goal.returns-in_err-firmware_major
returns-in_err-firmware_major c =
    pd_id_no_firmware _ _ _ _ _ _ _ _ _ c.in_ok-vendor.ensures c.in_ok-model.ensures c.in_ok-serial.ensures c.in_err-firmware_major.ensures c.from_residual-in_err-firmware_major.ensures

pub returns : goal.returns
returns c =
    pd_id_whole _ _ _ _ _ _ _ _ _ _ _ c.in_ok-vendor.ensures c.in_ok-model.ensures c.in_ok-serial.ensures c.in_ok-firmware_major.ensures c.is_empty.ensures c.then_some.ensures
