-- Settings within their ranges keep what is set within them.
use Rattle.osdp_line_calls.proofs.Common.{◌≡◌, Bool, true, false, refl, subst, ap, arith, Some, None, if◌then◌else◌, Crc, IsBusConfig, IsConfig, some_same}
use Rattle.osdp_bus.specs.declared.config.BusConfig.{BusConfig}
use Rattle.osdp_bus.proofs.Defaults as by_default
use Rattle.osdp_msg.specs.declared.limits.Room.{Room}
use Rattle.osdp_msg.specs.Limits.{room_for}
use Rattle.osdp_line_calls.specs.declared.panel_command.PanelSetting.{PanelSetting}
use Rattle.osdp_line_calls.specs.declared.panel_command.PanelSetting.TheVariants.{Check, ReplyWait, PollInterval, Sends, BusyWait, BusyLimit, QuietWait, Gap, Capacity}
use Rattle.osdp_line_calls.specs.declared.reader_command.ReaderSetting.{ReaderSetting}
use Rattle.osdp_line_calls.specs.declared.reader_command.ReaderSetting.TheVariants as reader
use Rattle.osdp_line_calls.specs.declared.reader_command.ReaderSettings.{ReaderSettings}
use Rattle.osdp_settings.specs.Settings.{SettingFits}
use Rattle.osdp_line_calls.specs.PanelSettings as panel
use Rattle.osdp_line_calls.specs.ReaderSettings as of_reader

with_config : (c d : BusConfig) → IsBusConfig c → IsConfig (record {
  address = 0;
  check = d.check;
  reply_wait = d.reply_wait;
  poll_interval = d.poll_interval;
  sends = d.sends;
  busy_wait = d.busy_wait;
  busy_limit = d.busy_limit;
  quiet_wait = d.quiet_wait;
  poll_between_orders = d.poll_between_orders;
}) → d.gap ≡ c.gap → d.room ≡ c.room → IsBusConfig d
with_config c d h config gap room = record {
  controllers =
      let messages = ap (λ (r : Room). r.messages) room in
      let bytes = ap (λ (r : Room). r.bytes) room in
      record {
        config_in_range = config;
        room = omega (arith, h.controllers.room, messages);
        limit = omega (arith, h.controllers.limit, messages);
        bytes = (omega (arith, h.controllers.bytes.0, bytes), omega (arith, h.controllers.bytes.1, bytes));
      };
  gap = (omega (arith, h.gap.0, gap), omega (arith, h.gap.1, gap));
}

pub set_in_range : (s : PanelSetting) (c : BusConfig) → SettingFits panel.entry s → IsBusConfig c → IsBusConfig (panel.with_setting s c)
set_in_range (Check kind) c fits h =
    let k = h.controllers.config_in_range in
    with_config c _ h (record { address = k.address; reply_wait = k.reply_wait; poll_interval = k.poll_interval; busy_wait = k.busy_wait; quiet_wait = k.quiet_wait; sends = k.sends; busy_limit = k.busy_limit }) refl refl
set_in_range (ReplyWait n) c fits h =
    let k = h.controllers.config_in_range in
    with_config c _ h (record { address = k.address; reply_wait = fits; poll_interval = k.poll_interval; busy_wait = k.busy_wait; quiet_wait = k.quiet_wait; sends = k.sends; busy_limit = k.busy_limit }) refl refl
set_in_range (PollInterval n) c fits h =
    let k = h.controllers.config_in_range in
    with_config c _ h (record { address = k.address; reply_wait = k.reply_wait; poll_interval = fits; busy_wait = k.busy_wait; quiet_wait = k.quiet_wait; sends = k.sends; busy_limit = k.busy_limit }) refl refl
set_in_range (Sends n) c fits h =
    let k = h.controllers.config_in_range in
    with_config c _ h (record { address = k.address; reply_wait = k.reply_wait; poll_interval = k.poll_interval; busy_wait = k.busy_wait; quiet_wait = k.quiet_wait; sends = fits; busy_limit = k.busy_limit }) refl refl
set_in_range (BusyWait n) c fits h =
    let k = h.controllers.config_in_range in
    with_config c _ h (record { address = k.address; reply_wait = k.reply_wait; poll_interval = k.poll_interval; busy_wait = fits; quiet_wait = k.quiet_wait; sends = k.sends; busy_limit = k.busy_limit }) refl refl
set_in_range (BusyLimit n) c fits h =
    let k = h.controllers.config_in_range in
    with_config c _ h (record { address = k.address; reply_wait = k.reply_wait; poll_interval = k.poll_interval; busy_wait = k.busy_wait; quiet_wait = k.quiet_wait; sends = k.sends; busy_limit = omega (arith, fits) }) refl refl
set_in_range (QuietWait n) c fits h =
    let k = h.controllers.config_in_range in
    with_config c _ h (record { address = k.address; reply_wait = k.reply_wait; poll_interval = k.poll_interval; busy_wait = k.busy_wait; quiet_wait = fits; sends = k.sends; busy_limit = k.busy_limit }) refl refl
set_in_range (Gap n) c fits h = record { controllers = h.controllers; gap = fits }
set_in_range (Capacity n) c fits h = record { controllers = record { config_in_range = h.controllers.config_in_range; room = fits.0; limit = fits.1; bytes = (omega (arith, fits.0), omega (arith, fits.1)) }; gap = h.gap }

-- ---- readers

capability_in_range : (b : Bool) (r d e : ReaderSettings) → (if b then Some d else None) ≡ Some e → of_reader.AreInRange d → of_reader.AreInRange e
capability_in_range true r d e is h = subst of_reader.AreInRange (some_same d e is) h
capability_in_range false r d e is h = absurd (none_some e is)
  where
    none_some : (x : ReaderSettings) → None ≡ Some x → ⊥
    none_some x n = cc

pub put_in_range : (s : ReaderSetting) (r e : ReaderSettings) → SettingFits of_reader.entry s → of_reader.put s r ≡ Some e → of_reader.AreInRange r → of_reader.AreInRange e
put_in_range (reader.At address) r e fits is h = subst of_reader.AreInRange (some_same _ e is) (record { address = fits; room = h.room; gap = h.gap; expire = h.expire })
put_in_range (reader.Cap ns) r e fits is h = capability_in_range _ r _ e is (record { address = h.address; room = h.room; gap = h.gap; expire = h.expire })
put_in_range (reader.Room n) r e fits is h = subst of_reader.AreInRange (some_same _ e is) (record { address = h.address; room = fits; gap = h.gap; expire = h.expire })
put_in_range (reader.Gap n) r e fits is h = subst of_reader.AreInRange (some_same _ e is) (record { address = h.address; room = h.room; gap = fits; expire = h.expire })
put_in_range (reader.Expire n) r e fits is h = subst of_reader.AreInRange (some_same _ e is) (record { address = h.address; room = h.room; gap = h.gap; expire = fits })
put_in_range _ r e fits is h = subst of_reader.AreInRange (some_same _ e is) (record { address = h.address; room = h.room; gap = h.gap; expire = h.expire })

-- what is set without settings
pub bus_in_range : IsBusConfig panel.defaults.config
bus_in_range = by_default.bus_in_range Crc (room_for 64) 3 ((omega arith, omega arith), omega arith, omega arith) (omega arith, omega arith)

pub reader_in_range : of_reader.AreInRange of_reader.defaults
reader_in_range = record { address = omega arith; room = (omega arith, omega arith); gap = (omega arith, omega arith); expire = omega arith }
