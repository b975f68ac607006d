use Rattle.osdp_settings.proofs.Common.{length, texts, SettingFits, setting_words}
use Rattle.osdp_settings.proofs.FirstWrong.{Known}
use Rattle.osdp_settings.proofs.settings.read_settings.Given as goal

-- what is set so far, and the words that are left
abbrev pub invariant-settings : goal.invariant-settings
invariant-settings g l =
    g.C.Configured.is_in_range l.settings
    × Known (setting_words g.C.Configured.entry) (SettingFits g.C.Configured.entry) g.C.Configured.put g.C.Configured.defaults (texts l.fn.words) l.fields l.settings

abbrev pub decreases-settings : goal.decreases-settings
decreases-settings g l = length l.fields
