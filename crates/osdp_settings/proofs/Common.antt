-- The names that most proofs of this crate cite, passed on from one place. Declares nothing.
pub use Rattle.std.proofs.Common.{[], ap, append_assoc, length, List, None, Option, refl, Some, subst, sym, ℕ, ◌++◌, ◌∙◌, ◌∷◌, ◌≡◌}
pub use Rattle.std.specs.Prelude.{option_and_then}
pub use Rattle.osdp_words.specs.Reading.{ReadsWords}
pub use Rattle.osdp_words.specs.Word.{AllStandFor, texts, Word}
pub use Rattle.osdp_settings.specs.Settings.{after, Entry, Give, Make, ReadsSettings, setting_words, SettingFits}
pub use Rattle.osdp_settings.specs.Wrong.{Begin, IsNoSetting, IsTold, LacksRoom, LacksValue, Told}
