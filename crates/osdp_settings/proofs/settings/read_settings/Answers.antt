use Rattle.osdp_settings.proofs.Common.{refl, sym, texts, SettingFits, setting_words}
use Rattle.osdp_settings.proofs.FirstWrong.{begin_alone, begin_two, known_at_first, known_more, none_stands}
use Rattle.osdp_settings.proofs.Reading.{no_value, none_left, none_put, none_read}
use Rattle.osdp_settings.proofs.settings.read_settings.Goals as goal

pub settings-init : goal.settings-init
settings-init g c = (
  c.default_settings-settings.ensures.range,
  known_at_first (setting_words g.C.Configured.entry) (SettingFits g.C.Configured.entry) g.C.Configured.put g.C.Configured.defaults _ _ _ c.new-fields.ensures c.default_settings-settings.ensures.defaults,
)

pub returns-in_default-word-clause-reads : goal.returns-in_default-word-clause-reads
returns-in_default-word-clause-reads g c = no_value g.C.Configured.entry g.C.Configured.put g.C.Configured.defaults (texts c.args.words.now) _ _ _ _ c.settings.invariant.1.stands c.in-Some.ensures c.in_default-word.ensures

pub returns-in_default-word-clause-wrong : goal.returns-in_default-word-clause-wrong
returns-in_default-word-clause-wrong g c = (
  c.settings.settings,
  begin_alone g.C.Configured.entry g.C.Configured.put g.C.Configured.defaults (texts c.args.words.now) _ _ _ _ c.settings.invariant.1.begins c.in-Some.ensures c.in_default-word.ensures,
)

pub returns-in_default-parse-clause-reads : goal.returns-in_default-parse-clause-reads
returns-in_default-parse-clause-reads g c = none_read g.C.Configured.entry g.C.Configured.put g.C.Configured.defaults (texts c.args.words.now) _ _ _ _ _ _ c.settings.invariant.1.stands c.in-Some.ensures c.in-Some-word.ensures c.in_default-parse.ensures

pub returns-in_default-parse-clause-wrong : goal.returns-in_default-parse-clause-wrong
returns-in_default-parse-clause-wrong g c = (
  c.settings.settings,
  _,
  begin_two g.C.Configured.entry g.C.Configured.put g.C.Configured.defaults (texts c.args.words.now) _ _ _ _ _ _ c.settings.invariant.1.begins c.in-Some.ensures c.in-Some-word.ensures,
  none_stands g.C.Configured.entry g.C.Configured.put g.C.Configured.defaults (texts c.args.words.now) _ _ c.in_default-parse.ensures,
)

pub returns-in_default-set-clause-reads : goal.returns-in_default-set-clause-reads
returns-in_default-set-clause-reads g c = none_put g.C.Configured.entry g.C.Configured.put g.C.Configured.defaults (texts c.args.words.now) _ _ _ _ _ _ _ c.settings.invariant.1.stands c.in-Some.ensures c.in-Some-word.ensures c.in-Some-parse.ensures (sym c.in_default-set.ensures.put)

pub returns-in_default-set-clause-wrong : goal.returns-in_default-set-clause-wrong
returns-in_default-set-clause-wrong g c = (
  c.settings.settings,
  _,
  begin_two g.C.Configured.entry g.C.Configured.put g.C.Configured.defaults (texts c.args.words.now) _ _ _ _ _ _ c.settings.invariant.1.begins c.in-Some.ensures c.in-Some-word.ensures,
  (c.in-Some-parse.setting, c.in-Some-parse.ensures.value.1, c.in-Some-parse.ensures.value.0, sym c.in_default-set.ensures.put),
)

pub settings-preserved : goal.settings-preserved
settings-preserved g c = (
  c.in-Some-set.ensures.range c.in-Some-set.set c.in-Some-parse.ensures.value.1 refl c.settings.invariant.0,
  known_more g.C.Configured.entry g.C.Configured.put g.C.Configured.defaults (texts c.args.words.now) _ _ _ _ _ _ _ _ c.settings.invariant.1 c.in-Some.ensures c.in-Some-word.ensures c.in-Some-parse.ensures (sym c.in-Some-set.ensures.put),
)

pub returns-clause-reads : goal.returns-clause-reads
returns-clause-reads g c = none_left g.C.Configured.entry g.C.Configured.put g.C.Configured.defaults (texts c.args.words.now) _ _ c.settings.invariant.1.stands c.in_default.ensures
