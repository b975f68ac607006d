use Rattle.osdp_refused_words.proofs.Common.{rules, ◌↔◌, Bool, IsTrue, sym, subst, LedFits, OutputFits, led_word, output_word, CapabilityFits, capability_word, SlotTakes, Text, Number, Bytes, Output, Led, Capability}
use Rattle.osdp_refused_words.proofs.Taking.{read_one, same_slot}
use Rattle.osdp_refused_words.proofs.slot.Slot.takes.Goals as goal

pub returns-in-Text : goal.returns-in-Text
returns-in-Text c = same_slot c.args.self (Text c.in-Text.text) c.args.word.now _ c.in-Text.is (search rules)

pub returns-in-Number : goal.returns-in-Number
returns-in-Number c = same_slot c.args.self (Number c.in-Number.least c.in-Number.most) c.args.word.now c.is_number.result c.in-Number.is c.is_number.ensures

pub returns-in-Bytes : goal.returns-in-Bytes
returns-in-Bytes c = same_slot c.args.self (Bytes c.in-Bytes.least c.in-Bytes.most) c.args.word.now c.is_list.result c.in-Bytes.is c.is_list.ensures

pub returns-in-Output : goal.returns-in-Output
returns-in-Output c =
    same_slot c.args.self Output c.args.word.now c.is_some.result c.in-Output.is
    (subst (λ (b : Bool). IsTrue b ↔ SlotTakes Output c.args.word.now) (sym c.is_some.ensures) (read_one output_word OutputFits c.args.word.now c.parse.result c.parse.ensures))

pub returns-in-Led : goal.returns-in-Led
returns-in-Led c =
    same_slot c.args.self Led c.args.word.now c.is_some-in-Led.result c.in-Led.is
    (subst (λ (b : Bool). IsTrue b ↔ SlotTakes Led c.args.word.now) (sym c.is_some-in-Led.ensures) (read_one led_word LedFits c.args.word.now c.parse-in-Led.result c.parse-in-Led.ensures))

pub returns-in-Capability : goal.returns-in-Capability
returns-in-Capability c =
    same_slot c.args.self Capability c.args.word.now c.is_some-in-Capability.result c.in-Capability.is
    (subst (λ (b : Bool). IsTrue b ↔ SlotTakes Capability c.args.word.now) (sym c.is_some-in-Capability.ensures) (read_one capability_word CapabilityFits c.args.word.now c.parse-in-Capability.result c.parse-in-Capability.ensures))
