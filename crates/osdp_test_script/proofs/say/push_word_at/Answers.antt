use Rattle.osdp_test_script.proofs.Common.{◌≡◌, ◌++◌, List, ℕ, OnOk, Option, ap, ◌∙◌, string_bytes, subst, text_in, wrong_word_text}
use Rattle.osdp_test_script.proofs.WordTexts.{word_at}
use Rattle.osdp_test_script.proofs.say.push_word_at.Goals as goal

pub returns : goal.returns
returns c =
    subst (λ (o : Option (List ℕ)). OnOk c.push_wrong.result (string_bytes c.push_wrong.new.text ≡ string_bytes c.args.text.now ++ wrong_word_text c.args.place o))
    (ap text_in c.copied.ensures ∙ word_at c.args.words.now c.args.place c.get.result c.get.ensures.lookup.3) c.push_wrong.ensures
