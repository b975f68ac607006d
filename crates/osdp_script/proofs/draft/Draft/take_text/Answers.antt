use Rattle.osdp_script.proofs.Common.{rules, ◌≡◌, None, ap, length, subst, ◌∙◌, ReadsWords, texts, words_in, plan_of, LineFits, line_words}
use Rattle.osdp_script.proofs.Judging.{unread}
use Rattle.osdp_script.proofs.draft.Draft.take_text.Goals as goal

pub returns-in-None : goal.returns-in-None
returns-in-None c =
    let given = subst (λ given. ReadsWords line_words (LineFits c.len.result) given None) (ap texts c.deref.ensures.value ∙ c.in_ok-words.ensures) c.in-None.ensures in
    let count : c.len.result ≡ length c.args.self.now.readers.items = search rules in
    unread (plan_of c.args.self.now) c.args.text.now (subst (λ count. ReadsWords line_words (LineFits count) (words_in c.args.text.now) None) count given)
