use Rattle.std.proofs.Common.{sym, ◌∙◌, rules}
use Rattle.osdp_words.proofs.Cutting.{begins_with, cuts_once, no_word, one_word, passed_over}
use Rattle.osdp_words.proofs.splitting.first_word.Goals as goal

pub returns-then-not-is_empty : goal.returns-then-not-is_empty
returns-then-not-is_empty c =
    let cut = rw c.in-Some.is at (cuts_once c.parts.rest.now c.split_once.result c.split_once.ensures.cases) in
    c.parts.invariant.0 ∙ begins_with c.parts.rest.now c.in-Some.part.now c.in-Some.more.now cut (sym c.is_empty.ensures ∙ c.if-not-is_empty.true)

pub parts-preserved : goal.parts-preserved
parts-preserved c =
    let cut = rw c.in-Some.is at (cuts_once c.parts.rest.now c.split_once.result c.split_once.ensures.cases) in
    (c.parts.invariant.0 ∙ passed_over c.parts.rest.now c.in-Some.part.now c.in-Some.more.now cut (sym c.is_empty.ensures ∙ c.if-not-is_empty.false), search rules)

pub returns-then-is_empty : goal.returns-then-is_empty
returns-then-is_empty c =
    let cut = rw c.in_default.is at (cuts_once c.parts.rest.now c.split_once.result c.split_once.ensures.cases) in
    c.parts.invariant.0 ∙ no_word c.parts.rest.now cut (sym c.is_empty-2.ensures ∙ c.if-is_empty.true)

pub returns : goal.returns
returns c =
    let cut = rw c.in_default.is at (cuts_once c.parts.rest.now c.split_once.result c.split_once.ensures.cases) in
    c.parts.invariant.0 ∙ one_word c.parts.rest.now cut (sym c.is_empty-2.ensures ∙ c.if-is_empty.false)
