use Rattle.std.proofs.Common.{[], ◌∷◌, ◌++◌, ◌∙◌, sym, ap, append-nil, string_bytes}
use Rattle.osdp_tool_show.proofs.HexText.{encode_upper-more, encode_upper-done}
use Rattle.osdp_tool_show.proofs.hex_text.push_bytes.Goals as goal

pub loop-byte-preserved : goal.loop-byte-preserved
loop-byte-preserved c =
    encode_upper-more (string_bytes c.args.text.now) (string_bytes c.loop-byte.text) (string_bytes c.push.new.self)
    (string_bytes c.push-in-loop-byte.new.self) c.args.bytes.now c.loop-byte.byte-index c.loop-byte-test.true c.loop-byte.invariant
    (c.in_ok-push.ensures.bytes ∙ ap (λ l. string_bytes c.loop-byte.text ++ l) (c.in_ok-push.ensures.ascii c.digit.ensures.ascii ∙ ap (λ d. d ∷ []) c.digit.ensures.digit))
    (c.in_ok-push-2.ensures.bytes ∙ ap (λ l. string_bytes c.push.new.self ++ l) (c.in_ok-push-2.ensures.ascii c.digit-in-loop-byte.ensures.ascii ∙ ap (λ d. d ∷ []) c.digit-in-loop-byte.ensures.digit))

pub returns : goal.returns
returns c =
    sym (append-nil (string_bytes c.loop-byte.text)) ∙ ap (λ l. string_bytes c.loop-byte.text ++ l) (sym (encode_upper-done c.args.bytes.now c.loop-byte.byte-index c.loop-byte-test.false))
    ∙ c.loop-byte.invariant
