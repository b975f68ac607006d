use Rattle.osdp_c_values.proofs.Common.{◌≡◌, ◌++◌, [], ◌∷◌, ap, ◌∙◌, bytes, following}
use Rattle.osdp_c_values.proofs.Putting.{put_after_two, word_then}
use Rattle.osdp_c_values.proofs.command_texts.put_maker.Goals as goal

pub returns : goal.returns
returns c =
    let told = c.args.message.now in
    let vendor : c.vendor.result ≡ told.vendor = c.vendor.ensures in
    let rest : c.bytes.result.now ≡ told.bytes.items = c.bytes.ensures.value in
    put_after_two _ c.put_list-2.result c.put_list-2.new.out _ _ c.in_ok-vendor.ensures c.in_ok-bytes.ensures
    (ap (λ l. c.args.name.now ++ l) (word_then (bytes c.vendor.result) (bytes c.bytes.result.now)
    ∙ ap (λ v. following (bytes v ∷ bytes c.bytes.result.now ∷ [])) vendor ∙ ap (λ b. following (bytes told.vendor ∷ bytes b ∷ [])) rest)) c.put_list-2.ensures
