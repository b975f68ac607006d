use Rattle.osdp_c_values.proofs.Common.{◌≡◌, ◌++◌, [], ◌∷◌, List, ℕ, codes, map, ap, ◌∙◌, bytes, number, following}
use Rattle.osdp_c_values.proofs.Putting.{numbers_then, put_after_two}
use Rattle.osdp_c_values.proofs.reply_texts.put_pd_id.Goals as goal

pub returns : goal.returns
returns c =
    let told = c.args.pd_id.now in
    let put : List ℕ = c.from.result ∷ c.from-2.result ∷ c.from-3.result ∷ c.from-4.result ∷ c.from-5.result ∷ c.from-6.result ∷ [] in
    let same : put ≡ told.model ∷ told.version ∷ told.serial ∷ told.firmware_major ∷ told.firmware_minor ∷ told.firmware_build ∷ [] =
    cc (c.from.ensures, c.from-2.ensures, c.from-3.ensures, c.from-4.ensures, c.from-5.ensures, c.from-6.ensures) in
    put_after_two _ c.put_numbers.result c.put_numbers.new.out _ _ c.in_ok-vendor.ensures c.in_ok-others.ensures
    (ap (λ l. codes "PDID" ++ l) (numbers_then (bytes told.vendor) put ∙ ap (λ ns. following (bytes told.vendor ∷ map number ns)) same)) c.put_numbers.ensures
