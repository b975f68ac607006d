use Rattle.osdp_c_values.proofs.Common.{◌++◌, ap, sym, number}
use Rattle.osdp_c_values.proofs.Putting.{put_then, words_following}
use Rattle.osdp_c_values.proofs.pieces.put_plain.Goals as goal

pub returns : goal.returns
returns c =
    put_then _ c.put_numbers.result c.put_numbers.new.out _ _ c.in_ok-first.ensures
    (ap (λ l. c.args.name.now ++ l) (sym (words_following number c.args.numbers.now))) c.put_numbers.ensures
