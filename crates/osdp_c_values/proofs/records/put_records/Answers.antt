use Rattle.std.proofs.Common.{◌++◌, ap, sym}
use Rattle.osdp_c_values.proofs.Putting.{put_then, words_following}
use Rattle.osdp_c_values.proofs.records.put_records.Goals as goal

pub returns : goal.returns
returns g c =
    put_then _ c.put_words.result c.put_words.new.out _ _ c.in_ok-first.ensures
    (ap (λ l. c.args.name.now ++ l) (sym (words_following g.R.Recorded.put_as c.args.records))) c.put_words.ensures
