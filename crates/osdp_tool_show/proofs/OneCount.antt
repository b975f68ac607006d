-- A line of counts is that of one count of each.
use Rattle.osdp_tool_show.proofs.Common.{drop, inl, lit<, ap, HasOneCount}
use Rattle.osdp_tool_show.proofs.Cuts.{cut_decimal}

pub one_count : HasOneCount
one_count runs packets skipped refused other_runs other_packets other_skipped other_refused h k e =
    let r = cut_decimal 32 runs other_runs _ _ (inl (lit< tt)) h.0 k.0 (ap (drop 5) e) in
    let p = cut_decimal 32 packets other_packets _ _ (inl (lit< tt)) h.1.0 k.1.0 (ap (drop 8) r.1) in
    let s = cut_decimal 32 skipped other_skipped _ _ (inl (lit< tt)) h.1.1.0 k.1.1.0 (ap (drop 8) p.1) in
    let f = cut_decimal 10 refused other_refused _ _ (inl (lit< tt)) h.1.1.1.0 k.1.1.1.0 (ap (drop 8) s.1) in
    (r.0, p.0, s.0, f.0)
