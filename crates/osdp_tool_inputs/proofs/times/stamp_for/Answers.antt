use Rattle.osdp_tool_inputs.proofs.Common.{◌<◌, ℕ, List, Bor, arith, sym, length, length-map, parts, run_of}
use Rattle.osdp_tool_inputs.proofs.Stamps.{beyond}
use Rattle.osdp_tool_inputs.proofs.times.stamp_for.Goals as goal

pub returns-in-None : goal.returns-in-None
returns-in-None c = sym (beyond (run_of c.args.line.now) (parts c.args.stamps.now) (fewer c.args.stamps.now c.in-None.ensures))
  where
    fewer : {n : ℕ} (stamps : List (Bor (List ℕ))) → length stamps < n → length (parts stamps) < n
    fewer stamps h = let same = length-map stamps (λ (part : Bor (List ℕ)). part.now) in omega arith
