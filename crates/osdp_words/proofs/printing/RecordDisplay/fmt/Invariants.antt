use Rattle.osdp_words.proofs.Common.{take, ◌∷◌, HasWritten, IsPlainFormatter, decimal, flat_map}
use Rattle.osdp_words.proofs.printing.RecordDisplay.fmt.Given as goal

abbrev pub invariant-loop-number : goal.invariant-loop-number
invariant-loop-number g l =
    IsPlainFormatter l.initial.f → HasWritten g.W.Write.write_str_gives l.initial.f (flat_map (λ n. 58 ∷ decimal n) (take l.number-index l.others)) l.f
