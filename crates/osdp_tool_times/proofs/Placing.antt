-- Where the first packet of a run begins.
use Rattle.osdp_tool_times.proofs.Common.{◌==◌, ◌∷◌, ◌++◌, Some, length, length-append, get_or, refl, sym, ap, ◌∙◌, arith, eqb-true, is_byte, IsFirstByte-value}
use Rattle.std.proofs.lemmas.List.{get_or_append_left}
use Rattle.std.proofs.Math.Seq.{get_or-append_seam}
use Rattle.osdp_tool_times.specs.Captures.{place_or}
use Rattle.osdp_tool_times.specs.MomentLaws.{PlacesTheFirst}

pub places_first : PlacesTheFirst
places_first before rest none =
    let run = before ++ 83 ∷ rest in
    let size = length-append before (83 ∷ rest) in
    sym (ap place_or (IsFirstByte-value (is_byte 83) run (Some (length before)) (
      record {
        low = omega arith;
        high = omega (arith, size);
        before = λ k low below passes. none k below (sym (get_or_append_left before (83 ∷ rest) 0 k below) ∙ eqb-true (get_or run k 0) 83 passes);
      },
      ap (λ b. b == 83) (get_or-append_seam before 83 rest 0),
    )))
