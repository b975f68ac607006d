-- Which calls of programs are those of which the laws speak.
use Rattle.osdp_calls_instance.proofs.Common.{refl}
use Rattle.osdp_calls_instance.proofs.Common.{◌≡◌, false}
use Rattle.osdp_c_values.specs.declared.machine.PanelMachine.{PanelMachine}
use Rattle.osdp_calls_instance.specs.CPrograms as c
use Rattle.osdp_calls_instance.specs.Fitting.{CallsForCFit, LinesFit, makes_anew}

pub c_fits : {H : Type 0} → CallsForCFit H
c_fits {H} = record {
  panel = by_call;
  anew = λ config limit entries m. ((λ h. h), (λ h. h));
  two = λ room limit m. (refl, (refl, tt));
  device = λ call m. tt;
}
  where
    by_call : (call : c.PanelCall) (m : PanelMachine) → makes_anew call ≡ false → (c.c_panel {H = H}).Fits call m
    by_call (c.PanelAnew config limit entries) m other = absurd cc
    by_call _ m other = tt

pub lines_fit : {H : Type 0} → LinesFit H
lines_fit = record {
  panel = λ said s. tt;
  anew = λ config entries s. ((λ h. h), (λ h. h));
  two = λ room s. (refl, (refl, tt));
  nothing = λ s. tt;
  device = λ call s. ((λ h. h), (λ h. h));
  device_anew = λ config room gap s. ((λ h. h), (λ h. h));
  leaves = refl;
  taken_back = λ k. refl;
  in_doubt = refl;
  lapses = λ k. refl;
}
