-- The diagnoses of the devices, one after the other.
use Rattle.osdp_tool_monitor.proofs.Common.{◌≡◌, ℕ, ◌+◌, ◌<◌, ◌≤◌, List, [], ◌∷◌, ◌++◌, length, get_or, drop, Result, Ok, Err, OnOk, refl, sym, ◌∙◌, ap, append_assoc, append-nil, drop_all, drop_more, Counts}
use Rattle.osdp_tool_monitor.specs.declared.diagnosis.Survey.{Survey}
use Rattle.osdp_tool_monitor.specs.Diagnoses.{add, device_lines, lines_from}
use Rattle.osdp_tool_monitor.specs.InTurn.{after_all}

lines_cons : (s : Survey) (k : ℕ) (c : Counts) (counts : List Counts) → lines_from s k (c ∷ counts) ≡ device_lines s k c ++ lines_from s (k + 1) counts
unfolding lines_from
lines_cons s k c counts = refl

lines_nil : (s : Survey) (k : ℕ) → lines_from s k [] ≡ []
unfolding lines_from
lines_nil s k = refl

pub lines_step : (s : Survey) (before after all : List ℕ) (counts : List Counts) (k : ℕ) (c : Counts) → k < length counts → c ≡ get_or counts k c
    → after ≡ before ++ device_lines s k c → before ++ lines_from s k (drop k counts) ≡ all → after ++ lines_from s (k + 1) (drop (k + 1) counts) ≡ all
lines_step s before after all counts k c within is wrote so_far =
    let split : drop k counts ≡ c ∷ drop (k + 1) counts = drop_more counts k c within ∙ ap (λ (x : Counts). x ∷ drop (k + 1) counts) (sym is) in
    let rest : lines_from s k (drop k counts) ≡ device_lines s k c ++ lines_from s (k + 1) (drop (k + 1) counts) = ap (lines_from s k) split ∙ lines_cons s k c (drop (k + 1) counts) in
    ap (λ x. x ++ lines_from s (k + 1) (drop (k + 1) counts)) wrote ∙ append_assoc before (device_lines s k c) (lines_from s (k + 1) (drop (k + 1) counts))
    ∙ ap (λ x. before ++ x) (sym rest) ∙ so_far

pub lines_end : (s : Survey) (before all : List ℕ) (counts : List Counts) (k : ℕ) → length counts ≤ k → before ++ lines_from s k (drop k counts) ≡ all → before ≡ all
lines_end s before all counts k past so_far =
    sym (append-nil before) ∙ ap (λ x. before ++ x) (sym (ap (lines_from s k) (drop_all k counts past) ∙ lines_nil s k)) ∙ so_far

-- ---- the survey

surveyed_cons : (s : Survey) (c : Counts) (counts : List Counts) → after_all add s (c ∷ counts) ≡ after_all add (add s c) counts
unfolding after_all
surveyed_cons s c counts = refl

surveyed_nil : (s : Survey) → after_all add s [] ≡ s
unfolding after_all
surveyed_nil s = refl

pub survey_step : (old new all : Survey) (counts : List Counts) (k : ℕ) (c : Counts) → k < length counts → c ≡ get_or counts k c
    → new ≡ add old c → after_all add old (drop k counts) ≡ all → after_all add new (drop (k + 1) counts) ≡ all
survey_step old new all counts k c within is added so_far =
    let split : drop k counts ≡ c ∷ drop (k + 1) counts = drop_more counts k c within ∙ ap (λ (x : Counts). x ∷ drop (k + 1) counts) (sym is) in
    ap (λ s. after_all add s (drop (k + 1) counts)) added ∙ sym (ap (after_all add old) split ∙ surveyed_cons old c (drop (k + 1) counts)) ∙ so_far

pub survey_end : (s all : Survey) (counts : List Counts) (k : ℕ) → length counts ≤ k → after_all add s (drop k counts) ≡ all → s ≡ all
survey_end s all counts k past so_far = sym (ap (after_all add s) (drop_all k counts past) ∙ surveyed_nil s) ∙ so_far

-- ---- two texts, one after the other

pub two_lines : {T E : Type 0} (r : Result T E) (t x y a b first second : List ℕ) → a ≡ first → b ≡ second → x ≡ t ++ a → OnOk r (y ≡ x ++ b)
    → OnOk r (y ≡ t ++ (first ++ second))
two_lines (Ok done) t x y a b first second is also before after =
    after ∙ ap (λ z. z ++ b) before ∙ append_assoc t a b ∙ ap (λ z. t ++ (z ++ b)) is ∙ ap (λ z. t ++ (first ++ z)) also
two_lines (Err fault) t x y a b first second is also before after = tt
