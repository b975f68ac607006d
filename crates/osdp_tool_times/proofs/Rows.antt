-- What is printed of the devices, one after the other.
use Rattle.std.proofs.Common.{◌≡◌, ℕ, ◌+◌, ◌<◌, ◌≤◌, List, [], ◌∷◌, ◌++◌, length, get_or, drop, refl, sym, ◌∙◌, ap, append_assoc, append-nil}
use Rattle.osdp_tool_times.proofs.Common.{drop_all, drop_more, Times}
use Rattle.osdp_tool_times.specs.Text.{all_from}

module _ (printed : ℕ → Times → List ℕ) where
  all_cons : (k : ℕ) (t : Times) (times : List Times) → all_from printed k (t ∷ times) ≡ printed k t ++ all_from printed (k + 1) times
  unfolding all_from
  all_cons k t times = refl

  all_nil : (k : ℕ) → all_from printed k [] ≡ []
  unfolding all_from
  all_nil k = refl

  pub all_step : (before after all : List ℕ) (times : List Times) (k : ℕ) (t : Times) → k < length times → t ≡ get_or times k t
      → after ≡ before ++ printed k t → before ++ all_from printed k (drop k times) ≡ all → after ++ all_from printed (k + 1) (drop (k + 1) times) ≡ all
  all_step before after all times k t within is wrote so_far =
      let split : drop k times ≡ t ∷ drop (k + 1) times = drop_more times k t within ∙ ap (λ (x : Times). x ∷ drop (k + 1) times) (sym is) in
      let rest : all_from printed k (drop k times) ≡ printed k t ++ all_from printed (k + 1) (drop (k + 1) times) = ap (all_from printed k) split ∙ all_cons k t (drop (k + 1) times) in
      ap (λ x. x ++ all_from printed (k + 1) (drop (k + 1) times)) wrote ∙ append_assoc before (printed k t) (all_from printed (k + 1) (drop (k + 1) times))
      ∙ ap (λ x. before ++ x) (sym rest) ∙ so_far

  pub all_end : (before all : List ℕ) (times : List Times) (k : ℕ) → length times ≤ k → before ++ all_from printed k (drop k times) ≡ all → before ≡ all
  all_end before all times k past so_far =
      sym (append-nil before) ∙ ap (λ x. before ++ x) (sym (ap (all_from printed k) (drop_all k times past) ∙ all_nil k)) ∙ so_far
