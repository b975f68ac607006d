-- Numbers that go on with digits.
use Rattle.osdp_tool_times.proofs.Common.{◌≡◌, ℕ, ◌+◌, ◌≤◌, ◌<◌, List, [], ◌∷◌, length, drop, Option, Some, None, refl, sym, ap, ◌∙◌, at_drop_more, drop_all, get_or, option_and_then}
use Rattle.osdp_tool_times.specs.Moments.{next_number, number_from}

pub more : (n b : ℕ) (digits : List ℕ) → number_from n (b ∷ digits) ≡ option_and_then (λ next. number_from next digits) (next_number n b)
unfolding number_from
more n b digits = refl

none : (n : ℕ) → number_from n [] ≡ Some n
unfolding number_from
none n = refl

-- a number at this place of the digits
module _ (n at : ℕ) (digits : List ℕ) (total : Option ℕ) (so_far : number_from n (drop at digits) ≡ total) where
  pub number_end : length digits ≤ at → Some n ≡ total
  number_end h = sym (ap (number_from n) (drop_all at digits h) ∙ none n) ∙ so_far

  module _ (below : at < length digits) where
    head : option_and_then (λ next. number_from next (drop (at + 1) digits)) (next_number n (get_or digits at 0)) ≡ total
    head = sym (more n (get_or digits at 0) (drop (at + 1) digits)) ∙ sym (at_drop_more (number_from n) digits at 0 below) ∙ so_far

    pub number_stops : next_number n (get_or digits at 0) ≡ None → None ≡ total
    number_stops h = sym (ap (option_and_then (λ next. number_from next (drop (at + 1) digits))) h) ∙ head

    pub number_goes : (next : ℕ) → next_number n (get_or digits at 0) ≡ Some next → number_from next (drop (at + 1) digits) ≡ total
    number_goes next h = sym (ap (option_and_then (λ m. number_from m (drop (at + 1) digits))) h) ∙ head
