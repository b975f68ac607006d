-- The day of a panel that is made anew with one of our entries left out, and then in another order: by the tests of each call.
use Rattle.osdp_entry_numbers.proofs.Common.{◌≡◌, ℕ, zero, suc, Bool, true, ◌&&◌, List, [], ◌∷◌, Some, refl, ap, ◌∙◌, arith, and_parts, Command, BusState, address_of, Entry, each_all, Answer, site_at, IsSetUp, AreNumbers, IsNewPanel, AllOwnKeep, Fits, LeavesAlone, OwnLine, OwnStep, after_own, ordered_step, own_view, turned}
use Rattle.osdp_frame.specs.Held.{decided}
use Rattle.osdp_frame.specs.Items.{items, left_over}
use Rattle.osdp_msg.specs.CommandTable.{command_at, command_fault, command_of}
use Rattle.osdp_msg.specs.ReplyFields.{CapabilityFits}
use Rattle.osdp_msg.specs.ReplyTable.{reply_at, reply_fault, reply_of}
use Rattle.osdp_premises.specs.Deciding.{is_fair}
use Rattle.osdp_premises.specs.LongDay.{twice}
use Rattle.osdp_premises.proofs.Exactly.{fair_keep}
use Rattle.osdp_premises.proofs.LongDay.{RangeOf, all_range, id_fits, is_set_up, key_fits, twice_fits}
use Rattle.osdp_entry_numbers.specs.Day.{AnyOrder, KeepsRestart, around, back, between, day, exchanged, line_after, onward, own_line, without}

-- ---- the numbers

exchanged_back : (i : ℕ) → exchanged (exchanged i) ≡ i
exchanged_back (suc (suc (suc i))) = refl
exchanged_back _ = refl

between_are : AreNumbers between
between_are = record { back = exchanged_back; forth = exchanged_back }

between_sorted : (i : ℕ) → site_at {A = ℕ} (exchanged i) (3 ∷ 4 ∷ 20 ∷ []) ≡ site_at {A = ℕ} i (3 ∷ 20 ∷ 4 ∷ [])
between_sorted (suc (suc (suc i))) = refl
between_sorted _ = refl

back_onward : (i : ℕ) → back (onward i) ≡ i
back_onward (suc (suc (suc i))) = refl
back_onward _ = refl

onward_back : (k : ℕ) → onward (back k) ≡ k
onward_back (suc (suc (suc k))) = refl
onward_back _ = refl

around_are : AreNumbers around
around_are = record { back = back_onward; forth = onward_back }

around_sorted : (i : ℕ) → site_at {A = ℕ} (onward i) (3 ∷ 4 ∷ 20 ∷ []) ≡ site_at {A = ℕ} i (4 ∷ 20 ∷ 3 ∷ [])
around_sorted (suc (suc (suc i))) = refl
around_sorted _ = refl

without_are : AreNumbers without
without_are = record { back = onward_back; forth = back_onward }

without_sorted : (i a : ℕ) → site_at {A = ℕ} i (20 ∷ 3 ∷ []) ≡ Some a → site_at {A = ℕ} (back i) (3 ∷ 4 ∷ 20 ∷ []) ≡ Some a
without_sorted zero a at = at
without_sorted (suc zero) a at = at
without_sorted (suc (suc i)) a at = absurd (let e = at in cc)

at_first : IsNewPanel twice (3 ∷ 20 ∷ 4 ∷ []) (3 ∷ 4 ∷ 20 ∷ []) between
at_first = record { settings = twice_fits; none_refused = (refl, (refl, (refl, tt))); numbers = between_are; sorted = λ i a at. between_sorted i ∙ at }

pub at_noon : IsNewPanel twice (20 ∷ 3 ∷ []) (3 ∷ 4 ∷ 20 ∷ []) without
at_noon = record { settings = twice_fits; none_refused = (refl, (refl, (refl, tt))); numbers = without_are; sorted = without_sorted }

pub at_four : IsNewPanel twice (4 ∷ 20 ∷ 3 ∷ []) (3 ∷ 4 ∷ 20 ∷ []) around
at_four = record { settings = twice_fits; none_refused = (refl, (refl, (refl, tt))); numbers = around_are; sorted = λ i a at. around_sorted i ∙ at }

abbrev address_at : ℕ → List Entry → ℕ
address_at k [] = 0
address_at zero (d ∷ ds) = address_of d
address_at (suc k) (d ∷ ds) = address_at k ds

module _ {H : Type 0} (answer_of : H → Command → Answer) (after : H → Command → H) where
  -- each call is fair
  abbrev pub all_fair : List (OwnStep H) → OwnLine H → Bool
  all_fair [] a = true
  all_fair (step ∷ steps) a = is_fair (ordered_step step a) (turned step.call a) && all_fair steps (after_own answer_of after step a)

  -- values are in their ranges, and a panel that is made anew fits
  abbrev pub AllFit : List (OwnStep H) → OwnLine H → Type 0
  AllFit [] a = Unit {0}
  AllFit (step ∷ steps) a =
      (RangeOf answer_of after (ordered_step step a).call (turned step.call a) × Fits step.call step.ordered step.numbers × LeavesAlone step.call a)
      × AllFit steps (after_own answer_of after step a)

  pub keep_all : (steps : List (OwnStep H)) (a : OwnLine H) → all_fair steps a ≡ true → AllFit steps a → AllOwnKeep answer_of after steps a
  keep_all [] a fair fits = tt
  keep_all (step ∷ steps) a fair fits =
      let next = after_own answer_of after step a in
      let l = turned step.call a in
      let both = and_parts (is_fair (ordered_step step a) l) (all_fair steps next) fair in
      let one = ordered_step step a ∷ [] in (
        record {
          keeps = (fair_keep answer_of after one l (λ i. both.0 i && true) (all_range answer_of after one l (fits.0.0, tt))).0;
          fits = fits.0.1;
          leaves = fits.0.2;
        },
        keep_all steps next both.1 fits.1,
      )

  not_before : (handler : H) → IsSetUp (own_view (own_line handler)) → ⊥
  not_before handler up =
      let same : 20 ≡ 4 = ap (λ (b : BusState). address_at 1 b.devices.entries) up.bus in absurd (omega (arith, same))

  not_fewer : (handler : H) → KeepsRestart answer_of after (20 ∷ 3 ∷ []) (line_after answer_of after 12 handler) → ⊥
  unfolding items left_over decided reply_of reply_fault reply_at command_of command_fault command_at
  not_fewer handler keeps = keeps.addresses.there 0 1 3 _ _ (λ same. absurd (let e : 0 ≡ 1 = same in omega (arith, e))) refl refl refl refl

  not_turned : (handler : H) → KeepsRestart answer_of after (4 ∷ 20 ∷ 3 ∷ []) (line_after answer_of after 18 handler) → ⊥
  unfolding items left_over decided reply_of reply_fault reply_at command_of command_fault command_at
  not_turned handler keeps = keeps.addresses.there 1 0 4 _ _ (λ same. absurd (let e : 1 ≡ 0 = same in omega (arith, e))) refl refl refl refl

  pub any_order : (handler : H) → AnyOrder answer_of after handler
  unfolding items left_over decided reply_of reply_fault reply_at command_of command_fault command_at
  any_order handler = record {
    up = record {
      up = is_set_up handler;
      config = twice;
      addresses = 3 ∷ 20 ∷ 4 ∷ [];
      ordered = 3 ∷ 4 ∷ 20 ∷ [];
      panel = at_first;
      own = refl;
      same = refl;
    };
    keep = keep_all day (own_line handler) refl
        ((tt, tt, tt), ((tt, tt, tt), ((omega arith, tt, λ accepted. refl), ((tt, tt, tt), ((tt, tt, tt), ((tt, tt, tt), ((tt, tt, tt), ((tt, tt, tt), (((id_fits, tt), tt, tt), ((tt, tt, tt), ((tt, tt, tt), ((tt, tt, tt), (((twice_fits, (omega arith, (omega arith, (omega arith, tt))), omega arith), at_noon, tt), ((tt, tt, tt), ((((omega arith, each_all CapabilityFits [] tt), tt), tt, tt), ((tt, tt, tt), ((tt, tt, tt), ((tt, tt, tt), (((twice_fits, (omega arith, (omega arith, (omega arith, tt))), omega arith), at_four, tt), ((tt, tt, tt), ((tt, tt, tt), ((tt, tt, tt), (((id_fits, tt), tt, tt), ((tt, tt, tt), ((tt, tt, tt), ((tt, tt, tt), ((tt, tt, tt), (((key_fits, tt), tt, tt), ((tt, tt, tt), (((twice_fits, (omega arith, (omega arith, (omega arith, tt))), omega arith), at_noon, tt), ((tt, tt, tt), ((tt, tt, λ free. (_, refl, refl)), ((tt, tt, tt), ((tt, tt, tt), ((tt, tt, tt), (((id_fits, tt), tt, tt), ((tt, tt, tt), tt)))))))))))))))))))))))))))))))))))));
    between = not_before handler;
    fewer = not_fewer handler;
    turned = not_turned handler;
    asks = refl;
    would_ask = refl;
    left_out = refl;
    back = refl;
    none_again = refl;
    added = refl;
    steps = refl;
  }
