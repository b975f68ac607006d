-- The last record that switches an output counts.
use Rattle.osdp_script.proofs.Common.{◌≡◌, ◌==◌, ◌||◌, ℕ, suc, ◌<◌, Bool, true, false, List, [], ◌∷◌, ◌++◌, length, get_or, set, nat_le, arith, refl, sym, subst, ap, ◌∙◌, nat_tests, get_or-set_same, get_or-set_other, length-set, outputs_after, switched, switches_off, switches_on}
use Rattle.std.specs.Prelude.{All}
use Rattle.osdp_msg.specs.declared.outputs.OutputRecord.{OutputRecord}
use Rattle.osdp_script.specs.OutputLaws.{LastCounts, LeavesAlone, TurnsOff, TurnsOn}

length-switched : (outputs : List ℕ) (r : OutputRecord) → length (switched outputs r) ≡ length outputs
length-switched outputs r = go (nat_le 8 r.output) (switches_off r) (switches_on r) refl refl refl
  where
    go : (far off on : Bool) → nat_le 8 r.output ≡ far → switches_off r ≡ off → switches_on r ≡ on → length (switched outputs r) ≡ length outputs
    go true off on is_far is_off is_on = rw is_far
    go false true on is_far is_off is_on = rw (is_far, is_off) (length-set outputs r.output 0)
    go false false true is_far is_off is_on = rw (is_far, is_off, is_on) (length-set outputs r.output 1)
    go false false false is_far is_off is_on = rw (is_far, is_off, is_on)

length-after : (outputs : List ℕ) (records : List OutputRecord) → length (outputs_after outputs records) ≡ length outputs
length-after outputs [] = refl
length-after outputs (r ∷ rs) = length-after (switched outputs r) rs ∙ length-switched outputs r

after_both : (outputs : List ℕ) (rs ss : List OutputRecord) → outputs_after outputs (rs ++ ss) ≡ outputs_after (outputs_after outputs rs) ss
after_both outputs [] ss = refl
after_both outputs (r ∷ rs) ss = after_both (switched outputs r) rs ss

-- no record switches on and off
not_both : (n : ℕ) → (n == 2 || n == 4 || n == 5) ≡ true → (n == 1 || n == 3 || n == 6) ≡ false
not_both n on = grind (arith, nat_tests)

module _ (outputs : List ℕ) (k : ℕ) (eight : length outputs ≡ 8) (fits : k < 8) where
  near : (r : OutputRecord) → r.output ≡ k → nat_le 8 r.output ≡ false
  near r is = grind (arith, nat_tests)

  turned_off : (r : OutputRecord) → TurnsOff k r → get_or (switched outputs r) k 0 ≡ 0
  turned_off r (here, off) =
      let is_near : nat_le 8 r.output ≡ false = near r here in
      let within : k < length outputs = omega arith in
      rw (is_near, off) (subst (λ (n : ℕ). get_or (set outputs n 0) k 0 ≡ 0) (sym here) (get_or-set_same outputs k 0 0 within))

  turned_on : (r : OutputRecord) → TurnsOn k r → get_or (switched outputs r) k 0 ≡ 1
  turned_on r (here, on) =
      let is_near : nat_le 8 r.output ≡ false = near r here in
      let not_off : switches_off r ≡ false = not_both r.control on in
      let within : k < length outputs = omega arith in
      rw (is_near, not_off, on) (subst (λ (n : ℕ). get_or (set outputs n 1) k 0 ≡ 1) (sym here) (get_or-set_same outputs k 1 0 within))

left_alone : (outputs : List ℕ) (k : ℕ) (r : OutputRecord) → LeavesAlone k r → get_or (switched outputs r) k 0 ≡ get_or outputs k 0
left_alone outputs k r (not_off, not_on) = go (nat_le 8 r.output) (switches_off r) (switches_on r) refl refl refl
  where
    go : (far off on : Bool) → nat_le 8 r.output ≡ far → switches_off r ≡ off → switches_on r ≡ on → get_or (switched outputs r) k 0 ≡ get_or outputs k 0
    go true off on is_far is_off is_on = rw is_far
    go false true on is_far is_off is_on =
        rw (is_far, is_off) (get_or-set_other outputs r.output k 0 0 (λ same. not_off (sym same, is_off)))
    go false false true is_far is_off is_on =
        rw (is_far, is_off, is_on) (get_or-set_other outputs r.output k 1 0 (λ same. not_on (sym same, is_on)))
    go false false false is_far is_off is_on = rw (is_far, is_off, is_on)

all_alone : (outputs : List ℕ) (k : ℕ) (records : List OutputRecord) → All (LeavesAlone k) records
    → get_or (outputs_after outputs records) k 0 ≡ get_or outputs k 0
all_alone outputs k [] alone = refl
all_alone outputs k (r ∷ rs) alone =
    let front : 0 < suc (length rs) = omega arith in
    all_alone (switched outputs r) k rs (λ i d h. let within : suc i < suc (length rs) = omega arith in alone (suc i) d within)
    ∙ left_alone outputs k r (alone 0 r front)

pub last_counts : (outputs : List ℕ) (k : ℕ) → length outputs ≡ 8 → k < 8 → LastCounts outputs k
last_counts outputs k eight fits = record {
  off = λ earlier r later turns alone.
      ap (λ o. get_or o k 0) (after_both outputs earlier (r ∷ later))
      ∙ all_alone (switched (outputs_after outputs earlier) r) k later alone
      ∙ turned_off (outputs_after outputs earlier) k (length-after outputs earlier ∙ eight) fits r turns;
  on = λ earlier r later turns alone.
      ap (λ o. get_or o k 0) (after_both outputs earlier (r ∷ later))
      ∙ all_alone (switched (outputs_after outputs earlier) r) k later alone
      ∙ turned_on (outputs_after outputs earlier) k (length-after outputs earlier ∙ eight) fits r turns;
  stays = λ records alone. all_alone outputs k records alone;
}
