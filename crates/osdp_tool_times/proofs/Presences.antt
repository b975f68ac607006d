-- Devices that fall silent, and devices that restart.
use Rattle.osdp_tool_times.proofs.Common.{arith, ◌≡◌, ◌≤◌, ◌<◌, ◌⊎◌, inl, inr, ◌+◌, ◌-◌, ◌*◌, ◌/◌, ◌^◌, ℕ, zero, suc, Bool, true, false, not, Some, cond, refl, sym, subst, ap, ◌∙◌, cases_Bool, cond-false, cond-true, le-leb, lt-leb, lt-ltb, ltb-false, ltb-true, ne_eqb, one_more}
use Rattle.std.specs.Prelude.{◌==◌, ◌||◌, nat_lt, is_some}
use Rattle.std.proofs.Math.Nat.{mul-div_cancel_left}
use Rattle.osdp_tool_times.specs.Presence.{after_answer, is_offline, online_since, rounded}
use Rattle.osdp_tool_times.specs.PresenceLaws.{CountsARowOnce, CountsRestarts, TellsOffline, TellsOnline, after_packets, after_restarts, falls_silent}
use Rattle.osdp_tool_times.specs.declared.presence.Presence.{Presence}

-- ---- packets without an answer

last_stays : (count : ℕ) (w : Presence) → (after_packets count w).last ≡ w.last
unfolding after_packets
last_stays zero w = refl
last_stays (suc count) w = last_stays count w

since_stays : (count : ℕ) (w : Presence) → (after_packets count w).since ≡ w.since
unfolding after_packets
since_stays zero w = refl
since_stays (suc count) w = since_stays count w

-- one more, or as many where these are very many
grown : (count : ℕ) → (one_more count ≡ count + 1) ⊎ ((one_more count ≡ count) × (3 ≤ count))
grown count = elim (cases_Bool (nat_lt count (2 ^ 64 - 1))) [
  | inl below ↦ inl (cond-true (nat_lt count (2 ^ 64 - 1)) (count + 1) count below)
  | inr above ↦ inr (cond-false (nat_lt count (2 ^ 64 - 1)) (count + 1) count above, let far : 2 ^ 64 - 1 ≤ count = ltb-false count (2 ^ 64 - 1) above in omega arith)
]

abbrev Counted : ℕ → ℕ → Type 0
Counted count unanswered = (3 ≤ count → 3 ≤ unanswered) × (count < 3 → unanswered ≡ count)

counted_more : (count unanswered more : ℕ) → Counted count unanswered → ((more ≡ unanswered + 1) ⊎ ((more ≡ unanswered) × (3 ≤ unanswered))) → Counted (suc count) more
counted_more count unanswered more (many, few) grew = (
  (λ h. elim (cases_Bool (nat_lt count 3)) [
    | inl below ↦ let same : unanswered ≡ count = few (ltb-true count 3 below) in elim grew [
      | inl grows ↦ omega arith
      | inr stays ↦ let it = stays.0 in let far = stays.1 in omega arith
    ]
    | inr above ↦ let far : 3 ≤ unanswered = many (ltb-false count 3 above) in elim grew [
      | inl grows ↦ omega arith
      | inr stays ↦ let it = stays.0 in omega arith
    ]
  ]),
  (λ h. let same : unanswered ≡ count = few (omega arith) in elim grew [
    | inl grows ↦ omega arith
    | inr stays ↦ let far = stays.1 in omega arith
  ]),
)

counted : (count : ℕ) (w : Presence) → w.unanswered ≡ 0 → Counted count (after_packets count w).unanswered
unfolding after_packets
counted zero w none = ((λ h. omega arith), (λ h. none))
counted (suc count) w none =
    counted_more count (after_packets count w).unanswered (one_more (after_packets count w).unanswered) (counted count w none)
    (grown (after_packets count w).unanswered)

offline_is : (refused : Bool) (moment count : ℕ) (w : Presence) → 3 ≤ count → is_offline (falls_silent refused moment count w) ≡ true
offline_is refused moment count w h = le-leb 3 (falls_silent refused moment count w).unanswered ((counted count (after_answer refused moment w) refl).0 h)

online_is : (refused : Bool) (moment count : ℕ) (w : Presence) → count < 3 → is_offline (falls_silent refused moment count w) ≡ false
online_is refused moment count w h =
    let few : (falls_silent refused moment count w).unanswered ≡ count = (counted count (after_answer refused moment w) refl).1 h in
    lt-leb 3 (falls_silent refused moment count w).unanswered (subst (λ n. n < 3) (sym few) h)

pub tells_offline : TellsOffline
tells_offline refused moment count w = record {
  offline = offline_is refused moment count w;
  online = online_is refused moment count w;
  last = last_stays count (after_answer refused moment w);
}

-- ---- an answer after them

since_known : (moment : ℕ) (w : Presence) → is_some (online_since moment w) ≡ true
since_known moment w = elim (cases_Bool (is_offline w || not (is_some w.since))) [
  | inl anew ↦ ap is_some (cond-true (is_offline w || not (is_some w.since)) (Some moment) w.since anew)
  | inr on ↦ ap is_some (cond-false (is_offline w || not (is_some w.since)) (Some moment) w.since on) ∙ is_known (is_offline w) (is_some w.since) on
]
  where
    is_known : (offline known : Bool) → (offline || not known) ≡ false → known ≡ true
    is_known true known e = absurd cc
    is_known false true e = refl
    is_known false false e = absurd cc

anew_if : (offline known : Bool) → offline ≡ true → (offline || not known) ≡ true
anew_if offline known e = ap (λ b. b || not known) e

on_if : (offline known : Bool) → offline ≡ false → known ≡ true → (offline || not known) ≡ false
on_if offline known e k = ap (λ b. b || not known) e ∙ ap not k

pub tells_online : TellsOnline
tells_online first then moment later count w =
    let silent = falls_silent first moment count w in
    let since = since_stays count (after_answer first moment w) in
    record {
      goes_on = λ h.
          cond-false (is_offline silent || not (is_some silent.since)) (Some later) silent.since
          (on_if (is_offline silent) (is_some silent.since) (online_is first moment count w h) (ap is_some since ∙ since_known moment w)) ∙ since;
      begins_anew = λ h.
          cond-true (is_offline silent || not (is_some silent.since)) (Some later) silent.since
          (anew_if (is_offline silent) (is_some silent.since) (offline_is first moment count w h));
    }

-- ---- restarts

one_more_is : (count : ℕ) → suc count < 2 ^ 64 → one_more count ≡ suc count
one_more_is count h = cond-true (nat_lt count (2 ^ 64 - 1)) (count + 1) count (lt-ltb count (2 ^ 64 - 1) (omega arith)) ∙ (omega arith)

record Restarted (first between count : ℕ) : Type 0 where
  often : (after_restarts first between (suc count)).restarts ≡ suc count
  at_first : (after_restarts first between (suc count)).first_restart ≡ first
  at_last : (after_restarts first between (suc count)).last_restart ≡ first + count * between

restarted : (first between count : ℕ) → suc count < 2 ^ 64 → Restarted first between count
unfolding after_restarts
restarted first between zero h = record { often = refl; at_first = omega arith; at_last = refl }
restarted first between (suc count) h =
    let before = restarted first between count (omega arith) in
    record {
      often = ap one_more before.often ∙ one_more_is (suc count) (omega arith);
      at_first =
          ap (λ n. cond (n == 0) (first + suc count * between) (after_restarts first between (suc count)).first_restart) before.often
          ∙ (ap (λ b. cond b (first + suc count * between) (after_restarts first between (suc count)).first_restart) (ne_eqb (suc count) 0 (λ e. omega arith)) ∙ before.at_first);
      at_last = refl;
    }

rounded_is : (seconds : ℕ) → rounded (1000 * seconds) ≡ seconds
rounded_is seconds = omega arith

pub counts_restarts : CountsRestarts
counts_restarts first seconds count h =
    let told = restarted first (1000 * seconds) (suc count) (omega arith) in
    let w = after_restarts first (1000 * seconds) (suc (suc count)) in
    let between : (w.last_restart - w.first_restart) / (w.restarts - 1) ≡ 1000 * seconds =
    ap (λ n. (n - w.first_restart) / (w.restarts - 1)) told.at_last ∙ (ap (λ n. (first + suc count * (1000 * seconds) - n) / (w.restarts - 1)) told.at_first
    ∙ (ap (λ n. (first + suc count * (1000 * seconds) - first) / (n - 1)) told.often ∙ spaced first (1000 * seconds) count)) in
    record { often = told.often; every = ap rounded between ∙ rounded_is seconds }
  where
    spaced : (first between count : ℕ) → (first + suc count * between - first) / (suc (suc count) - 1) ≡ between
    spaced first between count =
        let gone : first + suc count * between - first ≡ suc count * between = omega arith in
        let less : suc (suc count) - 1 ≡ suc count = omega arith in
        ap (λ n. n / (suc (suc count) - 1)) gone ∙ (ap (λ n. suc count * between / n) less ∙ mul-div_cancel_left between (omega arith))

pub counts_a_row_once : CountsARowOnce
counts_a_row_once moment later w = refl
