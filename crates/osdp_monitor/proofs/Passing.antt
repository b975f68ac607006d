-- What is passed over, and what moves a device.
use Rattle.osdp_monitor.proofs.Common.{◌≡◌, ◌≢◌, ◌==◌, ◌≤◌, ◌↔◌, ◌⊎◌, ◌&&◌, not, ℕ, Bool, true, false, cond, nat_le, Some, None, Result, Ok, Err, refl, inl, inr, ◌∙◌, subst, arith, leb-true, eqb-false, Command, Comset, MsgFault, Reply, Com, HasUnknownCode, MovesByCom, PassesOver, asked, is_foreign, is_unknown, moved_by, reply_told}
use Rattle.osdp_msg.specs.declared.command_fields.Communication.{Communication}
use Rattle.osdp_msg.specs.declared.fault.MsgFault.TheVariants.{UnknownCode}

unknown_is : {M : Type 0} (m : Result M MsgFault) → is_unknown m ≡ true → m ≡ Err UnknownCode
unknown_is (Ok x) h = cc
unknown_is (Err UnknownCode) h = refl
unknown_is (Err fault) h = cc

is_by_unknown : {M : Type 0} (m : Result M MsgFault) → m ≡ Err UnknownCode → is_unknown m ≡ true
is_by_unknown m h = rw h refl

pub passes_over_lem : PassesOver
passes_over_lem p = by_block p.block p.reply refl refl
  where
    by_block : (b r : Bool) → p.block ≡ b → p.reply ≡ r → (is_foreign p ≡ true) ↔ ((p.block ≡ true) ⊎ HasUnknownCode p)
    by_block true r e f = (λ h. inl e, λ h. rw e refl)
    by_block false true e f = (
      λ h. inr (inl (f, unknown_is (reply_told p) (rw (e, f) at h))),
      λ h. rw (e, f) (elim h [ inl is ↦ cc | inr (inl u) ↦ is_by_unknown (reply_told p) u.1 | inr (inr u) ↦ cc ]),
    )
    by_block false false e f = (
      λ h. inr (inr (f, unknown_is (asked p) (rw (e, f) at h))),
      λ h. rw (e, f) (elim h [ inl is ↦ cc | inr (inl u) ↦ cc | inr (inr u) ↦ is_by_unknown (asked p) u.1 ]),
    )

-- by the address that is named
other_is : (named at address : ℕ) → cond (not (named == at) && nat_le named 126) (Some named) None ≡ Some address
    → (named ≡ address) × (address ≢ at) × (address ≤ 126)
other_is named at address h = by_tests (named == at) (nat_le named 126) refl refl h
  where
    by_tests : (same within : Bool) → (named == at) ≡ same → nat_le named 126 ≡ within
        → cond (not same && within) (Some named) None ≡ Some address → (named ≡ address) × (address ≢ at) × (address ≤ 126)
    by_tests true within e f h = cc
    by_tests false false e f h = cc
    by_tests false true e f h =
        let is : named ≡ address = cc in
        let other : named ≢ at = eqb-false named at e in
        (is, λ same. other (is ∙ same), subst (λ n. n ≤ 126) is (leb-true named 126 f))

-- by what is read of the two
moved_is : (c : Result Command MsgFault) (m : Result Reply MsgFault) (at address : ℕ) → moved_by c m at ≡ Some address
    → (wanted : Communication) × (named : Communication) × (c ≡ Ok (Comset wanted)) × (m ≡ Ok (Com named))
    × (named.address ≡ address) × (address ≢ at) × (address ≤ 126)
moved_is (Ok (Comset wanted)) (Ok (Com named)) at address h =
    let is = other_is named.address at address h in
    (wanted, named, refl, refl, is.0, is.1, is.2)
moved_is c m at address h = cc

moves_is : (wanted named : Communication) (at address : ℕ) → named.address ≡ address → address ≢ at → address ≤ 126
    → moved_by (Ok (Comset wanted)) (Ok (Com named)) at ≡ Some address
moves_is wanted named at address is other within = grind arith

pub moves_by_com_lem : MovesByCom
moves_by_com_lem p r address = (
  moved_is (asked p) (reply_told r) r.address address,
  λ n. rw (n.2, n.3) (moves_is n.0 n.1 r.address address n.4 n.5 n.6),
)
