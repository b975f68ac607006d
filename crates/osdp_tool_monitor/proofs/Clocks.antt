-- Moments of one clock.
use Rattle.osdp_tool_monitor.proofs.Common.{◌≡◌, ℕ, List, [], ◌∷◌, ◌++◌, map, refl, sym, subst, ap, ◌∙◌, Told, input_report, Piece, moments_of, IsSteady, TellsByTheClock}

module _ {M : Type 0} (tells : M → ℕ → M → Type 0) (steady : IsSteady tells) where
  -- as many moments are the same ones
  same_pieces : (clock one other : M) (pieces others : List Piece) → Told tells clock (moments_of pieces) one → Told tells clock (moments_of others) other
      → map (λ (p : Piece). p.bytes) pieces ≡ map (λ (p : Piece). p.bytes) others → (pieces ≡ others) × (one ≡ other)
  same_pieces clock one other [] [] a b same = (refl, a ∙ sym b)
  same_pieces clock one other [] (q ∷ others) a b same = cc
  same_pieces clock one other (p ∷ pieces) [] a b same = cc
  same_pieces clock one other (p ∷ pieces) (q ∷ others) (next, is, further) (after, is_too, beyond) same =
      let bytes : p.bytes ≡ q.bytes = cc in
      let rest : map (λ (r : Piece). r.bytes) pieces ≡ map (λ (r : Piece). r.bytes) others = cc in
      let tick = steady clock next after p.moment q.moment is is_too in
      let below = same_pieces after one other pieces others (subst (λ m. Told tells m (moments_of pieces) one) tick.1 further) beyond rest in
      let piece : p ≡ q = ap (λ b. record { bytes = b; moment = p.moment }) bytes ∙ ap (λ m. record { bytes = q.bytes; moment = m }) tick.0 in
      (ap (λ r. r ∷ pieces) piece ∙ ap (λ l. q ∷ l) below.0, below.1)

pub tells_by_the_clock : {M : Type 0} (tells : M → ℕ → M → Type 0) → TellsByTheClock tells
tells_by_the_clock tells mode clock_before one_clock other_clock input_before one_after other_after start one other following a b steady same =
    let pieces = same_pieces tells steady clock_before one_clock other_clock a.pieces b.pieces a.came.moments b.came.moments same in
    (a.written ∙ ap (λ p. start ++ input_report following mode p) pieces.0 ∙ sym b.written, pieces.1)
