use Rattle.osdp_frame.proofs.Common.{◌≡◌, ℕ, List, ◌&&◌, Bool, ap, sym, ◌∙◌, ltb, length, Buffered}
use Rattle.osdp_frame.proofs.Framing.{advanced, kept_fits}
use Rattle.osdp_frame.proofs.framer.Framer.advance.Goals.{then-self, else-self}
use Rattle.osdp_frame.proofs.framer.Framer.advance.Goals as goal

pub returns : goal.returns
returns c =
    let f = c.self.inside in
    let rest = c.advance.new.self.bytes in
    let same = c.first_held-self-inside.ensures.same in
    let left = ltb 0 (length rest) in
    let ended : c.if-self.ended ≡ (f.ended && left) = elim c.if-self.branch [
      | then-self w ↦ w.ended-is ∙ ap (ltb 0) w.len.ensures.count ∙ sym (ap (λ (b : Bool). b && left) w.if-self.true)
      | else-self w ↦ w.ended-is ∙ w.if-self.false ∙ sym (ap (λ (b : Bool). b && left) w.if-self.false)
    ] in
    advanced f c.args.self.now c.in-Some.first c.size.result c.if-self.ended c.first_held-self-inside.new.held.bytes c.self.view_is c.self.invariant c.in-Some.is
    (c.size.ensures.size f.held.bytes (kept_fits f c.in-Some.first c.self.invariant c.in-Some.is)) (same ∙ ap (λ (b : Buffered). b.bytes) c.advance.ensures)
    (ended ∙ ap (λ (l : List ℕ). f.ended && ltb 0 (length l)) (sym same))
