use Rattle.osdp_sim.proofs.Common.{◌≡◌, ◌-◌, ◌++◌, ◌∷◌, [], ℕ, arith, length, ap, rules, slice_index_or, slice_set, ◌∙◌, get_or-append_seam, set-append_seam, length-append, ArrayVec}
use Rattle.std.specs.VecDeque.{deque_len}
use Rattle.osdp_sim.proofs.line.send.Goals as goal

pub returns-in-Some-clause-items : goal.returns-in-Some-clause-items
returns-in-Some-clause-items c =
    let old = c.args.line.now.items in
    let place = c.in-Some.place.now in
    let sent = c.try_extend_from_slice.new.self in
    let pushed = c.push_back_reserved.ensures.items in
    let last : deque_len c.push_back_reserved.new.self - 1 ≡ length old =
    omega (arith, ap length pushed, length-append old (c.new.result ∷ [])) in
    let empty : place ≡ c.new.result =
    c.in-Some.ensures.value ∙ ap (λ n. slice_index_or c.push_back_reserved.new.self.items n place) last
    ∙ ap (λ l. slice_index_or l (length old) place) pushed ∙ get_or-append_seam old c.new.result [] place in
    let none : place.items ≡ [] = ap (λ (b : ArrayVec ℕ). b.items) empty ∙ c.new.ensures in
    let same : sent ≡ c.args.burst.now = search (rules, none) in
    ap (λ l. slice_set l (deque_len c.push_back_reserved.new.self - 1) sent) pushed
    ∙ ap (λ n. slice_set (old ++ c.new.result ∷ []) n sent) last
    ∙ set-append_seam old c.new.result [] sent ∙ ap (λ b. old ++ b ∷ []) same
