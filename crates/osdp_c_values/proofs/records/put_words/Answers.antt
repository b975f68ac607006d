use Rattle.osdp_c_values.proofs.Common.{◌≡◌, ◌++◌, [], ◌∷◌, List, ℕ, codes, ap, subst, sym, refl, ◌∙◌, append_assoc, append-nil, flat_map, printed, IsAt}
use Rattle.osdp_c_values.proofs.Putting.{failed, next_piece, next_without_room, nothing_put}
use Rattle.osdp_c_values.proofs.records.put_words.Goals as goal

pub records-init : goal.records-init
records-init g c = ([], refl, nothing_put c.args.at c.args.out.now)

pub records-preserved : goal.records-preserved
records-preserved g c =
    let put : g.row.R.Denot → List ℕ = λ r. codes " " ++ printed (g.R.Recorded.put_as r) in
    let x = c.in-Some.record in
    let done = c.records.invariant.0 in
    let next : c.records.left ≡ x ∷ c.next.new.self = rw c.in-Some.is at c.next.ensures.steps in
    let all : (done ++ x ∷ []) ++ c.next.new.self ≡ c.args.records = append_assoc done (x ∷ []) c.next.new.self ∙ ap (λ left. done ++ left) (sym next) ∙ c.records.invariant.1 in
    (done ++ x ∷ [], all, next_piece put done x c.records.invariant.2 c.in_ok-end.ensures)

pub returns-in_err-end : goal.returns-in_err-end
returns-in_err-end g c =
    let put : g.row.R.Denot → List ℕ = λ r. codes " " ++ printed (g.R.Recorded.put_as r) in
    let x = c.in-Some.record in
    let next : c.records.left ≡ x ∷ c.next.new.self = rw c.in-Some.is at c.next.ensures.steps in
    let all : c.records.invariant.0 ++ (x ∷ c.next.new.self) ≡ c.args.records = ap (λ left. c.records.invariant.0 ++ left) (sym next) ∙ c.records.invariant.1 in
    failed _ c.args.at c.args.out.now c.from_residual.result _ _ c.from_residual.ensures.0
    (next_without_room put _ c.records.invariant.0 x c.next.new.self c.args.records all c.records.invariant.2 c.in_err-end.ensures)

pub returns : goal.returns
returns g c =
    let put : g.row.R.Denot → List ℕ = λ r. codes " " ++ printed (g.R.Recorded.put_as r) in
    let end = (rw c.in_default.is at c.next.ensures.steps).0 in
    let all : c.records.invariant.0 ≡ c.args.records = sym (append-nil c.records.invariant.0) ∙ ap (λ left. c.records.invariant.0 ++ left) (sym end) ∙ c.records.invariant.1 in
    subst (λ (l : List g.row.R.Denot). IsAt c.args.at c.args.out.now c.records.end c.records.out (flat_map put l)) all c.records.invariant.2
