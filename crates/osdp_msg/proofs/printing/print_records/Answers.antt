use Rattle.osdp_msg.proofs.Common.{◌≡◌, ◌++◌, ◌∷◌, [], List, ℕ, ap, sym, refl, ◌∙◌, append_assoc, rules, flat_map, append-nil, flat_map_more, printed}
use Rattle.std.proofs.Output.{has_written_append, has_written_of_eq}
use Rattle.osdp_msg.proofs.Texts.{flat_map-words}
use Rattle.osdp_msg.proofs.printing.print_records.Goals as goal

pub records-init : goal.records-init
records-init g c = ([], refl, search rules)

pub records-preserved : goal.records-preserved
records-preserved g c =
    let inv = c.records.invariant in
    let x = c.in-Some.record in
    let next : c.records.left ≡ x ∷ c.next.new.self = rw c.in-Some.is at c.next.ensures.steps in
    let all : c.args.records ≡ (inv.0 ++ x ∷ []) ++ c.next.new.self = inv.1 ∙ ap (λ left. inv.0 ++ left) next ∙ sym (append_assoc inv.0 (x ∷ []) c.next.new.self) in (
      inv.0 ++ x ∷ [],
      all,
      λ p.
          let so_far = inv.2 p in
          has_written_of_eq _ _ _ _ _ (flat_map_more (λ r. 32 ∷ printed (g.R.Record.word r)) c.args.name.now inv.0 x) (has_written_append _ _ _ _ _ _ so_far (c.in_ok-print_record.ensures so_far.plain refl)),
    )

pub returns : goal.returns
returns g c =
    let rs = c.args.records in
    let word = g.R.Record.word in
    let inv = c.records.invariant in
    let end = (rw c.in_default.is at c.next.ensures.steps).0 in
    let whole : inv.0 ≡ rs = sym (inv.1 ∙ ap (λ left. inv.0 ++ left) end ∙ append-nil inv.0) in
    λ p ok.
    has_written_of_eq _ _ _ _ _ (ap (λ (t : List ℕ). c.args.name.now ++ t) (ap (flat_map (λ r. 32 ∷ printed (word r))) whole ∙ sym (flat_map-words word rs))) (inv.2 p)
