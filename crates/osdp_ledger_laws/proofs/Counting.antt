-- The counts of one session.
use Rattle.std.proofs.Common.{◌≡◌, ◌≤◌, ◌+◌, ◌⊎◌, ◌∙◌, ap, arith, inl, inr, length, map, suc, zero, ℕ}
use Rattle.std.proofs.lemmas.List.{length-append, length-map}
use Rattle.osdp_msg.specs.declared.reply.Reply.{Reply}
use Rattle.osdp_ledger.specs.History.{new_history, runs}
use Rattle.osdp_ledger.specs.Ledger.{Card, Order}
use Rattle.osdp_ledger.specs.OneSession.{OneSessionHolds, settled_in}
use Rattle.osdp_ledger_laws.specs.Sessions.{OneSessionCounts}

one_more : (all some more : ℕ) → all ≡ some + more → more ≤ 1 → (all ≡ some) ⊎ (all ≡ some + 1)
one_more all some zero is few = inl (omega (arith, is))
one_more all some (suc zero) is few = inr (omega (arith, is))
one_more all some (suc (suc more)) is few = absurd (omega (arith, few))

pub counts : OneSessionHolds → OneSessionCounts
counts holds steps plain may few =
    let h = runs steps new_history in
    let is = holds steps plain may few in
    let all = ap length is.acted.1 in
    let first = length-append (map (λ (done : Order × Reply). done.0) h.acted) is.acted.0 in
    let as_many = length-map h.acted (λ (done : Order × Reply). done.0) in
    let done = ap length is.settled.1 in
    let more = length-append (settled_in h.ended) is.settled.0 in
    let told = ap length is.reported.1 in
    let front = length-append (map (λ (told : ℕ × Card). told.1) h.reports) is.reported.0 in
    let each = length-map h.reports (λ (told : ℕ × Card). told.1) in
    record {
      acted = one_more (length h.acted) (length (settled_in h.ended)) (length is.settled.0) (done ∙ more) is.settled.2;
      accepted = omega (arith, all, first, as_many);
      reported = omega (arith, told, front, each);
    }
