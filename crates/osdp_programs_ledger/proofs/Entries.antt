-- After any calls that keep the premises each station has its entry.
use Rattle.osdp_programs_ledger.proofs.Common.{◌≡◌, ℕ, List, Some, Command, device_of, Entry, Answer, site_at, Step, after_calls, InUse, Station}
use Rattle.osdp_calls.specs.Premises.{AllKeep, IsSetUp}
use Rattle.osdp_calls.proofs.Holding.{comes, its_site}

module _ {H : Type 0} (answer_of : H → Command → Answer) (after : H → Command → H) where
  pub entry_of : (l : InUse H) (steps : List (Step H)) → IsSetUp l → AllKeep answer_of after steps l → (k : ℕ) (last : Station H)
      → site_at k (after_calls answer_of after steps l).stations ≡ Some last
      → (entry : Entry) × (device_of k (after_calls answer_of after steps l).bus ≡ Some entry)
  entry_of l steps up keep k last there =
      let c = comes answer_of after l steps up keep in
      let s = its_site answer_of after k last (after_calls answer_of after steps l) c.came.net c.came.same there in
      (s.entry, s.is_entry)
