-- What a device's `next` shows: what it does with the packet that it answers; and what it takes, with the answer to it.
use Rattle.osdp_calls_ledger.proofs.Common.{◌≡◌, ◌≢◌, ◌⊎◌, ℕ, cond, List, [], ◌∷◌, ◌++◌, Option, Some, None, All, refl, sym, subst, ap, ◌∙◌, inl, inr, append-nil, eqb_tells, ◌==◌, ◌<◌, option_to_list, Packet, Command, Reply, items_of, ReaderState, outcome, Answer, Ledger, Repeated, both, each_map, each_of, is_false, is_true, after_steps, all_steps, gets, leaves_and_acts, Net, NetMove, Site, ToReader, after_net, run, site_at, HeardByOwn, move_of, one_if, own, own_front, view, for_reader, first_answered, read_up_to, InUse, Station, AllHeard, IsNextOf, IsLoss, answered, steps_at}
use Rattle.std.specs.Prelude.{zip}
use Rattle.osdp_reader.specs.Table.{kind_of}
use Rattle.osdp_reader.specs.declared.kind.Kind.TheVariants as kind
use Rattle.osdp_ledger.specs.Ledger as ledger
use Rattle.osdp_link_laws.specs.Link as link
use Rattle.osdp_link_laws.specs.Reports.{taken_as}
use Rattle.osdp_link_ledger.specs.Acted.{acted_by, acted_in, done_by_front}
use Rattle.osdp_link_ledger.specs.Steps as links
use Rattle.osdp_calls.proofs.Counting.{at_site, counted, in_net, in_net_more}
use Rattle.osdp_calls.proofs.Nexts.{IsAnswered, IsNext, IsPassed}
use Rattle.osdp_calls_ledger.specs.Acted.{acted_at, acted_by_answered}
use Rattle.osdp_calls_ledger.proofs.Own.{no_steps}
use Rattle.osdp_calls_ledger.proofs.Quiet.{ShowsNothing, TakesNone, loss_shows, loss_takes, none_takes, seen_after_none, seen_none}
use Rattle.osdp_calls_ledger.proofs.Seen.{seen, seen_at}
use Rattle.osdp_calls_ledger.proofs.Shows.{heard_then}

module _ {H : Type 0} (answer_of : H → Command → Answer) (after : H → Command → H) where
  -- what comes of the packet in front of a reader: what its own link reads, or nothing, since the reader is silent
  data Front (k : ℕ) (p : Packet) (s : Site H) (n : Net H) : Type 0 where
    IsOwn : (rest : List Packet) → move_of k s (ToReader k Repeated) n ≡ link.ToReader Repeated ∷ [] → (view k s n).to_reader ≡ p ∷ rest → Front k p s n
    IsAway : move_of k s (ToReader k Repeated) n ≡ [] → kind_of s.reader p ≡ kind.Silent → Front k p s n

  front_of : (k e : ℕ) (p : Packet) (rest : List (ℕ × Packet)) (s : Site H) (n : Net H) → s.coming ≡ (e, p) ∷ rest → HeardByOwn n → site_at k n.sites ≡ Some s
      → Front k p s n
  front_of k e p rest s n coming whole at = elim (eqb_tells e k) [
    | inl mine ↦
        IsOwn (own k rest) (moves ∙ ap (λ b. cond b (link.ToReader Repeated ∷ []) []) mine.0)
        (ap (own k) coming ∙ ap (λ b. cond b (p ∷ own k rest) (own k rest)) mine.0)
    | inr differs ↦
        IsAway (moves ∙ ap (λ b. cond b (link.ToReader Repeated ∷ []) []) differs.0)
        (away (for_reader s.reader p (each_of Near ((e, p) ∷ rest) (subst (All Near) coming (whole.devices k s at))).0)
        ((each_of Others ((e, p) ∷ rest) (subst (All Others) coming (whole.readers k s at))).0 differs.1))
  ]
    where
      Near : ℕ × Packet → Type 0
      Near q = q.1.address < 127

      Others : ℕ × Packet → Type 0
      Others q = q.0 ≢ k → s.reader.config.address ≢ q.1.address

      moves : move_of k s (ToReader k Repeated) n ≡ one_if e k (link.ToReader Repeated)
      moves = ap (λ b. cond b (own_front k s.coming Repeated) []) (is_true k k refl) ∙ ap (λ ps. own_front k ps Repeated) coming

      away : (p.address ≡ s.reader.config.address) ⊎ (kind_of s.reader p ≡ kind.Silent) → s.reader.config.address ≢ p.address → kind_of s.reader p ≡ kind.Silent
      away (inl here) other = absurd (other (sym here))
      away (inr silent) other = silent

  front_read : (k : ℕ) (p : Packet) (s : Site H) (n : Net H) (g : Ledger) → Front k p s n
      → seen_at answer_of after k (Some s) (ToReader k Repeated) n g ≡ gets answer_of after p s.reader g
  front_read k p s n g (IsOwn rest moves front) =
      ap (λ ms. all_steps answer_of after ms (view k s n) g) moves
      ∙ append-nil (links.to_reader answer_of after (view k s n).to_reader Repeated s.reader g)
      ∙ ap (λ ps. links.to_reader answer_of after ps Repeated s.reader g) front
  front_read k p s n g (IsAway moves silent) =
      ap (λ ms. all_steps answer_of after ms (view k s n) g) moves
      ∙ sym (ap (λ c. let o = outcome answer_of after c s.reader p in leaves_and_acts c s.reader.queue o.command o.said g) silent)

  front_takes : (k : ℕ) (p : Packet) (s : Site H) (n : Net H) → Front k p s n
      → at_site answer_of after (acted_in answer_of after) k (Some s) (ToReader k Repeated) n ≡ acted_by answer_of after p s.reader
  front_takes k p s n (IsOwn rest moves front) =
      ap (λ ms. counted answer_of after (acted_in answer_of after) ms (view k s n)) moves
      ∙ append-nil (done_by_front answer_of after (acted_by answer_of after) Repeated (view k s n).to_reader s.reader)
      ∙ ap (λ ps. done_by_front answer_of after (acted_by answer_of after) Repeated ps s.reader) front
  front_takes k p s n (IsAway moves silent) =
      ap (λ ms. counted answer_of after (acted_in answer_of after) ms (view k s n)) moves
      ∙ sym (ap (λ c. let o = outcome answer_of after c s.reader p in zip (taken_as c o.command) (option_to_list o.said)) silent)

  other_reads : (k i : ℕ) (o : Option (Site H)) (n : Net H) (g : Ledger) → i ≢ k → seen_at answer_of after k o (ToReader i Repeated) n g ≡ []
  other_reads k i None n g other = refl
  other_reads k i (Some s) n g other =
      ap (λ b. all_steps answer_of after (cond b (own_front k s.coming Repeated) []) (view k s n) g) (is_false i k other)

  next_shows : (i : ℕ) (o : Option Packet) (t : Station H) (n : Net H) (moves : List (NetMove H)) → IsNext answer_of after i o t.reader n moves
      → AllHeard answer_of after moves n → (k : ℕ) (g : Ledger) → seen answer_of after k moves n g ≡ cond (i == k) (answered answer_of after o t.reader g) []
  next_shows i o t n moves (IsPassed none losses) heard k g =
      seen_none answer_of after k moves n g (each_map IsLoss ShowsNothing loss_shows moves losses)
      ∙ sym (ap (λ q. cond (i == k) (answered answer_of after q t.reader g) []) none ∙ no_steps (i == k) [] refl)
  next_shows i o t n moves (IsAnswered p s e rest mid lost more some losses runs there reader coming after_it are) heard k g =
      ap (λ ms. seen answer_of after k ms n g) are
      ∙ seen_after_none answer_of after k lost (ToReader i Repeated ∷ more) n mid g (each_map IsLoss ShowsNothing loss_shows lost losses) runs
      ∙ ap (λ xs. here ++ xs) (seen_none answer_of after k more (after_net answer_of after (ToReader i Repeated) mid) (after_steps here g)
      (each_map IsLoss ShowsNothing loss_shows more after_it))
      ∙ append-nil here
      ∙ elim (eqb_tells i k) [
        | inl equal ↦
            ap (λ j. seen_at answer_of after k (site_at k mid.sites) (ToReader j Repeated) mid g) equal.1
            ∙ ap (λ q. seen_at answer_of after k q (ToReader k Repeated) mid g) (subst (λ j. site_at j mid.sites ≡ Some s) equal.1 there)
            ∙ front_read k p s mid g (front_of k e p rest s mid coming whole (subst (λ j. site_at j mid.sites ≡ Some s) equal.1 there))
            ∙ ap (λ r. gets answer_of after p r g) reader
            ∙ sym (ap (λ b. cond b (gets answer_of after p t.reader g) []) equal.0)
        | inr differs ↦
            other_reads k i (site_at k mid.sites) mid g differs.1 ∙ sym (ap (λ b. cond b (gets answer_of after p t.reader g) []) differs.0)
      ]
      ∙ sym (ap (λ q. cond (i == k) (answered answer_of after q t.reader g) []) some)
    where
      here : List ledger.Step
      here = seen_at answer_of after k (site_at k mid.sites) (ToReader i Repeated) mid g

      whole : HeardByOwn mid
      whole = (heard_then answer_of after lost (ToReader i Repeated ∷ more) n mid runs (subst (λ ms. AllHeard answer_of after ms n) are heard)).0

  -- ---- .. and takes

  other_takes : (k i : ℕ) (o : Option (Site H)) (n : Net H) → i ≢ k → at_site answer_of after (acted_in answer_of after) k o (ToReader i Repeated) n ≡ []
  other_takes k i None n other = refl
  other_takes k i (Some s) n other =
      ap (λ b. counted answer_of after (acted_in answer_of after) (cond b (own_front k s.coming Repeated) []) (view k s n)) (is_false i k other)

  next_takes : (i : ℕ) (o : Option Packet) (r : ReaderState H) (n : Net H) (moves : List (NetMove H)) → IsNext answer_of after i o r n moves
      → AllHeard answer_of after moves n → (k : ℕ) → in_net answer_of after (acted_in answer_of after) k moves n ≡ cond (i == k) (acted_by_answered answer_of after o r) []
  next_takes i o r n moves (IsPassed none losses) heard k =
      none_takes answer_of after k moves n (each_map IsLoss TakesNone loss_takes moves losses)
      ∙ sym (ap (λ q. cond (i == k) (acted_by_answered answer_of after q r) []) none ∙ both (λ (cs : List (Command × Reply)). cs ≡ []) (i == k) [] [] refl refl)
  next_takes i o r n moves (IsAnswered p s e rest mid lost more some losses runs there reader coming after_it are) heard k =
      let f = acted_in answer_of after in
      let last = after_net answer_of after (ToReader i Repeated) mid in
      let whole = (heard_then answer_of after lost (ToReader i Repeated ∷ more) n mid runs (subst (λ ms. AllHeard answer_of after ms n) are heard)).0 in
      ap (λ ms. in_net answer_of after f k ms n) are
      ∙ in_net_more answer_of after f k lost (ToReader i Repeated ∷ more) n
      ∙ ap (λ cs. cs ++ in_net answer_of after f k (ToReader i Repeated ∷ more) (run answer_of after lost n))
      (none_takes answer_of after k lost n (each_map IsLoss TakesNone loss_takes lost losses))
      ∙ ap (in_net answer_of after f k (ToReader i Repeated ∷ more)) runs
      ∙ ap (λ cs. at_site answer_of after f k (site_at k mid.sites) (ToReader i Repeated) mid ++ cs)
      (none_takes answer_of after k more last (each_map IsLoss TakesNone loss_takes more after_it))
      ∙ append-nil (at_site answer_of after f k (site_at k mid.sites) (ToReader i Repeated) mid)
      ∙ elim (eqb_tells i k) [
        | inl equal ↦
            let at = subst (λ j. site_at j mid.sites ≡ Some s) equal.1 there in
            ap (λ j. at_site answer_of after f k (site_at k mid.sites) (ToReader j Repeated) mid) equal.1
            ∙ ap (λ q. at_site answer_of after f k q (ToReader k Repeated) mid) at
            ∙ front_takes k p s mid (front_of k e p rest s mid coming whole at)
            ∙ ap (acted_by answer_of after p) reader
            ∙ sym (ap (λ b. cond b (acted_by answer_of after p r) []) equal.0)
        | inr differs ↦ other_takes k i (site_at k mid.sites) mid differs.1 ∙ sym (ap (λ b. cond b (acted_by answer_of after p r) []) differs.0)
      ]
      ∙ sym (ap (λ q. cond (i == k) (acted_by_answered answer_of after q r) []) some)

  pub next_of_takes : (i : ℕ) (o : Option (Station H)) (n : Net H) (moves : List (NetMove H)) → IsNextOf answer_of after i o n moves
      → AllHeard answer_of after moves n → (k : ℕ) → in_net answer_of after (acted_in answer_of after) k moves n ≡ cond (i == k) (acted_at answer_of after o) []
  next_of_takes i None n moves are heard k =
      ap (λ ms. in_net answer_of after (acted_in answer_of after) k ms n) are ∙ sym (both (λ (cs : List (Command × Reply)). cs ≡ []) (i == k) [] [] refl refl)
  next_of_takes i (Some t) n moves next heard k =
      let o = first_answered t.reader (read_up_to t.reader (items_of t.line.held)) in
      next_takes i o t.reader n moves next heard k

  -- .. by the station of its entry
  pub next_of_shows : (i : ℕ) (o : Option (Station H)) (l : InUse H) (n : Net H) (moves : List (NetMove H)) → site_at i l.stations ≡ o
      → IsNextOf answer_of after i o n moves → AllHeard answer_of after moves n → (k : ℕ) (g : Ledger)
      → seen answer_of after k moves n g ≡ cond (i == k) (steps_at answer_of after (Rattle.osdp_calls.specs.Calls.Next i) (site_at k l.stations) g) []
  next_of_shows i None l n moves at are heard k g =
      ap (λ ms. seen answer_of after k ms n g) are
      ∙ sym (elim (eqb_tells i k) [
        | inl equal ↦
            ap (λ b. cond b (steps_at answer_of after (Rattle.osdp_calls.specs.Calls.Next i) (site_at k l.stations) g) []) equal.0
            ∙ ap (λ o. steps_at answer_of after (Rattle.osdp_calls.specs.Calls.Next i) o g) (subst (λ j. site_at j l.stations ≡ None) equal.1 at)
        | inr differs ↦ ap (λ b. cond b (steps_at answer_of after (Rattle.osdp_calls.specs.Calls.Next i) (site_at k l.stations) g) []) differs.0
      ])
  next_of_shows i (Some t) l n moves at next heard k g =
      let o = first_answered t.reader (read_up_to t.reader (items_of t.line.held)) in
      next_shows i o t n moves next heard k g
      ∙ elim (eqb_tells i k) [
        | inl equal ↦
            ap (λ q. cond (i == k) (steps_at answer_of after (Rattle.osdp_calls.specs.Calls.Next i) q g) []) (sym (subst (λ j. site_at j l.stations ≡ Some t) equal.1 at))
        | inr differs ↦
            ap (λ b. cond b (answered answer_of after o t.reader g) []) differs.0
            ∙ sym (ap (λ b. cond b (steps_at answer_of after (Rattle.osdp_calls.specs.Calls.Next i) (site_at k l.stations) g) []) differs.0)
      ]
