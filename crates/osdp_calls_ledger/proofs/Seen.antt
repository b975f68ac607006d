-- What moves of a net show of each site, step after step: as its link shows them.
use Rattle.osdp_calls_ledger.proofs.Common.{◌≡◌, ℕ, List, [], ◌∷◌, ◌++◌, Option, Some, None, refl, sym, ap, ◌∙◌, append_assoc, Command, Answer, Ledger, Link, Move, after_move, after_steps, all_steps, after_append, NetMovesFit, Net, NetMove, Site, after_net, run, site_at, moves_at, moves_of, EachMoveIsItsOwn, move_of, view, AllHeard, quietly}
use Rattle.osdp_ledger.specs.Ledger as ledger
use Rattle.osdp_link_laws.specs.Link as link
use Rattle.osdp_link_ledger.specs.Steps as links

-- ---- lists of steps that go by the ledger

-- one after the other
abbrev pub in_turn : (Ledger → List ledger.Step) → (Ledger → List ledger.Step) → Ledger → List ledger.Step
in_turn f h g = f g ++ h (after_steps (f g) g)

pub turn_assoc : (f h j : Ledger → List ledger.Step) (g : Ledger) → in_turn (in_turn f h) j g ≡ in_turn f (in_turn h j) g
turn_assoc f h j g =
    let first = f g in
    let second = h (after_steps first g) in
    append_assoc first second (j (after_steps (first ++ second) g))
    ∙ ap (λ k. first ++ (second ++ j k)) (after_append first second g)

module _ {H : Type 0} (answer_of : H → Command → Answer) (after : H → Command → H) where
  pub all_more : (ms more : List (Move H)) (l : Link H) (g : Ledger)
      → all_steps answer_of after (ms ++ more) l g
      ≡ in_turn (all_steps answer_of after ms l) (all_steps answer_of after more (link.run answer_of after ms l)) g
  all_more [] more l g = refl
  all_more (m ∷ ms) more l g =
      let next = after_move answer_of after m l in
      let steps = links.steps_of answer_of after m l g in
      ap (λ xs. steps ++ xs) (all_more ms more next (after_steps steps g))
      ∙ sym (turn_assoc (links.steps_of answer_of after m l) (all_steps answer_of after ms next) (all_steps answer_of after more (link.run answer_of after ms next)) g)

  -- what a move of all shows of the site at this place, and what moves show
  abbrev pub seen_at : ℕ → Option (Site H) → NetMove H → Net H → Ledger → List ledger.Step
  seen_at k None move n g = []
  seen_at k (Some s) move n g = all_steps answer_of after (move_of k s move n) (view k s n) g

  abbrev pub seen : ℕ → List (NetMove H) → Net H → Ledger → List ledger.Step
  seen k [] n g = []
  seen k (m ∷ ms) n g =
      let steps = seen_at k (site_at k n.sites) m n g in steps ++ seen k ms (after_net answer_of after m n) (after_steps steps g)

  pub seen_more : (k : ℕ) (ms more : List (NetMove H)) (n : Net H) (g : Ledger)
      → seen k (ms ++ more) n g ≡ in_turn (seen k ms n) (seen k more (run answer_of after ms n)) g
  seen_more k [] more n g = refl
  seen_more k (m ∷ ms) more n g =
      let next = after_net answer_of after m n in
      let here = seen_at k (site_at k n.sites) m n in
      ap (λ xs. here g ++ xs) (seen_more k ms more next (after_steps (here g) g))
      ∙ sym (turn_assoc here (seen k ms next) (seen k more (run answer_of after ms next)) g)

  -- its link shows the same
  pub seen_of_link : EachMoveIsItsOwn answer_of after → (k : ℕ) (ms : List (NetMove H)) (n : Net H) (s : Site H) → AllHeard answer_of after ms n
      → NetMovesFit answer_of after ms n → site_at k n.sites ≡ Some s → (g : Ledger)
      → all_steps answer_of after (moves_of answer_of after k ms n) (view k s n) g ≡ seen k ms n g
  seen_of_link own k [] n s heard fits is g = refl
  seen_of_link own k (m ∷ ms) n s heard fits is g =
      let next = after_net answer_of after m n in
      let moved = own n m heard.0 (quietly answer_of after m n fits.0) k s is in
      let mine = move_of k s m n in
      let rest = moves_of answer_of after k ms next in
      let here = all_steps answer_of after mine (view k s n) in
      ap (λ o. all_steps answer_of after (moves_at answer_of after k o m n ++ rest) (view k s n) g) is
      ∙ all_more mine rest (view k s n) g
      ∙ ap (λ l. here g ++ all_steps answer_of after rest l (after_steps (here g) g)) (sym moved.moved)
      ∙ ap (λ xs. here g ++ xs) (seen_of_link own k ms next moved.site heard.1 fits.1 moved.there (after_steps (here g) g))
      ∙ ap (λ o. in_turn (seen_at k o m n) (seen k ms next) g) (sym is)
