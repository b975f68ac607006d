-- Moves that show the programs nothing: losses, settings, and a session that is to begin; and moves in which no device takes a command.
use Rattle.osdp_calls_ledger.proofs.Common.{◌≡◌, ℕ, List, [], ◌∷◌, ◌++◌, Option, Some, None, refl, ap, ◌∙◌, Command, Answer, Ledger, Link, Move, after_move, Each, after_steps, all_steps, LoseToPanel, LoseToReader, Net, NetMove, Reopen, Retarget, SetBusy, Site, ToPanel, ToReader, after_net, site_at, move_of, view, IsLoss}
use Rattle.osdp_link_laws.specs.Link as link
use Rattle.osdp_link_ledger.specs.Steps as links
use Rattle.osdp_shared_line.specs.Line as line
use Rattle.osdp_link_ledger.specs.Acted.{acted_in}
use Rattle.osdp_shared_line.proofs.Restarting.{HoldsOf, move_holds}
use Rattle.osdp_calls.proofs.Counting.{at_site, counted, in_net}
use Rattle.osdp_calls_ledger.proofs.Seen.{seen, seen_at}

module _ {H : Type 0} where
  abbrev pub ShowsNothing : NetMove H → Type 0
  ShowsNothing (SetBusy k busy) = Unit {0}
  ShowsNothing (line.SetHandler k handler) = Unit {0}
  ShowsNothing (Retarget k address) = Unit {0}
  ShowsNothing (LoseToReader k place) = Unit {0}
  ShowsNothing (LoseToPanel place) = Unit {0}
  ShowsNothing (Reopen k now) = Unit {0}
  ShowsNothing _ = ⊥

  pub loss_shows : (move : NetMove H) → IsLoss move → ShowsNothing move
  loss_shows (LoseToReader k place) loss = tt
  loss_shows (LoseToPanel place) loss = tt
  loss_shows _ loss = absurd loss

  -- of one link
  abbrev LinkShowsNothing : Move H → Type 0
  LinkShowsNothing (link.SetBusy busy) = Unit {0}
  LinkShowsNothing (link.SetHandler handler) = Unit {0}
  LinkShowsNothing (link.Retarget address) = Unit {0}
  LinkShowsNothing (link.LoseToReader place) = Unit {0}
  LinkShowsNothing (link.LoseToController place) = Unit {0}
  LinkShowsNothing (link.Reopen now) = Unit {0}
  LinkShowsNothing _ = ⊥

  shows_holds : (k : ℕ) (move : NetMove H) → ShowsNothing move → HoldsOf LinkShowsNothing k move
  shows_holds k (SetBusy i busy) none = λ here. tt
  shows_holds k (line.SetHandler i handler) none = λ here. tt
  shows_holds k (Retarget i address) none = λ here. tt
  shows_holds k (LoseToReader i place) none = λ q. tt
  shows_holds k (LoseToPanel place) none = λ q. tt
  shows_holds k (Reopen i now) none = λ here. tt
  shows_holds k _ none = absurd none

  -- nobody reads but the panel
  abbrev pub TakesNone : NetMove H → Type 0
  TakesNone (ToReader k how) = ⊥
  TakesNone _ = Unit {0}

  pub loss_takes : (move : NetMove H) → IsLoss move → TakesNone move
  loss_takes (ToReader k how) loss = absurd loss
  loss_takes _ loss = tt

  abbrev LinkTakesNone : Move H → Type 0
  LinkTakesNone (link.ToReader how) = ⊥
  LinkTakesNone _ = Unit {0}

  takes_holds : (k : ℕ) (move : NetMove H) → TakesNone move → HoldsOf LinkTakesNone k move
  takes_holds k (ToReader i how) none = absurd none
  takes_holds k (ToPanel how now) none = (λ by. tt, tt)
  takes_holds k (LoseToReader i place) none = λ q. tt
  takes_holds k (LoseToPanel place) none = λ q. tt
  takes_holds k (line.RestartPanel settings) none = tt
  takes_holds k _ none = λ here. tt

  module _ (answer_of : H → Command → Answer) (after : H → Command → H) where
    link_none : (m : Move H) (l : Link H) (g : Ledger) → LinkShowsNothing m → links.steps_of answer_of after m l g ≡ []
    link_none (link.SetBusy busy) l g none = refl
    link_none (link.SetHandler handler) l g none = refl
    link_none (link.Retarget address) l g none = refl
    link_none (link.LoseToReader place) l g none = refl
    link_none (link.LoseToController place) l g none = refl
    link_none (link.Reopen now) l g none = refl
    link_none _ l g none = absurd none

    links_none : (ms : List (Move H)) (l : Link H) (g : Ledger) → Each LinkShowsNothing ms → all_steps answer_of after ms l g ≡ []
    links_none [] l g none = refl
    links_none (m ∷ ms) l g none =
        let next = after_move answer_of after m l in
        ap (λ steps. steps ++ all_steps answer_of after ms next (after_steps steps g)) (link_none m l g none.0) ∙ links_none ms next g none.1

    at_none : (k : ℕ) (o : Option (Site H)) (m : NetMove H) (n : Net H) (g : Ledger) → ShowsNothing m → seen_at answer_of after k o m n g ≡ []
    at_none k None m n g none = refl
    at_none k (Some s) m n g none = links_none (move_of k s m n) (view k s n) g (move_holds LinkShowsNothing k m s n (shows_holds k m none))

    pub seen_none : (k : ℕ) (ms : List (NetMove H)) (n : Net H) (g : Ledger) → Each ShowsNothing ms → seen answer_of after k ms n g ≡ []
    seen_none k [] n g none = refl
    seen_none k (m ∷ ms) n g none =
        let next = after_net answer_of after m n in
        ap (λ steps. steps ++ seen answer_of after k ms next (after_steps steps g)) (at_none k (site_at k n.sites) m n g none.0)
        ∙ seen_none k ms next g none.1

    -- .. and what they are followed by shows what it shows by itself
    pub seen_after_none : (k : ℕ) (ms more : List (NetMove H)) (n m : Net H) (g : Ledger) → Each ShowsNothing ms → line.run answer_of after ms n ≡ m
        → seen answer_of after k (ms ++ more) n g ≡ seen answer_of after k more m g
    seen_after_none k ms more n m g none is =
        Rattle.osdp_calls_ledger.proofs.Seen.seen_more answer_of after k ms more n g
        ∙ ap (λ steps. steps ++ seen answer_of after k more (line.run answer_of after ms n) (after_steps steps g)) (seen_none k ms n g none)
        ∙ ap (λ q. seen answer_of after k more q g) is

    -- ---- .. and take nothing

    link_takes : (m : Move H) (l : Link H) → LinkTakesNone m → acted_in answer_of after m l ≡ []
    link_takes (link.ToReader how) l none = absurd none
    link_takes _ l none = refl

    links_take : (ms : List (Move H)) (l : Link H) → Each LinkTakesNone ms → counted answer_of after (acted_in answer_of after) ms l ≡ []
    links_take [] l none = refl
    links_take (m ∷ ms) l none =
        let next = after_move answer_of after m l in
        ap (λ cs. cs ++ counted answer_of after (acted_in answer_of after) ms next) (link_takes m l none.0) ∙ links_take ms next none.1

    at_takes : (k : ℕ) (o : Option (Site H)) (m : NetMove H) (n : Net H) → TakesNone m → at_site answer_of after (acted_in answer_of after) k o m n ≡ []
    at_takes k None m n none = refl
    at_takes k (Some s) m n none = links_take (move_of k s m n) (view k s n) (move_holds LinkTakesNone k m s n (takes_holds k m none))

    pub none_takes : (k : ℕ) (ms : List (NetMove H)) (n : Net H) → Each TakesNone ms → in_net answer_of after (acted_in answer_of after) k ms n ≡ []
    none_takes k [] n none = refl
    none_takes k (m ∷ ms) n none =
        let next = after_net answer_of after m n in
        ap (λ cs. cs ++ in_net answer_of after (acted_in answer_of after) k ms next) (at_takes k (site_at k n.sites) m n none.0) ∙ none_takes k ms next none.1
