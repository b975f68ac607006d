-- What calls come to, with what the moves show of each entry, and what its device takes in them.
use Rattle.osdp_calls_ledger.proofs.Common.{◌≡◌, ℕ, List, [], ◌∷◌, ◌++◌, sym, subst, ap, ◌∙◌, is_some, Command, Reply, Answer, Ledger, each_append, each_map, Each, after_steps, NetMovesFit, Net, NetMove, after_net, run, site_at, InUse, AllHeard, IsLoss, IsNetOf, LosesTo, Makes, IsOurs, fits_both, net_more}
use Rattle.osdp_ledger.specs.Ledger as ledger
use Rattle.osdp_link_ledger.specs.Acted.{acted_in}
use Rattle.osdp_calls.proofs.Counting.{in_net, in_net_more}
use Rattle.osdp_calls.proofs.Losing.{IsPlain}
use Rattle.osdp_calls_ledger.proofs.Quiet.{ShowsNothing, TakesNone, loss_shows, loss_takes, none_takes, seen_none}
use Rattle.osdp_calls_ledger.proofs.Seen.{in_turn, seen, seen_more}

-- the steps of each entry, as a ledger has them
abbrev pub Shown : Type 0
Shown = ℕ → Ledger → List ledger.Step

abbrev pub none_shown : Shown
none_shown k g = []

abbrev pub both_shown : Shown → Shown → Shown
both_shown f h k = in_turn (f k) (h k)

-- the commands that each device takes, each with the answer to it
abbrev pub Taken : Type 0
Taken = ℕ → List (Command × Reply)

abbrev pub none_taken : Taken
none_taken k = []

abbrev pub both_taken : Taken → Taken → Taken
both_taken a b k = a k ++ b k

module _ {H : Type 0} (answer_of : H → Command → Answer) (after : H → Command → H) where
  -- ---- nobody else hears along the way

  pub heard_first : (ms more : List (NetMove H)) (n : Net H) → AllHeard answer_of after (ms ++ more) n → AllHeard answer_of after ms n
  heard_first [] more n heard = tt
  heard_first (m ∷ ms) more n heard = (heard.0, heard_first ms more (after_net answer_of after m n) heard.1)

  pub heard_then : (ms more : List (NetMove H)) (n m : Net H) → run answer_of after ms n ≡ m → AllHeard answer_of after (ms ++ more) n
      → AllHeard answer_of after more m
  heard_then [] more n m is heard = subst (AllHeard answer_of after more) is heard
  heard_then (x ∷ ms) more n m is heard = heard_then ms more (after_net answer_of after x n) m is heard.1

  -- what the device of this entry takes in moves
  abbrev pub taken_by : ℕ → List (NetMove H) → Net H → List (Command × Reply)
  taken_by k moves n = in_net answer_of after (acted_in answer_of after) k moves n

  -- ---- moves that fit, all of them of this kind, the net that they come to, and what they show

  pub record Shows (P : NetMove H → Type 0) (f : Shown) (a : Taken) (n : Net H) (l : InUse H) : Type 0 where
    pub net : Net H
    pub moves : List (NetMove H)
    pub fit : NetMovesFit answer_of after moves n
    pub run : run answer_of after moves n ≡ net
    pub same : IsNetOf l net
    pub kinds : Each P moves
    pub shows : AllHeard answer_of after moves n → (k : ℕ) (g : Ledger) → IsOurs k l.stations → seen answer_of after k moves n g ≡ f k g
    pub takes : AllHeard answer_of after moves n → (k : ℕ) → IsOurs k l.stations → taken_by k moves n ≡ a k

  -- plain ones, in which no device takes a command
  abbrev pub PanelShows : Shown → Net H → InUse H → Type 0
  PanelShows f n l = Shows IsPlain f none_taken n l

  pub shows_as : {P : NetMove H → Type 0} {a : Taken} (f h : Shown) (n : Net H) (l : InUse H) → ((k : ℕ) (g : Ledger) → IsOurs k l.stations → f k g ≡ h k g)
      → Shows P f a n l → Shows P h a n l
  shows_as f h n l same x = record {
    net = x.net;
    moves = x.moves;
    fit = x.fit;
    run = x.run;
    same = x.same;
    kinds = x.kinds;
    shows = λ heard k g own. x.shows heard k g own ∙ same k g own;
    takes = x.takes;
  }

  pub shows_line : {P : NetMove H → Type 0} {a : Taken} (f : Shown) (n : Net H) (l m : InUse H) → ((k : Net H) → IsNetOf l k → IsNetOf m k)
      → ((k : ℕ) → is_some (site_at k m.stations) ≡ is_some (site_at k l.stations)) → Shows P f a n l → Shows P f a n m
  shows_line f n l m same keeps x = record {
    net = x.net;
    moves = x.moves;
    fit = x.fit;
    run = x.run;
    same = same x.net x.same;
    kinds = x.kinds;
    shows = λ heard k g own. x.shows heard k g (sym (keeps k) ∙ own);
    takes = λ heard k own. x.takes heard k (sym (keeps k) ∙ own);
  }

  pub shows_kinds : {P Q : NetMove H → Type 0} {f : Shown} {a : Taken} (n : Net H) (l : InUse H) → ((m : NetMove H) → P m → Q m) → Shows P f a n l → Shows Q f a n l
  shows_kinds {P} {Q} n l kind x = record {
    net = x.net;
    moves = x.moves;
    fit = x.fit;
    run = x.run;
    same = x.same;
    kinds = each_map P Q kind x.moves x.kinds;
    shows = x.shows;
    takes = x.takes;
  }

  pub by_made : (f : Shown) (Q : List (NetMove H) → Type 0) (n : Net H) (l : InUse H) → ((moves : List (NetMove H)) → Q moves → Each TakesNone moves)
      → ((moves : List (NetMove H)) → Q moves → AllHeard answer_of after moves n → (k : ℕ) (g : Ledger) → IsOurs k l.stations → seen answer_of after k moves n g ≡ f k g)
      → Makes answer_of after Q n l → PanelShows f n l
  by_made f Q n l none shows x =
      let r = x.refines in
      record {
        net = r.net;
        moves = r.reached.moves;
        fit = r.reached.fit;
        run = r.reached.run;
        same = r.same;
        kinds = r.reached.plain;
        shows = shows r.reached.moves x.made;
        takes = λ heard k own. none_takes answer_of after k r.reached.moves n (none r.reached.moves x.made);
      }

  pub by_losses : (n : Net H) (l : InUse H) → LosesTo answer_of after n l → PanelShows none_shown n l
  by_losses n l x =
      by_made none_shown (Each IsLoss) n l (λ moves losses. each_map IsLoss TakesNone loss_takes moves losses)
      (λ moves losses heard k g own. seen_none answer_of after k moves n g (each_map IsLoss ShowsNothing loss_shows moves losses)) x

  pub then_shows : {P : NetMove H → Type 0} {a b : Taken} (f h : Shown) (n : Net H) (l m : InUse H)
      → ((k : ℕ) → is_some (site_at k m.stations) ≡ is_some (site_at k l.stations)) → Shows P f a n l → ((q : Net H) → IsNetOf l q → Shows P h b q m)
      → Shows P (both_shown f h) (both_taken a b) n m
  then_shows {P} f h n l m keeps x next =
      let y = next x.net x.same in
      record {
        net = y.net;
        moves = x.moves ++ y.moves;
        fit = fits_both answer_of after x.moves y.moves n x.fit (subst (NetMovesFit answer_of after y.moves) (sym x.run) y.fit);
        run = net_more answer_of after x.moves y.moves n ∙ ap (run answer_of after y.moves) x.run ∙ y.run;
        same = y.same;
        kinds = each_append P x.moves y.moves x.kinds y.kinds;
        shows = λ heard k g own.
            let first = x.shows (heard_first x.moves y.moves n heard) k g (sym (keeps k) ∙ own) in
            let second = y.shows (heard_then x.moves y.moves n x.net x.run heard) k (after_steps (f k g) g) own in
            seen_more answer_of after k x.moves y.moves n g
            ∙ (λ i. first i ++ seen answer_of after k y.moves (x.run i) (after_steps (first i) g))
            ∙ ap (λ xs. f k g ++ xs) second;
        takes = λ heard k own.
            let first = x.takes (heard_first x.moves y.moves n heard) k (sym (keeps k) ∙ own) in
            let second = ap (taken_by k y.moves) x.run ∙ y.takes (heard_then x.moves y.moves n x.net x.run heard) k own in
            in_net_more answer_of after (acted_in answer_of after) k x.moves y.moves n ∙ (λ i. first i ++ second i);
      }
