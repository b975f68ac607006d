-- What a list of moves of a net comes to, and what is lost on the line.
use Rattle.osdp_calls.proofs.Common.{◌≡◌, ℕ, zero, suc, Bool, true, false, cond, List, [], ◌∷◌, ◌++◌, length, Some, refl, sym, subst, ap, ◌∙◌, append_assoc, Packet, Command, Answer, lost_at, each_append, Each, NetMoveFits, NetMovesFit, at_changed, Burst, those, fits_both, net_more}
use Rattle.osdp_shared_line.specs.Line as line
use Rattle.osdp_shared_line.specs.Line.{LoseToPanel, LoseToReader, Net, NetMove, Queue, Reopen, RestartPanel, RestartReader, Retarget, SetHandler, Site, Submit, ToPanel, Withdraw, LapseEvent, WithdrawEvent, after_net, changed, run, site_at}
use Rattle.osdp_link_laws.proofs.Doing.{lost_there}

-- ---- a list without some of it

pub data Sub {A : Type 0} : List A → List A → Type 0 where
  SubNil : Sub [] []
  SubKeep : (x : A) (xs ys : List A) → Sub xs ys → Sub (x ∷ xs) (x ∷ ys)
  SubLeave : (x : A) (xs ys : List A) → Sub xs ys → Sub xs (x ∷ ys)

-- what passes a test that fewer pass
pub those_sub : (f g : ℕ → Burst → Bool) (i : ℕ) (bs : List Burst) → ((j : ℕ) (b : Burst) → f j b ≡ true → g j b ≡ true) → Sub (those f i bs) (those g i bs)
those_sub f g i [] fewer = SubNil
those_sub f g i (b ∷ bs) fewer = by_tests (f i b) (g i b) (fewer i b) (those_sub f g (suc i) bs fewer)
  where
    by_tests : (x y : Bool) → (x ≡ true → y ≡ true) → Sub (those f (suc i) bs) (those g (suc i) bs)
        → Sub (cond x ((b.entry, b.packet) ∷ those f (suc i) bs) (those f (suc i) bs)) (cond y ((b.entry, b.packet) ∷ those g (suc i) bs) (those g (suc i) bs))
    by_tests true true both rest = SubKeep (b.entry, b.packet) (those f (suc i) bs) (those g (suc i) bs) rest
    by_tests false true both rest = SubLeave (b.entry, b.packet) (those f (suc i) bs) (those g (suc i) bs) rest
    by_tests false false both rest = rest
    by_tests true false both rest = absurd (let e = both refl in cc)

pub changed_twice : {A : Type 0} (k : ℕ) (new old : A) (xs : List A) → changed k new (changed k old xs) ≡ changed k new xs
changed_twice k new old [] = refl
changed_twice zero new old (x ∷ xs) = refl
changed_twice (suc k) new old (x ∷ xs) = ap (λ l. x ∷ l) (changed_twice k new old xs)

-- a move that gives no command and no event, sets no handler, takes nothing back, lets no event lapse and restarts nobody
abbrev pub IsPlain : {H : Type 0} → NetMove H → Type 0
IsPlain (Submit k command) = ⊥
IsPlain (Queue k event) = ⊥
IsPlain (SetHandler k handler) = ⊥
IsPlain (Withdraw k) = ⊥
IsPlain (WithdrawEvent k) = ⊥
IsPlain (LapseEvent k) = ⊥
IsPlain (RestartReader k config handler room) = ⊥
IsPlain (RestartPanel settings) = ⊥
IsPlain _ = Unit {0}

-- a move of which a program notes nothing, and which its rule lets pass
abbrev pub IsStill : {H : Type 0} → NetMove H → Type 0
IsStill (Submit k command) = ⊥
IsStill (Retarget k address) = ⊥
IsStill (ToPanel how now) = ⊥
IsStill (Reopen k now) = ⊥
IsStill (RestartReader k config handler room) = ⊥
IsStill (RestartPanel settings) = ⊥
IsStill _ = Unit {0}

-- a move by which what is on its way is lost
abbrev pub IsLoss : {H : Type 0} → NetMove H → Type 0
IsLoss (LoseToReader k place) = Unit {0}
IsLoss (LoseToPanel place) = Unit {0}
IsLoss _ = ⊥

pub loss_still : {H : Type 0} (move : NetMove H) → IsLoss move → IsStill move
loss_still (LoseToReader k place) loss = tt
loss_still (LoseToPanel place) loss = tt
loss_still _ loss = absurd loss

module _ {H : Type 0} (answer_of : H → Command → Answer) (after : H → Command → H) where
  -- ---- what moves come to

  pub record Reaches (n m : Net H) : Type 0 where
    pub moves : List (NetMove H)
    pub fit : NetMovesFit answer_of after moves n
    pub run : run answer_of after moves n ≡ m
    pub plain : Each IsPlain moves

  pub stays : (n : Net H) → Reaches n n
  stays n = record { moves = []; fit = tt; run = refl; plain = tt }

  -- moves, and then more
  pub record Joins (a c : Net H) (ms : List (NetMove H)) : Type 0 where
    pub reached : Reaches a c
    pub are : reached.moves ≡ ms

  pub joins : (a b c : Net H) (x : Reaches a b) (y : Reaches b c) → Joins a c (x.moves ++ y.moves)
  joins a b c x y = record {
    reached = record {
      moves = x.moves ++ y.moves;
      fit = fits_both answer_of after x.moves y.moves a x.fit (subst (NetMovesFit answer_of after y.moves) (sym x.run) y.fit);
      run = net_more answer_of after x.moves y.moves a ∙ ap (run answer_of after y.moves) x.run ∙ y.run;
      plain = each_append IsPlain x.moves y.moves x.plain y.plain;
    };
    are = refl;
  }

  pub then_reaches : (a b c : Net H) → Reaches a b → Reaches b c → Reaches a c
  then_reaches a b c x y = (joins a b c x y).reached

  -- .. by losses alone
  pub record Loses (n m : Net H) : Type 0 where
    pub reached : Reaches n m
    pub lost : Each IsLoss reached.moves

  loses_none : (n : Net H) → Loses n n
  loses_none n = record { reached = record { moves = []; fit = tt; run = refl; plain = tt }; lost = tt }

  pub then_loses : (a b c : Net H) → Loses a b → Loses b c → Loses a c
  then_loses a b c p q =
      let both = joins a b c p.reached q.reached in
      record { reached = both.reached; lost = subst (Each IsLoss) (sym both.are) (each_append IsLoss p.reached.moves q.reached.moves p.lost q.lost) }

  one_loss : (move : NetMove H) (n : Net H) → IsPlain move → IsLoss move → NetMoveFits answer_of after move n → Loses n (after_net answer_of after move n)
  one_loss move n plain loss fits = record { reached = record { moves = move ∷ []; fit = (fits, tt); run = refl; plain = (plain, tt) }; lost = (loss, tt) }

  -- ---- losses

  abbrev pub with_panel : List (ℕ × Packet) → Net H → Net H
  with_panel qs n = record n { to_panel = qs }

  pub lose_to_panel : (xs ys front : List (ℕ × Packet)) (n : Net H) → Sub xs ys → Loses (with_panel (front ++ ys) n) (with_panel (front ++ xs) n)
  lose_to_panel us vs front n SubNil = loses_none (with_panel (front ++ []) n)
  lose_to_panel us vs front n (SubKeep x xs ys sub) =
      subst (λ l. Loses (with_panel l n) (with_panel (front ++ x ∷ xs) n)) (append_assoc front (x ∷ []) ys)
      (subst (λ l. Loses (with_panel ((front ++ x ∷ []) ++ ys) n) (with_panel l n)) (append_assoc front (x ∷ []) xs)
      (lose_to_panel xs ys (front ++ x ∷ []) n sub))
  lose_to_panel us vs front n (SubLeave x xs ys sub) =
      then_loses (with_panel (front ++ x ∷ ys) n) (with_panel (front ++ ys) n) (with_panel (front ++ xs) n)
      (subst (λ l. Loses (with_panel (front ++ x ∷ ys) n) (with_panel l n)) (lost_there front x ys)
      (one_loss (LoseToPanel (length front)) (with_panel (front ++ x ∷ ys) n) tt tt tt))
      (lose_to_panel xs ys front n sub)

  abbrev pub with_coming : ℕ → Site H → List (ℕ × Packet) → Net H → Net H
  with_coming k s qs n = record n { sites = changed k (record s { coming = qs }) n.sites }

  -- one is lost to a reader out of the middle
  lose_one : (k : ℕ) (s : Site H) (front ys : List (ℕ × Packet)) (x : ℕ × Packet) (n : Net H) → site_at k n.sites ≡ Some s
      → after_net answer_of after (LoseToReader k (length front)) (with_coming k s (front ++ x ∷ ys) n) ≡ with_coming k s (front ++ ys) n
  lose_one k s front ys x n is =
      let old = record s { coming = front ++ x ∷ ys } in
      ap (λ o. line.change_at k o (λ t. record t { coming = lost_at (length front) t.coming }) (with_coming k s (front ++ x ∷ ys) n))
      (at_changed k old s n.sites is)
      ∙ ap (λ ss. record n { sites = ss }) (changed_twice k (record old { coming = lost_at (length front) (front ++ x ∷ ys) }) old n.sites)
      ∙ ap (λ l. with_coming k s l n) (lost_there front x ys)

  pub lose_to_reader : (k : ℕ) (s : Site H) (xs ys front : List (ℕ × Packet)) (n : Net H) → site_at k n.sites ≡ Some s → Sub xs ys
      → Loses (with_coming k s (front ++ ys) n) (with_coming k s (front ++ xs) n)
  lose_to_reader k s us vs front n is SubNil = loses_none (with_coming k s (front ++ []) n)
  lose_to_reader k s us vs front n is (SubKeep x xs ys sub) =
      subst (λ l. Loses (with_coming k s l n) (with_coming k s (front ++ x ∷ xs) n)) (append_assoc front (x ∷ []) ys)
      (subst (λ l. Loses (with_coming k s ((front ++ x ∷ []) ++ ys) n) (with_coming k s l n)) (append_assoc front (x ∷ []) xs)
      (lose_to_reader k s xs ys (front ++ x ∷ []) n is sub))
  lose_to_reader k s us vs front n is (SubLeave x xs ys sub) =
      then_loses (with_coming k s (front ++ x ∷ ys) n) (with_coming k s (front ++ ys) n) (with_coming k s (front ++ xs) n)
      (subst (λ m. Loses (with_coming k s (front ++ x ∷ ys) n) m) (lose_one k s front ys x n is)
      (one_loss (LoseToReader k (length front)) (with_coming k s (front ++ x ∷ ys) n) tt tt tt))
      (lose_to_reader k s xs ys front n is sub)
