-- What a bus accepts it gives to nobody else: where nobody restarts and no address is set but by COMSETs, all addresses at which a device is, or
-- may come, are its controller's or kept for it.
use Rattle.osdp_bus_links.proofs.Common.{◌≡◌, ◌||◌, ◌==◌, ℕ, not, Bool, true, false, List, [], ◌∷◌, ◌++◌, Option, Some, None, refl, sym, subst, ap, ◌∙◌, inl, inr, eqb_tells, is_some, Packet, Command, Communication, comset_of, Answer, each_of, is_true, Each, HasNoOther, IsAsked, IsSaid, IsSetUp, IsThere, MayComeTo, NetMoveFits, NetMovesFit, NobodyElseHears, Sets, SetsReader, Somewhere, ahead, EachMoveIsItsOwn, OpensQuietly, move_of, own, view, none_beside, or_false, move_fits, own_first, own_rest, some_same, AllOthersFit, BusSuffices, IsScheduled, NothingIsKept, OthersFit}
use Rattle.std.proofs.lemmas.Bool.{or_right}
use Rattle.osdp_controller.specs.Machine as controllers
use Rattle.osdp_shared_line.specs.Line.{Net, NetMove, Queue, Reopen, SetBusy, Site, Submit, Tick, ToPanel, ToReader, address_of, after_net, is_command_accepted, is_comset_refused, is_reserved, is_taken_beside, run, takes_up}
use Rattle.osdp_bus_links.proofs.Keeping.{before, moves_may}
use Rattle.osdp_bus_links.proofs.Leading.{starts}
use Rattle.osdp_bus_links.proofs.Linked.{AreLinked, IsLinked, OfALink, linked_after}
use Rattle.osdp_bus_links.proofs.Names.{IsName}
use Rattle.osdp_bus_links.proofs.Naming.{Keeps}
use Rattle.osdp_bus_links.proofs.Reserved.{One, front_is, new_is}
use Rattle.osdp_shared_line.proofs.Rounds.{fits_both, net_more}

-- ---- what is under way

-- the one COMSET sets the address that is kept
one_sets : (r : Option ℕ) (a : ℕ) (cs : List Command) → One r cs → Somewhere (Sets a) cs → r ≡ Some a
one_sets r a [] one found = absurd found
one_sets r a (c ∷ cs) one (inl sets) =
    let set = new_is c a sets in (front_is (comset_of c) set.0 r cs set.1 one.0).0 ∙ ap Some set.2
one_sets r a (c ∷ cs) one (inr found) = one_sets r a cs one.1 found

-- what holds of all that is one's own holds of one
of_own : (P : Packet → Type 0) (Q : Packet → Type 0) (R : Type 0) (k : ℕ) (ps : List (ℕ × Packet)) → ((p : Packet) → P p → Q p → R) → Each P (own k ps)
    → Somewhere (λ (q : ℕ × Packet). (q.0 ≡ k) × Q q.1) ps → R
of_own P Q R k [] gives all found = absurd found
of_own P Q R k (p ∷ ps) gives all (inl (mine, is)) = gives p.1 (subst (Each P) (own_first k p ps mine) all).0 is
of_own P Q R k (p ∷ ps) gives all (inr found) = elim (eqb_tells p.0 k) [
  | inl equal ↦ of_own P Q R k ps gives (subst (Each P) (own_first k p ps equal.1) all).1 found
  | inr differs ↦ of_own P Q R k ps gives (subst (Each P) (own_rest k p ps differs.1) all) found
]

-- ---- what is taken

accepts_so : (a b : Bool) → not (a || b) ≡ true → a ≡ false
accepts_so true b is = absurd cc
accepts_so false b is = refl

kept_is : (r : Option ℕ) (a : ℕ) → r ≡ Some a → is_reserved a r ≡ true
kept_is None a is = absurd cc
kept_is (Some b) a is = is_true b a cc

module _ {H : Type 0} where
  -- an address of a site is one that the bus takes for taken
  name_taken : (a : ℕ) (s : Site H) → IsName (address_of s) s.reserved a → takes_up a s ≡ true
  name_taken a s (inl here) = ap (λ b. b || is_reserved a s.reserved) (is_true (address_of s) a (sym here))
  name_taken a s (inr kept) = or_right (address_of s == a) (is_reserved a s.reserved) (kept_is s.reserved a kept)

module _ {H : Type 0} (answer_of : H → Command → Answer) (after : H → Command → H) where
  -- ---- where a device is or may come

  named : (a k : ℕ) (s : Site H) (n : Net H) → IsLinked answer_of after k s n → MayComeTo a k s → IsName (address_of s) s.reserved a
  named a k s n h (IsThere is) = subst (IsName (address_of s) s.reserved) is h.keeps.names.reader
  named a k s n h (IsAsked found) =
      inr (one_sets s.reserved a (ahead s.controller) h.keeps.one found)
  named a k s n h (IsSaid found) =
      of_own (λ p. (to : ℕ) → SetsReader to p → IsName (address_of s) s.reserved to) (SetsReader a) (IsName (address_of s) s.reserved a) k s.coming
      (λ p names sets. names a sets) h.keeps.names.commands found

  has_no_other : (k : ℕ) (c : Command) (asked : Communication) (s : Site H) (n : Net H) → AreLinked answer_of after n
      → is_command_accepted k c s n.sites ≡ true → comset_of c ≡ Some asked → HasNoOther k asked.address n
  has_no_other k c asked s n linked accepted is j t other there may =
      let free : is_comset_refused k (Some asked) s n.sites ≡ false =
      ap (λ o. is_comset_refused k o s n.sites) (sym is)
      ∙ accepts_so (is_comset_refused k (comset_of c) s n.sites) (is_some (controllers.submit_refusal c s.controller)) accepted in
      none_beside k asked.address j t n.sites (or_false (is_taken_beside k asked.address n.sites) (is_some s.reserved) free).0 other there
      (name_taken asked.address t (named asked.address j t n (linked j t there) may))

  fits : (move : NetMove H) (n : Net H) → IsScheduled move → OthersFit answer_of after move n → AreLinked answer_of after n
      → NetMoveFits answer_of after move n
  fits (Submit k c) n scheduled others linked = (others, λ s asked at accepted is. has_no_other k c asked s n linked accepted is)
  fits (Queue k e) n scheduled others linked = tt
  fits (SetBusy k busy) n scheduled others linked = tt
  fits (Tick k now) n scheduled others linked = tt
  fits (ToReader k how) n scheduled others linked = others
  fits (ToPanel how now) n scheduled others linked = tt
  fits (Reopen k now) n scheduled others linked = others
  fits _ n scheduled others linked = absurd scheduled

  opens : (move : NetMove H) (n : Net H) → OthersFit answer_of after move n → OpensQuietly move n
  opens (Submit k c) n others = tt
  opens (ToReader k how) n others = tt
  opens move n others = others

  -- ---- one list of moves after another

  pub others_more : (ms more : List (NetMove H)) (n : Net H) → AllOthersFit answer_of after ms n
      → AllOthersFit answer_of after more (run answer_of after ms n) → AllOthersFit answer_of after (ms ++ more) n
  others_more [] more n first last = last
  others_more (m ∷ ms) more n first last = (first.0, others_more ms more (after_net answer_of after m n) first.1 last)

  others : (move : NetMove H) (n : Net H) → NetMoveFits answer_of after move n → OthersFit answer_of after move n
  others (Submit k c) n fit = fit.0
  others (ToReader k how) n fit = fit
  others (Reopen k now) n fit = fit
  others _ n fit = tt

  module _ (given : OfALink answer_of after) (its_own : EachMoveIsItsOwn answer_of after) (nobody : NobodyElseHears answer_of after) where
    linked_on : (first : Net H) (ms : List (NetMove H)) (move : NetMove H) → IsSetUp first → NetMovesFit answer_of after ms first
        → IsScheduled move → OthersFit answer_of after move (run answer_of after ms first)
        → NetMoveFits answer_of after move (run answer_of after ms first) → AreLinked answer_of after (run answer_of after ms first)
        → AreLinked answer_of after (after_net answer_of after move (run answer_of after ms first))
    linked_on first ms move up along scheduled others fit linked k t is =
        let n = run answer_of after ms first in
        let next = after_net answer_of after move n in
        let heard = (nobody first ms up along).heard in
        let old = before answer_of after move k t n scheduled heard is in
        let moved = its_own n move heard (opens move n others) k old.site old.there in
        let may = moves_may answer_of after move k old.site n scheduled in
        let same : t ≡ moved.site = some_same t moved.site (sym is ∙ moved.there) in
        subst (λ (u : Site H). IsLinked answer_of after k u next) (sym same)
        (linked_after answer_of after given k old.site (move_of k old.site move n) n next (linked k old.site old.there)
        (move_fits answer_of after move k old.site n old.there fit) may.0 may.1 moved (ap (λ (u : Site H). u.reserved) (sym same) ∙ old.reserved))

    linked_first : (n : Net H) → IsSetUp n → NothingIsKept n → AreLinked answer_of after n
    linked_first n up none k s is = record {
      first = view k s n;
      moves = [];
      led = record { begins = up.begins k s is; fits = tt; usual = tt; leads = refl };
      keeps = subst (λ r. Keeps r (view k s n)) (sym (none.addresses k s is)) (starts answer_of after (view k s n) (record {
        begins = up.begins k s is;
        together = up.together k s is;
        stored = none.replies k s is;
        waiting = up.waiting k s is;
      }));
    }

    sufficing : (first : Net H) (ms moves : List (NetMove H)) → IsSetUp first → NetMovesFit answer_of after ms first → Each IsScheduled moves
        → AllOthersFit answer_of after moves (run answer_of after ms first) → AreLinked answer_of after (run answer_of after ms first)
        → NetMovesFit answer_of after moves (run answer_of after ms first)
    sufficing first ms [] up along scheduled others linked = tt
    sufficing first ms (move ∷ moves) up along scheduled others linked =
        let n = run answer_of after ms first in
        let fit = fits move n scheduled.0 others.0 linked in
        let same : run answer_of after (ms ++ move ∷ []) first ≡ after_net answer_of after move n = net_more answer_of after ms (move ∷ []) first in (
          fit,
          subst (NetMovesFit answer_of after moves) same (sufficing first (ms ++ move ∷ []) moves up (fits_both answer_of after ms (move ∷ []) first along (fit, tt))
              scheduled.1 (subst (AllOthersFit answer_of after moves) (sym same) others.1)
              (subst (AreLinked answer_of after) (sym same) (linked_on first ms move up along scheduled.0 others.0 fit linked))),
        )

    -- each site is a link that such moves have led to
    linked_all : (first : Net H) (ms moves : List (NetMove H)) → IsSetUp first → NetMovesFit answer_of after ms first → Each IsScheduled moves
        → NetMovesFit answer_of after moves (run answer_of after ms first) → AreLinked answer_of after (run answer_of after ms first)
        → AreLinked answer_of after (run answer_of after moves (run answer_of after ms first))
    linked_all first ms [] up along scheduled fit linked = linked
    linked_all first ms (move ∷ moves) up along scheduled fit linked =
        let n = run answer_of after ms first in
        let same : run answer_of after (ms ++ move ∷ []) first ≡ after_net answer_of after move n = net_more answer_of after ms (move ∷ []) first in
        let next = linked_on first ms move up along scheduled.0 (others move n fit.0) fit.0 linked in
        subst (λ m. AreLinked answer_of after (run answer_of after moves m)) same
        (linked_all first (ms ++ move ∷ []) moves up (fits_both answer_of after ms (move ∷ []) first along (fit.0, tt)) scheduled.1
        (subst (NetMovesFit answer_of after moves) (sym same) fit.1) (subst (AreLinked answer_of after) (sym same) next))

    pub all_linked : (first : Net H) (moves : List (NetMove H)) → IsSetUp first → NothingIsKept first → Each IsScheduled moves
        → NetMovesFit answer_of after moves first → AreLinked answer_of after (run answer_of after moves first)
    all_linked first moves up none scheduled fit = linked_all first [] moves up tt scheduled fit (linked_first first up none)

    pub bus_suffices : BusSuffices answer_of after
    bus_suffices n moves up none scheduled others =
        sufficing n [] moves up tt (each_of IsScheduled moves scheduled) others (linked_first n up none)
