-- A reader that stores nothing but what it said from where it is goes on so: whatever it hears is to its own address.
use Rattle.osdp_shared_line.proofs.Common.{◌≡◌, ◌<◌, ℕ, Bool, true, false, eqb, List, [], ◌∷◌, Option, Some, None, IfSome, sym, subst, ◌∙◌, inl, inr, eqb_tells, option_map, option_to_list, Packet, Command, comset_of, ControllerFault, Answer, lacks_room, Delivered, Delivery, Link, Lost, Move, Repeated, after_move, ReadsWhatIsAsked, both, Each, NetMovesFit, LoseToPanel, LoseToReader, Net, NetMove, Queue, Reopen, RestartPanel, RestartReader, Retarget, SetBusy, SetHandler, Site, Submit, Tick, ToPanel, ToReader, Withdraw, LapseEvent, WithdrawEvent, address_of, after_net, is_comset_refused, is_retarget_refused, run, site_at, front_to_panel, move_of, one_if, own, own_front, own_place, view}
use Rattle.osdp_controller.specs.Machine as controllers
use Rattle.osdp_link_laws.specs.Link as link
use Rattle.osdp_shared_line.specs.Views as views
use Rattle.osdp_shared_line.proofs.Apart.{Apart, IsToDevice}
use Rattle.osdp_shared_line.proofs.Hearing.{silent}
use Rattle.osdp_shared_line.proofs.Linking.{quietly}
use Rattle.osdp_shared_line.proofs.Moving.{each_is_its_own}
use Rattle.osdp_shared_line.proofs.Readers.{IsFrom, IsNoAddress, StoresFrom, reads_well}
use Rattle.osdp_shared_line.proofs.Running.{apart_after, by_own}
use Rattle.osdp_shared_line.proofs.Sites.{some_same}

pub from_there : (o : Option Packet) (here : ℕ) → IfSome o (λ q. q.address ≡ here) → IfSome o (IsFrom IsNoAddress here)
from_there None here is = tt
from_there (Some q) here is = inl is

abbrev IsBelow : Packet → Type 0
IsBelow p = p.address < 127

own_below : (k : ℕ) (ps : List (ℕ × Packet)) → Each IsToDevice ps → Each IsBelow (own k ps)
own_below k [] all = tt
own_below k (p ∷ ps) all = both (Each IsBelow) (eqb p.0 k) (p.1 ∷ own k ps) (own k ps) (all.0, own_below k ps all.1) (own_below k ps all.1)

module _ {H : Type 0} (answer_of : H → Command → Answer) (after : H → Command → H) where
  abbrev Stores : Link H → Type 0
  Stores l = StoresFrom IsNoAddress l.reader

  gets : (p : Packet) (l : Link H) → p.address < 127 → Stores l → Stores (link.reader_gets answer_of after p l)
  gets p l device own = elim (eqb_tells l.reader.config.address p.address) [
    | inl equal ↦ (reads_well IsNoAddress answer_of after l.reader p (sym equal.1) own).stored
    | inr differs ↦ subst Stores (sym (silent answer_of after p l device differs.1)) own
  ]

  reads : (ps : List Packet) (how : Delivery) (l : Link H) → Each IsBelow ps → Stores l → Stores (link.to_reader answer_of after ps how l)
  reads [] how l devices own = own
  reads (p ∷ ps) Delivered l devices own = gets p (record l { to_reader = ps }) devices.0 own
  reads (p ∷ ps) Lost l devices own = own
  reads (p ∷ ps) Repeated l devices own = gets p l devices.0 own

  -- ---- a move of its link

  after_one : (m : Move H) (l : Link H) → Each IsBelow l.to_reader → Stores l → Stores (after_move answer_of after m l)
  after_one (link.Submit command) l devices own = by_fault (controllers.submit_refusal command l.controller)
    where
      by_fault : (fault : Option ControllerFault) → Stores (link.submits fault command l)
      by_fault None = own
      by_fault (Some fault) = own
  after_one (link.Queue event) l devices own = by_room (lacks_room event l.reader.queue)
    where
      by_room : (full : Bool) → Stores (link.queues full event l)
      by_room true = own
      by_room false = own
  after_one (link.Reopen now) l devices own = by_line (controllers.begin_refusal l.controller) l.to_reader l.to_controller
    where
      by_line : (fault : Option ControllerFault) (ps qs : List Packet) → Stores (link.reopens fault ps qs now l)
      by_line None [] [] = own
      by_line None [] (q ∷ qs) = own
      by_line None (p ∷ ps) qs = own
      by_line (Some fault) ps qs = own
  after_one (link.Retarget address) l devices own = by_fault (controllers.retarget_refusal address l.controller)
    where
      by_fault : (fault : Option ControllerFault) → Stores (link.retargets fault address l)
      by_fault None = own
      by_fault (Some fault) = own
  after_one (link.ToController how now) l devices own = by_line l.to_controller how
    where
      by_line : (ps : List Packet) (how : Delivery) → Stores (link.to_controller ps how now l)
      by_line [] how = own
      by_line (p ∷ ps) Delivered = own
      by_line (p ∷ ps) Lost = own
      by_line (p ∷ ps) Repeated = own
  after_one (link.ToReader how) l devices own = reads l.to_reader how l devices own
  after_one (link.RestartReader config handler room) l devices own = tt
  after_one (link.SetBusy busy) l devices own = own
  after_one (link.Tick now) l devices own = own
  after_one (link.SetHandler handler) l devices own = own
  after_one link.Withdraw l devices own = own
  after_one link.WithdrawEvent l devices own = own
  after_one link.LapseEvent l devices own = own
  after_one (link.RestartController config room) l devices own = own
  after_one (link.LoseToReader place) l devices own = own
  after_one (link.LoseToController place) l devices own = own

  -- ---- a move of all comes to at most one of its own

  abbrev AtMostOne : List (Move H) → Type 0
  AtMostOne [] = Unit {0}
  AtMostOne (m ∷ []) = Unit {0}
  AtMostOne (m ∷ l ∷ ms) = ⊥

  after_all : (ms : List (Move H)) (l : Link H) → AtMostOne ms → Each IsBelow l.to_reader → Stores l → Stores (link.run answer_of after ms l)
  after_all [] l few devices own = own
  after_all (m ∷ []) l few devices own = after_one m l devices own
  after_all (m ∷ n ∷ ms) l few devices own = absurd few

  one : (i k : ℕ) (m : Move H) → AtMostOne (one_if i k m)
  one i k m = both AtMostOne (eqb i k) (m ∷ []) [] tt tt

  if_some : {A : Type 0} (f : A → Move H) (o : Option A) → AtMostOne (option_to_list (option_map f o))
  if_some f None = tt
  if_some f (Some x) = tt

  one_front : (k : ℕ) (ps : List (ℕ × Packet)) (how : Delivery) → AtMostOne (own_front k ps how)
  one_front k [] how = tt
  one_front k (p ∷ ps) how = one p.0 k (link.ToReader how)

  one_to_panel : (k here : ℕ) (qs : List (ℕ × Packet)) (how : Delivery) (now : ℕ) → AtMostOne (front_to_panel k here qs how now)
  one_to_panel k here [] how now = tt
  one_to_panel k here (q ∷ qs) how now =
      both AtMostOne (eqb q.0 k) (views.own_reply here q.1 how now) (views.other_reply here q.1 how now)
      (both AtMostOne (eqb here q.1.address) (link.ToController how now ∷ []) (views.lost how now) tt (lost how))
      (both AtMostOne (eqb here q.1.address) (views.sees how now) [] (sees how) tt)
    where
      lost : (how : Delivery) → AtMostOne (views.lost how now)
      lost Delivered = tt
      lost Lost = tt
      lost Repeated = tt

      sees : (how : Delivery) → AtMostOne (views.sees how now)
      sees Delivered = tt
      sees Lost = tt
      sees Repeated = tt

  at_most_one : (k : ℕ) (s : Site H) (move : NetMove H) (n : Net H) → AtMostOne (move_of k s move n)
  at_most_one k s (Submit i c) n =
      both AtMostOne (is_comset_refused i (comset_of c) s n.sites) [] (one_if i k (link.Submit c)) tt (one i k (link.Submit c))
  at_most_one k s (Queue i e) n = one i k (link.Queue e)
  at_most_one k s (SetBusy i busy) n = one i k (link.SetBusy busy)
  at_most_one k s (SetHandler i h) n = one i k (link.SetHandler h)
  at_most_one k s (Withdraw i) n = one i k link.Withdraw
  at_most_one k s (WithdrawEvent i) n = one i k link.WithdrawEvent
  at_most_one k s (LapseEvent i) n = one i k link.LapseEvent
  at_most_one k s (Retarget i address) n =
      both AtMostOne (is_retarget_refused i address s n.sites) [] (one_if i k (link.Retarget address)) tt (one i k (link.Retarget address))
  at_most_one k s (Tick i now) n = one i k (link.Tick now)
  at_most_one k s (ToReader i how) n = both AtMostOne (eqb i k) (own_front k s.coming how) [] (one_front k s.coming how) tt
  at_most_one k s (ToPanel how now) n = one_to_panel k (address_of s) n.to_panel how now
  at_most_one k s (LoseToReader i place) n =
      both AtMostOne (eqb i k) (option_to_list (option_map link.LoseToReader (own_place k place s.coming))) []
      (if_some link.LoseToReader (own_place k place s.coming)) tt
  at_most_one k s (LoseToPanel place) n = if_some link.LoseToController (own_place k place n.to_panel)
  at_most_one k s (Reopen i now) n = one i k (link.Reopen now)
  at_most_one k s (RestartReader i config h room) n = one i k (link.RestartReader config h room)
  at_most_one k s (RestartPanel settings) n = tt

  pub keeps_own : ReadsWhatIsAsked → (moves : List (NetMove H)) (n : Net H) → NetMovesFit answer_of after moves n → Apart n → (k : ℕ) (s last : Site H)
      → site_at k n.sites ≡ Some s → site_at k (run answer_of after moves n).sites ≡ Some last → StoresFrom IsNoAddress s.reader
      → StoresFrom IsNoAddress last.reader
  keeps_own known [] n fits a k s last is there own = subst (λ (u : Site H). StoresFrom IsNoAddress u.reader) (some_same s last (sym is ∙ there)) own
  keeps_own known (move ∷ moves) n fits a k s last is there own =
      let next = after_net answer_of after move n in
      let m = each_is_its_own answer_of after n move (by_own n a) (quietly answer_of after move n fits.0) k s is in
      keeps_own known moves next fits.1 (apart_after answer_of after known move n fits.0 a) k m.site last m.there there
      (subst Stores (sym m.moved)
      (after_all (move_of k s move n) (view k s n) (at_most_one k s move n) (own_below k s.coming (a.kept k s is).devices) own))
