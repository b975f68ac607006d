-- What the theory of one link says of each site: its view is a link that stands, and keeps to the names of its site.
use Rattle.osdp_bus_links.proofs.Common.{◌≡◌, ℕ, List, ◌++◌, Some, sym, subst, Command, Answer, MovesFit, NameOneDevice, TellAsAsked, ReadEachOther, Each, Net, Site, site_at, IsMoved, view}
use Rattle.osdp_link_laws.specs.Link.{Link, Move, run}
use Rattle.osdp_bus_links.proofs.Names.{IsUsual, MayMoves, reserved_after_moves}
use Rattle.osdp_bus_links.proofs.Leading.{IsLed, keeps_all, led_on}
use Rattle.osdp_bus_links.proofs.Naming.{Keeps}

module _ {H : Type 0} (answer_of : H → Command → Answer) (after : H → Command → H) where
  -- ---- what is known of one link

  pub record OfALink : Type 0 where
    pub peers : ReadEachOther answer_of after
    pub device : NameOneDevice answer_of after
    pub told : TellAsAsked answer_of after

  -- ---- one site

  pub record IsLinked (k : ℕ) (s : Site H) (n : Net H) : Type 0 where
    pub first : Link H
    pub moves : List (Move H)
    pub led : IsLed answer_of after first moves (view k s n)
    pub keeps : Keeps s.reserved (view k s n)

  pub linked_after : OfALink → (k : ℕ) (s : Site H) (moves : List (Move H)) (n next : Net H) → IsLinked k s n
      → MovesFit answer_of after moves (view k s n) → MayMoves answer_of after moves (view k s n) s.reserved → Each IsUsual moves
      → (m : IsMoved answer_of after k s moves n next)
      → m.site.reserved ≡ reserved_after_moves answer_of after moves (view k s n) s.reserved → IsLinked k m.site next
  linked_after given k s moves n next h fits may usual m reserved =
      record {
        first = h.first;
        moves = h.moves ++ moves;
        led = subst (IsLed answer_of after h.first (h.moves ++ moves)) (sym m.moved)
            (led_on answer_of after h.first h.moves moves (view k s n) h.led fits usual);
        keeps = subst (λ l. Keeps m.site.reserved l) (sym m.moved)
            (subst (λ r. Keeps r (run answer_of after moves (view k s n))) (sym reserved)
            (keeps_all answer_of after given.peers.asked given.peers.answered given.device given.told h.first h.moves moves s.reserved (view k s n)
            h.led usual fits may h.keeps));
      }

  abbrev pub AreLinked : Net H → Type 0
  AreLinked n = (k : ℕ) (s : Site H) → site_at k n.sites ≡ Some s → IsLinked k s n
