-- Rounds that lose nothing are for each site its own rounds.
use Rattle.osdp_shared_line.proofs.Common.{◌≡◌, ◌≢◌, ◌⊎◌, ◌<◌, ◌≤◌, ℕ, zero, suc, true, false, cond, eqb, List, [], ◌∷◌, ◌++◌, length, Option, Some, None, IfSome, refl, sym, subst, ap, ◌∙◌, inl, inr, arith, eqb_tells, Packet, Command, seen, Closed, Answer, MovesFit, SaysWhatFitsIf, Delivered, Link, Move, after_move, ReadsWhatIsAsked, AreDue, AreLate, ComeOn, ComesThrough, ComesThroughInTime, IsClear, SetsNoAddress, round, rounds, reports, told_in, each_of, NetMovesFit, unended, Net, NetMove, Site, Tick, ToPanel, address_of, after_net, changed, first_gets, gets, is_told, run, site_at, tagged, AreRounds, ComesOn, EachComesThrough, EachComesThroughInTime, IsEmpty, RoundsAreItsOwn, all_read, moments_of, net_round, net_rounds, IsItsLink, moves_of, reports_at, IsMoved, front_to_panel, one_if, own, own_reply, other_reply, view, is_false, is_true}
use Rattle.std.specs.Prelude.{Bool, ◌-◌, map, min, option_to_list}
use Rattle.osdp_controller.specs.Ticking as ticking
use Rattle.osdp_link_laws.specs.Ahead.{count_ahead}
use Rattle.osdp_link_laws.specs.Link as link
use Rattle.osdp_shared_line.specs.Line as line
use Rattle.osdp_shared_line.specs.Views as views
use Rattle.osdp_shared_line.proofs.Apart.{Apart, reader_address}
use Rattle.osdp_shared_line.proofs.Controllers.{ticks_well}
use Rattle.osdp_shared_line.proofs.Delivering.{gets_one}
use Rattle.osdp_shared_line.proofs.Linking.{each_is_a_link, moves_more, viewed}
use Rattle.osdp_shared_line.proofs.Moving.{each_is_its_own, one_is, one_not}
use Rattle.osdp_shared_line.proofs.Reading.{Between, IsSeen, all_between, reads_none, reads_own}
use Rattle.osdp_shared_line.proofs.Running.{apart_after, apart_all, apart_first, by_own}
use Rattle.osdp_shared_line.proofs.Sites.{changed_from, map_from, some_same}
use Rattle.osdp_shared_line.proofs.Still.{IsStill, round_still}
use Rattle.osdp_shared_line.proofs.Storing.{from_there, keeps_own}
use Rattle.osdp_shared_line.proofs.Telling.{reports_more, round_tells, tells_more}
use Rattle.osdp_shared_line.proofs.Readers.{IsNoAddress, StoresFrom}

pub at_length : {A : Type 0} (m : ℕ) (u : A) (ss : List A) → site_at m ss ≡ Some u → m < length ss
at_length m u [] is = absurd cc
at_length zero u (s ∷ ss) is = omega arith
at_length (suc m) u (s ∷ ss) is = let more = at_length m u ss is in omega (arith, more)

module _ {H : Type 0} (answer_of : H → Command → Answer) (after : H → Command → H) where
  -- ---- one list of moves of all after another

  pub net_more : (ms more : List (NetMove H)) (n : Net H) → run answer_of after (ms ++ more) n ≡ run answer_of after more (run answer_of after ms n)
  net_more [] more n = refl
  net_more (m ∷ ms) more n = net_more ms more (after_net answer_of after m n)

  pub fits_first : (ms more : List (NetMove H)) (n : Net H) → NetMovesFit answer_of after (ms ++ more) n → NetMovesFit answer_of after ms n
  fits_first [] more n fits = tt
  fits_first (m ∷ ms) more n fits = (fits.0, fits_first ms more (after_net answer_of after m n) fits.1)

  pub fits_then : (ms more : List (NetMove H)) (n : Net H) → NetMovesFit answer_of after (ms ++ more) n
      → NetMovesFit answer_of after more (run answer_of after ms n)
  fits_then [] more n fits = fits
  fits_then (m ∷ ms) more n fits = fits_then ms more (after_net answer_of after m n) fits.1

  pub fits_both : (ms more : List (NetMove H)) (n : Net H) → NetMovesFit answer_of after ms n → NetMovesFit answer_of after more (run answer_of after ms n)
      → NetMovesFit answer_of after (ms ++ more) n
  fits_both [] more n first last = last
  fits_both (m ∷ ms) more n first last = (first.0, fits_both ms more (after_net answer_of after m n) first.1 last)

  module _ (known : ReadsWhatIsAsked) (total : ℕ) where
    abbrev pub IsFew : Net H → Type 0
    IsFew n = (m : ℕ) (u : Site H) → site_at m n.sites ≡ Some u → m < total

    -- ---- a controller ticks

    abbrev Together : ℕ → Net H → Type 0
    Together i n = (s : Site H) → site_at i n.sites ≡ Some s → (reader_address s ≡ address_of s) × StoresFrom IsNoAddress s.reader

    ticked : (i now : ℕ) (x : Option (Site H)) (n : Net H) → site_at i n.sites ≡ x → Apart n → IsEmpty n → IsFew n
        → (o : Option Packet) × Between answer_of after known 0 total i o (Together i n) (line.tick_at answer_of after i now x n)
    ticked i now None n at a empty few = (
      None,
      record {
        few = few;
        unread = λ m u is le. empty.coming m u is;
        read = λ m u is lt. empty.coming m u is;
        said = None;
        panel = empty.to_panel;
        before = λ le. refl;
        mine = λ le u is together. together u is;
        away = tt;
        own = tt;
      },
    )
    ticked i now (Some s) n at a empty few = (
      frame,
      record {
        few = λ m u is. let v = from m u is in few m v.0 v.1;
        unread = λ m u is le. let v = from m u is in v.2;
        read = λ m u is lt. absurd (omega (arith, lt));
        said = None;
        panel = empty.to_panel;
        before = λ le. refl;
        mine = λ le u is together. own u is (together s at);
        away = tt;
        own = tt;
      },
    )
      where
        t : Site H
        t = line.ticks answer_of after now s

        frame : Option Packet
        frame = (ticking.ticks now s.controller.session s.controller.waiting).step.frame

        said : List (ℕ × Packet)
        said = tagged i (option_to_list frame)

        from : (m : ℕ) (u : Site H) → site_at m (map (is_told said) (changed i t n.sites)) ≡ Some u
            → (v : Site H) × (site_at m n.sites ≡ Some v) × (u.coming ≡ said)
        from m u is =
            let old = map_from (is_told said) m u (changed i t n.sites) is in
            elim (changed_from m i t s old.0 n.sites at old.1) [
              | inl here ↦ (
                s,
                subst (λ j. site_at j n.sites ≡ Some s) (sym here.0) at,
                ap (λ (w : Site H). w.coming) old.2 ∙ ap (λ (w : Site H). w.coming ++ said) here.1 ∙ ap (λ ps. ps ++ said) (empty.coming i s at),
              )
              | inr other ↦ (
                old.0,
                other.1,
                ap (λ (w : Site H). w.coming) old.2 ∙ ap (λ ps. ps ++ said) (empty.coming m old.0 other.1),
              )
            ]

        own : (u : Site H) → site_at i (map (is_told said) (changed i t n.sites)) ≡ Some u
            → (reader_address s ≡ address_of s) × StoresFrom IsNoAddress s.reader → (reader_address u ≡ address_of u) × StoresFrom IsNoAddress u.reader
        own u is together =
            let old = map_from (is_told said) i u (changed i t n.sites) is in
            let well = ticks_well known s.controller.session.state (seen now s.controller.session) s.controller.waiting refl (a.kept i s at).fits in
            elim (changed_from i i t s old.0 n.sites at old.1) [
              | inl here ↦ (
                ap (λ (w : Site H). reader_address w) old.2 ∙ ap (λ (w : Site H). reader_address w) here.1 ∙ together.0
                    ∙ sym (ap (λ (w : Site H). address_of w) old.2 ∙ ap (λ (w : Site H). address_of w) here.1 ∙ well.address),
                subst (λ (w : Site H). StoresFrom IsNoAddress w.reader) (sym old.2)
                    (subst (λ (w : Site H). StoresFrom IsNoAddress w.reader) (sym here.1) together.1),
              )
              | inr other ↦ absurd (other.0 refl)
            ]

    -- ---- the panel reads

    emptied : (x : Option Packet) (i now : ℕ) (n : Net H) → n.to_panel ≡ tagged i (option_to_list x)
        → ((m : ℕ) (u : Site H) → site_at m n.sites ≡ Some u → u.coming ≡ []) → IsFew n
        → IsEmpty (line.to_panel n.to_panel Delivered now n) × IsFew (line.to_panel n.to_panel Delivered now n)
    emptied None i now n is coming few =
        subst (λ qs. IsEmpty (line.to_panel qs Delivered now n) × IsFew (line.to_panel qs Delivered now n)) (sym is)
        (record { coming = coming; to_panel = is }, few)
    emptied (Some q) i now n is coming few =
        subst (λ qs. IsEmpty (line.to_panel qs Delivered now n) × IsFew (line.to_panel qs Delivered now n)) (sym is)
        (record { coming = λ m u there. (from m u there).2; to_panel = refl }, λ m u there. let v = from m u there in few m v.0 v.1)
      where
        from : (m : ℕ) (u : Site H) → site_at m (first_gets q now n.sites) ≡ Some u → (v : Site H) × (site_at m n.sites ≡ Some v) × (u.coming ≡ [])
        from m u there = elim (gets_one q now n.sites) [
          | inl none ↦ (let same = subst (λ ss. site_at m ss ≡ Some u) none there in (u, same, coming m u same))
          | inr (j, s, at, one) ↦
              elim (changed_from m j (gets q now s) s u n.sites at (subst (λ ss. site_at m ss ≡ Some u) one there)) [
                | inl here ↦ (s, subst (λ l. site_at l n.sites ≡ Some s) (sym here.0) at, ap (λ (w : Site H). w.coming) here.1 ∙ coming j s at)
                | inr other ↦ (u, other.1, coming m u other.1)
              ]
        ]

    -- what it reads is none of another site's
    panel_none : (x : Option Packet) (k i now : ℕ) (here : ℕ) (qs : List (ℕ × Packet)) → qs ≡ tagged i (option_to_list x) → i ≢ k
        → IfSome x (λ q. here ≢ q.address) → front_to_panel {H = H} k here qs Delivered now ≡ []
    panel_none None k i now here qs is other away = ap (λ l. front_to_panel k here l Delivered now) is
    panel_none (Some q) k i now here qs is other away =
        ap (λ l. front_to_panel k here l Delivered now) is
        ∙ ap (λ b. cond b (own_reply here q Delivered now) (other_reply here q Delivered now)) (is_false i k other)
        ∙ ap (λ b. cond b (link.Tick now ∷ []) []) (is_false here q.address away)

    -- .. and its own: whatever is made of its moves, where with nothing to read it is the same
    panel_own : {A : Type 0} (f : List (Move H) → Link H → A) (x : Option Packet) (i now : ℕ) (s : Site H) (ps : List Packet) (qs : List (ℕ × Packet))
        → f [] (line.link_of s ps []) ≡ f (link.ToController Delivered now ∷ []) (line.link_of s ps []) → qs ≡ tagged i (option_to_list x)
        → IfSome x (λ q. address_of s ≡ q.address)
        → f (front_to_panel i (address_of s) qs Delivered now) (line.link_of s ps (own i qs))
        ≡ f (link.ToController Delivered now ∷ []) (line.link_of s ps (own i qs))
    panel_own f None i now s ps qs none is at =
        subst (λ l. f (front_to_panel i (address_of s) l Delivered now) (line.link_of s ps (own i l))
        ≡ f (link.ToController Delivered now ∷ []) (line.link_of s ps (own i l))) (sym is) none
    panel_own f (Some q) i now s ps qs none is at =
        subst (λ l. f (front_to_panel i (address_of s) l Delivered now) (line.link_of s ps (own i l))
        ≡ f (link.ToController Delivered now ∷ []) (line.link_of s ps (own i l))) (sym is)
        (ap (λ ms. f ms (line.link_of s ps (own i ((i, q) ∷ []))))
        (ap (λ b. cond b (own_reply (address_of s) q Delivered now) (other_reply (address_of s) q Delivered now)) (is_true i i refl)
        ∙ ap (λ b. cond b (link.ToController Delivered now ∷ []) (views.lost Delivered now)) (is_true (address_of s) q.address at)))

    -- ---- a round

    -- it is these moves of the site at this place, and tells what they tell
    abbrev IsOwn : ℕ → List (Move H) → ℕ × ℕ → Site H → Net H → Net H → Type 0
    IsOwn k ms turn s n next = IsSeen answer_of after known k (link.run answer_of after ms (view k s n)) next × MovesFit answer_of after ms (view k s n)
        × (reports_at answer_of after k (net_round total turn) s n ≡ reports answer_of after ms (view k s n))

    pub record IsRound (k i now : ℕ) (s : Site H) (n next : Net H) : Type 0 where
      pub apart : Apart next
      pub empty : IsEmpty next
      pub few : IsFew next
      pub seen : IsSeen answer_of after known k (link.run answer_of after (cond (eqb i k) (round now) []) (view k s n)) next
      pub fits : MovesFit answer_of after (cond (eqb i k) (round now) []) (view k s n)
      pub tells : reports_at answer_of after k (net_round total (i, now)) s n ≡ reports answer_of after (cond (eqb i k) (round now) []) (view k s n)

    pub one_round : (k i now : ℕ) (s : Site H) (n : Net H) → site_at k n.sites ≡ Some s
        → (i ≡ k → (reader_address s ≡ address_of s) × StoresFrom IsNoAddress s.reader) → Apart n → IsEmpty n → IsFew n → NetMovesFit answer_of after (net_round total (i, now)) n
        → IsRound k i now s n (run answer_of after (net_round total (i, now)) n)
    one_round k i now s n is together a empty few fits =
        subst (IsRound k i now s n) (sym (net_more (all_read 0 total) (ToPanel Delivered now ∷ []) n1)) (record {
          apart = apart_after answer_of after known (ToPanel Delivered now) n2 tt a2;
          empty = done.0;
          few = done.1;
          seen = (by_turn (eqb_tells i k)).0;
          fits = (by_turn (eqb_tells i k)).1;
          tells = (by_turn (eqb_tells i k)).2;
        })
      where
        n1 : Net H
        n1 = after_net answer_of after (Tick i now) n

        a1 : Apart n1
        a1 = apart_after answer_of after known (Tick i now) n tt a

        begun : (o : Option Packet) × Between answer_of after known 0 total i o (Together i n) n1
        begun = ticked i now (site_at i n.sites) n refl a empty few

        reading_fits : NetMovesFit answer_of after (all_read 0 total) n1
        reading_fits = fits_first (all_read 0 total) (ToPanel Delivered now ∷ []) n1 fits.1

        n2 : Net H
        n2 = run answer_of after (all_read 0 total) n1

        read : Apart n2 × Between answer_of after known total total i begun.0 (Together i n) n2
        read = all_between answer_of after known 0 total total total i begun.0 (Together i n) n1 (omega arith) reading_fits a1 begun.1

        a2 : Apart n2
        a2 = read.0

        b2 : Between answer_of after known total total i begun.0 (Together i n) n2
        b2 = read.1

        -- the rest of its own round, once it has ticked
        reading : List (Move H)
        reading = link.ToReader Delivered ∷ link.ToController Delivered now ∷ []

        n3 : Net H
        n3 = after_net answer_of after (ToPanel Delivered now) n2

        done : IsEmpty n3 × IsFew n3
        done = emptied b2.said i now n2 b2.panel (λ m u there. b2.read m u there (b2.few m u there)) b2.few

        m1 : IsMoved answer_of after k s (one_if i k (link.Tick now)) n n1
        m1 = each_is_its_own answer_of after n (Tick i now) (by_own n a) tt k s is

        if_map : {A : Type 0} {P Q : A → Type 0} (x : Option A) → ((y : A) → P y → Q y) → IfSome x P → IfSome x Q
        if_map None f all = tt
        if_map (Some y) f all = f y all

        by_turn : ((eqb i k ≡ true) × (i ≡ k)) ⊎ ((eqb i k ≡ false) × (i ≢ k)) → IsOwn k (cond (eqb i k) (round now) []) (i, now) s n n3
        by_turn (inr differs) =
            let seen = reads_none answer_of after known 0 total total i begun.0 (Together i n) n1 k m1.site m1.there reading_fits a1 begun.1 (inl differs.1) in
            let m3 = each_is_its_own answer_of after n2 (ToPanel Delivered now) (by_own n2 a2) tt k seen.site seen.there in
            let none_read = panel_none b2.said k i now (address_of seen.site) n2.to_panel b2.panel differs.1
            (if_map b2.said (λ q far. far k seen.site (λ e. differs.1 (sym e)) seen.there) b2.away) in
            let none_ticked = one_not i k (link.Tick now) differs.1 in
            subst (λ b. IsOwn k (cond b (round now) []) (i, now) s n n3) (sym differs.0) (
              record {
                site = m3.site;
                there = m3.there;
                seen = m3.moved
                    ∙ ap (λ ms. link.run answer_of after ms (view k seen.site n2)) none_read
                    ∙ seen.seen ∙ m1.moved
                    ∙ ap (λ ms. link.run answer_of after ms (view k s n)) none_ticked;
              },
              tt,
              round_tells answer_of after known total i now n (fits.0, reading_fits) a k s seen.site is seen.there [] [] none_ticked
                  (ap (λ ms. reports answer_of after ms (view k seen.site n2)) none_read),
            )
        by_turn (inl equal) =
            let mine = subst (λ j. site_at j n.sites ≡ Some s) (sym equal.1) is in
            let there1 = subst (λ j. site_at j n1.sites ≡ Some m1.site) (sym equal.1) m1.there in
            let few = begun.1.few i m1.site there1 in
            let told = reads_own answer_of after known 0 total total i begun.0 (Together i n) n1 m1.site there1 (omega arith) (omega (arith, few)) reading_fits a1 begun.1 in
            let seen = told.1 in
            let m3 = each_is_its_own answer_of after n2 (ToPanel Delivered now) (by_own n2 a2) tt i seen.site seen.there in
            let ticks : view i m1.site n1 ≡ after_move answer_of after (link.Tick now) (view i s n) =
            subst (λ j. view j m1.site n1 ≡ after_move answer_of after (link.Tick now) (view j s n)) (sym equal.1)
            (m1.moved ∙ ap (λ ms. link.run answer_of after ms (view k s n)) (one_is i k (link.Tick now) equal.1))
            in
            let near = if_map b2.said (λ q close. close seen.site seen.there (λ u at.
            subst (λ v. (reader_address v ≡ address_of v) × StoresFrom IsNoAddress v.reader) (some_same s u (sym mine ∙ at)) (together equal.1)))
            b2.own
            in
            let read : view i seen.site n2 ≡ after_move answer_of after (link.ToReader Delivered) (after_move answer_of after (link.Tick now) (view i s n)) =
            seen.seen ∙ ap (after_move answer_of after (link.ToReader Delivered)) ticks
            in
            subst (λ b. IsOwn k (cond b (round now) []) (i, now) s n n3) (sym equal.0)
            (subst (λ j. IsOwn j (round now) (i, now) s n n3) equal.1 (
              record {
                site = m3.site;
                there = m3.there;
                seen = m3.moved
                    ∙ panel_own (link.run answer_of after) b2.said i now seen.site (own i seen.site.coming) n2.to_panel refl b2.panel near
                    ∙ ap (after_move answer_of after (link.ToController Delivered now)) read;
              },
              (
                tt,
                (subst (λ (l : Link H). SaysWhatFitsIf answer_of after Delivered l.to_reader l.reader) ticks told.0, (tt, tt)),
              ),
              round_tells answer_of after known total i now n (fits.0, reading_fits) a i s seen.site mine seen.there (link.Tick now ∷ [])
                  (reports answer_of after reading (after_move answer_of after (link.Tick now) (view i s n))) (one_is i i (link.Tick now) refl)
                  (panel_own (reports answer_of after) b2.said i now seen.site (own i seen.site.coming) n2.to_panel refl b2.panel near
                  ∙ ap (reports answer_of after (link.ToController Delivered now ∷ [])) read)
                  ∙ sym (reports_more answer_of after (link.Tick now ∷ []) reading (view i s n)),
            ))

    -- ---- one round after another

    all_rounds : (turns : List (ℕ × ℕ)) (k : ℕ) (s : Site H) (n : Net H) → site_at k n.sites ≡ Some s → Apart n → IsEmpty n → IsFew n
        → IsStill (view k s n) → NetMovesFit answer_of after (net_rounds total turns) n
        → IsSeen answer_of after known k (link.run answer_of after (rounds (moments_of k turns)) (view k s n)) (run answer_of after (net_rounds total turns) n)
        × MovesFit answer_of after (rounds (moments_of k turns)) (view k s n)
        × (reports_at answer_of after k (net_rounds total turns) s n ≡ reports answer_of after (rounds (moments_of k turns)) (view k s n))
    all_rounds [] k s n is a empty few still fits = (record { site = s; there = is; seen = refl }, tt, refl)
    all_rounds (turn ∷ turns) k s n is a empty few still fits =
        let next = run answer_of after (net_round total turn) n in
        let first = fits_first (net_round total turn) (net_rounds total turns) n fits in
        let r = one_round k turn.0 turn.1 s n is (λ e. (still.together, still.stored)) a empty few first in
        let now_still = subst IsStill (sym r.seen.seen) (stays (eqb turn.0 k) turn.1) in
        let rest = all_rounds turns k r.seen.site next r.seen.there r.apart r.empty r.few now_still (fits_then (net_round total turn) (net_rounds total turns) n fits) in (
          subst (IsSeen answer_of after known k (link.run answer_of after (rounds (moments_of k (turn ∷ turns))) (view k s n)))
              (sym (net_more (net_round total turn) (net_rounds total turns) n)) (record {
                site = rest.0.site;
                there = rest.0.there;
                seen = rest.0.seen ∙ ap (link.run answer_of after (rounds (moments_of k turns))) r.seen.seen ∙ joins (eqb turn.0 k);
              }),
          fit (eqb turn.0 k) r.fits (subst (MovesFit answer_of after (rounds (moments_of k turns))) r.seen.seen rest.1),
          tells_more answer_of after known (net_round total turn) (net_rounds total turns) n first a k s r.seen.site is r.seen.there
              ∙ ap (λ rs. rs ++ reports_at answer_of after k (net_rounds total turns) r.seen.site next) r.tells
              ∙ ap (λ rs. reports answer_of after (cond (eqb turn.0 k) (round turn.1) []) (view k s n) ++ rs)
              (rest.2 ∙ ap (reports answer_of after (rounds (moments_of k turns))) r.seen.seen)
              ∙ tell (eqb turn.0 k),
        )
      where
        stays : (b : Bool) (now : ℕ) → IsStill (link.run answer_of after (cond b (round now) []) (view k s n))
        stays true now = round_still answer_of after known now (view k s n) (ap (own k) (empty.coming k s is)) still
        stays false now = still

        joins : (b : Bool) → link.run answer_of after (rounds (moments_of k turns)) (link.run answer_of after (cond b (round turn.1) []) (view k s n))
            ≡ link.run answer_of after (rounds (cond b (turn.1 ∷ moments_of k turns) (moments_of k turns))) (view k s n)
        joins true = refl
        joins false = refl

        tell : (b : Bool)
            → reports answer_of after (cond b (round turn.1) []) (view k s n)
            ++ reports answer_of after (rounds (moments_of k turns)) (link.run answer_of after (cond b (round turn.1) []) (view k s n))
            ≡ reports answer_of after (rounds (cond b (turn.1 ∷ moments_of k turns) (moments_of k turns))) (view k s n)
        tell true = sym (reports_more answer_of after (round turn.1) (rounds (moments_of k turns)) (view k s n))
        tell false = refl

        fit : (b : Bool) → MovesFit answer_of after (cond b (round turn.1) []) (view k s n)
            → MovesFit answer_of after (rounds (moments_of k turns)) (link.run answer_of after (cond b (round turn.1) []) (view k s n))
            → MovesFit answer_of after (rounds (cond b (turn.1 ∷ moments_of k turns) (moments_of k turns))) (view k s n)
        fit true first more = moves_more answer_of after (round turn.1) (rounds (moments_of k turns)) (view k s n) first more
        fit false first more = more

  -- ---- from the beginning

  module _ (known : ReadsWhatIsAsked) where
    come : (n : Net H) (moves : List (NetMove H)) (turns : List (ℕ × ℕ)) (k : ℕ) (first s last : Site H) → AreRounds answer_of after n moves turns k first s last
        → let later = run answer_of after moves n in
        (view k last (run answer_of after (net_rounds (length later.sites) turns) later)
        ≡ link.run answer_of after (rounds (moments_of k turns)) (view k s later))
        × MovesFit answer_of after (rounds (moments_of k turns)) (view k s later)
        × (reports_at answer_of after k (net_rounds (length later.sites) turns) s later ≡ reports answer_of after (rounds (moments_of k turns)) (view k s later))
    come n moves turns k first s last h =
        let later = run answer_of after moves n in
        let a = apart_all answer_of after known moves n h.fits (apart_first n h.up) in
        let kept = a.kept k s h.is in
        let all = all_rounds known (length later.sites) turns k s later h.is a h.empty (λ m u there. at_length m u later.sites there) (record {
          together = h.ready.address;
          none = each_of SetsNoAddress (unended s) h.ready.stays;
          fits = kept.fits;
          stored = keeps_own answer_of after known moves n h.fits (apart_first n h.up) k first s h.was h.is (from_there first.reader.stored (reader_address first) h.stored);
        }) h.rounds_fit in (
          subst (λ v. view k v (run answer_of after (net_rounds (length later.sites) turns) later)
              ≡ link.run answer_of after (rounds (moments_of k turns)) (view k s later)) (some_same all.0.site last (sym all.0.there ∙ h.there)) all.0.seen,
          all.1,
          all.2,
        )

    pub rounds_are_its_own : RoundsAreItsOwn answer_of after
    rounds_are_its_own n moves turns k first s last h = let came = come n moves turns k first s last h in (came.0, came.2)

    -- the link of the site after the moves
    its_link : (n : Net H) (moves : List (NetMove H)) (turns : List (ℕ × ℕ)) (k : ℕ) (first s last : Site H) → AreRounds answer_of after n moves turns k first s last
        → IsItsLink answer_of after k first moves n
    its_link n moves turns k first s last h = each_is_a_link answer_of after known n moves h.up h.fits k first h.was

    -- orders go out one after the other
    abbrev OneAfterTheOther : Link H → Type 0
    OneAfterTheOther l = l.controller.session.config.poll_between_orders ≡ false

    -- what its link tells over its own rounds the net tells over those of all
    come_on : (n : Net H) (moves : List (NetMove H)) (turns : List (ℕ × ℕ)) (k : ℕ) (first s last : Site H) → AreRounds answer_of after n moves turns k first s last
        → let later = run answer_of after moves n in
        ComeOn answer_of after (moments_of k turns) (view k s later) → ComesOn answer_of after k turns s later
    come_on n moves turns k first s last h comes =
        let later = run answer_of after moves n in
        subst (λ rs. min (length (moments_of k turns) - 1) (count_ahead (view k s later)) ≤ told_in rs) (sym (come n moves turns k first s last h).2) comes

    pub each_comes_through : ComesThrough answer_of after → EachComesThrough answer_of after
    each_comes_through through n moves turns k first s last h plain due =
        let own = its_link n moves turns k first s last h in
        let came = come n moves turns k first s last h in
        let same = viewed answer_of after n moves k first s own h.is in
        come_on n moves turns k first s last h (subst (ComeOn answer_of after (moments_of k turns)) (sym same)
        (through (view k first n) (moves_of answer_of after k moves n) (moments_of k turns) (h.up.begins k first h.was) own.fits
        (subst IsClear same h.ready) (subst OneAfterTheOther same plain) (subst (AreDue answer_of after (moments_of k turns)) same due)
        (subst (MovesFit answer_of after (rounds (moments_of k turns))) same came.1)))

    pub each_comes_through_in_time : ComesThroughInTime answer_of after → EachComesThroughInTime answer_of after
    each_comes_through_in_time through n moves turns k first s last h plain range late =
        let later = run answer_of after moves n in
        let own = its_link n moves turns k first s last h in
        let came = come n moves turns k first s last h in
        let same = viewed answer_of after n moves k first s own h.is in
        elim (subst (λ (l : Link H). (l.controller.session.state ≡ Closed) ⊎ ComeOn answer_of after (moments_of k turns) (view k s later)) (sym came.0)
        (subst (λ (l : Link H). ((link.run answer_of after (rounds (moments_of k turns)) l).controller.session.state ≡ Closed)
        ⊎ ComeOn answer_of after (moments_of k turns) l) (sym same)
        (through (view k first n) (moves_of answer_of after k moves n) (moments_of k turns) (h.up.begins k first h.was) range own.fits
        (subst IsClear same h.ready) (subst OneAfterTheOther same plain) (subst (AreLate answer_of after (moments_of k turns)) same late)
        (subst (MovesFit answer_of after (rounds (moments_of k turns))) same came.1)))) [
          | inl ended ↦ inl ended
          | inr comes ↦ inr (come_on n moves turns k first s last h comes)
        ]
