-- What a device reads: what stands before it is lost to it, and what it reads stays in front of it and may be read again.
use Rattle.osdp_calls.proofs.Common.{◌≡◌, ◌≤◌, ℕ, zero, suc, not, Bool, true, false, cond, List, [], ◌∷◌, ◌++◌, length, Option, Some, None, IfSome, refl, sym, subst, ap, ◌∙◌, arith, append-nil, append_assoc, inl, inr, option_to_list, Packet, ReplyFits, Command, speaks, Repeated, each_append, Each, ReaderState, Answer, in_front, Net, NetMove, Site, ToReader, after_net, changed, left_by, link_of, run, site_at, tagged, at_changed, some_same, by_device, first_answered, last_of, reply_to, Burst, InUse, Opening, Station, ahead_of_device, is_past_for_device, AreInOrder, at_length, net_more, length_push}
use Rattle.osdp_link_laws.specs.Beginning.{SaysWhatFitsIf}
use Rattle.osdp_link_laws.specs.Link as link
use Rattle.osdp_reader.specs.Table.{hears, kind_of}
use Rattle.osdp_shared_line.specs.Line as line
use Rattle.osdp_calls.proofs.Ahead.{AreWithin, device_front, device_further, device_told_device, device_told_panel, from_device}
use Rattle.osdp_calls.proofs.Losing.{IsLoss, Loses, changed_twice, joins, lose_to_reader, then_reaches, with_coming}
use Rattle.osdp_calls.proofs.Matching.{FoundAt, Nobody, Somebody, changed_same, found, matched, set_station}
use Rattle.osdp_calls.proofs.Replying.{IsReply, hears_replies, reader_with, silent_to_replies}
use Rattle.osdp_calls.proofs.Same.{IsNetOf, IsRightly, IsSiteOf, placed_so, read_so, sites_so}
use Rattle.osdp_calls.proofs.Stations.{LosesTo, Makes, Refines, Sites, make_move, make_none}
use Rattle.osdp_calls.proofs.Strangers.{IsUnanswered, unanswered_first}

pub each_at : {A : Type 0} (P : A → Type 0) (i : ℕ) (x : A) (xs : List A) → Each P xs → site_at i xs ≡ Some x → P x
each_at P i x [] all is = absurd cc
each_at P zero x (y ∷ xs) all is = subst P (some_same y x is) all.0
each_at P (suc i) x (y ∷ xs) all is = each_at P i x xs all.1 is

pub longer : {A : Type 0} (xs ys : List A) → length xs ≤ length (xs ++ ys)
longer [] ys = omega arith
longer (x ∷ xs) ys = let rest = longer xs ys in omega (arith, rest)

pub within_more : (n m : ℕ) (os : List Opening) → n ≤ m → AreWithin n os → AreWithin m os
within_more n m [] le all = tt
within_more n m (o ∷ os) le all = (let h = all.0 in omega (arith, h, le), within_more n m os le all.1)

module _ {H : Type 0} where
  abbrev pub with_station : ℕ → Station H → InUse H → InUse H
  with_station k t l = record l { stations = changed k t l.stations }

  -- a device says more
  abbrev pub device_says : ℕ → List Packet → InUse H → InUse H
  device_says k ps l = record l { said = l.said ++ by_device k ps }

  pub device_said : (k : ℕ) (o : Option Packet) (l : InUse H) (n : Net H) → IfSome o IsReply → IsNetOf l n
      → IsNetOf (device_says k (option_to_list o) l) (record n { to_panel = n.to_panel ++ tagged k (option_to_list o) })
  device_said k None l n is h =
      subst (λ bs. IsNetOf (record l { said = bs }) (record n { to_panel = n.to_panel ++ [] })) (sym (append-nil l.said))
      (subst (λ qs. IsNetOf l (record n { to_panel = qs })) (sym (append-nil n.to_panel)) h)
  device_said k (Some p) l n is h = record {
    sites = matched (Sites l) (IsSiteOf l.openings (l.said ++ from_device k p ∷ []) l.bus.greatest) 0 l.bus.devices.entries l.stations n.sites
        (λ j d t s at. placed_so at (at.coming ∙ sym (device_told_device j t.place k p l.openings l.said))
        (let le = at.place in let more = length_push l.said (from_device k p) in omega (arith, le, more))) h.sites;
    to_panel = ap (λ qs. qs ++ (k, p) ∷ []) h.to_panel ∙ sym (device_told_panel l.place k p l.openings l.said h.place h.openings);
    place = let le = h.place in let more = length_push l.said (from_device k p) in omega (arith, le, more);
    openings = within_more (length l.said) (length (l.said ++ from_device k p ∷ [])) l.openings (let more = length_push l.said (from_device k p) in omega (arith, more)) h.openings;
    said = each_append IsRightly l.said (from_device k p ∷ []) h.said (is, tt);
  }

  module _ (answer_of : H → Command → Answer) (after : H → Command → H) where
    -- ---- losses

    pub loses_to : (n m : Net H) (l : InUse H) → Loses answer_of after n m → IsNetOf l m → LosesTo answer_of after n l
    loses_to n m l r same = record { refines = record { net = m; reached = r.reached; same = same }; made = r.lost }

    -- ---- a place moves on

    pub moves_on : (k i : ℕ) (t : Station H) (l : InUse H) (n : Net H) → IsNetOf l n → site_at k l.stations ≡ Some t → t.place ≤ i → i ≤ length l.said
        → LosesTo answer_of after n (with_station k (record t { place = i }) l)
    moves_on k i t l n h is le within = by_found (found (Sites l) k l.bus.devices.entries l.stations n.sites h.sites)
      where
        by_found : FoundAt (Sites l) k k l.bus.devices.entries l.stations n.sites → LosesTo answer_of after n (with_station k (record t { place = i }) l)
        by_found (Nobody o a b c) = absurd (let e = sym b ∙ is in cc)
        by_found (Somebody d t1 s a b c here) =
            let at : Sites l k d t s = subst (λ u. Sites l k d u s) (some_same t1 t (sym b ∙ is)) here in
            let before : n ≡ with_coming answer_of after k s (ahead_of_device k t.place l.openings l.said) n =
            sym (ap (λ ss. record n { sites = ss }) (changed_same k s n.sites c)) ∙ ap (λ q. with_coming answer_of after k s q n) at.coming in
            let lost : Loses answer_of after n (with_coming answer_of after k s (ahead_of_device k i l.openings l.said) n) =
            subst (λ m. Loses answer_of after m (with_coming answer_of after k s (ahead_of_device k i l.openings l.said) n)) (sym before)
            (lose_to_reader answer_of after k s (ahead_of_device k i l.openings l.said) (ahead_of_device k t.place l.openings l.said) [] n c
            (device_further k t.place i l.openings l.said le)) in
            loses_to n (with_coming answer_of after k s (ahead_of_device k i l.openings l.said) n) (with_station k (record t { place = i }) l) lost
            (sites_so h (set_station (Sites l) k d (record t { place = i }) (record s { coming = ahead_of_device k i l.openings l.said })
            l.bus.devices.entries l.stations n.sites h.sites a (placed_so at refl within)))

    -- ---- a packet is read

    abbrev pub has_read : Packet → Station H → Station H
    has_read p t = record t { reader = (hears answer_of after t.reader p).reader }

    -- the packet is in front for the reader, and may be read again
    pub record IsInFront (k : ℕ) (p : Packet) (r : ReaderState H) (n : Net H) (moves : List (NetMove H)) : Type 0 where
      pub site : Site H
      pub there : site_at k n.sites ≡ Some site
      pub reader : site.reader ≡ r
      pub entry : ℕ
      pub rest : List (ℕ × Packet)
      pub coming : site.coming ≡ (entry, p) ∷ rest
      pub are : moves ≡ ToReader k Repeated ∷ []

    pub reads_front : (k : ℕ) (p : Packet) (b : Burst) (t : Station H) (l : InUse H) (n : Net H) → IsNetOf l n → site_at k l.stations ≡ Some t
        → site_at t.place l.said ≡ Some b → b.packet ≡ p → b.by_panel ≡ true → is_past_for_device k l.openings t.place b ≡ false
        → IfSome (hears answer_of after t.reader p).said ReplyFits
        → Makes answer_of after (IsInFront k p t.reader n) n (device_says k (option_to_list (hears answer_of after t.reader p).reply) (with_station k (has_read p t) l))
    reads_front k p b t l n h is said_it same by past fits = by_found (found (Sites l) k l.bus.devices.entries l.stations n.sites h.sites)
      where
        by_found : FoundAt (Sites l) k k l.bus.devices.entries l.stations n.sites
            → Makes answer_of after (IsInFront k p t.reader n) n (device_says k (option_to_list (hears answer_of after t.reader p).reply) (with_station k (has_read p t) l))
        by_found (Nobody o a none c) = absurd (let e = sym none ∙ is in cc)
        by_found (Somebody d t1 s a there c here) =
            let at : Sites l k d t s = subst (λ u. Sites l k d u s) (some_same t1 t (sym there ∙ is)) here in
            let front = device_front k t.place l.openings l.said b said_it by past in
            let coming : s.coming ≡ (b.entry, b.packet) ∷ front.0 = at.coming ∙ front.1 in
            let next : after_net answer_of after (ToReader k Repeated) n ≡ line.hears_at answer_of after k p s n =
            ap (λ o. line.to_reader answer_of after k Repeated o n) c ∙ ap (λ qs. line.reads_at answer_of after k qs Repeated s n) coming
            ∙ ap (λ q. line.hears_at answer_of after k q s n) same in
            let replies = hears_replies answer_of after t.reader p at.stored in
            let l1 = with_station k (has_read p t) l in
            let o = hears answer_of after t.reader p in
            let n1 : Net H = record n { sites = changed k (left_by s (link.reader_gets answer_of after p (link_of s [] []))) n.sites } in
            let read : IsNetOf l1 n1 =
            sites_so h (set_station (Sites l) k d (has_read p t) (left_by s (link.reader_gets answer_of after p (link_of s [] [])))
            l.bus.devices.entries l.stations n.sites h.sites a (read_so at (ap (λ (r : ReaderState H). (hears answer_of after r p).reader) at.reader) replies.stored)) in
            let done : IsNetOf (device_says k (option_to_list o.reply) l1) (record n1 { to_panel = n1.to_panel ++ tagged k (option_to_list o.reply) }) =
            device_said k o.reply l1 n1 replies.said read in
            let there_too : line.hears_at answer_of after k p s n ≡ record n1 { to_panel = n1.to_panel ++ tagged k (option_to_list o.reply) } =
            ap (λ (r : ReaderState H). record n1 { to_panel = n1.to_panel ++ tagged k (option_to_list (hears answer_of after r p).reply) }) at.reader in
            make_move answer_of after (IsInFront k p t.reader n) (ToReader k Repeated) (device_says k (option_to_list o.reply) l1) n
            (record {
              site = s;
              there = c;
              reader = at.reader;
              entry = b.entry;
              rest = front.0;
              coming = coming ∙ ap (λ q. (b.entry, q) ∷ front.0) same;
              are = refl;
            }) tt
            (λ s1 at1. subst (λ u. SaysWhatFitsIf answer_of after Repeated (in_front u.coming) u.reader) (some_same s s1 (sym c ∙ at1))
            (subst (λ qs. SaysWhatFitsIf answer_of after Repeated (in_front qs) s.reader) (sym coming)
            (subst (λ q. IfSome (hears answer_of after s.reader q).said ReplyFits) (sym same)
            (subst (λ r. IfSome (hears answer_of after r p).said ReplyFits) (sym at.reader) fits))))
            (subst (λ m. IsNetOf (device_says k (option_to_list o.reply) l1) m) (sym (next ∙ there_too)) done)

    -- ---- all that a `next` reads

    pub then_refines : (n : Net H) (l m : InUse H) → (x : Refines answer_of after n l) → ((k : Net H) → IsNetOf l k → Refines answer_of after k m)
        → Refines answer_of after n m
    then_refines n l m x f =
        let y = f x.net x.same in
        record { net = y.net; reached = then_reaches answer_of after n x.net y.net x.reached y.reached; same = y.same }

    -- what a `next` comes to: what it passes over is lost, and what it answers is in front for the reader
    pub data IsNext (k : ℕ) (o : Option Packet) (r : ReaderState H) (n : Net H) (moves : List (NetMove H)) : Type 0 where
      IsPassed : o ≡ None → Each IsLoss moves → IsNext k o r n moves
      IsAnswered : (p : Packet) (s : Site H) (entry : ℕ) (rest : List (ℕ × Packet)) (mid : Net H) (lost more : List (NetMove H)) → o ≡ Some p
          → Each IsLoss lost → run answer_of after lost n ≡ mid → site_at k mid.sites ≡ Some s → s.reader ≡ r → s.coming ≡ (entry, p) ∷ rest
          → Each IsLoss more → moves ≡ lost ++ ToReader k Repeated ∷ more → IsNext k o r n moves

    -- more is lost before it
    passed_before : (k : ℕ) (o : Option Packet) (r : ReaderState H) (n m : Net H) (before moves : List (NetMove H)) → Each IsLoss before
        → run answer_of after before n ≡ m → IsNext k o r m moves → IsNext k o r n (before ++ moves)
    passed_before k o r n m before moves losses is (IsPassed none all) = IsPassed none (each_append IsLoss before moves losses all)
    passed_before k o r n m before moves losses is (IsAnswered p s entry rest mid lost more some all runs there reader coming after_it are) =
        IsAnswered p s entry rest mid (before ++ lost) more some (each_append IsLoss before lost losses all)
        (net_more answer_of after before lost n ∙ ap (run answer_of after lost) is ∙ runs) there reader coming after_it
        (ap (λ ms. before ++ ms) are ∙ sym (append_assoc before lost (ToReader k Repeated ∷ more)))

    then_next : (k : ℕ) (o : Option Packet) (r : ReaderState H) (n : Net H) (l m : InUse H) → LosesTo answer_of after n l
        → ((q : Net H) → IsNetOf l q → Makes answer_of after (IsNext k o r q) q m) → Makes answer_of after (IsNext k o r n) n m
    then_next k o r n l m p f =
        let x = p.refines in
        let q = f x.net x.same in
        let y = q.refines in
        let both = joins answer_of after n x.net y.net x.reached y.reached in
        record {
          refines = record { net = y.net; reached = both.reached; same = y.same };
          made = subst (IsNext k o r n) (sym both.are) (passed_before k o r n x.net x.reached.moves y.reached.moves p.made x.reached.run q.made);
        }

    last_within : (Others : Packet → Type 0) (said : List Burst) (ps : List Packet) (places : List ℕ) (before : ℕ) → before ≤ length said
        → AreInOrder Others said ps places before → (before ≤ last_of places before) × (last_of places before ≤ length said)
    last_within Others said [] [] before le all = (omega arith, le)
    last_within Others said (p ∷ ps) (i ∷ places) before le (inl all) =
        let within = at_length i all.0 said all.1 in
        let first = all.3 in
        let rest = last_within Others said ps places i (omega (arith, within)) all.4 in
        let more = rest.0 in
        (omega (arith, first, more), rest.1)
    last_within Others said (p ∷ ps) (i ∷ places) before le (inr others) = last_within Others said ps (i ∷ places) before le others.1
    last_within Others said [] (i ∷ places) before le all = absurd all
    last_within Others said (p ∷ ps) [] before le all = last_within Others said ps [] before le all.1

    -- the station and what was said, where this is answered
    abbrev pub read_to : ℕ → Option Packet → ℕ → Station H → InUse H → InUse H
    read_to k o place t l =
        device_says k (reply_to answer_of after o t.reader)
        (with_station k (record t { reader = reader_with answer_of after o t.reader; place = place }) l)

    moved_first : (k : ℕ) (o : Option Packet) (i place : ℕ) (t : Station H) (l : InUse H)
        → read_to k o place (record t { place = i }) (with_station k (record t { place = i }) l) ≡ read_to k o place t l
    moved_first k None i place t l =
        ap (λ ts. record l { stations = ts; said = l.said ++ [] }) (changed_twice k (record t { place = place }) (record t { place = i }) l.stations)
    moved_first k (Some p) i place t l =
        ap (λ ts. record l { stations = ts; said = l.said ++ by_device k (option_to_list (hears answer_of after t.reader p).reply) })
        (changed_twice k (record (has_read p t) { place = place }) (record t { place = i }) l.stations)

    said_by_panel : (t : Station H) (p : Packet) (b : Burst) → IsRightly b → b.packet ≡ p → speaks (kind_of t.reader p) ≡ true → b.by_panel ≡ true
    said_by_panel t p b right same speaks_so = by_test b.by_panel refl
      where
        by_test : (x : Bool) → b.by_panel ≡ x → b.by_panel ≡ true
        by_test true is = is
        by_test false is =
            let reply : p.reply ≡ true = sym (ap (λ (q : Packet). q.reply) same) ∙ right ∙ ap not is in
            let silent = silent_to_replies t.reader p reply in
            absurd (let e = sym silent ∙ speaks_so in cc)

    pub reads_all : (k : ℕ) (ps : List Packet) (places : List ℕ) (t : Station H) (l : InUse H) (n : Net H) → IsNetOf l n
        → site_at k l.stations ≡ Some t → t.place ≤ length l.said → AreInOrder (IsUnanswered t.reader) l.said ps places t.place
        → Each (λ i. (b : Burst) → site_at i l.said ≡ Some b → is_past_for_device k l.openings i b ≡ false) places
        → Each (λ p. IfSome (hears answer_of after t.reader p).said ReplyFits) ps
        → Makes answer_of after (IsNext k (first_answered t.reader ps) t.reader n) n (read_to k (first_answered t.reader ps) (last_of places t.place) t l)
    reads_all k [] [] t l n h is within all past fits =
        subst (λ bs. Makes answer_of after (IsNext k None t.reader n) n (record l { stations = changed k t l.stations; said = bs })) (sym (append-nil l.said))
        (subst (λ ts. Makes answer_of after (IsNext k None t.reader n) n (record l { stations = ts })) (sym (changed_same k t l.stations is))
        (make_none answer_of after (IsNext k None t.reader n) l n (IsPassed refl tt) h))
    reads_all k [] (i ∷ places) t l n h is within all past fits = absurd all
    reads_all k (p ∷ ps) [] t l n h is within all past fits =
        subst (λ o. Makes answer_of after (IsNext k o t.reader n) n (read_to k o t.place t l)) (sym (unanswered_first t.reader p ps all.0))
        (reads_all k ps [] t l n h is within all.1 past fits.1)
    reads_all k (p ∷ ps) (i ∷ places) t l n h is within (inr others) past fits =
        subst (λ o. Makes answer_of after (IsNext k o t.reader n) n (read_to k o (last_of places i) t l)) (sym (unanswered_first t.reader p ps others.0))
        (reads_all k ps (i ∷ places) t l n h is within others.1 past fits.1)
    reads_all k (p ∷ ps) (i ∷ places) t l n h is within (inl all) past fits =
        let inside = at_length i all.0 l.said all.1 in
        let t1 = record t { place = i } in
        let l1 = with_station k t1 l in
        let there : site_at k l1.stations ≡ Some t1 = at_changed k t1 t l.stations is in
        let first = moves_on k i t l n h is all.3 (omega (arith, inside)) in
        by_answer (speaks (kind_of t.reader p)) refl
        (subst (Makes answer_of after (IsNext k (first_answered t.reader ps) t.reader n) n) (moved_first k (first_answered t.reader ps) i (last_of places i) t l)
        (then_next k (first_answered t.reader ps) t.reader n l1 (read_to k (first_answered t.reader ps) (last_of places i) t1 l1) first
        (λ m h1. reads_all k ps places t1 l1 m h1 there (omega (arith, inside)) all.4 past.1 fits.1)))
        (λ speaks_so.
        let by = said_by_panel t p all.0 (each_at IsRightly i all.0 l.said h.said all.1) all.2 speaks_so in
        let o = hears answer_of after t.reader p in
        let t2 = has_read p t1 in
        let l2 = device_says k (option_to_list o.reply) (with_station k t2 l1) in
        let last = last_within (IsUnanswered t.reader) l.said ps places i (omega (arith, inside)) all.4 in
        let more : length l.said ≤ length (l.said ++ by_device k (option_to_list o.reply)) = longer l.said (by_device k (option_to_list o.reply)) in
        let least = last.0 in
        let most = last.1 in
        let a = first.refines in
        let front = reads_front k p all.0 t1 l1 a.net a.same there all.1 all.2 by (past.0 all.0 all.1) fits.0 in
        let f = front.made in
        let b = front.refines in
        let on = moves_on k (last_of places i) t2 l2 b.net b.same (at_changed k t2 t1 (changed k t1 l.stations) there) least (omega (arith, most, more)) in
        let c = on.refines in
        let two = joins answer_of after a.net b.net c.net b.reached c.reached in
        let three = joins answer_of after n a.net c.net a.reached two.reached in
        subst (Makes answer_of after (IsNext k (Some p) t.reader n) n)
        (ap (λ ts. record l { stations = ts; said = l.said ++ by_device k (option_to_list o.reply) })
        (changed_twice k (record t2 { place = last_of places i }) t2 (changed k t1 l.stations)
        ∙ changed_twice k (record t2 { place = last_of places i }) t1 l.stations))
        (record {
          refines = record { net = c.net; reached = three.reached; same = c.same };
          made = IsAnswered p f.site f.entry f.rest a.net a.reached.moves c.reached.moves refl first.made a.reached.run f.there f.reader f.coming on.made
              (three.are ∙ ap (λ ms. a.reached.moves ++ ms) (two.are ∙ ap (λ ms. ms ++ c.reached.moves) f.are));
        }))
      where
        by_answer : (x : Bool) → speaks (kind_of t.reader p) ≡ x
            → Makes answer_of after (IsNext k (first_answered t.reader ps) t.reader n) n (read_to k (first_answered t.reader ps) (last_of places i) t l)
            → (speaks (kind_of t.reader p) ≡ true → Makes answer_of after (IsNext k (Some p) t.reader n) n (read_to k (Some p) (last_of places i) t l))
            → Makes answer_of after (IsNext k (cond x (Some p) (first_answered t.reader ps)) t.reader n) n
            (read_to k (cond x (Some p) (first_answered t.reader ps)) (last_of places i) t l)
        by_answer true is silent answered = answered is
        by_answer false is silent answered = silent
