-- All readers read what comes next for each of them, one after the other: where it is the same for all, each hears it, and what they say goes to
-- the panel in their order.
use Rattle.osdp_sim_bus_laws.proofs.Common.{◌≡◌, ℕ, zero, suc, List, [], ◌∷◌, ◌++◌, length, map, Option, Some, None, refl, sym, subst, ap, ◌∙◌, append_assoc, append-nil, option_to_list, Packet, Command, Answer, SaysWhatFitsIf, Delivered, Delivery, Lost, Repeated, Each, in_front, AllOthersFit, IsScheduled, each_reads}
use Rattle.osdp_reader.specs.Table as reader
use Rattle.osdp_link_laws.specs.Link as link
use Rattle.osdp_shared_line.specs.Line.{Net, Site, ToReader, after_net, changed, left_by, link_of, reads_at, run, site_at, tagged, to_reader}
use Rattle.osdp_shared_line.proofs.Sites.{some_same}

-- ---- one in the middle

module _ {A : Type 0} where
  pub at_middle : (done : List A) (x : A) (rest : List A) → site_at (length done) (done ++ x ∷ rest) ≡ Some x
  at_middle [] x rest = refl
  at_middle (y ∷ done) x rest = at_middle done x rest

  pub changed_middle : (done : List A) (x new : A) (rest : List A) → changed (length done) new (done ++ x ∷ rest) ≡ done ++ new ∷ rest
  changed_middle [] x new rest = refl
  changed_middle (y ∷ done) x new rest = ap (λ l. y ∷ l) (changed_middle done x new rest)

  one_more : (done : List A) (x : A) → suc (length done) ≡ length (done ++ x ∷ [])
  one_more [] x = refl
  one_more (y ∷ done) x = ap suc (one_more done x)

-- the moves are those of a schedule
pub reads_scheduled : (H : Type 0) (how : Delivery) (k count : ℕ) → Each IsScheduled (each_reads {H = H} how k count)
reads_scheduled H how k zero = tt
reads_scheduled H how k (suc more) = (tt, reads_scheduled H how (suc k) more)

module _ {H : Type 0} (answer_of : H → Command → Answer) (after : H → Command → H) where
  -- ---- one reader

  -- it hears a packet, with this to be read next
  abbrev pub hearing : Packet → List (ℕ × Packet) → Site H → Site H
  hearing p rest s =
      let t = record s { coming = rest } in
      left_by t (link.reader_gets answer_of after p (link_of t [] []))

  -- a reader after it has read this, where the rest comes next
  abbrev pub read_by : Delivery → ℕ × Packet → List (ℕ × Packet) → Site H → Site H
  read_by Delivered p rest s = hearing p.1 rest s
  read_by Lost p rest s = record s { coming = rest }
  read_by Repeated p rest s = hearing p.1 (p ∷ rest) s

  -- what it says, at its place
  abbrev pub says_by : Delivery → ℕ → Packet → Site H → List (ℕ × Packet)
  says_by Delivered k p s = tagged k (option_to_list (reader.hears answer_of after s.reader p).reply)
  says_by Lost k p s = []
  says_by Repeated k p s = tagged k (option_to_list (reader.hears answer_of after s.reader p).reply)

  abbrev pub said_from : Delivery → ℕ → Packet → List (Site H) → List (ℕ × Packet)
  said_from how k p [] = []
  said_from how k p (s ∷ ss) = says_by how k p s ++ said_from how (suc k) p ss

  one_reads : (how : Delivery) (k : ℕ) (p : ℕ × Packet) (rest : List (ℕ × Packet)) (s : Site H) (n : Net H) → s.coming ≡ p ∷ rest
      → site_at k n.sites ≡ Some s
      → after_net answer_of after (ToReader k how) n
      ≡ record n { sites = changed k (read_by how p rest s) n.sites; to_panel = n.to_panel ++ says_by how k p.1 s }
  one_reads how k p rest s n coming is =
      ap (λ o. to_reader answer_of after k how o n) is ∙ ap (λ ps. reads_at answer_of after k ps how s n) coming ∙ by_delivery how
    where
      by_delivery : (how : Delivery) → reads_at answer_of after k (p ∷ rest) how s n
          ≡ record n { sites = changed k (read_by how p rest s) n.sites; to_panel = n.to_panel ++ says_by how k p.1 s }
      by_delivery Delivered = refl
      by_delivery Lost = ap (λ qs. record n { sites = changed k (record s { coming = rest }) n.sites; to_panel = qs }) (sym (append-nil n.to_panel))
      by_delivery Repeated =
          ap (λ ps. record n {
            sites = changed k (hearing p.1 ps s) n.sites;
            to_panel = n.to_panel ++ tagged k (option_to_list (reader.hears answer_of after s.reader p.1).reply);
          }) coming

  -- what it says fits
  says_fits : (how : Delivery) (p : ℕ × Packet) (rest : List (ℕ × Packet)) (s t : Site H) → s ≡ t → s.coming ≡ p ∷ rest
      → SaysWhatFitsIf answer_of after how (p.1 ∷ []) s.reader → SaysWhatFitsIf answer_of after how (in_front t.coming) t.reader
  says_fits how p rest s t same coming fits =
      subst (λ (u : Site H). SaysWhatFitsIf answer_of after how (in_front u.coming) u.reader) same
      (subst (λ qs. SaysWhatFitsIf answer_of after how (in_front qs) s.reader) (sym coming) fits)

  -- ---- all of them, from a place on

  pub record AllRead (how : Delivery) (k : ℕ) (p : ℕ × Packet) (rest : List (ℕ × Packet)) (done todo : List (Site H)) (n : Net H) : Type 0 where
    pub reads : run answer_of after (each_reads how k (length todo)) n
        ≡ record n { sites = done ++ map (read_by how p rest) todo; to_panel = n.to_panel ++ said_from how k p.1 todo }
    pub fits : AllOthersFit answer_of after (each_reads how k (length todo)) n

  all_from : (how : Delivery) (k : ℕ) (p : ℕ × Packet) (rest : List (ℕ × Packet)) (done todo : List (Site H)) (n : Net H) → k ≡ length done
      → n.sites ≡ done ++ todo → Each (λ (t : Site H). t.coming ≡ p ∷ rest) todo
      → Each (λ (t : Site H). SaysWhatFitsIf answer_of after how (p.1 ∷ []) t.reader) todo → AllRead how k p rest done todo n
  all_from how k p rest done [] n at is coming fits = record {
    reads = ap (λ ss. record n { sites = ss }) is
        ∙ ap (λ qs. record n { sites = done ++ []; to_panel = qs }) (sym (append-nil n.to_panel));
    fits = tt;
  }
  all_from how k p rest done (t ∷ todo) n at is coming fits =
      let new = read_by how p rest t in
      let says = says_by how k p.1 t in
      let here : site_at k n.sites ≡ Some t =
      ap (λ j. site_at j n.sites) at ∙ ap (λ ss. site_at (length done) ss) is ∙ at_middle done t todo in
      let next : Net H = record n { sites = changed k new n.sites; to_panel = n.to_panel ++ says } in
      let first : after_net answer_of after (ToReader k how) n ≡ next = one_reads how k p rest t n coming.0 here in
      let gone_on : next.sites ≡ (done ++ new ∷ []) ++ todo =
      ap (λ j. changed j new n.sites) at ∙ ap (λ ss. changed (length done) new ss) is ∙ changed_middle done t new todo
      ∙ sym (append_assoc done (new ∷ []) todo) in
      let later = all_from how (suc k) p rest (done ++ new ∷ []) todo next (ap suc at ∙ one_more done new) gone_on coming.1 fits.1 in
      record {
        reads = ap (run answer_of after (each_reads how (suc k) (length todo))) first ∙ later.reads
            ∙ ap (λ ss. record next { sites = ss; to_panel = (n.to_panel ++ says) ++ said_from how (suc k) p.1 todo })
            (append_assoc done (new ∷ []) (map (read_by how p rest) todo))
            ∙ ap (λ qs. record n { sites = done ++ new ∷ map (read_by how p rest) todo; to_panel = qs })
            (append_assoc n.to_panel says (said_from how (suc k) p.1 todo));
        fits = (
          λ s there. says_fits how p rest t s (some_same t s (sym here ∙ there)) coming.0 fits.0,
          subst (AllOthersFit answer_of after (each_reads how (suc k) (length todo))) (sym first) later.fits,
        );
      }

  pub all_read : (how : Delivery) (p : ℕ × Packet) (rest : List (ℕ × Packet)) (n : Net H) → Each (λ (t : Site H). t.coming ≡ p ∷ rest) n.sites
      → Each (λ (t : Site H). SaysWhatFitsIf answer_of after how (p.1 ∷ []) t.reader) n.sites → AllRead how 0 p rest [] n.sites n
  all_read how p rest n coming fits = all_from how 0 p rest [] n.sites n refl refl coming fits

  -- ---- nothing comes

  pub record NoneRead (how : Delivery) (k count : ℕ) (n : Net H) : Type 0 where
    pub reads : run answer_of after (each_reads how k count) n ≡ n
    pub fits : AllOthersFit answer_of after (each_reads how k count) n

  none_at : (k : ℕ) (s : Site H) (ss : List (Site H)) → Each (λ (t : Site H). t.coming ≡ []) ss → site_at k ss ≡ Some s → s.coming ≡ []
  none_at k s [] none is = absurd cc
  none_at zero s (t ∷ ss) none is = subst (λ (u : Site H). u.coming ≡ []) (some_same t s is) none.0
  none_at (suc k) s (t ∷ ss) none is = none_at k s ss none.1 is

  one_none : (how : Delivery) (k : ℕ) (o : Option (Site H)) (n : Net H) → ((s : Site H) → o ≡ Some s → s.coming ≡ [])
      → to_reader answer_of after k how o n ≡ n
  one_none how k None n none = refl
  one_none how k (Some s) n none = ap (λ ps. reads_at answer_of after k ps how s n) (none s refl)

  fits_none : (how : Delivery) (s : Site H) → s.coming ≡ [] → SaysWhatFitsIf answer_of after how (in_front s.coming) s.reader
  fits_none how s none = subst (λ ps. SaysWhatFitsIf answer_of after how (in_front ps) s.reader) (sym none) (by_delivery how)
    where
      by_delivery : (how : Delivery) → SaysWhatFitsIf answer_of after how [] s.reader
      by_delivery Delivered = tt
      by_delivery Lost = tt
      by_delivery Repeated = tt

  pub none_read : (how : Delivery) (k count : ℕ) (n : Net H) → Each (λ (t : Site H). t.coming ≡ []) n.sites → NoneRead how k count n
  none_read how k zero n none = record { reads = refl; fits = tt }
  none_read how k (suc more) n none =
      let nothing : after_net answer_of after (ToReader k how) n ≡ n =
      one_none how k (site_at k n.sites) n (λ s is. none_at k s n.sites none is) in
      let rest = none_read how (suc k) more n none in
      record {
        reads = ap (run answer_of after (each_reads how (suc k) more)) nothing ∙ rest.reads;
        fits = (
          λ s is. fits_none how s (none_at k s n.sites none is),
          subst (AllOthersFit answer_of after (each_reads how (suc k) more)) (sym nothing) rest.fits,
        );
      }
