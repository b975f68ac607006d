-- What moves of all tell of one site: one list after another, and over a round.
use Rattle.osdp_shared_line.proofs.Common.{◌≡◌, ℕ, zero, suc, eqb, List, [], ◌∷◌, ◌++◌, Option, Some, None, refl, sym, ap, ◌∙◌, append_assoc, append-nil, option_to_list, Packet, Command, Answer, Delivered, Link, Move, after_move, ReadsWhatIsAsked, both, reports, told_by, NetMovesFit, Net, NetMove, Site, Tick, ToPanel, ToReader, address_of, after_net, run, site_at, all_read, net_round, moves_at, moves_of, reports_at, front_to_panel, one_if, own_front, view}
use Rattle.osdp_controller.specs.declared.report.Report.{Report}
use Rattle.osdp_link_laws.specs.Link as link
use Rattle.osdp_shared_line.proofs.Apart.{Apart}
use Rattle.osdp_shared_line.proofs.Linking.{is_its_link, viewed}

module _ {H : Type 0} (answer_of : H → Command → Answer) (after : H → Command → H) where
  -- ---- one list of moves after another

  pub reports_more : (ms more : List (Move H)) (l : Link H)
      → reports answer_of after (ms ++ more) l ≡ reports answer_of after ms l ++ reports answer_of after more (link.run answer_of after ms l)
  reports_more [] more l = refl
  reports_more (m ∷ ms) more l =
      let next = after_move answer_of after m l in
      let here = option_to_list (told_by m l) in
      ap (λ rs. here ++ rs) (reports_more ms more next)
      ∙ sym (append_assoc here (reports answer_of after ms next) (reports answer_of after more (link.run answer_of after ms next)))

  pub own_more : (k : ℕ) (ms more : List (NetMove H)) (n : Net H)
      → moves_of answer_of after k (ms ++ more) n ≡ moves_of answer_of after k ms n ++ moves_of answer_of after k more (run answer_of after ms n)
  own_more k [] more n = refl
  own_more k (m ∷ ms) more n =
      let next = after_net answer_of after m n in
      let here = moves_at answer_of after k (site_at k n.sites) m n in
      ap (λ l. here ++ l) (own_more k ms more next)
      ∙ sym (append_assoc here (moves_of answer_of after k ms next) (moves_of answer_of after k more (run answer_of after ms next)))

  -- ---- what readers read tells nothing

  read_nothing : (k place : ℕ) (o : Option (Site H)) (n : Net H) (more : List (Move H)) (l : Link H) → ((l : Link H) → reports answer_of after more l ≡ [])
      → reports answer_of after (moves_at answer_of after k o (ToReader place Delivered) n ++ more) l ≡ []
  read_nothing k place None n more l rest = rest l
  read_nothing k place (Some s) n more l rest = both TellNothing (eqb place k) (own_front k s.coming Delivered) [] (in_front s.coming) (rest l)
    where
      TellNothing : List (Move H) → Type 0
      TellNothing ms = reports answer_of after (ms ++ more) l ≡ []

      in_front : (ps : List (ℕ × Packet)) → TellNothing (own_front k ps Delivered)
      in_front [] = rest l
      in_front (p ∷ ps) =
          both TellNothing (eqb p.0 k) (link.ToReader Delivered ∷ []) [] (rest (after_move answer_of after (link.ToReader Delivered) l)) (rest l)

  all_read_nothing : (k place count : ℕ) (n : Net H) (l : Link H) → reports answer_of after (moves_of answer_of after k (all_read place count) n) l ≡ []
  all_read_nothing k place zero n l = refl
  all_read_nothing k place (suc count) n l =
      let next = after_net answer_of after (ToReader place Delivered) n in
      read_nothing k place (site_at k n.sites) n (moves_of answer_of after k (all_read (suc place) count) next) l (all_read_nothing k (suc place) count next)

  module _ (known : ReadsWhatIsAsked) where
    pub tells_more : (ms more : List (NetMove H)) (n : Net H) → NetMovesFit answer_of after ms n → Apart n → (k : ℕ) (s t : Site H)
        → site_at k n.sites ≡ Some s → site_at k (run answer_of after ms n).sites ≡ Some t
        → reports_at answer_of after k (ms ++ more) s n
        ≡ reports_at answer_of after k ms s n ++ reports_at answer_of after k more t (run answer_of after ms n)
    tells_more ms more n fits a k s t is there =
        let mine = moves_of answer_of after k ms n in
        let rest = moves_of answer_of after k more (run answer_of after ms n) in
        ap (λ l. reports answer_of after l (view k s n)) (own_more k ms more n)
        ∙ reports_more mine rest (view k s n)
        ∙ ap (λ l. reports answer_of after mine (view k s n) ++ reports answer_of after rest l)
        (sym (viewed answer_of after n ms k s t (is_its_link answer_of after known ms n fits a k s is) there))

    -- a round tells what its tick does, and then what the panel reads
    pub round_tells : (total i now : ℕ) (n : Net H) → let ms = Tick i now ∷ all_read 0 total in let read = run answer_of after ms n in
        NetMovesFit answer_of after ms n → Apart n → (k : ℕ) (s t : Site H) → site_at k n.sites ≡ Some s → site_at k read.sites ≡ Some t
        → (tick : List (Move H)) (told : List Report) → one_if i k (link.Tick now) ≡ tick
        → reports answer_of after (front_to_panel k (address_of t) read.to_panel Delivered now) (view k t read) ≡ told
        → reports_at answer_of after k (net_round total (i, now)) s n ≡ reports answer_of after tick (view k s n) ++ told
    round_tells total i now n fits a k s t is there tick told ticks reads =
        tells_more (Tick i now ∷ all_read 0 total) (ToPanel Delivered now ∷ []) n fits a k s t is there
        ∙ ap (λ rs. rs ++ reports_at answer_of after k (ToPanel Delivered now ∷ []) t read) first
        ∙ ap (λ rs. reports answer_of after tick (view k s n) ++ rs) (ap (λ ms. reports answer_of after ms (view k t read)) last ∙ reads)
      where
        read : Net H
        read = run answer_of after (Tick i now ∷ all_read 0 total) n

        next : Net H
        next = after_net answer_of after (Tick i now) n

        reading : List (Move H)
        reading = moves_of answer_of after k (all_read 0 total) next

        first : reports_at answer_of after k (Tick i now ∷ all_read 0 total) s n ≡ reports answer_of after tick (view k s n)
        first = ap (λ o. reports answer_of after (moves_at answer_of after k o (Tick i now) n ++ reading) (view k s n)) is
            ∙ ap (λ ms. reports answer_of after (ms ++ reading) (view k s n)) ticks
            ∙ reports_more tick reading (view k s n)
            ∙ ap (λ rs. reports answer_of after tick (view k s n) ++ rs) (all_read_nothing k 0 total next (link.run answer_of after tick (view k s n)))
            ∙ append-nil (reports answer_of after tick (view k s n))

        last : moves_of answer_of after k (ToPanel Delivered now ∷ []) read ≡ front_to_panel k (address_of t) read.to_panel Delivered now
        last = ap (λ o. moves_at answer_of after k o (ToPanel Delivered now) read ++ []) there
            ∙ append-nil (front_to_panel k (address_of t) read.to_panel Delivered now)
