-- What the moves of a net hand to the link of a site, one after another, is what the moves of that link do.
use Rattle.osdp_calls.proofs.Common.{◌≡◌, ℕ, List, [], ◌∷◌, ◌++◌, Option, Some, None, refl, sym, subst, ap, ◌∙◌, append_assoc, Command, Answer, Link, Move, after_move, IsSetUp, NetMoveFits, NetMovesFit, NobodyElseHears, moves_at, moves_of, EachMoveIsItsOwn, HeardByOwn, OpensQuietly, move_of, view, fits_first, net_more}
use Rattle.osdp_link_laws.specs.Link as link
use Rattle.osdp_shared_line.specs.Line.{Net, NetMove, Reopen, Site, after_net, run, site_at}

module _ {H : Type 0} where
  pub quietly : (answer_of : H → Command → Answer) (after : H → Command → H) (move : NetMove H) (n : Net H) → NetMoveFits answer_of after move n
      → OpensQuietly move n
  quietly answer_of after (Reopen i now) n fits = fits
  quietly answer_of after _ n fits = tt

  module _ (answer_of : H → Command → Answer) (after : H → Command → H) where
    -- ---- nobody else hears along the way

    abbrev pub AllHeard : List (NetMove H) → Net H → Type 0
    AllHeard [] n = Unit {0}
    AllHeard (move ∷ moves) n = HeardByOwn n × AllHeard moves (after_net answer_of after move n)

    pub all_heard : NobodyElseHears answer_of after → (n : Net H) → IsSetUp n → (done moves : List (NetMove H))
        → NetMovesFit answer_of after (done ++ moves) n → AllHeard moves (run answer_of after done n)
    all_heard nobody n up done [] fit = tt
    all_heard nobody n up done (m ∷ ms) fit = (
      (nobody n done up (fits_first answer_of after done (m ∷ ms) n fit)).heard,
      subst (AllHeard ms) (net_more answer_of after done (m ∷ []) n)
          (all_heard nobody n up (done ++ m ∷ []) ms
          (subst (λ l. NetMovesFit answer_of after l n) (sym (append_assoc done (m ∷ []) ms)) fit)),
    )

    -- ---- what each move hands on is counted

    module _ {A : Type 0} (f : Move H → Link H → List A) where
      abbrev pub counted : List (Move H) → Link H → List A
      counted [] l = []
      counted (m ∷ ms) l = f m l ++ counted ms (after_move answer_of after m l)

      counted_more : (ms more : List (Move H)) (l : Link H) → counted (ms ++ more) l ≡ counted ms l ++ counted more (link.run answer_of after ms l)
      counted_more [] more l = refl
      counted_more (m ∷ ms) more l =
          let next = after_move answer_of after m l in
          ap (λ xs. f m l ++ xs) (counted_more ms more next)
          ∙ sym (append_assoc (f m l) (counted ms next) (counted more (link.run answer_of after ms next)))

      abbrev pub at_site : ℕ → Option (Site H) → NetMove H → Net H → List A
      at_site k None move n = []
      at_site k (Some s) move n = counted (move_of k s move n) (view k s n)

      abbrev pub in_net : ℕ → List (NetMove H) → Net H → List A
      in_net k [] n = []
      in_net k (m ∷ ms) n = at_site k (site_at k n.sites) m n ++ in_net k ms (after_net answer_of after m n)

      pub in_net_more : (k : ℕ) (ms more : List (NetMove H)) (n : Net H)
          → in_net k (ms ++ more) n ≡ in_net k ms n ++ in_net k more (run answer_of after ms n)
      in_net_more k [] more n = refl
      in_net_more k (m ∷ ms) more n =
          let next = after_net answer_of after m n in
          let here = at_site k (site_at k n.sites) m n in
          ap (λ xs. here ++ xs) (in_net_more k ms more next)
          ∙ sym (append_assoc here (in_net k ms next) (in_net k more (run answer_of after ms next)))

      pub in_link : EachMoveIsItsOwn answer_of after → (k : ℕ) (ms : List (NetMove H)) (n : Net H) (s : Site H) → AllHeard ms n
          → NetMovesFit answer_of after ms n → site_at k n.sites ≡ Some s
          → counted (moves_of answer_of after k ms n) (view k s n) ≡ in_net k ms n
      in_link own k [] n s heard fits is = refl
      in_link own k (m ∷ ms) n s heard fits is =
          let next = after_net answer_of after m n in
          let moved = own n m heard.0 (quietly answer_of after m n fits.0) k s is in
          let mine = move_of k s m n in
          let rest = moves_of answer_of after k ms next in
          ap (λ o. counted (moves_at answer_of after k o m n ++ rest) (view k s n)) is
          ∙ counted_more mine rest (view k s n)
          ∙ ap (λ l. counted mine (view k s n) ++ counted rest l) (sym moved.moved)
          ∙ ap (λ xs. counted mine (view k s n) ++ xs) (in_link own k ms next moved.site heard.1 fits.1 moved.there)
          ∙ ap (λ o. at_site k o m n ++ in_net k ms next) (sym is)
