-- The readers hear a packet one after the other.
use Rattle.osdp_sim_bus.proofs.Common.{◌≡◌, ℕ, ◌+◌, ◌<◌, ◌≤◌, arith, All, List, [], ◌∷◌, ◌++◌, length, map, take, drop, get_or, set, sym, subst, ap, ◌∙◌, append-nil, append_assoc, drop-set-lt, drop_more, length-set, map-append, take_more, take_more_set, All-push, flat_map, Packet, Command, Answer, SaysFit, site_of, sites_of, ReaderSite, site_hears, site_says}
use Rattle.std.proofs.lemmas.Grind.{drop_more_same, flat_map-append}
use Rattle.osdp_sim_bus.specs.declared.site.ReaderSite as declared

-- what is left of two lists begins with the same
pub same_there : {X : Type 0} (xs ys : List X) (i : ℕ) (d : X) → i < length xs → i < length ys → drop i xs ≡ drop i ys → get_or xs i d ≡ get_or ys i d
same_there xs ys i d within also same =
    ap (λ l. get_or l 0 d) (sym (drop_more xs i d within) ∙ same ∙ drop_more ys i d also)

module _ {H : Type 0} (answer_of : H → Command → Answer) (after : H → Command → H) (p : Packet) where
  abbrev pub Says : ReaderSite H → Type 0
  Says site = SaysFit answer_of after (p ∷ []) site.reader

  -- so many of the readers have heard the packet, and what they answered went out
  pub record HaveHeard (count : ℕ) (old new : List (declared.ReaderSite H)) (before later : List (List ℕ)) : Type 0 where
    pub many : length new ≡ length old
    pub done : sites_of (take count new) ≡ map (site_hears answer_of after p) (sites_of (take count old))
    pub rest : drop count new ≡ drop count old
    pub line : later ≡ before ++ flat_map (site_says answer_of after p) (sites_of (take count old))
    pub fits : All Says (sites_of (take count old))

  one_longer : (sites : List (declared.ReaderSite H)) (count : ℕ) (site : declared.ReaderSite H) → count < length sites
      → sites_of (take (count + 1) sites) ≡ sites_of (take count sites) ++ site_of (get_or sites count site) ∷ []
  one_longer sites count site within =
      ap sites_of (take_more sites count site within) ∙ map-append site_of (take count sites) (get_or sites count site ∷ [])

  -- .. and one more; what stands there is named whatever default a look-up has
  pub one_more : (count : ℕ) (old new : List (declared.ReaderSite H)) (default next : declared.ReaderSite H) (before line later : List (List ℕ))
      → count < length new → HaveHeard count old new before line
      → site_of next ≡ site_hears answer_of after p (site_of (get_or new count default))
      → later ≡ line ++ site_says answer_of after p (site_of (get_or new count default))
      → Says (site_of (get_or new count default))
      → HaveHeard (count + 1) old (set new count next) before later
  one_more count old new default next before line later within h heard said fit =
      let site = site_of (get_or new count default) in
      let also : count < length old = omega (arith, within, h.many) in
      let there : site_of (get_or old count default) ≡ site = ap site_of (sym (same_there new old count default within also h.rest)) in
      let longer : sites_of (take (count + 1) old) ≡ sites_of (take count old) ++ site ∷ [] =
      one_longer old count default also ∙ ap (λ s. sites_of (take count old) ++ s ∷ []) there in
      record {
        many = length-set new count next ∙ h.many;
        done =
            ap sites_of (take_more_set new count next within) ∙ map-append site_of (take count new) (next ∷ [])
            ∙ ap (λ l. l ++ site_of next ∷ []) h.done
            ∙ ap (λ s. map (site_hears answer_of after p) (sites_of (take count old)) ++ s ∷ []) heard
            ∙ sym (ap (map (site_hears answer_of after p)) longer ∙ map-append (site_hears answer_of after p) (sites_of (take count old)) (site ∷ []));
        rest = drop-set-lt (count + 1) new count next (omega arith) ∙ drop_more_same new old count h.rest;
        line =
            said ∙ ap (λ l. l ++ site_says answer_of after p site) h.line
            ∙ append_assoc before (flat_map (site_says answer_of after p) (sites_of (take count old))) (site_says answer_of after p site)
            ∙ ap (λ l. before ++ l)
            (ap (λ l. flat_map (site_says answer_of after p) (sites_of (take count old)) ++ l) (sym (append-nil (site_says answer_of after p site)))
            ∙ sym (ap (flat_map (site_says answer_of after p)) longer ∙ flat_map-append (site_says answer_of after p) (sites_of (take count old)) (site ∷ [])));
        fits = subst (All Says) (sym longer) (All-push Says (sites_of (take count old)) site h.fits fit);
      }
