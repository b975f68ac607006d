-- Lists of events without some that have left.
use Rattle.std.proofs.Common.{◌≡◌, ◌++◌, Bool, true, false, not, cond, List, [], ◌∷◌, drop, refl, sym, subst, ap, append_assoc}
use Rattle.std.proofs.lemmas.Bool.{eqb-true}
use Rattle.std.proofs.lemmas.List.Elements.{All-contains, All-head, All-tail, Contains-append_left}
use Rattle.std.specs.Prelude.{◌==◌, All}
use Rattle.osdp_ledger.specs.History.{AfterReport, Left}
use Rattle.osdp_ledger.specs.Ledger.{Card}
use Rattle.osdp_ledger.proofs.Waiting.{without}
use Rattle.osdp_ledger_laws.specs.Reports.{Goes, IsWithout, LeftOtherwise, NoCards, Stays}

pub none_missing : (left : List Left) (cards : List Card) → IsWithout left cards cards
none_missing left [] = NoCards
none_missing left (c ∷ cs) = Stays c cs cs (none_missing left cs)

-- more have left
pub left_more : (left more : List Left) (fewer cards : List Card) → IsWithout left fewer cards → IsWithout (left ++ more) fewer cards
left_more left more _ _ NoCards = NoCards
left_more left more _ _ (Stays c fewer cards is) = Stays c fewer cards (left_more left more fewer cards is)
left_more left more _ _ (Goes c fewer cards (w, has, same, why) is) =
    Goes c fewer cards (w, Contains-append_left left more w has, same, why) (left_more left more fewer cards is)

-- one more is accepted
pub one_more : (c : Card) (left : List Left) (fewer cards : List Card) → IsWithout left fewer cards → IsWithout left (fewer ++ c ∷ []) (cards ++ c ∷ [])
one_more c left _ _ NoCards = Stays c [] [] NoCards
one_more c left _ _ (Stays d fewer cards is) = Stays d (fewer ++ c ∷ []) (cards ++ c ∷ []) (one_more c left fewer cards is)
one_more c left _ _ (Goes d fewer cards gone is) = Goes d (fewer ++ c ∷ []) (cards ++ c ∷ []) gone (one_more c left fewer cards is)

-- one goes that has left
one_out : (left : List Left) (c : Card) (all cards : List Card) → IsWithout left all cards → (first last : List Card) → all ≡ first ++ c ∷ last → LeftOtherwise left c
    → IsWithout left (first ++ last) cards
one_out left c _ _ NoCards [] last e gone = absurd cc
one_out left c _ _ NoCards (b ∷ bs) last e gone = absurd cc
one_out left c _ _ (Stays d fewer cards is) [] last e gone =
    let same : d ≡ c = cc in
    let rest : fewer ≡ last = ap (drop 1) e in
    Goes d last cards (subst (LeftOtherwise left) (sym same) gone) (subst (λ xs. IsWithout left xs cards) rest is)
one_out left c _ _ (Stays d fewer cards is) (b ∷ bs) last e gone =
    let same : d ≡ b = cc in
    let rest : fewer ≡ bs ++ c ∷ last = ap (drop 1) e in
    subst (λ x. IsWithout left (x ∷ bs ++ last) (d ∷ cards)) same (Stays d (bs ++ last) cards (one_out left c fewer cards is bs last rest gone))
one_out left c _ _ (Goes d fewer cards other is) first last e gone = Goes d (first ++ last) cards other (one_out left c fewer cards is first last e gone)

one_goes : (left : List Left) (c : Card) (first last cards : List Card) → LeftOtherwise left c → IsWithout left (first ++ c ∷ last) cards → IsWithout left (first ++ last) cards
one_goes left c first last cards gone is = one_out left c (first ++ c ∷ last) cards is first last refl gone

-- after any others, these may be replaced by those
abbrev pub MayGo : List Left → List Card → List Card → Type 0
MayGo left last fewer = (first cards : List Card) → IsWithout left (first ++ last) cards → IsWithout left (first ++ fewer) cards

pub stay_and_go : (b : Card) (left : List Left) (last fewer : List Card) → MayGo left last fewer → MayGo left (b ∷ last) (b ∷ fewer)
stay_and_go b left last fewer go first cards is =
    subst (λ cs. IsWithout left cs cards) (append_assoc first (b ∷ []) fewer)
    (go (first ++ b ∷ []) cards (subst (λ cs. IsWithout left cs cards) (sym (append_assoc first (b ∷ []) last)) is))

pub front_goes : (c : Card) (left : List Left) (last : List Card) → LeftOtherwise left c → MayGo left (c ∷ last) last
front_goes c left last gone first cards is = one_goes left c first last cards gone is

pub all_go : (left : List Left) (last : List Card) → All (LeftOtherwise left) last → MayGo left last []
all_go left [] all first cards is = is
all_go left (c ∷ cs) all first cards is =
    all_go left cs (All-tail (LeftOtherwise left) c cs all) first cards (one_goes left c first cs cards (All-head (LeftOtherwise left) c cs all) is)

-- of this place each has left
abbrev pub HasLeftAt : Card → List Left → Card → Type 0
HasLeftAt c left d = d.place ≡ c.place → LeftOtherwise left d

pub taken_back_goes : (c : Card) (left : List Left) (last : List Card) → All (HasLeftAt c left) last → MayGo left last (without c last)
taken_back_goes c left [] gone first cards is = is
taken_back_goes c left (d ∷ ds) gone first cards is = by_test (taken_back_goes c left ds (All-tail (HasLeftAt c left) d ds gone)) (d.place == c.place) refl
  where
    by_test : MayGo left ds (without c ds) → (b : Bool) → (d.place == c.place) ≡ b → IsWithout left (first ++ cond (not b) (d ∷ without c ds) (without c ds)) cards
    by_test rest true e = rest first cards (one_goes left d first ds cards (All-head (HasLeftAt c left) d ds gone (eqb-true d.place c.place e)) is)
    by_test rest false e = stay_and_go d left ds (without c ds) rest first cards is

-- where all that have left were reported, none is missing
pub all_stay : (left : List Left) (fewer cards : List Card) → All (λ (w : Left). w.why ≡ AfterReport) left → IsWithout left fewer cards → cards ≡ fewer
all_stay left _ _ all NoCards = refl
all_stay left _ _ all (Stays c fewer cards is) = ap (λ cs. c ∷ cs) (all_stay left fewer cards all is)
all_stay left _ _ all (Goes c fewer cards (w, has, same, why) is) = absurd (why (All-contains (λ (v : Left). v.why ≡ AfterReport) left w all has))
