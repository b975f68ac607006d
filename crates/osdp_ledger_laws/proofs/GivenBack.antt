-- Lists of orders without some that were given back.
use Rattle.std.proofs.Common.{◌≡◌, ◌++◌, List, [], ◌∷◌, drop, refl, sym, subst, ap}
use Rattle.std.proofs.lemmas.List.Elements.{Contains-append_left}
use Rattle.std.specs.Prelude.{Contains}
use Rattle.osdp_ledger.specs.History.{End, GivenBack}
use Rattle.osdp_ledger.specs.Ledger.{Order}
use Rattle.osdp_ledger_laws.specs.Sessions.{NoOrders, OrderGoes, OrderStays, WithoutGivenBack}

pub none_gone : (ended : List (Order × End)) (orders : List Order) → WithoutGivenBack ended orders orders
none_gone ended [] = NoOrders
none_gone ended (o ∷ os) = OrderStays o os os (none_gone ended os)

-- more have ended
pub ended_more : (ended more : List (Order × End)) (fewer orders : List Order) → WithoutGivenBack ended fewer orders → WithoutGivenBack (ended ++ more) fewer orders
ended_more ended more _ _ NoOrders = NoOrders
ended_more ended more _ _ (OrderStays o fewer orders is) = OrderStays o fewer orders (ended_more ended more fewer orders is)
ended_more ended more _ _ (OrderGoes o fewer orders gone is) =
    OrderGoes o fewer orders (Contains-append_left ended more (o, GivenBack) gone) (ended_more ended more fewer orders is)

-- one more is accepted
pub order_more : (o : Order) (ended : List (Order × End)) (fewer orders : List Order) → WithoutGivenBack ended fewer orders
    → WithoutGivenBack ended (fewer ++ o ∷ []) (orders ++ o ∷ [])
order_more o ended _ _ NoOrders = OrderStays o [] [] NoOrders
order_more o ended _ _ (OrderStays b fewer orders is) = OrderStays b (fewer ++ o ∷ []) (orders ++ o ∷ []) (order_more o ended fewer orders is)
order_more o ended _ _ (OrderGoes b fewer orders gone is) = OrderGoes b (fewer ++ o ∷ []) (orders ++ o ∷ []) gone (order_more o ended fewer orders is)

-- one goes that was given back
one_out : (ended : List (Order × End)) (o : Order) (all orders : List Order) → WithoutGivenBack ended all orders → (first last : List Order) → all ≡ first ++ o ∷ last
    → Contains ended (o, GivenBack) → WithoutGivenBack ended (first ++ last) orders
one_out ended o _ _ NoOrders [] last e gone = absurd cc
one_out ended o _ _ NoOrders (b ∷ bs) last e gone = absurd cc
one_out ended o _ _ (OrderStays d fewer orders is) [] last e gone =
    let same : d ≡ o = cc in
    let rest : fewer ≡ last = ap (drop 1) e in
    OrderGoes d last orders (subst (λ x. Contains ended (x, GivenBack)) (sym same) gone) (subst (λ xs. WithoutGivenBack ended xs orders) rest is)
one_out ended o _ _ (OrderStays d fewer orders is) (b ∷ bs) last e gone =
    let same : d ≡ b = cc in
    let rest : fewer ≡ bs ++ o ∷ last = ap (drop 1) e in
    subst (λ x. WithoutGivenBack ended (x ∷ bs ++ last) (d ∷ orders)) same (OrderStays d (bs ++ last) orders (one_out ended o fewer orders is bs last rest gone))
one_out ended o _ _ (OrderGoes d fewer orders other is) first last e gone = OrderGoes d (first ++ last) orders other (one_out ended o fewer orders is first last e gone)

pub order_goes : (ended : List (Order × End)) (o : Order) (first last orders : List Order) → Contains ended (o, GivenBack)
    → WithoutGivenBack ended (first ++ o ∷ last) orders → WithoutGivenBack ended (first ++ last) orders
order_goes ended o first last orders gone is = one_out ended o (first ++ o ∷ last) orders is first last refl gone
