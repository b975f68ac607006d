-- Lines judged one after the other.
use Rattle.osdp_script.proofs.Common.{ℕ, List, [], ◌∷◌, ◌++◌, refl, subst, ap, ◌∙◌, append_assoc, AreRead, Plan}
use Rattle.osdp_script.specs.Laws.{ReadInTurn, StaysBad}

apart : (lines more : List (List ℕ)) (p r : Plan) → AreRead p (lines ++ more) r → (q : Plan) × AreRead p lines q × AreRead q more r
apart [] more p r read = (p, refl, read)
apart (line ∷ lines) more p r read =
    let rest = apart lines more read.0 r read.2 in
    (rest.0, (read.0, read.1, rest.1), rest.2)

together : (lines more : List (List ℕ)) (p r : Plan) (q : Plan) → AreRead p lines q → AreRead q more r → AreRead p (lines ++ more) r
together [] more p r q first second = subst (λ (x : Plan). AreRead x more r) first second
together (line ∷ lines) more p r q first second = (first.0, first.1, together lines more first.0 r q first.2 second)

pub read_in_turn : ReadInTurn
read_in_turn lines more p r = (apart lines more p r, λ both. together lines more p r both.0 both.1 both.2)

pub bad_stays : StaysBad
bad_stays lines more number bad = record {
  above = bad.above;
  line = bad.line;
  below = bad.below ++ more;
  plan = bad.plan;
  whole = ap (λ l. l ++ more) bad.whole ∙ append_assoc bad.above (bad.line ∷ bad.below) more;
  good = bad.good;
  bad = bad.bad;
  place = bad.place;
}
