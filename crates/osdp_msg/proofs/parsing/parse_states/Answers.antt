use Rattle.osdp_msg.proofs.Common.{◌∷◌, [], ℕ, ArrayVec, bytes, StatesFit}
use Rattle.osdp_msg.proofs.ParsedRows.{states_made}
use Rattle.osdp_msg.proofs.TakenParts.{IsList, list_words, one_missing, one_whole}
use Rattle.osdp_msg.proofs.parsing.parse_states.Goals as goal

pub returns-in_err-states : goal.returns-in_err-states
returns-in_err-states c =
    one_missing list_words (IsList 1432) (λ (states : ArrayVec ℕ). bytes states.items ∷ []) (λ states. StatesFit states.items) (λ states. states) (λ states. states) states_made _ _ _ c.in_err-states.ensures c.from_residual.ensures

pub returns : goal.returns
returns c =
    one_whole list_words (IsList 1432) (λ (states : ArrayVec ℕ). bytes states.items ∷ []) (λ states. StatesFit states.items) (λ states. states) (λ states. states) states_made _ _ _ _ _ c.in_ok-states.ensures c.is_empty.ensures c.then_some.ensures
