-- A plain packet: nothing is told of it.
use Rattle.osdp_tool_monitor.proofs.Common.{◌≡◌, ◌∙◌, ◌<◌, ℕ, Bool, List, [], None, get_or, length, slice_index_or, slice_set, sym, ap, get_or_default, Packet, plain_found, Found, expected_if, expected_in, nothing_wrong, Listening, told_in, Counts, after_packet, counts_after, no_counts, expected_bytes, found_text, told}
use Rattle.osdp_monitor.specs.Plain.{IsPlain}

-- the counts of its address change in their place
pub counts_in_place : (p : Packet) (clean copy : Bool) (counts : List Counts) (place : ℕ) (old new : Counts) → place ≡ p.address → place < length counts
    → old ≡ get_or counts place old → new ≡ after_packet p clean copy nothing_wrong old → slice_set counts place new ≡ counts_after p clean copy nothing_wrong counts
counts_in_place p clean copy counts place old new its within was is =
    ap (slice_set counts place) (is ∙ ap (after_packet p clean copy nothing_wrong) (sym (get_or_default counts place no_counts old within ∙ sym was)))
    ∙ ap (λ a. slice_set counts a (after_packet p clean copy nothing_wrong (slice_index_or counts a no_counts))) its

module _ (l : Listening) (p : Packet) (plain : IsPlain l.knowledge p) where
  pub plain_told : told_in l p ≡ nothing_wrong
  plain_told = ap (told l.standard) (plain_found l.knowledge p plain)

  nothing_expected : expected_in l.knowledge p ≡ None
  nothing_expected = ap (λ (f : Found). expected_if (l.knowledge.devices p.address) f.accusation) (plain_found l.knowledge p plain)

  pub plain_text : (run place : ℕ) → found_text run place p (told_in l p) (expected_bytes (expected_in l.knowledge p)) ≡ []
  plain_text run place =
      ap (λ f. found_text run place p f (expected_bytes (expected_in l.knowledge p))) plain_told
      ∙ ap (λ e. found_text run place p nothing_wrong (expected_bytes e)) nothing_expected
