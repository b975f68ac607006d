-- What stays known of an address of which nothing is forgotten.
use Rattle.osdp_monitor_laws.proofs.Common.{◌≡◌, ◌≢◌, ℕ, ◌+◌, true, false, cond, eqb, ltb, List, [], ◌∷◌, ◌++◌, Option, Some, None, refl, sym, subst, ◌∙◌, cond-true, cond_both, eqb-true, false≢true, lt-ltb, All-head, All-tail, Sum, Packet, RunItem, PacketItem, SkippedItem, RefusedItem, smallest, Known, nothing_known, after_sent, after_reply, is_unheard, is_foreign, Each, IsRemembered, IsTo, NothingForgotten, OfAddress}
use Rattle.osdp_monitor.specs.Line.{Knowledge, after_answered, after_item, after_items, after_packet, after_reply_if, devices_after_reply, devices_after_sent, known_at, moves_to, no_knowledge}
use Rattle.osdp_monitor_laws.proofs.Knowing.{at_known, at_last}

module _ (a : ℕ) (Q : Known → Type 0) where
  at_moved : (moved : Option ℕ) (address : ℕ) (k : Known) (devices : ℕ → Known) → ((place : ℕ) → moved ≡ Some place → (place ≢ a) × (address ≢ a))
      → (address ≡ a → Q k) → (address ≢ a → Q (devices a)) → Q (after_answered moved address k devices a)
  at_moved None address k devices stays here there = at_known Q address a k devices here there
  at_moved (Some place) address k devices stays here there =
      at_known Q place a nothing_known (known_at address nothing_known devices) (λ same. absurd ((stays place refl).0 same))
      (λ _. at_known Q address a nothing_known devices (λ same. absurd ((stays place refl).1 same)) there)

  -- it is as before where the packet has another address, or is a reply to nothing that is known; else it is what the rules say
  pub at_remembered : (line : Knowledge) (p : Packet) → IsRemembered a (PacketItem p) line
      → (p.address ≢ a → Q (line.devices a))
      → (p.address ≡ a → p.reply ≡ true → (line.devices a).last ≡ None → Q (line.devices a))
      → (p.address ≡ a → p.reply ≡ false → Q (after_sent (line.devices a).last (line.devices a) p))
      → (p.address ≡ a → p.reply ≡ true → (last : Packet) → (line.devices a).last ≡ Some last → is_unheard (line.devices a) last p ≡ false
      → Q (after_reply (line.devices a) last p))
      → Q ((after_packet line p).devices a)
  at_remembered line p is other unknown sent replied =
      let devices = line.devices in
      let by_reply = cond p.reply (devices_after_reply p devices) (devices_after_sent p devices) in
      cond_both (eqb p.address 127) no_knowledge.devices (cond (is_foreign p) (known_at p.address nothing_known devices) by_reply)
      (λ d. Q (d a)) (λ all. absurd (is.0 (eqb-true p.address 127 all)))
      (λ _. cond_both (is_foreign p) (known_at p.address nothing_known devices) by_reply (λ d. Q (d a))
      (λ foreign. at_known Q p.address a nothing_known devices (λ here. absurd (false≢true (sym (is.1 here) ∙ foreign))) other)
      (λ _. cond_both p.reply (devices_after_reply p devices) (devices_after_sent p devices) (λ d. Q (d a))
      (λ reply. at_moved (moves_to (devices p.address).last p) p.address (after_reply_if (devices p.address).last (devices p.address) p) devices (λ place moved. is.2 place reply moved)
      (λ here. subst (λ b. Q (after_reply_if (devices b).last (devices b) p)) (sym here)
      (at_last Q (devices a) p (devices a).last refl (unknown here reply) (λ last before. replied here reply last before (is.3 last before reply here))))
      other)
      (λ command. at_known Q p.address a (after_sent (devices p.address).last (devices p.address) p) devices
      (λ here. subst (λ b. Q (after_sent (devices b).last (devices b) p)) (sym here) (sent here command)) other)))

  -- .. of a packet that was sent there
  pub sent_remembered : (line : Knowledge) (p : Packet) → IsTo a p → IsRemembered a (PacketItem p) line
      → Q (after_sent (line.devices a).last (line.devices a) p) → Q ((after_packet line p).devices a)
  sent_remembered line p to is known =
      at_remembered line p is (λ away. absurd (away to.1)) (λ _ reply. absurd (false≢true (sym to.0 ∙ reply))) (λ _ _. known)
      (λ _ reply. absurd (false≢true (sym to.0 ∙ reply)))

-- after items one after the other
pub after_append : (line : Knowledge) (xs ys : List RunItem) → after_items line (xs ++ ys) ≡ after_items (after_items line xs) ys
unfolding after_items
after_append line [] ys = refl
after_append line (x ∷ xs) ys = after_append (after_item line x) xs ys

pub after_one : (line : Knowledge) (x : RunItem) (xs : List RunItem) → after_items line (x ∷ xs) ≡ after_items (after_item line x) xs
unfolding after_items
after_one line x xs = refl

pub forgotten_append : (a : ℕ) (line : Knowledge) (xs ys : List RunItem) → NothingForgotten a (xs ++ ys) line
    → NothingForgotten a xs line × NothingForgotten a ys (after_items line xs)
unfolding after_items
forgotten_append a line [] ys nothing = (tt, nothing)
forgotten_append a line (x ∷ xs) ys nothing =
    let rest = forgotten_append a (after_item line x) xs ys nothing.1 in
    ((nothing.0, rest.0), rest.1)

module _ (a : ℕ) (Q : Known → Type 0) (E : Packet → Type 0)
    (step : (line : Knowledge) (p : Packet) → Q (line.devices a) → (p.address ≡ a → E p) → IsRemembered a (PacketItem p) line
    → Q ((after_packet line p).devices a)) where
  pub item_keeps : (part : RunItem) (line : Knowledge) → Q (line.devices a) → IsRemembered a part line → OfAddress a E part
      → Q ((after_item line part).devices a)
  item_keeps (PacketItem p) line known is each = step line p known each is
  item_keeps (SkippedItem b) line known is each =
      subst (λ (next : Knowledge). Q (next.devices a))
      (sym (cond-true (ltb (line.skipped + 1) (smallest Sum)) (record line { skipped = line.skipped + 1 }) no_knowledge (lt-ltb (line.skipped + 1) (smallest Sum) is))) known
  item_keeps (RefusedItem fault) line known is each = absurd is

  -- what each packet keeps of it stays
  pub items_keep : (items : List RunItem) (line : Knowledge) → Q (line.devices a) → NothingForgotten a items line → Each a E items
      → Q ((after_items line items).devices a)
  unfolding after_items
  items_keep [] line known nothing each = known
  items_keep (x ∷ xs) line known nothing each =
      items_keep xs (after_item line x) (item_keeps x line known nothing.0 (All-head (OfAddress a E) x xs each)) nothing.1 (All-tail (OfAddress a E) x xs each)
