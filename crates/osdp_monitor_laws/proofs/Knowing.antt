-- What a packet does to what is known of an address.
use Rattle.osdp_monitor_laws.proofs.Common.{◌≡◌, ◌≢◌, ℕ, true, false, cond, ◌||◌, eqb, Option, Some, None, refl, sym, subst, cond_both, eq-eqb, eqb-false, eqb-true, Packet, Known, nothing_known, Knowledge, after_answered, after_packet, after_reply_if, devices_after_reply, devices_after_sent, found_in, found_in_reply, found_in_sent, known_at, moves_to, no_knowledge, nothing_found, after_sent, panel_accused, after_reply, reader_accused, is_foreign}

module _ (Q : Known → Type 0) where
  pub at_known : (address a : ℕ) (k : Known) (devices : ℕ → Known) → (address ≡ a → Q k) → (address ≢ a → Q (devices a))
      → Q (known_at address k devices a)
  at_known address a k devices here there =
      cond_both (eqb a address) k (devices a) Q (λ e. here (sym (eqb-true a address e))) (λ e. there (λ s. eqb-false a address e (sym s)))

  at_answered : (moved : Option ℕ) (address a : ℕ) (k : Known) (devices : ℕ → Known) → Q nothing_known → (address ≡ a → Q k)
      → (address ≢ a → Q (devices a)) → Q (after_answered moved address k devices a)
  at_answered None address a k devices nothing here there = at_known address a k devices here there
  at_answered (Some moved) address a k devices nothing here there =
      at_known moved a nothing_known (known_at address nothing_known devices) (λ _. nothing)
      (λ _. at_known address a nothing_known devices (λ _. nothing) there)

  pub at_last : (k : Known) (p : Packet) (last : Option Packet) → k.last ≡ last → (k.last ≡ None → Q k)
      → ((old : Packet) → k.last ≡ Some old → Q (after_reply k old p)) → Q (after_reply_if last k p)
  at_last k p None is unknown replied = unknown is
  at_last k p (Some old) is unknown replied = replied old is

  -- It is forgotten, or as before where the packet has another address, or is a reply to nothing that is known. Else it is what the
  -- rules say.
  pub at_address : (line : Knowledge) (p : Packet) (a : ℕ)
      → Q nothing_known
      → (p.address ≢ a → Q (line.devices a))
      → (p.address ≡ a → p.reply ≡ true → (line.devices a).last ≡ None → Q (line.devices a))
      → (p.address ≡ a → p.reply ≡ false → is_foreign p ≡ false → Q (after_sent (line.devices a).last (line.devices a) p))
      → (p.address ≡ a → p.reply ≡ true → (last : Packet) → (line.devices a).last ≡ Some last → Q (after_reply (line.devices a) last p))
      → Q ((after_packet line p).devices a)
  at_address line p a nothing other unknown sent replied =
      let devices = line.devices in
      cond_both (eqb p.address 127) no_knowledge.devices
      (cond (is_foreign p) (known_at p.address nothing_known devices) (cond p.reply (devices_after_reply p devices) (devices_after_sent p devices)))
      (λ d. Q (d a)) (λ _. nothing)
      (λ _. cond_both (is_foreign p) (known_at p.address nothing_known devices) (cond p.reply (devices_after_reply p devices) (devices_after_sent p devices))
      (λ d. Q (d a)) (λ _. at_known p.address a nothing_known devices (λ _. nothing) other)
      (λ known. cond_both p.reply (devices_after_reply p devices) (devices_after_sent p devices) (λ d. Q (d a))
      (λ reply. at_answered (moves_to (devices p.address).last p) p.address a (after_reply_if (devices p.address).last (devices p.address) p) devices nothing
      (λ here. subst (λ b. Q (after_reply_if (devices b).last (devices b) p)) (sym here)
      (at_last (devices a) p (devices a).last refl (unknown here reply) (replied here reply)))
      other)
      (λ command. at_known p.address a (after_sent (devices p.address).last (devices p.address) p) devices
      (λ here. subst (λ b. Q (after_sent (devices b).last (devices b) p)) (sym here) (sent here command known)) other)))

-- a packet to or from 127 forgets everything
pub at_all : (line : Knowledge) (p : Packet) → p.address ≡ 127 → (after_packet line p).devices ≡ no_knowledge.devices
at_all line p all = rw (eq-eqb p.address 127 all)

in_reply : (last : Option Packet) (k : Known) (q : Packet) → k.last ≡ last
    → ((old : Packet) → k.last ≡ Some old → reader_accused k old q ≡ None) → (found_in_reply last k q).accusation ≡ None
in_reply None k q is fine = refl
in_reply (Some old) k q is fine = fine old is

-- a reply is in order where the rules of the reader say so
pub reply_in_order : (line : Knowledge) (q : Packet) → q.reply ≡ true
    → ((old : Packet) → (line.devices q.address).last ≡ Some old → reader_accused (line.devices q.address) old q ≡ None)
    → (found_in line q).accusation ≡ None
reply_in_order line q reply fine =
    let k = line.devices q.address in
    cond_both (eqb q.address 127 || is_foreign q) nothing_found (cond q.reply (found_in_reply k.last k q) (found_in_sent k q))
    (λ f. f.accusation ≡ None) (λ _. refl)
    (λ _. subst (λ b. (cond b (found_in_reply k.last k q) (found_in_sent k q)).accusation ≡ None) (sym reply) (in_reply k.last k q refl fine))

-- .. and what is sent where those of the panel do
pub sent_in_order : (line : Knowledge) (p : Packet) → p.reply ≡ false
    → panel_accused (line.devices p.address).last (line.devices p.address) p ≡ None
    → (found_in line p).accusation ≡ None
sent_in_order line p command fine =
    let k = line.devices p.address in
    cond_both (eqb p.address 127 || is_foreign p) nothing_found (cond p.reply (found_in_reply k.last k p) (found_in_sent k p))
    (λ f. f.accusation ≡ None) (λ _. refl)
    (λ _. subst (λ b. (cond b (found_in_reply k.last k p) (found_in_sent k p)).accusation ≡ None) (sym command) fine)

-- .. and whatever is said to or from 127
pub all_in_order : (line : Knowledge) (p : Packet) → p.address ≡ 127 → (found_in line p).accusation ≡ None
all_in_order line p all = rw (eq-eqb p.address 127 all)
