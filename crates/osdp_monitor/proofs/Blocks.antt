-- What is known in blocks, when one of them changes.
use Rattle.osdp_monitor.proofs.Common.{◌≡◌, eqb, refl, subst, ℕ, ◌<◌, ◌≤◌, ◌+◌, List, length, get_or, slice_set, Option, None, sym, ◌∙◌, ap, arith, get_or-set_same, get_or-set_other, cond_both, eqb-true, Box, Known, Packet, after_answered, after_reply_if, devices_after_reply, devices_after_sent, known_at, moves_to, after_sent, known_in, known_of}
use Rattle.std.proofs.lemmas.List.{get_or_default}
use Rattle.std.proofs.Math.Path.{fun_ext}

known_at_place : {A : Type 0} (blocks : List (Option (Box Known A))) (address : ℕ) (block : Option (Box Known A)) (other : ℕ)
    → address < length blocks → known_in (slice_set blocks address block) other ≡ known_at address (known_of block) (known_in blocks) other
known_at_place blocks address block other within = grind (arith, get_or-set_same, get_or-set_other)

-- the block of an address is another one
pub set_block : {A : Type 0} (blocks : List (Option (Box Known A))) (address : ℕ) (block : Option (Box Known A))
    → address < length blocks → known_in (slice_set blocks address block) ≡ known_at address (known_of block) (known_in blocks)
set_block blocks address block within = fun_ext (λ other. known_at_place blocks address block other within)

-- what is known there is put in its own place
same_place : (devices : ℕ → Known) (address other : ℕ) → known_at address (devices address) devices other ≡ devices other
same_place devices address other =
    cond_both (eqb other address) (devices address) (devices other) (λ k. k ≡ devices other) (λ e. ap devices (sym (eqb-true other address e))) (λ _. refl)

kept_place : {A : Type 0} (blocks : List (Option (Box Known A))) (address : ℕ) (block : Option (Box Known A)) (other : ℕ)
    → address < length blocks → known_of block ≡ known_in blocks address → known_in (slice_set blocks address block) other ≡ known_in blocks other
kept_place blocks address block other within same =
    known_at_place blocks address block other within ∙ ap (λ k. known_at address k (known_in blocks) other) same ∙ same_place (known_in blocks) address other

-- nothing else is known where the new block has what the old one had
pub kept_block : {A : Type 0} (blocks : List (Option (Box Known A))) (address : ℕ) (block : Option (Box Known A))
    → address < length blocks → known_of block ≡ known_in blocks address → known_in (slice_set blocks address block) ≡ known_in blocks
kept_block blocks address block within same = fun_ext (λ other. kept_place blocks address block other within same)

-- the block that stands in a place
block_at : {A : Type 0} (blocks : List (Option (Box Known A))) (place : ℕ) (old : Option (Box Known A))
    → place < length blocks → old ≡ get_or blocks place old → get_or blocks place None ≡ old
block_at blocks place old within was = get_or_default blocks place None old within ∙ sym was

-- in the place of a packet's address its block has changed
pub sent_in_place : {A : Type 0} (p : Packet) (blocks : List (Option (Box Known A))) (place : ℕ) (old new : Option (Box Known A))
    → place ≡ p.address → place < length blocks → old ≡ get_or blocks place old → known_of new ≡ after_sent (known_of old).last (known_of old) p
    → known_in (slice_set blocks place new) ≡ devices_after_sent p (known_in blocks)
sent_in_place p blocks place old new its within was sent =
    set_block blocks place new within
    ∙ ap (λ k. known_at place k (known_in blocks))
    (sent ∙ ap (λ o. after_sent (known_of o).last (known_of o) p) (sym (block_at blocks place old within was)))
    ∙ ap (λ a. known_at a (after_sent (known_in blocks a).last (known_in blocks a) p) (known_in blocks)) its

-- .. by a reply that doesn't move it
pub reply_in_place : {A : Type 0} (r : Packet) (blocks : List (Option (Box Known A))) (place : ℕ) (old new : Option (Box Known A))
    → place ≡ r.address → place < length blocks → old ≡ get_or blocks place old → moves_to (known_of old).last r ≡ None
    → known_of new ≡ after_reply_if (known_of old).last (known_of old) r → known_in (slice_set blocks place new) ≡ devices_after_reply r (known_in blocks)
reply_in_place r blocks place old new its within was stays taken =
    let at = block_at blocks place old within was in
    let here : moves_to (known_in blocks place).last r ≡ None = ap (λ o. moves_to (known_of o).last r) at ∙ stays in
    let none : moves_to (known_in blocks r.address).last r ≡ None = subst (λ a. moves_to (known_in blocks a).last r ≡ None) its here in
    set_block blocks place new within
    ∙ ap (λ k. known_at place k (known_in blocks)) (taken ∙ ap (λ o. after_reply_if (known_of o).last (known_of o) r) (sym at))
    ∙ ap (λ a. known_at a (after_reply_if (known_in blocks a).last (known_in blocks a) r) (known_in blocks)) its
    ∙ ap (λ m. after_answered m r.address (after_reply_if (known_in blocks r.address).last (known_in blocks r.address) r) (known_in blocks)) (sym none)

pub kept_in_place : {A : Type 0} (blocks : List (Option (Box Known A))) (place : ℕ) (old new : Option (Box Known A))
    → place < length blocks → old ≡ get_or blocks place old → known_of new ≡ known_of old → known_in (slice_set blocks place new) ≡ known_in blocks
kept_in_place blocks place old new within was same =
    kept_block blocks place new within (same ∙ ap known_of (sym (block_at blocks place old within was)))
