-- A pending command stays so, whatever comes after it.
use Rattle.osdp_device.proofs.Common.{◌≡◌, ℕ, ◌-◌, Bool, true, false, if◌then◌else◌, cond, min, List, [], ◌∷◌, ◌++◌, length, take, Some, refl, sym, ap, ◌∙◌, subst, append-nil, AreBytes, Held, after_gap, after_push, items, left_over, largest, RunItem, AreBytes-append, AreBytes-take, gap_items, items-append, Command, ReaderState, pending_at, pending_in, pending_of, IsReceived, Received, after_take, after_tick, ends_run, is_silent, seen, is_answered}

same_bytes : (l : Received) (now : ℕ) → IsReceived l → AreBytes (after_tick now l).held.bytes
same_bytes l now run = by_test (is_silent (seen now l))
  where
    by_test : (t : Bool) → AreBytes (cond t (ends_run (seen now l)) (seen now l)).held.bytes
    by_test true = run.bytes
    by_test false = run.bytes

module _ {H : Type 0} where
  -- what comes after the items that are there changes nothing
  more_items : (xs ys : List RunItem) (r : ReaderState H) (command : Command) → pending_in xs r ≡ Some command → pending_in (xs ++ ys) r ≡ Some command
  more_items [] ys r command e = absurd cc
  more_items (x ∷ xs) ys r command e = by_test (more_items xs ys r command) (is_answered r x) refl
    where
      by_test : (pending_in xs r ≡ Some command → pending_in (xs ++ ys) r ≡ Some command)
          → (t : Bool) → is_answered r x ≡ t → pending_in (x ∷ (xs ++ ys)) r ≡ Some command
      by_test others true is =
          ap (λ (b : Bool). if b then pending_at r x else pending_in (xs ++ ys) r) is
          ∙ sym (ap (λ (b : Bool). if b then pending_at r x else pending_in xs r) is) ∙ e
      by_test others false is =
          ap (λ (b : Bool). if b then pending_at r x else pending_in (xs ++ ys) r) is
          ∙ others (sym (ap (λ (b : Bool). if b then pending_at r x else pending_in xs r) is) ∙ e)

  -- of a run that goes on, with more bytes, and whether or not it ends then
  more_bytes : (bytes more : List ℕ) (ended : Bool) (r : ReaderState H) (command : Command) → AreBytes (bytes ++ more)
      → pending_in (items false bytes) r ≡ Some command → pending_in (items ended (bytes ++ more)) r ≡ Some command
  more_bytes bytes more ended r command fits e =
      ap (λ parts. pending_in parts r) (items-append ended bytes more fits) ∙ more_items (items false bytes) (items ended (left_over bytes ++ more)) r command e

  -- a run that is over takes nothing
  pub stays_pushed : (held : Held) (given : List ℕ) (r : ReaderState H) (command : Command) → AreBytes held.bytes → AreBytes given
      → pending_of r held ≡ Some command → pending_of r (after_push held given) ≡ Some command
  stays_pushed held given r command fits are e = by_end held.ended refl
    where
      Pushed : Bool → Type 0
      Pushed t = pending_in (items t (held.bytes ++ take (if t then 0 else min (length given) (largest - length held.bytes)) given)) r ≡ Some command

      by_end : (t : Bool) → held.ended ≡ t → pending_of r (after_push held given) ≡ Some command
      by_end true is = subst Pushed (sym is)
          (ap (λ l. pending_in (items true l) r) (append-nil held.bytes) ∙ ap (λ t. pending_in (items t held.bytes) r) (sym is) ∙ e)
      by_end false is = subst Pushed (sym is)
          (more_bytes held.bytes (take (min (length given) (largest - length held.bytes)) given) false r command
          (AreBytes-append held.bytes (take (min (length given) (largest - length held.bytes)) given) fits (AreBytes-take (min (length given) (largest - length held.bytes)) given are))
          (ap (λ t. pending_in (items t held.bytes) r) (sym is) ∙ e))

  -- its end decides nothing before it
  pub stays_ended : (held : Held) (r : ReaderState H) (command : Command) → AreBytes held.bytes → pending_of r held ≡ Some command
      → pending_of r (after_gap held) ≡ Some command
  stays_ended held r command fits e =
      ap (λ parts. pending_in parts r) (gap_items held.bytes) ∙ by_end held.ended refl
    where
      by_end : (t : Bool) → held.ended ≡ t → pending_in (items true held.bytes) r ≡ Some command
      by_end true is = ap (λ t. pending_in (items t held.bytes) r) (sym is) ∙ e
      by_end false is =
          ap (λ l. pending_in (items true l) r) (sym (append-nil held.bytes))
          ∙ more_bytes held.bytes [] true r command (subst AreBytes (sym (append-nil held.bytes)) fits) (ap (λ t. pending_in (items t held.bytes) r) (sym is) ∙ e)

  pub stays_tick : (l : Received) (now : ℕ) (r : ReaderState H) (command : Command) → IsReceived l → pending_of r l.held ≡ Some command
      → pending_of r (after_tick now l).held ≡ Some command
  stays_tick l now r command run e = by_test (is_silent (seen now l))
    where
      by_test : (t : Bool) → pending_of r (cond t (ends_run (seen now l)) (seen now l)).held ≡ Some command
      by_test true = stays_ended l.held r command run.bytes e
      by_test false = e

  pub stays_taken : (l : Received) (bytes : List ℕ) (now : ℕ) (r : ReaderState H) (command : Command) → IsReceived l → AreBytes bytes
      → pending_of r l.held ≡ Some command → pending_of r (after_take bytes now l).held ≡ Some command
  stays_taken l [] now r command run are e = e
  stays_taken l (byte ∷ bytes) now r command run are e =
      stays_pushed (after_tick now l).held (byte ∷ bytes) r command (same_bytes l now run) are (stays_tick l now r command run e)
